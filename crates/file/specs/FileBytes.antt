-- Laws for document 01, "The fused circuit file": a file of records that fit consists of bytes.
use Rattle.std.specs.Prelude.{List, [], ◌∷◌, ◌++◌, ℕ, ◌<◌, length}
use Rattle.std.proofs.Common.{arith}
use Rattle.base.specs.Numbers.{bytes_of, Bytes}
use Rattle.base.specs.NumberLaws.{bytes_below}
use Rattle.base.specs.ByteLaws.{bytes_none, bytes_cons, bytes_join}
use Rattle.base.specs.Codes.{byte_of, start_code}
use Rattle.base.specs.declared.Kind.{Kind}
use Rattle.base.specs.declared.Kind.TheVariants as kind
use Rattle.base.specs.declared.Operation.{Operation}
use Rattle.base.specs.declared.Operation.TheVariants.{Sum, Difference, Product, LessThan, Equal, And, Or, Not}
use Rattle.file.specs.Records.{Record, input, word, bit, operation, choice, pick, guard, pair_wires}
use Rattle.file.specs.Versions.{Version, version_byte, table_bytes}
use Rattle.file.specs.CircuitFile.{mark, wires_bytes, record_bytes, records_bytes, file_bytes}
use Rattle.file.specs.FitRecords.{ReadsBack, AllReadBack}
use Rattle.file.specs.VersionLaws.{version_small}

wires_bytes_lem : (l : List ℕ) → Bytes (wires_bytes l)
wires_bytes_lem [] = bytes_none
wires_bytes_lem (w ∷ l) = bytes_join (bytes_of 2 w) (wires_bytes l) (bytes_below 2 w) (wires_bytes_lem l)

byte_small : (op : Operation) → byte_of op < 256
byte_small Sum = omega arith
byte_small Difference = omega arith
byte_small Product = omega arith
byte_small LessThan = omega arith
byte_small Equal = omega arith
byte_small And = omega arith
byte_small Or = omega arith
byte_small Not = omega arith

start_small : (k : Kind) → start_code k < 256
start_small kind.Word = omega arith
start_small kind.Bit = omega arith

pub record_bytes_lem : (ver : Version) (r : Record) → ReadsBack ver r → Bytes (record_bytes ver r)
record_bytes_lem ver (input k x) h = bytes_cons (start_code k) (x ∷ []) (start_small k) (bytes_cons x [] h bytes_none)
record_bytes_lem ver (word n) h = bytes_cons 0x11 (bytes_of 4 n) (omega arith) (bytes_below 4 n)
record_bytes_lem ver (bit b) h = bytes_cons 0x12 (b ∷ []) (omega arith) (bytes_cons b [] h bytes_none)
record_bytes_lem ver (operation op l) h = bytes_cons (byte_of op) (wires_bytes l) (byte_small op) (wires_bytes_lem l)
record_bytes_lem ver (choice c a b) h = bytes_cons 0x30 (wires_bytes (c ∷ a ∷ b ∷ [])) (omega arith) (wires_bytes_lem (c ∷ a ∷ b ∷ []))
record_bytes_lem ver (pick l) (h, w) =
    bytes_cons 0x31 (length l ∷ wires_bytes (pair_wires l)) (omega arith) (bytes_cons (length l) (wires_bytes (pair_wires l)) h (wires_bytes_lem (pair_wires l)))
record_bytes_lem ver (guard cs t) (h, w, u) =
    bytes_cons 0x32 (length cs ∷ (wires_bytes cs ++ bytes_of (table_bytes ver) t)) (omega arith)
    (bytes_cons (length cs) (wires_bytes cs ++ bytes_of (table_bytes ver) t) h (bytes_join (wires_bytes cs) (bytes_of (table_bytes ver) t) (wires_bytes_lem cs) (bytes_below (table_bytes ver) t)))

pub records_bytes_lem : (ver : Version) (R : List Record) → AllReadBack ver R → Bytes (records_bytes ver R)
records_bytes_lem ver [] f = bytes_none
records_bytes_lem ver (r ∷ R) (h, f) = bytes_join (record_bytes ver r) (records_bytes ver R) (record_bytes_lem ver r h) (records_bytes_lem ver R f)

pub file_bytes_lem : (ver : Version) (v : ℕ) (R : List Record) (outputs : List ℕ) → v < 256 → AllReadBack ver R → Bytes (file_bytes ver v R outputs)
file_bytes_lem ver v R outputs h f =
    bytes_join (mark ver) (v ∷ (bytes_of 2 (length R) ++ (records_bytes ver R ++ wires_bytes outputs))) five
    (bytes_cons v (bytes_of 2 (length R) ++ (records_bytes ver R ++ wires_bytes outputs)) h
    (bytes_join (bytes_of 2 (length R)) (records_bytes ver R ++ wires_bytes outputs) (bytes_below 2 (length R))
    (bytes_join (records_bytes ver R) (wires_bytes outputs) (records_bytes_lem ver R f) (wires_bytes_lem outputs))))
  where
    five : Bytes (mark ver)
    five =
        bytes_cons 0x43 (0x49 ∷ 0x52 ∷ 0x00 ∷ version_byte ver ∷ []) (omega arith)
        (bytes_cons 0x49 (0x52 ∷ 0x00 ∷ version_byte ver ∷ []) (omega arith)
        (bytes_cons 0x52 (0x00 ∷ version_byte ver ∷ []) (omega arith)
        (bytes_cons 0x00 (version_byte ver ∷ []) (omega arith)
        (bytes_cons (version_byte ver) [] (version_small ver) bytes_none))))
