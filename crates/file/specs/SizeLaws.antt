-- Laws for document 01, "The fused circuit file": the bytes of each form of record, and bytes and costs of records one after another.
use Rattle.std.specs.Prelude.{◌≡◌, refl, List, [], ◌∷◌, ◌++◌, map, ℕ, suc, ◌+◌, ◌*◌, ◌<◌, length, take, get_or}
use Rattle.std.proofs.Common.{sym, ap, ◌∙◌, append_assoc, append-nil, add-one, arith, length-append, take-suc}
use Rattle.base.specs.Numbers.{bytes_of}
use Rattle.base.specs.NumberLaws.{length_bytes}
use Rattle.base.specs.declared.Kind.{Kind}
use Rattle.base.specs.declared.Operation.{Operation}
use Rattle.file.specs.Records.{Pair, Record, input, word, bit, operation, choice, pick, guard, pair_wires, record_cost, records_cost}
use Rattle.file.specs.Versions.{Version, table_bytes}
use Rattle.file.specs.CircuitFile.{wires_bytes, record_bytes, records_bytes, file_bytes}

-- two bytes a wire, two wires a pair
pub wires_size : (l : List ℕ) → length (wires_bytes l) ≡ 2 * length l
wires_size [] = refl
wires_size (w ∷ l) = rw (length-append, length_bytes, wires_size l) (omega arith)

pub pairs_size : (l : List Pair) → length (pair_wires l) ≡ 2 * length l
pairs_size [] = refl
pairs_size (p ∷ l) = rw (pairs_size l) (omega arith)

-- wires one after another
pub wires_append : (a b : List ℕ) → wires_bytes (a ++ b) ≡ wires_bytes a ++ wires_bytes b
wires_append [] b = refl
wires_append (w ∷ a) b = rw (wires_append a b) (sym (append_assoc (bytes_of 2 w) (wires_bytes a) (wires_bytes b)))

pub wires_more : (l : List ℕ) (i : ℕ) → i < length l → wires_bytes (take (i + 1) l) ≡ wires_bytes (take i l) ++ bytes_of 2 (get_or l i 0)
wires_more l i h =
    ap (λ (k : ℕ). wires_bytes (take k l)) (add-one i) ∙ ap wires_bytes (take-suc l i 0 h) ∙ wires_append (take i l) (get_or l i 0 ∷ [])
    ∙ ap (λ (r : List ℕ). wires_bytes (take i l) ++ r) (append-nil (bytes_of 2 (get_or l i 0)))

-- each form of record
pub input_size : (ver : Version) (k : Kind) (x : ℕ) → length (record_bytes ver (input k x)) ≡ 2
input_size ver k x = refl

pub word_size : (ver : Version) (n : ℕ) → length (record_bytes ver (word n)) ≡ 5
word_size ver n = rw length_bytes

pub bit_size : (ver : Version) (b : ℕ) → length (record_bytes ver (bit b)) ≡ 2
bit_size ver b = refl

pub operation_size : (ver : Version) (op : Operation) (l : List ℕ) → length (record_bytes ver (operation op l)) ≡ 1 + 2 * length l
operation_size ver op l = rw (wires_size l) (omega arith)

pub choice_size : (ver : Version) (c a b : ℕ) → length (record_bytes ver (choice c a b)) ≡ 7
choice_size ver c a b = ap suc (wires_size (c ∷ a ∷ b ∷ []))

pub pick_size : (ver : Version) (l : List Pair) → length (record_bytes ver (pick l)) ≡ 2 + 4 * length l
pick_size ver l = rw (wires_size (pair_wires l), pairs_size l) (omega arith)

pub guard_size : (ver : Version) (cs : List ℕ) (t : ℕ) → length (record_bytes ver (guard cs t)) ≡ 2 + 2 * length cs + table_bytes ver
guard_size ver cs t = rw (length-append, wires_size cs, length_bytes) (omega arith)

-- records one after another: their bytes, how many bytes, their cost
pub bytes_append : (ver : Version) (A B : List Record) → records_bytes ver (A ++ B) ≡ records_bytes ver A ++ records_bytes ver B
bytes_append ver [] B = refl
bytes_append ver (r ∷ A) B = rw (bytes_append ver A B) (sym (append_assoc (record_bytes ver r) (records_bytes ver A) (records_bytes ver B)))

pub size_append : (ver : Version) (A B : List Record) → length (records_bytes ver (A ++ B)) ≡ length (records_bytes ver A) + length (records_bytes ver B)
size_append ver A B = rw (bytes_append ver A B, length-append)

pub cost_none : records_cost [] ≡ 0
unfolding records_cost
cost_none = refl

pub cost_more : (r : Record) (R : List Record) → records_cost (r ∷ R) ≡ record_cost r + records_cost R
unfolding records_cost
cost_more r R = refl

pub cost_append : (A B : List Record) → records_cost (A ++ B) ≡ records_cost A + records_cost B
cost_append [] B = omega (arith, cost_none)
cost_append (r ∷ A) B = omega (arith, cost_more r (A ++ B), cost_more r A, cost_append A B)

pub size_one : (ver : Version) (r : Record) → length (records_bytes ver (r ∷ [])) ≡ length (record_bytes ver r)
size_one ver r = rw length-append (omega arith)

pub cost_one : (r : Record) → records_cost (r ∷ []) ≡ record_cost r
cost_one r = omega (arith, cost_more r [], cost_none)

-- records made from a list that cost 1 each, as guards do
pub cost_ones : (F : ℕ → Record) → ((m : ℕ) → record_cost (F m) ≡ 1) → (ms : List ℕ) → records_cost (map F ms) ≡ length ms
cost_ones F one [] = cost_none
cost_ones F one (m ∷ ms) = omega (arith, cost_more (F m) (map F ms), one m, cost_ones F one ms)

-- a file: 8 bytes, its records, two bytes an output
pub file_size : (ver : Version) (v : ℕ) (R : List Record) (outputs : List ℕ) → length (file_bytes ver v R outputs) ≡ 8 + length (records_bytes ver R) + 2 * length outputs
file_size ver v R outputs =
    rw (
      length-append (bytes_of 2 (length R)) (records_bytes ver R ++ wires_bytes outputs),
      length-append (records_bytes ver R)
          (wires_bytes outputs),
      length_bytes,
      wires_size outputs,
    )
    (omega arith)
