-- A record's first bytes: which codes there are, and what a record can be by its code.
use Rattle.std.specs.Prelude.{◌≡◌, refl, ℕ, ◌≤◌, length, get_or}
use Rattle.std.proofs.Common.{inl, inr, arith}
use Rattle.base.specs.Lists.{◌∈◌}
use Rattle.base.specs.Codes.{byte_of, start_code}
use Rattle.base.specs.declared.Kind.{Kind}
use Rattle.base.specs.declared.Kind.TheVariants as kind
use Rattle.base.specs.declared.Operation.{Operation}
use Rattle.base.specs.declared.Operation.TheVariants.{Sum, Difference, Product, LessThan, Equal, And, Or, Not}
use Rattle.file.specs.Records.{Record, input, word, bit, operation, choice, pick, guard}
use Rattle.file.specs.Versions.{Version}
use Rattle.file.specs.CircuitFile.{record_bytes}
use Rattle.file.specs.LaidOut.{record_codes}

-- the first bytes of a record
pub operation_code_lem : (op : Operation) → (byte_of op ∈ record_codes) × (0x20 ≤ byte_of op) × (byte_of op ≤ 0x27)
operation_code_lem Sum = (inr (inr (inr (inr (inl refl)))), omega arith, omega arith)
operation_code_lem Difference = (inr (inr (inr (inr (inr (inl refl))))), omega arith, omega arith)
operation_code_lem Product = (inr (inr (inr (inr (inr (inr (inl refl)))))), omega arith, omega arith)
operation_code_lem LessThan = (inr (inr (inr (inr (inr (inr (inr (inl refl))))))), omega arith, omega arith)
operation_code_lem Equal = (inr (inr (inr (inr (inr (inr (inr (inr (inl refl)))))))), omega arith, omega arith)
operation_code_lem And = (inr (inr (inr (inr (inr (inr (inr (inr (inr (inl refl))))))))), omega arith, omega arith)
operation_code_lem Or = (inr (inr (inr (inr (inr (inr (inr (inr (inr (inr (inl refl)))))))))), omega arith, omega arith)
operation_code_lem Not = (inr (inr (inr (inr (inr (inr (inr (inr (inr (inr (inr (inl refl))))))))))), omega arith, omega arith)

pub known_byte : (ver : Version) (r : Record) → get_or (record_bytes ver r) 0 0 ∈ record_codes
known_byte ver (input kind.Word x) = inl refl
known_byte ver (input kind.Bit x) = inr (inl refl)
known_byte ver (word n) = inr (inr (inl refl))
known_byte ver (bit b) = inr (inr (inr (inl refl)))
known_byte ver (operation op l) = (operation_code_lem op).0
known_byte ver (choice c a b) = inr (inr (inr (inr (inr (inr (inr (inr (inr (inr (inr (inr (inl refl))))))))))))
known_byte ver (pick l) = inr (inr (inr (inr (inr (inr (inr (inr (inr (inr (inr (inr (inr (inl refl)))))))))))))
known_byte ver (guard cs t) = inr (inr (inr (inr (inr (inr (inr (inr (inr (inr (inr (inr (inr (inr (inl refl))))))))))))))

-- what a record can be, by the byte that it begins with
pub data Coded (b : ℕ) : Type 0 where
  is_input : (k : Kind) → b ≡ start_code k → Coded b
  is_word : b ≡ 0x11 → Coded b
  is_bit_lem : b ≡ 0x12 → Coded b
  is_operation : (op : Operation) → b ≡ byte_of op → Coded b
  is_choice : b ≡ 0x30 → Coded b
  is_pick : b ≡ 0x31 → Coded b
  is_guard : b ≡ 0x32 → Coded b

pub known_coded : (b : ℕ) → b ∈ record_codes → Coded b
known_coded b (inl e) = is_input kind.Word e
known_coded b (inr (inl e)) = is_input kind.Bit e
known_coded b (inr (inr (inl e))) = is_word e
known_coded b (inr (inr (inr (inl e)))) = is_bit_lem e
known_coded b (inr (inr (inr (inr (inl e))))) = is_operation Sum e
known_coded b (inr (inr (inr (inr (inr (inl e)))))) = is_operation Difference e
known_coded b (inr (inr (inr (inr (inr (inr (inl e))))))) = is_operation Product e
known_coded b (inr (inr (inr (inr (inr (inr (inr (inl e)))))))) = is_operation LessThan e
known_coded b (inr (inr (inr (inr (inr (inr (inr (inr (inl e))))))))) = is_operation Equal e
known_coded b (inr (inr (inr (inr (inr (inr (inr (inr (inr (inl e)))))))))) = is_operation And e
known_coded b (inr (inr (inr (inr (inr (inr (inr (inr (inr (inr (inl e))))))))))) = is_operation Or e
known_coded b (inr (inr (inr (inr (inr (inr (inr (inr (inr (inr (inr (inl e)))))))))))) = is_operation Not e
known_coded b (inr (inr (inr (inr (inr (inr (inr (inr (inr (inr (inr (inr (inl e))))))))))))) = is_choice e
known_coded b (inr (inr (inr (inr (inr (inr (inr (inr (inr (inr (inr (inr (inr (inl e)))))))))))))) = is_pick e
known_coded b (inr (inr (inr (inr (inr (inr (inr (inr (inr (inr (inr (inr (inr (inr (inl e))))))))))))))) = is_guard e
known_coded b (inr (inr (inr (inr (inr (inr (inr (inr (inr (inr (inr (inr (inr (inr (inr e))))))))))))))) = absurd e

pub some_byte : (ver : Version) (r : Record) → 1 ≤ length (record_bytes ver r)
some_byte ver (input k x) = omega arith
some_byte ver (word n) = omega arith
some_byte ver (bit b) = omega arith
some_byte ver (operation op l) = omega arith
some_byte ver (choice c a b) = omega arith
some_byte ver (pick l) = omega arith
some_byte ver (guard cs t) = omega arith
