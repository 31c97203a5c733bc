-- What a loop writes, piece by piece: the wires of a guard, the guards and the pairs of a group.
use Rattle.std.specs.Prelude.{ℕ, suc, ◌+◌, ◌≡◌, List, [], ◌∷◌, ◌++◌, map, length, get_or}
use Rattle.std.proofs.Common.{sym, ap, ap₂, ◌∙◌, add-zero, arith}
use Rattle.base.specs.Numbers.{bytes_of}
use Rattle.file.specs.Versions.{written_version}
use Rattle.file.specs.Records.{Record, pair_wires}
use Rattle.fused.specs.Emission.{pairs}
use Rattle.file.specs.CircuitFile.{wires_bytes, record_bytes, records_bytes}
use Rattle.file.specs.SizeLaws.{wires_append}
use Rattle.base.specs.FillLaws.{pieces, pieces_none, pieces_first, pieces_same}

-- The wires of a guard: piece i is the wire of condition i of those in a list.

pub wire_pieces : (h : ℕ → ℕ) (l : List ℕ) → pieces (λ i. bytes_of 2 (h (get_or l i 0))) (length l) ≡ wires_bytes (map h l)
wire_pieces h [] = pieces_none (λ i. bytes_of 2 (h (get_or [] i 0)))
wire_pieces h (t ∷ l) = pieces_first (λ i. bytes_of 2 (h (get_or (t ∷ l) i 0))) (length l) ∙ ap (λ (r : List ℕ). bytes_of 2 (h t) ++ r) (wire_pieces h l)

-- The members of a group.

pub record_pieces : (G : ℕ → Record) (ms : List ℕ) → pieces (λ i. record_bytes written_version (G (get_or ms i 0))) (length ms) ≡ records_bytes written_version (map G ms)
record_pieces G [] = pieces_none (λ i. record_bytes written_version (G (get_or [] i 0)))
record_pieces G (m ∷ ms) = pieces_first (λ i. record_bytes written_version (G (get_or (m ∷ ms) i 0))) (length ms) ∙ ap (λ (r : List ℕ). record_bytes written_version (G m) ++ r) (record_pieces G ms)

pub pair_pieces : (value : ℕ → ℕ) (n : ℕ) (ms : List ℕ) → pieces (λ i. wires_bytes ((n + i) ∷ value (get_or ms i 0) ∷ [])) (length ms) ≡ wires_bytes
    (pair_wires (pairs n (map value ms)))
pair_pieces value n [] = pieces_none (λ i. wires_bytes ((n + i) ∷ value (get_or [] i 0) ∷ []))
pair_pieces value n (m ∷ ms) =
    pieces_first (λ i. wires_bytes ((n + i) ∷ value (get_or (m ∷ ms) i 0) ∷ [])) (length ms)
    ∙ ap₂ (λ (a b : List ℕ). a ++ b) (ap (λ (k : ℕ). wires_bytes (k ∷ value m ∷ [])) (add-zero n))
    (pieces_same (λ i. wires_bytes ((n + suc i) ∷ value (get_or ms i 0) ∷ [])) (λ i. wires_bytes ((suc n + i) ∷ value (get_or ms i 0) ∷ [])) (length ms)
    (λ i l. let e : n + suc i ≡ suc n + i = omega arith in ap (λ (k : ℕ). wires_bytes (k ∷ value (get_or ms i 0) ∷ [])) e)
    ∙ pair_pieces value (suc n) ms)
    ∙ sym (wires_append (n ∷ value m ∷ []) (pair_wires (pairs (suc n) (map value ms))))
