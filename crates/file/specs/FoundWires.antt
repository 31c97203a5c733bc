-- Laws for document 01, "The fused circuit file": wires and pairs of wires put together and taken apart again are the same.
use Rattle.std.specs.Prelude.{◌≡◌, refl, List, [], ◌∷◌, ◌++◌, ℕ, ◌+◌, ◌^◌, ◌<◌, length, get_or}
use Rattle.std.proofs.Common.{sym, ap, ap₂, ◌∙◌, append_assoc, inl, inr, arith, length-append}
use Rattle.std.proofs.lemmas.List.{get_or_at}
use Rattle.base.specs.Numbers.{bytes_of, number_at}
use Rattle.base.specs.NumberLaws.{length_bytes, number_found}
use Rattle.file.specs.Records.{Pair, pair_wires}
use Rattle.file.specs.CircuitFile.{wires_bytes}
use Rattle.file.specs.FileFigures.{wires_at, pairs_at}
use Rattle.file.specs.FitRecords.{Wires}

-- what is read at a place of a file x, when x is a, of that many bytes, and then what stands there
module _ (x : List ℕ) (at : ℕ) (a : List ℕ) (place : at ≡ length a) where
  pub byte_at : (b : ℕ) (r : List ℕ) → x ≡ a ++ (b ∷ r) → get_or x at 0 ≡ b
  byte_at b r e = rw e (get_or_at a b r 0 at (sym place))

  pub number_at_lem : (w n : ℕ) (r : List ℕ) → n < 256 ^ w → x ≡ a ++ (bytes_of w n ++ r) → number_at w x at ≡ n
  number_at_lem w n r h e = rw (e, place) (number_found w n a r h)

-- wires, read where they were written
pub wires_found : (l x : List ℕ) (at : ℕ) (a b : List ℕ) → Wires l → at ≡ length a → x ≡ a ++ (wires_bytes l ++ b) → wires_at (length l) x at ≡ l
wires_found [] x at a b h p e = refl
wires_found (w ∷ l) x at a b h p e =
    let f : x ≡ a ++ (bytes_of 2 w ++ (wires_bytes l ++ b)) = e ∙ ap (λ (r : List ℕ). a ++ r) (append_assoc (bytes_of 2 w) (wires_bytes l) b) in
    let k : at + 2 ≡ length (a ++ bytes_of 2 w) = rw (length-append, length_bytes, p) in
    ap₂ (λ (y : ℕ) (m : List ℕ). y ∷ m)
    (number_at_lem x at a p 2 w (wires_bytes l ++ b) (h w (inl refl)) f)
    (wires_found l x (at + 2) (a ++ bytes_of 2 w) b (λ y m. h y (inr m)) k (f ∙ sym (append_assoc a (bytes_of 2 w) (wires_bytes l ++ b))))

-- pairs
pub pairs_found : (l : List Pair) (x : List ℕ) (at : ℕ) (a b : List ℕ) → Wires (pair_wires l) → at ≡ length a → x ≡ a ++ (wires_bytes (pair_wires l) ++ b)
    → pairs_at (length l) x at ≡ l
pairs_found [] x at a b h p e = refl
pairs_found (q ∷ l) x at a b h p e =
    let u = bytes_of 2 q.guarding in
    let v = bytes_of 2 q.value in
    let f : x ≡ a ++ (u ++ (v ++ (wires_bytes (pair_wires l) ++ b))) =
    e ∙ ap (λ (r : List ℕ). a ++ r) (append_assoc u (v ++ wires_bytes (pair_wires l)) b ∙ ap (λ (r : List ℕ). u ++ r) (append_assoc v (wires_bytes (pair_wires l)) b)) in
    let g : x ≡ (a ++ u) ++ (v ++ (wires_bytes (pair_wires l) ++ b)) = f ∙ sym (append_assoc a u (v ++ (wires_bytes (pair_wires l) ++ b))) in
    let i : x ≡ ((a ++ u) ++ v) ++ (wires_bytes (pair_wires l) ++ b) = g ∙ sym (append_assoc (a ++ u) v (wires_bytes (pair_wires l) ++ b)) in
    let j : at + 2 ≡ length (a ++ u) = rw (length-append, length_bytes, p) in
    let k : at + 4 ≡ length ((a ++ u) ++ v) = rw (length-append (a ++ u) v, length-append a u, length_bytes 2 q.guarding, length_bytes 2 q.value, p)
    (omega arith) in
    ap₂ (λ (y : Pair) (m : List Pair). y ∷ m)
    (ap₂ (λ (y z : ℕ). record { guarding = y; value = z })
    (number_at_lem x at a p 2 q.guarding (v ++ (wires_bytes (pair_wires l) ++ b)) (h q.guarding (inl refl)) f)
    (number_at_lem x (at + 2) (a ++ u) j 2 q.value (wires_bytes (pair_wires l) ++ b) (h q.value (inr (inl refl))) g))
    (pairs_found l x (at + 4) ((a ++ u) ++ v) b (λ y m. h y (inr (inr m))) k i)
