-- A run over a list: what was given stays, what is appended changes nothing before it, and each thing gives its value of those before it.
use Rattle.std.specs.Prelude.{ℕ, zero, suc, ◌+◌, ◌≤◌, ◌<◌, ◌≡◌, refl, List, [], ◌∷◌, ◌++◌, length, get_or}
use Rattle.std.proofs.Common.{sym, ap, ◌∙◌, add-zero, zero-add, arith, length-append}
use Rattle.std.proofs.Math.ListN.{get_or-append, get_or-eq_default}
use Rattle.std.proofs.Math.Seq.{get_or-append_seam}
use Rattle.base.specs.Runs.{run, run_at}

module _ {K A : Type 0} (d : A) (value : (ℕ → A) → K → A) where
  one_more : (f : List A) (a : A) → length (f ++ (a ∷ [])) ≡ suc (length f)
  one_more f a = rw length-append (omega arith)

  pub run_length : (C : List K) (f : List A) → length (run d value C f) ≡ length f + length C
  run_length [] f = sym (add-zero _)
  run_length (k ∷ C) f = run_length C (f ++ (value (λ i. get_or f i d) k ∷ [])) ∙ rw one_more (omega arith)

  -- past its end a run gives d
  pub run_at_past : (C : List K) (i : ℕ) → length C ≤ i → run_at d value C i ≡ d
  run_at_past C i h = get_or-eq_default (run d value C []) d {n = i} (omega (arith, run_length C []))

  -- what was given stays
  pub run_keeps : (C : List K) (f : List A) (i : ℕ) → i < length f → get_or (run d value C f) i d ≡ get_or f i d
  run_keeps [] f i h = refl
  run_keeps (k ∷ C) f i h = run_keeps C (f ++ (value (λ j. get_or f j d) k ∷ [])) i (rw one_more (omega arith)) ∙ get_or-append f _ d i h

  -- a run of joined lists goes on from the first
  pub run_append : (B C : List K) (f : List A) → run d value (B ++ C) f ≡ run d value C (run d value B f)
  run_append [] C f = refl
  run_append (k ∷ B) C f = run_append B C (f ++ (value (λ i. get_or f i d) k ∷ []))

  -- what is appended changes nothing before them
  pub run_at_append : (B C : List K) (i : ℕ) → i < length B → run_at d value (B ++ C) i ≡ run_at d value B i
  run_at_append B C i h = rw (run_append B C []) (run_keeps C (run d value B []) i (rw (run_length B []) (omega arith)))

  -- the last gives its value of those before it
  pub run_at_last : (C : List K) (k : K) → run_at d value (C ++ (k ∷ [])) (length C) ≡ value (run_at d value C) k
  run_at_last C k =
      let l : length (run d value C []) ≡ length C = run_length C [] ∙ zero-add _ in
      rw (run_append C (k ∷ []) [])
      (ap (λ (n : ℕ). get_or (run d value C [] ++ (value (run_at d value C) k ∷ [])) n d) (sym l)
      ∙ get_or-append_seam (run d value C []) (value (run_at d value C) k) [] d)

  -- thing j of C, the first of them numbered n, reads only what is numbered below it; e stands past the end
  abbrev pub ReadsBelow : K → List K → ℕ → Type 0
  ReadsBelow e C n = (j : ℕ) (v w : ℕ → A) → ((a : ℕ) → a < n + j → v a ≡ w a) → value v (get_or C j e) ≡ value w (get_or C j e)

  run_values : (e : K) (C : List K) (f : List A) → ReadsBelow e C (length f)
      → (j : ℕ) → j < length C → get_or (run d value C f) (length f + j) d ≡ value (λ i. get_or (run d value C f) i d) (get_or C j e)
  run_values e [] f r j h = absurd (omega arith)
  run_values e (k ∷ C) f r zero h =
      rw add-zero (run_keeps C (f ++ (value (λ i. get_or f i d) k ∷ [])) (length f) (rw one_more (omega arith))
      ∙ get_or-append_seam f _ [] d
      ∙ r 0 _ _ (λ a l. sym (run_keeps (k ∷ C) f a (omega arith))))
  run_values e (k ∷ C) f r (suc j) h =
      ap (λ (n : ℕ). get_or (run d value (k ∷ C) f) n d) (rw one_more (omega arith))
      ∙ run_values e C (f ++ (value (λ i. get_or f i d) k ∷ [])) (λ i v w s. r (suc i) v w (λ a l. s a (rw one_more (omega arith)))) j (omega arith)

  -- a run gives each thing its value of what the whole run gives
  pub run_right : (e : K) (C : List K) → ReadsBelow e C 0 → (i : ℕ) → i < length C → run_at d value C i ≡ value (run_at d value C) (get_or C i e)
  run_right e C r i h = rw zero-add at (run_values e C [] r i h)
