-- Marks: reading one byte by byte finds it exactly when the bytes begin with it.
use Rattle.std.specs.Prelude.{◌≡◌, false, ℕ, suc, ◌+◌, ◌≤◌, eqb, length, get_or, take, drop}
use Rattle.std.proofs.Math.Path.{refl}
use Rattle.std.proofs.Common.{sym, arith, drop-cons}
use Rattle.std.proofs.Math.Bool.{true}
use mathlib.Core.List.{List, [], ◌∷◌}
use Rattle.std.proofs.Math.Numerals.{add-one}
use Rattle.base.specs.Lists.{same}
use Rattle.base.specs.TestLaws.{split, both, and}
use Rattle.base.specs.Parsing.{read_mark, step_of, IsRead}
use Rattle.base.specs.ParsingLaws.{past_read, not_refused}
use Rattle.base.specs.Parsing.{Past, Refused}

module _ (number : ℕ) (p : List ℕ) where
  mark_to : (m : List ℕ) (at : ℕ) → at + length m ≤ length p → IsRead (read_mark number m p at) → same (take (length m) (drop at p)) m ≡ true
  unfolding read_mark
  mark_to [] at h r = refl
  mark_to (b ∷ m) at h r =
      split (eqb (get_or p at 0) b)
      (λ t.
      let ih : same (take (length m) (drop (suc at) p)) m ≡ true = rw add-one at (mark_to m (at + 1) (omega arith) (rw t at r)) in
      rw (drop-cons p at 0 (omega arith)) (and t ih))
      (λ t. absurd (rw t at r))

  mark_back : (m : List ℕ) (at : ℕ) → at + length m ≤ length p → same (take (length m) (drop at p)) m ≡ true → IsRead (read_mark number m p at)
  unfolding read_mark
  mark_back [] at h r = tt
  mark_back (b ∷ m) at h r =
      let q : (eqb (get_or p at 0) b ≡ true) × (same (take (length m) (drop (suc at) p)) m ≡ true) = both _ _ (rw (drop-cons p at 0 (omega arith)) at r) in
      rw q.0 (mark_back m (at + 1) (omega arith) (rw add-one q.1))

  -- so the step that reading the mark takes tells whether it is there
  module _ (m : List ℕ) (h : length m ≤ length p) where
    pub mark_there : (n : ℕ) → Past n ≡ step_of (read_mark number m p 0) → true ≡ same (take (length m) p) m
    mark_there n e = sym (mark_to m 0 (omega arith) (past_read (read_mark number m p 0) e))

    pub mark_missing : (k n : ℕ) → Refused k n ≡ step_of (read_mark number m p 0) → false ≡ same (take (length m) p) m
    mark_missing k n e =
        split (same (take (length m) p) m) (λ t. absurd (not_refused (read_mark number m p 0) (mark_back m 0 (omega arith) t) e)) (λ t. sym t)
