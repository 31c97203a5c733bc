-- The record of an operation: its one or two wires lie in the file and in the array of figures, and what the code works out is the operation's result of their figures.
use Rattle.std.specs.Prelude.{ℕ, ◌+◌, ◌*◌, ◌≤◌, ◌<◌, ◌≡◌, refl, List, map, ◌⊎◌, length, get_or}
use Rattle.std.proofs.Common.{sym, ap, subst, ◌∙◌, inl, inr, arith}
use Rattle.base.specs.Numbers.{number_at}
use Rattle.base.specs.Lists.{Inside}
use Rattle.base.specs.Codes.{entry_of, operation_of, code_of}
use Rattle.base.specs.CodeLaws.{code_operation, one_or_two, entry_form}
use Rattle.base.specs.Results.{result_of, result_on}
use Rattle.base.specs.declared.Code.{Code}
use Rattle.base.specs.declared.Form.TheVariants.{Apply}
use Rattle.base.specs.declared.Operation.{Operation}
use Rattle.file.specs.FileFigures.{wires_at}
use Rattle.file.specs.Limits.{most_wires}
use Rattle.file_figures.specs.Working.{held}

module _ (f figures : List ℕ) (at : ℕ) (l : 0x20 ≤ get_or f at 0) (h : get_or f at 0 ≤ 0x27) (c : Code) (e : c ≡ code_of (get_or f at 0)) where
  is_entry : c ≡ entry_of (operation_of (get_or f at 0))
  is_entry = e ∙ code_operation _ l h

  pub its_form : c.form ≡ Apply (operation_of (get_or f at 0))
  its_form = ap (λ (k : Code). k.form) is_entry ∙ entry_form _

  arity_as : c.arity ≡ (code_of (get_or f at 0)).arity
  arity_as = ap (λ (k : Code). k.arity) e

  its_arity : (c.arity ≡ 1) ⊎ (c.arity ≡ 2)
  its_arity = go (one_or_two (operation_of (get_or f at 0)))
    where
      go : ((entry_of (operation_of (get_or f at 0))).arity ≡ 1) ⊎ ((entry_of (operation_of (get_or f at 0))).arity ≡ 2) → (c.arity ≡ 1) ⊎ (c.arity ≡ 2)
      go (inl q) = inl (ap (λ (k : Code). k.arity) is_entry ∙ q)
      go (inr q) = inr (ap (λ (k : Code). k.arity) is_entry ∙ q)

  module _ (inside : at + (1 + 2 * (code_of (get_or f at 0)).arity) ≤ length f) (wires : Inside most_wires (wires_at (code_of (get_or f at 0)).arity f (at + 1))) where
    wires_of : (n : ℕ) → c.arity ≡ n → (at + (1 + 2 * n) ≤ length f) × Inside most_wires (wires_at n f (at + 1))
    wires_of n q =
        let e : (code_of (get_or f at 0)).arity ≡ n = sym arity_as ∙ q in
        (rw e at inside, subst (λ (k : ℕ). Inside most_wires (wires_at k f (at + 1))) e wires)

    two : (c.arity ≡ 1 → ⊥) → c.arity ≡ 2
    two m = go its_arity
      where
        go : (c.arity ≡ 1) ⊎ (c.arity ≡ 2) → c.arity ≡ 2
        go (inl q) = absurd (m q)
        go (inr q) = q

    pub first_wire : (at + 1 + 2 ≤ length f) × (number_at 2 f (at + 1) < most_wires)
    first_wire = go its_arity
      where
        go : (c.arity ≡ 1) ⊎ (c.arity ≡ 2) → (at + 1 + 2 ≤ length f) × (number_at 2 f (at + 1) < most_wires)
        go (inl q) = let r = wires_of 1 q in (omega (arith, r.0), r.1 _ (inl refl))
        go (inr q) = let r = wires_of 2 q in (omega (arith, r.0), r.1 _ (inl refl))

    third : number_at 2 f (at + 1 + 2) ≡ number_at 2 f (at + 3)
    third = let z : at + 1 + 2 ≡ at + 3 = omega arith in ap (number_at 2 f) z

    pub second_wire : (c.arity ≡ 1 → ⊥) → (at + 3 + 2 ≤ length f) × (number_at 2 f (at + 3) < most_wires)
    second_wire m = let r = wires_of 2 (two m) in (omega (arith, r.0), r.1 _ (inr (inl (sym third))))

    result_of_lem : (op : Operation) → c.form ≡ Apply op → (n : ℕ) → c.arity ≡ n → (y : ℕ) → y ≡ result_on op (map (held figures) (wires_at n f (at + 1)))
        → y ≡ result_on (operation_of (get_or f at 0)) (map (held figures) (wires_at (code_of (get_or f at 0)).arity f (at + 1)))
    result_of_lem op q n a y r =
        let same : Apply op ≡ Apply (operation_of (get_or f at 0)) = sym q ∙ its_form in let o : op ≡ operation_of (get_or f at 0) = cc in
        rw (sym arity_as ∙ a, ← o) r

    pub of_one : (op : Operation) → c.form ≡ Apply op → c.arity ≡ 1 → (x y : ℕ) → x ≡ held figures (number_at 2 f (at + 1)) → y ≡ result_of op x 0
        → y ≡ result_on (operation_of (get_or f at 0)) (map (held figures) (wires_at (code_of (get_or f at 0)).arity f (at + 1)))
    of_one op q a x y r s = result_of_lem op q 1 a y (s ∙ rw r)

    pub of_two : (op : Operation) → c.form ≡ Apply op → (c.arity ≡ 1 → ⊥) → (x z y : ℕ) → x ≡ held figures (number_at 2 f (at + 1))
        → z ≡ held figures (number_at 2 f (at + 3)) → y ≡ result_of op x z
        → y ≡ result_on (operation_of (get_or f at 0)) (map (held figures) (wires_at (code_of (get_or f at 0)).arity f (at + 1)))
    of_two op q m x z y r t s = result_of_lem op q 2 (two m) y (s ∙ rw (r, t, third))
