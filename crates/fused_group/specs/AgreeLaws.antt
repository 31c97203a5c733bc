-- The loop that compares the members' wires at an argument place with the first one's: start, step, end.
use Rattle.std.specs.Prelude.{ℕ, suc, ◌+◌, ◌≤◌, ◌<◌, ◌≡◌, true, false, not, eqb, List, [], ◌∷◌, ◌⊎◌, length, get_or}
use Rattle.std.proofs.Common.{sym, ap, ◌∙◌, inl, inr, eqb-true, arith}
use Rattle.std.proofs.lemmas.Bool.{eqb-false, not-false, not-true}
use Rattle.std.proofs.lemmas.List.{length-map}
use Rattle.base.specs.Lists.{◌∈◌}
use Rattle.base.specs.MemberLaws.{get_or_in}
use Rattle.base.specs.TestLaws.{same?}
use Rattle.circuit.specs.FigureLaws.{map_at}
use Rattle.plan.specs.PlanFile.{group_at}
use Rattle.plan.specs.NumberLaws.{length_group}
use Rattle.fused.specs.Emission.{one_wire}
use Rattle.fused.specs.PlaceLaws.{one_wire_lem, two_wires}
use Rattle.fused_group.specs.Joined.{argument_at, values_in}

-- what each place of a list holds, each member is
each_at : (l : List ℕ) (v : ℕ) → ((i : ℕ) → i < length l → get_or l i 0 ≡ v) → (w : ℕ) → w ∈ l → w ≡ v
each_at [] v h w m = absurd m
each_at (a ∷ l) v h w (inl e) = e ∙ h 0 (omega arith)
each_at (a ∷ l) v h w (inr m) = each_at l v (λ i k. h (suc i) (omega (arith, k))) w m

module _ (quads : List ℕ) (wire : ℕ → ℕ) (k : ℕ) (p : List ℕ) (at : ℕ) where
  abbrev values : List ℕ
  values = values_in quads wire k (group_at p at)

  many : length values ≡ get_or p at 0
  many = length-map (group_at p at) (λ m. wire (argument_at quads m k)) ∙ length_group p at

  -- member i's wire
  pub value_at : (i g w : ℕ) → i < get_or p at 0 → g ≡ get_or (group_at p at) i 0 → w ≡ wire (argument_at quads g k) → w ≡ get_or (values_in quads wire k (group_at p at)) i 0
  value_at i g w h e q =
      q ∙ ap (λ (m : ℕ). wire (argument_at quads m k)) e ∙ sym (map_at (λ m. wire (argument_at quads m k)) (group_at p at) i (omega (arith, h, length_group p at)))

  -- loop invariant: the first i members have the wire common, which is the first one's
  pub record Agreeing (common i : ℕ) : Type 0 where
    pub first : common ≡ get_or (values_in quads wire k (group_at p at)) 0 0
    pub below : i ≤ get_or p at 0
    pub same : (j : ℕ) → j < i → get_or (values_in quads wire k (group_at p at)) j 0 ≡ common

  pub agreeing_start : (common : ℕ) → 0 < get_or p at 0 → common ≡ get_or (values_in quads wire k (group_at p at)) 0 0 → Agreeing common 1
  agreeing_start common h f =
      record { first = f; below = omega (arith, h); same = λ j l. let z : j ≡ 0 = omega (arith, l) in rw z (sym f) }

  module _ (common i : ℕ) (l : Agreeing common i) where
    module _ (w : ℕ) (h : i < get_or p at 0) (q : w ≡ get_or (values_in quads wire k (group_at p at)) i 0) where
      pub agreeing_step : not (eqb w common) ≡ false → Agreeing common (i + 1)
      agreeing_step u =
          record {
            first = l.first;
            below = omega (arith, h);
            same = λ j b. go j b (same? j i);
          }
        where
          s : w ≡ common
          s = eqb-true w common (not-false (eqb w common) u)

          go : (j : ℕ) → j < i + 1 → (j ≡ i) ⊎ (j ≡ i → ⊥) → get_or values j 0 ≡ common
          go j b (inl z) = rw z (sym q ∙ s)
          go j b (inr n) = l.same j (omega (arith, b, n))

      pub agreeing_fails : not (eqb w common) ≡ true → false ≡ one_wire (values_in quads wire k (group_at p at))
      agreeing_fails u =
          sym (two_wires values (get_or values i 0) (get_or_in values i (omega (arith, h, many))) (λ z. eqb-false w common (not-true (eqb w common) u) (q ∙ z ∙ sym l.first)))

    pub agreeing_end : 0 < get_or p at 0 → get_or p at 0 ≤ i → true ≡ one_wire (values_in quads wire k (group_at p at))
    agreeing_end some h =
        sym (one_wire_lem values (omega (arith, some, many)) (λ w m. each_at values common (λ j b. l.same j (omega (arith, b, h, many))) w m ∙ l.first))
