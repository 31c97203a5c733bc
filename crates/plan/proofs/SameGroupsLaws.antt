-- Accepted plans that form the same groups (document 02, C-15): they have the same groups in the same order, and so the same bytes.
use Rattle.std.specs.Prelude.{◌≡◌, refl, List, [], ◌∷◌, map, ℕ}
use Rattle.std.proofs.Common.{sym, ap, ap₂, ◌∙◌, inl, inr}
use Rattle.std.proofs.Math.Path.{fun_ext}
use Rattle.base.specs.Lists.{◌∈◌}
use Rattle.base.specs.Numbers.{Bytes}
use Rattle.circuit.specs.PlainCircuit.{gate_count}
use Rattle.plan.specs.PlanFile.{Plan, groups_in, EachGroup}
use Rattle.plan.specs.Groups.{smallest, group_of, members}
use Rattle.plan.specs.Layout.{plan_bytes}
use Rattle.plan.specs.Accepted.{Exist, GroupsRise, Acceptable}
use Rattle.plan.specs.SameGroups.{SameGroups}
use Rattle.plan.specs.LayoutLaws.{laid_bytes}
use Rattle.plan.specs.ListedLaws.{StandsIn, rising_same, members_listed}
use Rattle.plan.specs.NameLaws.{same_names}
use Rattle.plan.proofs.AnyOrderLaws.{Laid, laid, stands_same}

-- the smallest members are those of the groups that stand in the plan
smallest_stands : (Gs : Plan) (a : ℕ) → a ∈ map smallest Gs → (G : List ℕ) × StandsIn Gs G × (a ≡ smallest G)
smallest_stands [] a m = absurd m
smallest_stands (G ∷ Gs) a (inl e) = (G, inl refl, e)
smallest_stands (G ∷ Gs) a (inr m) = let (H, s, e) = smallest_stands Gs a m in (H, inr s, e)

stands_smallest : (Gs : Plan) (G : List ℕ) → StandsIn Gs G → smallest G ∈ map smallest Gs
stands_smallest [] G x' = elim x' [ ]
stands_smallest (H ∷ Gs) G (inl e) = inl (ap smallest (sym e))
stands_smallest (H ∷ Gs) G (inr s) = inr (stands_smallest Gs G s)

-- a list of groups each of which its smallest member determines
by_smallest : (f : ℕ → List ℕ) (Gs : Plan) → ((G : List ℕ) → StandsIn Gs G → f (smallest G) ≡ G) → map f (map smallest Gs) ≡ Gs
by_smallest f [] h = refl
by_smallest f (G ∷ Gs) h = ap₂ (λ (a : List ℕ) (l : Plan). a ∷ l) (h G (inl refl)) (by_smallest f Gs (λ H s. h H (inr s)))

smallest_within : (P Q : Plan) → Laid P → Laid Q → ((g : ℕ) → group_of P g ≡ group_of Q g) → (a : ℕ) → a ∈ map smallest P → a ∈ map smallest Q
smallest_within P Q v w names a m =
    let (G, s, e) = smallest_stands P a m in
    rw e (stands_smallest Q G (stands_same Q P w v (λ g. sym (names g)) G s))

-- groups in order that name the gates alike are the same list
same_groups : (n : ℕ) (P Q : Plan) → Laid P → Laid Q → EachGroup (Exist n) P → EachGroup (Exist n) Q → GroupsRise P → GroupsRise Q
    → ((g : ℕ) → group_of P g ≡ group_of Q g) → P ≡ Q
same_groups n P Q v w x y o u names =
    sym (by_smallest (members n (group_of P)) P (members_listed n P v.joins v.rising v.once x))
    ∙ ap₂ (λ (f : ℕ → ℕ) (l : List ℕ). map (members n f) l) (fun_ext names)
    (rising_same (map smallest P) (map smallest Q) o u (smallest_within P Q v w names) (smallest_within Q P w v (λ g. sym (names g))))
    ∙ by_smallest (members n (group_of Q)) Q (members_listed n Q w.joins w.rising w.once y)

-- two acceptable plans for a rule that form the same groups are the same bytes
pub same_bytes : (s p q : List ℕ) → Bytes p → Bytes q → Acceptable s p → Acceptable s q → SameGroups (groups_in p) (groups_in q) → p ≡ q
same_bytes s p q bp bq a b same =
    laid_bytes p bp s a.laid_out
    ∙ ap (plan_bytes (gate_count s)) (same_groups (gate_count s) (groups_in p) (groups_in q) (laid s p a.laid_out a.once) (laid s q b.laid_out b.once) a.exist b.exist
    a.in_order b.in_order (same_names s p q a.laid_out b.laid_out a.once b.once same))
    ∙ sym (laid_bytes q bq s b.laid_out)
