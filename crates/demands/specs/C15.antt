-- Document 02, C-15, "Groups in one order": its sentences, each quoted above its theorems. s is a rule's bytes, p and q are plans'.
use Rattle.std.specs.Prelude.{ℕ, ◌≡◌, List, [], ◌∷◌, map, ◌↔◌, drop}
use Rattle.base.specs.Numbers.{Bytes}
use Rattle.circuit.specs.PlainCircuit.{gate_count}
use Rattle.circuit.specs.Whole.{rule_answer}
use Rattle.plan.specs.PlanFile.{groups_in, EachGroup, Apart}
use Rattle.plan.specs.Rows.{Row, rows, first_failing, plan_answer}
use Rattle.plan.specs.Groups.{group_of}
use Rattle.plan.specs.Accepted.{LaidOut, Exist, GroupsRise}
use Rattle.plan.specs.SameGroups.{Joined, SameGroups}
use Rattle.plan.specs.RangeLaws as numbers
use Rattle.plan.proofs.AcceptedLaws as laws
use Rattle.plan.proofs.SameGroupsLaws as groups
use Rattle.plan.specs.NameLaws as names
use Rattle.plan.proofs.AnyOrderLaws as any
use Rattle.fused.specs.FusedCircuit.{fused_file}
use Rattle.fused.specs.GroupOrderLaws as files

-- "Groups must now stand in rising order of their smallest member", and "the acceptance rule now includes this order": `in_order` of `Acceptable`, in demand 3's
-- `plan_accepted`.
pub accepted_in_order : (s p : List ℕ) → (plan_answer s p).number ≡ 0 → GroupsRise (groups_in p)
accepted_in_order s p h = ((laws.plan_accepted s p).0 h).1.in_order

-- "two accepted plans for a rule that form the same groups are then the same bytes."
pub same_bytes : (s p q : List ℕ) → Bytes p → Bytes q → (plan_answer s p).number ≡ 0 → (plan_answer s q).number ≡ 0
    → SameGroups (groups_in p) (groups_in q) → p ≡ q
same_bytes s p q bp bq h k = groups.same_bytes s p q bp bq ((laws.plan_accepted s p).0 h).1 ((laws.plan_accepted s q).0 k).1

-- (To form the same groups is to join the same pairs of gates. A plan joins two gates exactly when they have one group in the circuit.)
pub joined_groups : (s p : List ℕ) → (plan_answer s p).number ≡ 0 → (g h : ℕ) → (g ≡ h → ⊥)
    → Joined (groups_in p) g h ↔ (group_of (groups_in p) g ≡ group_of (groups_in p) h)
joined_groups s p k = let a = ((laws.plan_accepted s p).0 k).1 in names.joined_groups (groups_in p) a.laid_out.joins a.once

-- (The order decides nothing else: plans that are laid out, name gates once and form the same groups have one file, in whatever order these stand.)
pub same_file : (s p q : List ℕ) → LaidOut s p → LaidOut s q → Apart (groups_in p) → Apart (groups_in q)
    → SameGroups (groups_in p) (groups_in q) → fused_file s p ≡ fused_file s q
same_file = files.same_file

-- "checked after 26 and before 27": the rows in the order in which they are checked.
pub rows_are : (s p : List ℕ) → map (λ (r : Row). r.refuses) (rows s p) ≡ 20 ∷ 21 ∷ 22 ∷ 23 ∷ 24 ∷ 25 ∷ 26 ∷ 32 ∷ 27 ∷ 28 ∷ 29 ∷ 30 ∷ []
rows_are = numbers.rows_are

-- "32 when a group's smallest member is not above that of the group before it": a plan for an accepted rule is refused with 32
-- exactly when it is laid out and names existing gates once, and its groups do not stand in order.
pub out_of_order : (s p : List ℕ) → (rule_answer s).number ≡ 0
    → ((plan_answer s p).number ≡ 32) ↔ ((LaidOut s p × (EachGroup (Exist (gate_count s)) (groups_in p) × Apart (groups_in p))) × (GroupsRise (groups_in p) → ⊥))
out_of_order = laws.out_of_order

-- (Put in order such a plan is answered as if there were no 32: by its rows 27 to 30, which come after the first eight. So it is accepted where nothing else is wrong.)
pub put_in_order : (s p q : List ℕ) → (rule_answer s).number ≡ 0 → (plan_answer s p).number ≡ 32 → LaidOut s q → Apart (groups_in q) → GroupsRise (groups_in q)
    → SameGroups (groups_in p) (groups_in q) → (plan_answer s q).number ≡ first_failing (drop 8 (rows s p))
put_in_order = any.put_in_order
