-- The groups written after i turns, the last first: each waits only for those before it, each stands once.
use Rattle.std.specs.Prelude.{ℕ, suc, ◌<◌, ◌≡◌, refl, List, [], ◌∷◌, ◌++◌, reverse, length, get_or, take, drop}
use Rattle.std.proofs.Common.{sym, ap, subst, ◌∙◌, inl, inr, take-append-drop, take-suc}
use Rattle.std.proofs.lemmas.List.{reverse-append, reverse-reverse}
use Rattle.std.proofs.Math.Seq.{take-length}
use Rattle.base.specs.Lists.{◌∈◌}
use Rattle.base.specs.MemberLaws.{in_append}
use Rattle.base.specs.Settings.{Once}
use Rattle.circuit.specs.PlainCircuit.{gates_of, gate_count}
use Rattle.circuit_needed.specs.Pass.{rule_preconditions}
use Rattle.plan.specs.PlanFile.{groups_in}
use Rattle.plan.specs.Groups.{group_of, waits_for}
use Rattle.plan.specs.GroupLaws.{group_of_lem}
use Rattle.plan.specs.Order.{order, Ordered}
use Rattle.plan.proofs.WaitLaws.{order_ordered, order_from, order_once}
use Rattle.plan_check.specs.Checked.{writing_order}

-- what holds of a list holds of its end
once_end : (a b : List ℕ) → Once (a ++ b) → Once b
once_end [] b o = o
once_end (x ∷ a) b (n, o) = once_end a b o

ordered_end : (waits : ℕ → List ℕ) (a b : List ℕ) → Ordered waits (a ++ b) → Ordered waits b
ordered_end waits [] b o = o
ordered_end waits (x ∷ a) b (n, o) = ordered_end waits a b o

-- the first i of the order, the last first
abbrev pub done_at : List ℕ → List ℕ → ℕ → List ℕ
done_at s p i = reverse (take i (writing_order s p))

module _ (s p : List ℕ) where
  abbrev group : ℕ → ℕ
  group = group_of (groups_in p)

  abbrev placed : List ℕ
  placed = order (gates_of s) (rule_preconditions s) group

  pub done_next : (i : ℕ) → i < length (writing_order s p) → done_at s p (suc i) ≡ get_or (writing_order s p) i 0 ∷ done_at s p i
  done_next i l = ap reverse (take-suc (writing_order s p) i 0 l) ∙ reverse-append (take i (writing_order s p)) (get_or (writing_order s p) i 0 ∷ [])

  pub done_all : done_at s p (length (writing_order s p)) ≡ placed
  done_all = ap reverse (take-length (writing_order s p)) ∙ reverse-reverse placed

  -- the order ends with them
  order_ends : (i : ℕ) → reverse (drop i (writing_order s p)) ++ done_at s p i ≡ placed
  order_ends i =
      sym (reverse-append (take i (writing_order s p)) (drop i (writing_order s p))) ∙ ap reverse (take-append-drop i (writing_order s p)) ∙ reverse-reverse placed

  pub done_once : (i : ℕ) → Once (done_at s p i)
  done_once i =
      once_end (reverse (drop i (writing_order s p))) (done_at s p i) (subst Once (sym (order_ends i)) (order_once (gates_of s) (rule_preconditions s) group))

  pub done_ordered : (i : ℕ) → Ordered (waits_for (gates_of s) (rule_preconditions s) group) (done_at s p i)
  done_ordered i =
      ordered_end (waits_for (gates_of s) (rule_preconditions s) group) (reverse (drop i (writing_order s p))) (done_at s p i)
      (subst (Ordered (waits_for (gates_of s) (rule_preconditions s) group)) (sym (order_ends i)) (order_ordered (gates_of s) (rule_preconditions s) group))

  pub done_placed : (i q : ℕ) → q ∈ done_at s p i → q ∈ placed
  done_placed i q m = rw (sym (order_ends i)) (in_append q (reverse (drop i (writing_order s p))) (done_at s p i) (inr m))

  -- the group of turn i
  pub next_group : (i : ℕ) → i < length (writing_order s p) → (get_or (writing_order s p) i 0 < gate_count s) ×
      (group (get_or (writing_order s p) i 0) ≡ get_or (writing_order s p) i 0)
  next_group i l =
      let q = get_or (writing_order s p) i 0 in
      let m : q ∈ done_at s p (suc i) = rw (done_next i l) (inl refl) in
      group_of_lem (gate_count s) group q (order_from (gates_of s) (rule_preconditions s) group q (done_placed (suc i) q m))

  pub next_waits : (i : ℕ) → i < length (writing_order s p)
      → (q : ℕ) → q ∈ waits_for (gates_of s) (rule_preconditions s) group (get_or (writing_order s p) i 0) → q ∈ done_at s p i
  next_waits i l = (subst (Ordered (waits_for (gates_of s) (rule_preconditions s) group)) (done_next i l) (done_ordered (suc i))).0

  pub next_once : (i : ℕ) → i < length (writing_order s p) → Once (get_or (writing_order s p) i 0 ∷ done_at s p i)
  next_once i l = subst Once (done_next i l) (done_once (suc i))
