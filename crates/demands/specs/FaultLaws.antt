-- The rows 29 and 30: where one is answered, two members and a setting that needs both, or a group that a chain of waits leads back to, are found.
use Rattle.std.specs.Prelude.{ℕ, ◌^◌, ◌<◌, ◌≡◌, refl, Bool, true, false, cond, List, [], ◌∷◌, ◌++◌, eqb, get_or, take}
use Rattle.std.proofs.Common.{lt_of_le_of_lt, sym, ◌∙◌, true≢false, inl, inr}
use Rattle.std.specs.Int.Bits.{bit_and}
use Rattle.std.proofs.lemmas.Nat.{and_le_l}
use Rattle.std.proofs.lemmas.Bool.{eqb-false}
use Rattle.base.specs.Lists.{◌∈◌, every}
use Rattle.base.specs.TestLaws.{split, both}
use Rattle.base.specs.BitLaws.{some_bit, bit_and_lem}
use Rattle.base.specs.Settings.{Setting, setting_of}
use Rattle.base.specs.Sets.{has, excludes}
use Rattle.base.specs.ParsingLaws.{is_read}
use Rattle.rule.specs.Rule.{read_rule}
use Rattle.circuit.specs.Limits.{most_conditions}
use Rattle.circuit.specs.Gates.{conditions}
use Rattle.circuit.specs.PlainCircuit.{gates_of, gate_count}
use Rattle.circuit_needed.specs.Needed.{Needed, wanted_of}
use Rattle.circuit_needed.specs.Pass.{rule_preconditions}
use Rattle.circuit_needed.specs.PreconditionLaws.{precondition_below}
use Rattle.circuit_needed.specs.RulePreconditions.{rule_earlier, wanted_inside, rule_precondition}
use Rattle.circuit.specs.Whole.{rule_answer}
use Rattle.circuit.specs.WholeLaws.{accepted}
use Rattle.plan.specs.PlanFile.{Plan, groups_in}
use Rattle.plan.specs.Groups.{group_of, Waits, Chain}
use Rattle.plan.specs.SameGroups.{Joined}
use Rattle.plan.specs.Rows.{every_group, parted, placed, layout_rows, join_rows, order_rows, plan_row, plan_answer}
use Rattle.plan.specs.FailingLaws.{fails_at, hold_both}
use Rattle.plan.specs.GroupLaws.{group_of_named}
use Rattle.plan.proofs.WaitLaws.{circle_found}
use Rattle.plan.proofs.AcceptedLaws.{layout_right, row_first, answer_number}

-- a test of all that fails, fails for one
one_fails : (t : ℕ → Bool) (l : List ℕ) → every t l ≡ false → (x : ℕ) × (x ∈ l) × (t x ≡ false)
one_fails t [] h = absurd (true≢false h)
one_fails t (x ∷ l) h =
    split (t x) (λ e. let (y, m, f) = one_fails t l (rw e at h) in (y, inr m, f)) (λ e. (x, inl refl, e))

-- two members that do not exclude each other
pair_fails : (sets : List ℕ) (Gs : Plan) → every_group (parted sets) Gs ≡ false
    → (g : ℕ) × (h : ℕ) × Joined Gs g h × (g ≡ h → ⊥) × (excludes (get_or sets g 0) (get_or sets h 0) ≡ false)
pair_fails sets [] t = absurd (true≢false t)
pair_fails sets (G ∷ Gs) t =
    split (parted sets G)
    (λ e. let (g, h, j, n, f) = pair_fails sets Gs (rw e at t) in (g, h, inr j, n, f))
    (λ e.
    let (g, m, u) = one_fails (λ i. every (λ j. cond (eqb i j) true (excludes (get_or sets i 0) (get_or sets j 0))) G) G e in
    let (h, k, w) = one_fails (λ j. cond (eqb g j) true (excludes (get_or sets g 0) (get_or sets j 0))) G u in
    split (eqb g h) (λ q. absurd (true≢false (rw q at w))) (λ q. (g, h, inl (m, k), eqb-false g h q, rw q at w)))

-- a setting of two sets that do not exclude each other
common : (N a b : ℕ) → a < 2 ^ N → excludes a b ≡ false → (j : ℕ) × (j < N) × (has a j ≡ true) × (has b j ≡ true)
common N a b h e =
    let (j, l, w) = some_bit N (bit_and a b) (lt_of_le_of_lt (and_le_l a b) h) (eqb-false _ _ e) in
    let (x, y) = both (has a j) (has b j) (sym (bit_and_lem a b j) ∙ w) in
    (j, l, x, y)

module _ (s p : List ℕ) (z : (rule_answer s).number ≡ 0) where
  abbrev sets : List ℕ
  sets = rule_preconditions s

  pub two_needed : (plan_answer s p).number ≡ 29
      → (g : ℕ) × (h : ℕ) × Joined (groups_in p) g h × (g ≡ h → ⊥) × (σ : Setting) × Needed (gates_of s) (wanted_of s) σ g × Needed (gates_of s) (wanted_of s) σ h
  two_needed e =
      let a = accepted s z in
      let (b, n, read) = is_read (read_rule s) a.read in
      let q : plan_row s p ≡ 29 = sym (answer_number s p z) ∙ e in
      let t = ((fails_at (layout_rows (gate_count s) p ++ take 3 (join_rows (gates_of s) sets p)) (record { refuses = 29; holds = every_group (parted sets) (groups_in p) })
      (order_rows (gates_of s) sets p) refl refl refl).0 (sym (row_first s p) ∙ q)).1 in
      let (g, h, j, d, f) = pair_fails sets (groups_in p) t in
      let (i, l, x, y) = common (2 ^ most_conditions) (get_or sets g 0) (get_or sets h 0)
      (precondition_below (gates_of s) (wanted_of s) (rule_earlier s b n read) (wanted_inside s b n read) most_conditions g) f in
      let right = rule_precondition s b n read a.conds in
      (g, h, j, d, setting_of (conditions (gates_of s)) i, (right g i l).0 x, (right h i l).0 y)

  pub waits_for_itself : (plan_answer s p).number ≡ 30 → (g : ℕ) × Chain (Waits (gates_of s) (wanted_of s) (group_of (groups_in p))) g g
  waits_for_itself e =
      let a = accepted s z in
      let (b, n, read) = is_read (read_rule s) a.read in
      let q : plan_row s p ≡ 30 = sym (answer_number s p z) ∙ e in
      let (held, t) = (fails_at (layout_rows (gate_count s) p ++ join_rows (gates_of s) sets p) (record { refuses = 30; holds = placed (gates_of s) sets (group_of (groups_in p)) })
      [] refl refl refl).0 (sym (row_first s p) ∙ q) in
      let (l, (_, once)) = (layout_right s p).0 ((hold_both (layout_rows (gate_count s) p) (join_rows (gates_of s) sets p)).0 held).0 in
      circle_found (gates_of s) (wanted_of s) (rule_earlier s b n read) (wanted_inside s b n read) a.conds (group_of (groups_in p))
      (group_of_named (groups_in p) l.joins l.rising once) t
