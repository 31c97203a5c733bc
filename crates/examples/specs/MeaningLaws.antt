-- Laws from what is computed of an accepted rule to what it means: a gate's precondition, what it rests on, which group waits, what a lent buffer holds.
use Rattle.std.specs.Prelude.{ℕ, ◌≤◌, ◌<◌, ◌≡◌, refl, List, [], true, ◌↔◌, length, get_or, drop}
use Rattle.std.proofs.Common.{subst, append-nil}
use Rattle.std.proofs.Math.Seq.{drop-length}
use Rattle.base.specs.Lists.{◌∈◌, elem}
use Rattle.base.specs.MemberLaws.{elem→∈}
use Rattle.base.specs.Buffers.{over}
use Rattle.base.specs.Settings.{setting_of}
use Rattle.base.specs.Sets.{has}
use Rattle.base.specs.Answers.{refusal}
use Rattle.base.specs.Parsing.{parsed}
use Rattle.base.specs.ParsingLaws.{is_read}
use Rattle.rule.specs.Tree.{Block}
use Rattle.rule.specs.Rule.{read_rule}
use Rattle.circuit.specs.Gates.{Earlier, conditions}
use Rattle.circuit.specs.Limits.{most_conditions}
use Rattle.circuit.specs.PlainCircuit.{gates_of}
use Rattle.circuit_needed.specs.Needed.{Needed, wanted_of}
use Rattle.circuit_needed.specs.Pass.{rule_preconditions}
use Rattle.circuit_needed.specs.RulePreconditions.{rule_earlier, wanted_inside, rule_precondition, rule_exclude}
use Rattle.circuit.specs.Whole.{rule_answer}
use Rattle.circuit.specs.WholeLaws.{accepted}
use Rattle.plan.specs.Groups.{RestsOn, rests_of, Waits, waits_for}
use Rattle.plan.specs.RestLaws.{rests_right}
use Rattle.plan.proofs.WaitLaws.{waits_right}
use Rattle.fused.specs.FusedCircuit.{fused_file}
use Rattle.fused.specs.Answers.{write_answer, written_over}
use Rattle.examples.specs.Starred.{Precondition, Unneeded}

module _ (s : List ℕ) (h : (rule_answer s).number ≡ 0) where
  read : (b : Block) × (n : ℕ) × (read_rule s ≡ parsed b n)
  read = is_read (read_rule s) (accepted s h).read

  few : length (conditions (gates_of s)) ≤ most_conditions
  few = (accepted s h).conds

  earlier : Earlier (gates_of s)
  earlier = rule_earlier s read.0 read.1 read.2

  inside : (g : ℕ) → g ∈ wanted_of s → g < length (gates_of s)
  inside = wanted_inside s read.0 read.1 read.2

  pub precondition : (g bits : ℕ) → get_or (rule_preconditions s) g 0 ≡ bits → Precondition s g bits
  precondition g bits e = (
    e,
    λ j l. subst (λ (n : ℕ). (has n j ≡ true) ↔ Needed (gates_of s) (wanted_of s) (setting_of (conditions (gates_of s)) j) g) e
        (rule_precondition s read.0 read.1 read.2 few g j l),
  )

  pub unneeded : (g : ℕ) → get_or (rule_preconditions s) g 0 ≡ 0 → Unneeded s g
  unneeded g e σ n = (rule_exclude s read.0 read.1 read.2 few g g).0 (rw e refl) σ n n

  pub rests_on_lem : (m c : ℕ) → elem c (rests_of (gates_of s) (rule_preconditions s) m) ≡ true → RestsOn (gates_of s) (wanted_of s) m c
  rests_on_lem m c e = (rests_right (gates_of s) (wanted_of s) earlier inside few m c).0 (elem→∈ c (rests_of (gates_of s) (rule_preconditions s) m) e)

  pub waits_for_lem : (group : ℕ → ℕ) (p q : ℕ) → elem q (waits_for (gates_of s) (rule_preconditions s) group p) ≡ true → Waits (gates_of s) (wanted_of s) group p q
  waits_for_lem group p q e = (waits_right (gates_of s) (wanted_of s) earlier inside few group p q).0 (elem→∈ q (waits_for (gates_of s) (rule_preconditions s) group p) e)

-- a buffer of the file's length holds the file and nothing else; one too short stays as it was
pub written_whole : (s p file d : List ℕ) → fused_file s p ≡ file → (write_answer s p (length file)).number ≡ 0 → length d ≡ length file → written_over s p d ≡ file
unfolding over written_over
written_whole s p file d f w l =
    let rest : drop (length file) d ≡ [] = subst (λ (n : ℕ). drop n d ≡ []) l (drop-length d) in
    rw (l, w, f, rest) (append-nil file)

pub written_short : (s p d : List ℕ) (room : ℕ) → write_answer s p room ≡ refusal 50 0 → length d ≡ room → written_over s p d ≡ d
unfolding written_over
written_short s p d room w l = rw (l, w)
