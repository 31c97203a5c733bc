-- Rules that differ only in the order of variables that are the two arguments of an operation that commutes are answered and written alike (document 02, C-12).
use Rattle.std.specs.Prelude.{ℕ, ◌<◌, ◌≤◌, ◌≡◌, Bool, not, cond, length, get_or}
use Rattle.std.proofs.Math.Path.{refl, ap, ap₂}
use Rattle.std.proofs.Common.{sym, subst, ◌∙◌, arith}
use mathlib.Core.List.{List, [], ◌∷◌, map}
use Rattle.base.specs.Lists.{◌∈◌, keep, upto}
use Rattle.base.specs.MemberLaws.{from_below}
use Rattle.base.specs.ListLaws.{map_same, keep_same}
use Rattle.base.specs.Answers.{success}
use Rattle.base.specs.ParsingLaws.{is_read}
use Rattle.file.specs.Records.{Record, input}
use Rattle.file.specs.CircuitFile.{no_wire}
use Rattle.rule.specs.Header.{variables, kind_at, working_at, result_variables}
use Rattle.rule.specs.Rule.{read_rule}
use Rattle.rule.specs.OnlyOrder.{OnlyOrder}
use Rattle.circuit.specs.Gates.{Gate, start, word, bit, operation, choice, Gates, gate_at, costs, conditions}
use Rattle.circuit.specs.PlainCircuit.{Making, gates_of}
use Rattle.circuit.proofs.OnlyOrderLaws.{same_variables, same_kind_lem, same_working, second_read, same_plain}
use Rattle.circuit.specs.Limits.{most_gates, most_conditions}
use Rattle.circuit.proofs.EachGateLaws.{StartGate, Starting, rule_starting}
use Rattle.circuit_needed.specs.Needed.{wanted_of}
use Rattle.circuit_needed.specs.WantedLaws.{wanted_same}
use Rattle.circuit_needed.specs.Pass.{precondition_sets, rule_preconditions}
use Rattle.circuit.specs.Whole.{rule_answer}
use Rattle.circuit.specs.WholeLaws.{whole_success, answer_whole, accepted}
use Rattle.plan.specs.PlanFile.{groups_in}
use Rattle.plan.specs.Groups.{group_of, members}
use Rattle.plan.specs.Order.{order}
use Rattle.plan.specs.Rows.{plan_answer}
use Rattle.plan.proofs.SameLaws.{answer_same}
use Rattle.fused.specs.Emission.{alone, emit}
use Rattle.fused.specs.FusedCircuit.{Written, written, fused, records_of, output_wire, output_wires, cost_after, fused_file}
use Rattle.fused.specs.Answers.{fused_counts, write_answer, written_over}

-- a rule's bytes are asked only for the kinds of starting values
module _ (s t : List ℕ) (v : ℕ) (kinds : (x : ℕ) → x < v → kind_at s x ≡ kind_at t x) where
  alone_kinds : (wire : ℕ → ℕ) (k : Gate) → StartGate v k → alone s wire k ≡ alone t wire k
  alone_kinds wire (start x) h = ap (λ k. input k x) (kinds x h)
  alone_kinds wire (word n) h = refl
  alone_kinds wire (bit b) h = refl
  alone_kinds wire (operation op l) h = refl
  alone_kinds wire (choice c a b) h = refl

  module _ (C : Gates) (starting : Starting v C) (sets : List ℕ) where
    emit_same : (wire : ℕ → ℕ) (n : ℕ) (ms : List ℕ) → emit s C sets wire n ms ≡ emit t C sets wire n ms
    emit_same wire n [] = refl
    emit_same wire n (m ∷ []) = ap (λ (r : Record). r ∷ []) (alone_kinds wire (gate_at C m) (starting m))
    emit_same wire n (m ∷ k ∷ l) = refl

    written_same : (group : ℕ → ℕ) (done : List ℕ) → written s C sets group done ≡ written t C sets group done
    unfolding written
    written_same group [] = refl
    written_same group (p ∷ done) =
        let w = written t C sets group done in
        rw (written_same group done, emit_same (λ a. w.wire (group a)) (length w.records) (members (length C) group p))

module _ (s t : List ℕ) (o : OnlyOrder s t) where
  same_gates : gates_of s ≡ gates_of t
  same_gates = ap (λ (m : Making). m.gates) (same_plain s t o)

  -- the same variables are working ones
  works : (x : ℕ) → x ∈ upto (variables s) → working_at s x ≡ working_at t x
  works x m = same_working s t o x (let b = (from_below 0 (variables s) x m).1 in omega (arith, b))

  same_results : result_variables s ≡ result_variables t
  same_results =
      keep_same (λ x. not (working_at s x)) (λ x. not (working_at t x)) (upto (variables s)) (λ x m. ap not (works x m))
      ∙ ap (λ (v : ℕ). keep (λ x. not (working_at t x)) (upto v)) (same_variables s t o)

  same_wanted : wanted_of s ≡ wanted_of t
  same_wanted = wanted_same s t (ap (λ (m : Making). m.present) (same_plain s t o)) same_results

  same_sets : rule_preconditions s ≡ rule_preconditions t
  same_sets = ap₂ (precondition_sets most_conditions) same_gates same_wanted

  -- both are read, so that s is accepted is enough: both are within the limits
  module _ (a : (rule_answer s).number ≡ 0) where
    pub same_rule : rule_answer s ≡ rule_answer t
    same_rule =
        let w = accepted s a in
        w.answer ∙ ap (λ (C : Gates). success (length C) 0 0 (costs C) 0) same_gates
        ∙ sym (answer_whole t (second_read s t o)
        ∙ whole_success most_gates most_conditions (gates_of t) (length t) (subst (λ (C : Gates). length C ≤ most_gates) same_gates w.gates)
        (subst (λ (C : Gates). length (conditions C) ≤ most_conditions) same_gates w.conds))

    pub same_plan : (p : List ℕ) → plan_answer s p ≡ plan_answer t p
    same_plan p = answer_same s t p same_rule same_gates same_sets

    same_fused : (p : List ℕ) → fused s p ≡ fused t p
    unfolding fused
    same_fused p =
        let r = is_read (read_rule s) (accepted s a).read in
        let group = group_of (groups_in p) in
        written_same s t (variables s) (same_kind_lem s t o) (gates_of s) (rule_starting s r.0 r.1 r.2) (rule_preconditions s) group
        (order (gates_of s) (rule_preconditions s) group)
        ∙ ap₂ (λ (C : Gates) (S : List ℕ). written t C S group (order C S group)) same_gates same_sets

    same_records : (p : List ℕ) → records_of s p ≡ records_of t p
    same_records p = ap (λ (w : Written). w.records) (same_fused p)

    same_outputs : (p : List ℕ) → output_wires s p ≡ output_wires t p
    same_outputs p =
        map_same (output_wire s p) (output_wire t p) (upto (variables s))
        (λ x m. ap₂ (λ (b : Bool) (w : ℕ). cond b no_wire w) (works x m)
        (ap₂ (λ (w : Written) (m : Making). w.wire (group_of (groups_in p) (get_or m.present x 0))) (same_fused p) (same_plain s t o)))
        ∙ ap (λ (v : ℕ). map (output_wire t p) (upto v)) (same_variables s t o)

    pub same_file : (p : List ℕ) → fused_file s p ≡ fused_file t p
    unfolding fused_file
    same_file p = rw (same_outputs p, same_records p, same_variables s t o)

    same_counts : (p : List ℕ) → fused_counts s p ≡ fused_counts t p
    unfolding fused_counts
    same_counts p =
        ap (λ (C : Gates). success (length C) (length (records_of s p)) (length (fused_file s p)) (costs C) (cost_after s p)) same_gates
        ∙ rw (same_file p, same_records p)

    pub same_answer : (p : List ℕ) (room : ℕ) → write_answer s p room ≡ write_answer t p room
    unfolding write_answer
    same_answer p room = rw (same_plan p, same_file p, same_counts p)

    pub same_over : (p d : List ℕ) → written_over s p d ≡ written_over t p d
    unfolding written_over
    same_over p d = rw (same_answer p (length d), same_file p)
