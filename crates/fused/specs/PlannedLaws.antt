-- What an accepted plan gives the fused circuit: its groups' members are alike and exclude each other, every group is written, each gate's wire is a record's,
-- and at most one guard of a pick is 1.
use Rattle.std.specs.Prelude.{ℕ, ◌≤◌, ◌<◌, ◌≡◌, List, length, get_or}
use Rattle.std.proofs.Common.{sym, ap, ◌∙◌, arith}
use Rattle.std.proofs.Math.Nat.{zero-add}
use Rattle.base.specs.Lists.{◌∈◌}
use Rattle.base.specs.MemberLaws.{get_or_in}
use Rattle.base.specs.Codes.{entry_of}
use Rattle.base.specs.declared.Operation.{Operation}
use Rattle.base.specs.Parsing.{parsed}
use Rattle.base.specs.ParsingLaws.{is_read}
use Rattle.rule.specs.Header.{variables}
use Rattle.rule.specs.Tree.{Block}
use Rattle.rule.specs.Rule.{read_rule}
use Rattle.circuit.specs.Gates.{Gate, operation, gate_at, arguments, Earlier, conditions}
use Rattle.circuit.specs.Limits.{most_conditions}
use Rattle.circuit.specs.PlainCircuit.{gates_of, outputs_of, gate_count}
use Rattle.circuit.proofs.StartLaws.{plain_sound}
use Rattle.circuit_needed.specs.Held.{ShapedGate}
use Rattle.circuit_needed.specs.Needed.{wanted_of}
use Rattle.circuit_needed.specs.Pass.{rule_preconditions}
use Rattle.circuit_needed.specs.RulePreconditions.{rule_earlier, wanted_inside}
use Rattle.circuit_needed.specs.ShapedLaws.{rule_shaped}
use Rattle.circuit.specs.WholeLaws.{Accepted, accepted}
use Rattle.plan.specs.PlanFile.{groups_in}
use Rattle.plan.specs.Groups.{Named, group_of, groups, members}
use Rattle.plan.specs.Order.{order}
use Rattle.plan.specs.Rows.{plan_answer}
use Rattle.plan.specs.Accepted.{Acceptable}
use Rattle.plan.proofs.AcceptedLaws.{plan_accepted}
use Rattle.plan.specs.GroupLaws.{group_of_named, group_in}
use Rattle.plan.specs.JoinedLaws.{members_costly, members_exclude}
use Rattle.plan.proofs.WaitLaws.{order_places, order_ordered, order_from}
use Rattle.file.specs.Records.{record_in, ReadsEarlier}
use Rattle.fused.specs.Emission.{gate_operation}
use Rattle.fused.specs.FusedCircuit.{fused, records_of, wire_of}
use Rattle.file.specs.RecordLaws.{along_each, along_at}
use Rattle.fused.specs.WrittenLaws.{Level, wire_below, written_earlier}
use Rattle.fused.specs.JoinedLaws.{Joined}
use Rattle.file.specs.SumLaws.{GivesGuard, OneGuard}
use Rattle.fused.specs.SumLaws.{written_one}
use Rattle.fused.specs.SizeEmit.{costly_two}

-- gates of one operation have equally many arguments, where the table says how many
pub same_arity : (op : Operation) (a b : Gate) (l m : List ℕ) → ShapedGate a → ShapedGate b → a ≡ operation op l → b ≡ operation op m → length l ≡ length m
same_arity op a b l m x y e f =
    let u : length l ≡ (entry_of op).arity = rw e at x in
    let w : length m ≡ (entry_of op).arity = rw f at y in
    u ∙ sym w

module _ (s p : List ℕ) (h : (plan_answer s p).number ≡ 0) where
  abbrev group : ℕ → ℕ
  group = group_of (groups_in p)

  plan : Acceptable s p
  plan = ((plan_accepted s p).0 h).1

  rule : Accepted s
  rule = accepted s ((plan_accepted s p).0 h).0

  -- the rule was read, and its circuit is sound and has few conditions
  pub planned_read : (b : Block) × (n : ℕ) × (read_rule s ≡ parsed b n)
  planned_read = is_read (read_rule s) rule.read

  pub planned_gates : Earlier (gates_of s)
  planned_gates = rule_earlier s planned_read.0 planned_read.1 planned_read.2

  pub planned_wanted : (g : ℕ) → g ∈ wanted_of s → g < length (gates_of s)
  planned_wanted = wanted_inside s planned_read.0 planned_read.1 planned_read.2

  -- every variable's last gate is a gate, a working one's too
  pub planned_output : (x : ℕ) → x < variables s → get_or (outputs_of s) x 0 < length (gates_of s)
  planned_output x l =
      let sound = plain_sound s planned_read.0 planned_read.1 planned_read.2 in
      sound.inside (get_or (outputs_of s) x 0) (get_or_in (outputs_of s) x (omega (arith, l, sound.count)))

  pub planned_few : length (conditions (gates_of s)) ≤ most_conditions
  planned_few = rule.conds

  -- groups are named by their smallest member, and each is written
  pub planned_named : Named (group_of (groups_in p))
  planned_named = group_of_named (groups_in p) plan.laid_out.joins plan.laid_out.rising plan.once

  pub planned_order : (q : ℕ) → q ∈ groups (length (gates_of s)) (group_of (groups_in p)) → q ∈ order (gates_of s) (rule_preconditions s) (group_of (groups_in p))
  planned_order = (order_places (gates_of s) (wanted_of s) planned_gates planned_wanted planned_few group planned_named).1 plan.no_circle

  -- so is the group of every gate
  pub planned_group : (g : ℕ) → g < length (gates_of s) → group_of (groups_in p) g ∈ order (gates_of s) (rule_preconditions s) (group_of (groups_in p))
  planned_group g l = planned_order (group g) (group_in (length (gates_of s)) group planned_named g l)

  pub planned_joined : Joined (gates_of s) (wanted_of s) (group_of (groups_in p))
  planned_joined =
      record {
        alike = λ q t m k i j.
            let (op, _, f) = members_costly s p plan q t in
            let shaped = rule_shaped s planned_read.0 planned_read.1 planned_read.2 in (
              op,
              (f k j).0,
              (f k j).1,
              ap gate_operation (f m i).1,
              ap (λ (g : Gate). length (arguments g)) (f m i).1 ∙ same_arity op (gate_at (gates_of s) m) (gate_at (gates_of s) k) (f m i).0 (f k j).0 (shaped m)
                  (shaped k) (f m i).1 (f k j).1,
            );
        exclude = λ q t. members_exclude s p plan q t;
      }

  -- the gates of a group of two or more have two arguments each
  pub planned_two : (q : ℕ) → 2 ≤ length (members (gate_count s) (group_of (groups_in p)) q) → (m : ℕ) → m ∈ members (gate_count s) (group_of (groups_in p)) q
      → length (arguments (gate_at (gates_of s) m)) ≡ 2
  planned_two q many m i =
      let (op, c, f) = members_costly s p plan q many in
      let (l, e) = f m i in
      let t : length l ≡ 2 = rw e at (rule_shaped s planned_read.0 planned_read.1 planned_read.2 m) ∙ costly_two op c in
      ap (λ (g : Gate). length (arguments g)) e ∙ t

  pub planned_level : Level (gates_of s) (group_of (groups_in p))
  planned_level q t m k i j =
      let r = planned_joined.alike q t m k i j in
      r.4 ∙ ap (λ (g : Gate). length (arguments g)) (sym r.2)

  -- every record reads only earlier wires
  pub planned_earlier : ReadsEarlier (records_of s p)
  unfolding fused
  planned_earlier =
      written_earlier s (gates_of s) (rule_preconditions s) group planned_level (order (gates_of s) (rule_preconditions s) group)
      (order_from (gates_of s) (rule_preconditions s) group) (order_ordered (gates_of s) (rule_preconditions s) group)

  -- every gate's wire is a record's
  pub planned_wire : (g : ℕ) → g < length (gates_of s) → wire_of s p g < length (records_of s p)
  unfolding fused
  planned_wire g l =
      wire_below s (gates_of s) (rule_preconditions s) group (order (gates_of s) (rule_preconditions s) group)
      (order_from (gates_of s) (rule_preconditions s) group) (group g) (planned_group g l)

  -- whatever figures W the wires hold, if each guard has its own, at most one guard of a pick is 1
  pub planned_one : (W : ℕ → ℕ) → ((i : ℕ) → GivesGuard W i (record_in (records_of s p) i))
      → (i : ℕ) → i < length (records_of s p) → OneGuard W i (record_in (records_of s p) i)
  unfolding fused
  planned_one W f i l =
      rw zero-add at
      (along_at (OneGuard W) (records_of s p) 0
      (written_one W s (gates_of s) (wanted_of s) planned_gates planned_wanted planned_few group planned_joined (order (gates_of s) (rule_preconditions s) group)
      (along_each (GivesGuard W) (records_of s p) 0 (λ j _. rw zero-add (f j)))) i l)
