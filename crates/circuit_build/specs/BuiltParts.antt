-- What is built of an accepted rule, part by part: its gates, their preconditions, its conditions and its outputs.
use Rattle.std.specs.Prelude.{ℕ, ◌-◌, ◌*◌, ◌<◌, ◌≤◌, ◌≡◌, get_or, replicate}
use Rattle.std.proofs.Common.{arith, ◌∙◌}
use Rattle.std.proofs.Math.Path.{ap}
use mathlib.Core.List.{List}
use Rattle.std.proofs.Math.ListN.{length, take}
use Rattle.std.proofs.Math.Seq.{take_at}
use Rattle.base.specs.BufferLaws.{padded_at, padded_length}
use Rattle.base.specs.MemberLaws.{get_or_in}
use Rattle.base.specs.ParsingLaws.{is_read}
use Rattle.base.specs.declared.Answer.{Answer}
use Rattle.rule.specs.Limits.{most_variables}
use Rattle.rule.specs.Header.{variables}
use Rattle.rule.specs.Rule.{read_rule}
use Rattle.rule.specs.FirstStatement.{rule_read}
use Rattle.circuit.specs.Limits.{most_gates, most_conditions}
use Rattle.circuit.specs.Gates.{Earlier, conditions}
use Rattle.circuit.specs.PlainCircuit.{plain_circuit, gates_of, outputs_of, gate_count}
use Rattle.circuit.specs.QuadLaws.{quads_length}
use Rattle.base.specs.Lists.{Inside}
use Rattle.circuit.proofs.SoundLaws.{Sound}
use Rattle.circuit.proofs.StartLaws.{plain_sound}
use Rattle.circuit.specs.Quads.{quads_of}
use Rattle.circuit_needed.specs.Pass.{rule_preconditions}
use Rattle.circuit_needed.specs.Held.{gates_in}
use Rattle.circuit_needed.specs.HeldQuads.{rule_held}
use Rattle.circuit.specs.Whole.{rule_answer}
use Rattle.circuit.specs.WholeLaws.{Accepted, accepted}
use Rattle.circuit_needed.specs.Built.{if_accepted, built_quads, built_needs, built_outputs, built_conditions}
use Rattle.base.specs.Buffers.{padded}
use Rattle.circuit_build.specs.BuiltLaws.{accepted_builds}

-- an accepted rule
module _ (s : List ℕ) (h : (rule_answer s).number ≡ 0) where
  acc : Accepted s
  acc = accepted s h

  sound : Sound (variables s) (plain_circuit s)
  sound = let r = is_read (read_rule s) acc.read in plain_sound s r.0 r.1 r.2

  part_at : (room : ℕ) (l : List ℕ) (i : ℕ) → get_or (padded room (if_accepted s l)) i 0 ≡ get_or l i 0
  part_at room l i = padded_at room (if_accepted s l) i ∙ ap (λ (k : List ℕ). get_or k i 0) (accepted_builds s h l)

  -- its limits
  pub built_count : (rule_answer s).gates ≡ gate_count s
  built_count = ap (λ (a : Answer). a.gates) acc.answer

  pub built_room : gate_count s ≤ most_gates
  built_room = acc.gates

  -- its gates
  pub built_quads_lem : take (4 * gate_count s) (built_quads s) ≡ quads_of s (gates_of s)
  unfolding built_quads
  built_quads_lem =
      let l = quads_of s (gates_of s) in
      ap (λ (k : List ℕ). take (4 * gate_count s) (padded (4 * most_gates) k)) (accepted_builds s h l)
      ∙ take_at l (replicate (4 * most_gates - length l) 0) (4 * gate_count s) (quads_length s (gates_of s))

  pub built_gates : gates_in (built_quads s) (gate_count s) ≡ gates_of s
  built_gates = let r = is_read (read_rule s) acc.read in rule_held s r.0 r.1 r.2 (built_quads s) built_quads_lem

  pub built_earlier : Earlier (gates_of s)
  built_earlier = sound.earlier

  -- gate g's precondition
  pub built_need : (g : ℕ) → get_or (built_needs s) g 0 ≡ get_or (rule_preconditions s) g 0
  unfolding built_needs
  built_need g = part_at most_gates (rule_preconditions s) g

  -- condition t's gate
  pub built_condition : (t : ℕ) → get_or (built_conditions s) t 0 ≡ get_or (conditions (gates_of s)) t 0
  unfolding built_conditions
  built_condition t = part_at most_conditions (conditions (gates_of s)) t

  -- variable x's last gate
  pub built_output : (x : ℕ) → get_or (built_outputs s) x 0 ≡ get_or (outputs_of s) x 0
  unfolding built_outputs
  built_output x = part_at most_variables (outputs_of s) x

  pub built_outputs_length : length (outputs_of s) ≡ variables s
  built_outputs_length = sound.count

  pub built_outputs_inside : Inside (gate_count s) (outputs_of s)
  built_outputs_inside = sound.inside

  pub built_output_inside : (x : ℕ) → x < variables s → get_or (built_outputs s) x 0 < gate_count s
  built_output_inside x l = rw (built_output x) (built_outputs_inside (get_or (outputs_of s) x 0) (get_or_in (outputs_of s) x (rw built_outputs_length l)))

  pub built_variables : variables s ≤ most_variables
  built_variables = (rule_read s acc.read).header.few

  pub built_outputs_held : length (built_outputs s) ≡ most_variables
  unfolding built_outputs
  built_outputs_held =
      padded_length most_variables (if_accepted s (outputs_of s)) (rw (accepted_builds s h (outputs_of s)) (omega (arith, built_outputs_length, built_variables)))
