-- What the writers of a joined group ask holds of quads that hold a circuit with at most 256 gates.
use Rattle.std.specs.Prelude.{ℕ, ◌*◌, ◌≤◌, ◌<◌, ◌≡◌, List, ltb, length, get_or, take}
use Rattle.std.proofs.Common.{sym, ap, ◌∙◌, arith, ltb-true, ltb-false}
use Rattle.std.proofs.Math.ListN.{get_or-eq_default}
use Rattle.base.specs.Lists.{◌∈◌, Inside}
use Rattle.base.specs.MemberLaws.{get_or_in}
use Rattle.base.specs.TestLaws.{split}
use Rattle.circuit.specs.Gates.{Gate, Gates, gate_at, arguments, conditions, Earlier}
use Rattle.circuit.specs.ConditionLaws.{condition_below}
use Rattle.circuit.specs.Limits.{most_gates, most_conditions}
use Rattle.circuit.specs.Quads.{quads_of}
use Rattle.circuit_needed.specs.Held.{Shaped}
use Rattle.circuit_needed.specs.HeldQuads.{gate_held, gates_held}
use Rattle.plan.specs.PlanFile.{group_at, after}
use Rattle.fused_group.specs.Joined.{JoinWritable}
use Rattle.plan.specs.NumberLaws.{member_in}
use Rattle.fused_gate.specs.HeldLaws.{placed_below, placed_held}

module _ (s quads : List ℕ) (C : Gates) (shaped : Shaped C) (held : take (4 * length C) quads ≡ quads_of s C) (room : length C ≤ most_gates)
    (earlier : Earlier C) (group : List ℕ) (named : (a : ℕ) → a < length C → get_or group a 0 < most_gates) where
  condition_at : (t : ℕ) → 0 < length C → get_or (conditions C) t 0 < length C
  condition_at t h =
      split (ltb t (length (conditions C)))
      (λ e. condition_below C (get_or (conditions C) t 0) (get_or_in (conditions C) t (ltb-true t (length (conditions C)) e)))
      (λ e. let z : get_or (conditions C) t 0 ≡ 0 = get_or-eq_default (conditions C) 0 {n = t} (ltb-false t (length (conditions C)) e) in rw z h)

  -- a group of gates of two arguments can be written; conds: condition t's gate at place t, zeros after
  pub joining_held : (p : List ℕ) (at : ℕ) (conds : List ℕ) → after p at ≤ length p → 2 ≤ get_or p at 0 → Inside (length C) (group_at p at)
      → ((m : ℕ) → m ∈ group_at p at → length (arguments (gate_at C m)) ≡ 2) → ((t : ℕ) → t < most_conditions → get_or conds t 0 ≡ get_or (conditions C) t 0)
      → JoinWritable quads p conds group (length C) at
  joining_held p at conds within many below two same =
      let some : 0 < length C = omega (arith, below (get_or (group_at p at) 0 0) (member_in p at 0 (omega (arith, many)))) in
      record {
        joinable = record {
          lies = record { within = within; inside = λ m i. omega (arith, below m i, room) };
          many = many;
          two = λ m i. ap (λ (k : Gate). length (arguments k)) (gate_held s quads C shaped held m (below m i)) ∙ two m i;
          placed = λ m a i j. placed_held s quads C shaped held room earlier group named m (below m i) a j;
        };
        below = below;
        conditioned = λ t l. same t l ∙ ap (λ (D : Gates). get_or (conditions D) t 0) (sym (gates_held s quads C shaped held));
        guarded = record { guarded = λ t l. rw (same t l) (placed_below s quads C shaped held room earlier group named (get_or (conditions C) t 0) (condition_at t some)) };
      }
