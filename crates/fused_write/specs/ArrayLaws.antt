-- What the arrays of an accepted plan hold: the rule's gates in quads, and the members of each group.
use Rattle.std.specs.Prelude.{ℕ, ◌*◌, ◌<◌, ◌≡◌, List, ◌⊎◌, length, get_or, take}
use Rattle.std.proofs.Common.{sym, inl, inr}
use Rattle.base.specs.TestLaws.{same?}
use Rattle.circuit.specs.PlainCircuit.{gates_of, gate_count}
use Rattle.circuit.specs.Quads.{quads_of}
use Rattle.circuit_needed.specs.Held.{Shaped}
use Rattle.circuit_needed.specs.ShapedLaws.{rule_shaped}
use Rattle.circuit.specs.Whole.{rule_answer}
use Rattle.circuit_needed.specs.Built.{built_quads}
use Rattle.circuit_build.specs.BuiltParts.{built_quads_lem}
use Rattle.plan.specs.PlanFile.{groups_in}
use Rattle.plan.specs.Groups.{group_of, members}
use Rattle.plan.specs.Rows.{plan_answer}
use Rattle.plan.specs.Accepted.{Acceptable}
use Rattle.plan.proofs.AcceptedLaws.{plan_accepted}
use Rattle.plan.specs.Places.{place_of}
use Rattle.plan.specs.PlaceLaws.{group_alone, group_listed}
use Rattle.plan_check.specs.Checked.{checked_places}
use Rattle.plan_check.specs.CheckedLaws.{place_is}
use Rattle.fused.specs.PlannedLaws.{planned_read}
use Rattle.fused_file.specs.Staged.{members_of}
use Rattle.fused_file.specs.TurnLaws.{members_alone, members_joined}

module _ (s p : List ℕ) (h : (plan_answer s p).number ≡ 0) where
  pub rule_taken : (rule_answer s).number ≡ 0
  rule_taken = ((plan_accepted s p).0 h).0

  pub plan_taken : Acceptable s p
  plan_taken = ((plan_accepted s p).0 h).1

  pub gates_shaped : Shaped (gates_of s)
  gates_shaped = let (b, n, read) = planned_read s p h in rule_shaped s b n read

  -- the quads begin with the rule's
  pub quads_held : take (4 * length (gates_of s)) (built_quads s) ≡ quads_of s (gates_of s)
  quads_held = built_quads_lem s rule_taken

  -- the members of a group, as the arrays give them
  pub members_are : (q : ℕ) → q < gate_count s → group_of (groups_in p) q ≡ q
      → members_of p (get_or (checked_places s p) q 0) q ≡ members (gate_count s) (group_of (groups_in p)) q
  members_are q l e = go (same? (place_of p q) 0)
    where
      go : (place_of p q ≡ 0) ⊎ (place_of p q ≡ 0 → ⊥) → members_of p (get_or (checked_places s p) q 0) q ≡ members (gate_count s) (group_of (groups_in p)) q
      go (inl z) = rw (place_is s p h q l, members_alone p (place_of p q) q z) (sym (group_alone s p plan_taken q l z))
      go (inr z) = rw (place_is s p h q l, members_joined p (place_of p q) q z) (sym (group_listed s p plan_taken q e z).listed)
