-- Plans that form the same groups, in whatever order (document 02, C-15): their files are the same.
use Rattle.std.specs.Prelude.{ℕ, ◌≡◌, cond, List, map, get_or}
use Rattle.std.proofs.Common.{ap}
use Rattle.std.proofs.Math.Path.{fun_ext}
use Rattle.base.specs.Lists.{upto}
use Rattle.file.specs.Versions.{written_version}
use Rattle.file.specs.CircuitFile.{file_bytes, no_wire}
use Rattle.rule.specs.Header.{variables, working_at}
use Rattle.circuit.specs.PlainCircuit.{gates_of, outputs_of}
use Rattle.circuit_needed.specs.Pass.{rule_preconditions}
use Rattle.plan.specs.PlanFile.{groups_in, Apart}
use Rattle.plan.specs.Order.{order}
use Rattle.plan.specs.Accepted.{LaidOut}
use Rattle.plan.specs.SameGroups.{SameGroups}
use Rattle.plan.specs.NameLaws.{same_names}
use Rattle.fused.specs.FusedCircuit.{written, fused, fused_file}

-- the file by the map from gates to groups
abbrev file_by : List ℕ → (ℕ → ℕ) → List ℕ
file_by s group =
    let w = written s (gates_of s) (rule_preconditions s) group (order (gates_of s) (rule_preconditions s) group) in
    file_bytes written_version (variables s) w.records (map (λ x. cond (working_at s x) no_wire (w.wire (group (get_or (outputs_of s) x 0)))) (upto (variables s)))

pub same_file : (s p q : List ℕ) → LaidOut s p → LaidOut s q → Apart (groups_in p) → Apart (groups_in q) → SameGroups (groups_in p) (groups_in q)
    → fused_file s p ≡ fused_file s q
unfolding fused fused_file
same_file s p q l m a b same = ap (file_by s) (fun_ext (same_names s p q l m a b same))
