-- Document 01, "The fused circuit file": the records of an accepted plan in the order of writing, the wire that stands for each gate, and the file.
use Rattle.std.specs.Prelude.{ℕ, ◌+◌, ◌-◌, List, [], ◌∷◌, ◌++◌, map, cond, eqb, length, get_or}
use Rattle.base.specs.Lists.{upto}
use Rattle.file.specs.Versions.{written_version}
use Rattle.file.specs.Records.{Record, records_cost}
use Rattle.file.specs.CircuitFile.{file_bytes, no_wire}
use Rattle.rule.specs.Header.{variables, working_at}
use Rattle.circuit.specs.Gates.{Gates}
use Rattle.circuit.specs.PlainCircuit.{gates_of, outputs_of}
use Rattle.circuit_needed.specs.Pass.{rule_preconditions}
use Rattle.plan.specs.PlanFile.{groups_in}
use Rattle.plan.specs.Groups.{group_of, members}
use Rattle.plan.specs.Order.{order}
use Rattle.fused.specs.Emission.{emit}

-- the records written so far, and the wire of each group written: its last record's
pub record Written : Type 0 where
  pub records : List Record
  pub wire : ℕ → ℕ

-- over the gates C of the rule s with their preconditions and a map from gates to groups
module _ (s : List ℕ) (C : Gates) (sets : List ℕ) (group : ℕ → ℕ) where
  -- the records of group p, from what is written
  abbrev pub group_records : Written → ℕ → List Record
  group_records w p = emit s C sets (λ a. w.wire (group a)) (length w.records) (members (length C) group p)

  -- one group more
  abbrev pub write : Written → ℕ → Written
  write w p = record {
    records = w.records ++ group_records w p;
    wire = λ q. cond (eqb q p) (length w.records + length (group_records w p) - 1) (w.wire q);
  }

  -- these groups, the last first
  unfoldable pub written : List ℕ → Written
  written [] = record { records = []; wire = λ q. 0 }
  written (p ∷ done) = write (written done) p

-- the fused circuit of a rule and its plan
unfoldable pub fused : List ℕ → List ℕ → Written
fused s p =
    let group = group_of (groups_in p) in
    written s (gates_of s) (rule_preconditions s) group (order (gates_of s) (rule_preconditions s) group)

abbrev pub records_of : List ℕ → List ℕ → List Record
records_of s p = (fused s p).records

-- the wire that stands for gate g
abbrev pub wire_of : List ℕ → List ℕ → ℕ → ℕ
wire_of s p g = (fused s p).wire (group_of (groups_in p) g)

-- the output of variable x: the wire of its last gate. Document 02, C-13: "a working variable's output is FF FF, which names no wire"
abbrev pub output_wire : List ℕ → List ℕ → ℕ → ℕ
output_wire s p x = cond (working_at s x) no_wire (wire_of s p (get_or (outputs_of s) x 0))

abbrev pub output_wires : List ℕ → List ℕ → List ℕ
output_wires s p = map (output_wire s p) (upto (variables s))

-- the cost after fusing
abbrev pub cost_after : List ℕ → List ℕ → ℕ
cost_after s p = records_cost (records_of s p)

-- the file that the rules fix for a rule and its plan
unfoldable pub fused_file : List ℕ → List ℕ → List ℕ
fused_file s p = file_bytes written_version (variables s) (records_of s p) (output_wires s p)
