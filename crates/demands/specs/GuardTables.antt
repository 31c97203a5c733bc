-- Document 01, "The fused circuit file": "for each member, rising, a guard over the conditions it rests on, rising, whose table bit j is 1 when the member is needed under the settings
-- that give those conditions, in that order, the bits of j, else 0, table bits above the first 2^d zero".
use Rattle.std.specs.Prelude.{ℕ, ◌^◌, ◌≤◌, ◌<◌, ◌≡◌, true, false, List, map, ◌↔◌, length, get_or}
use Rattle.base.specs.Lists.{◌∈◌}
use Rattle.base.specs.Bits.{bit}
use Rattle.base.specs.Settings.{Setting}
use Rattle.circuit.specs.PlainCircuit.{gates_of}
use Rattle.circuit_needed.specs.Needed.{Needed, wanted_of}
use Rattle.plan.specs.PlanFile.{Rising}
use Rattle.plan.specs.Groups.{RestsOn}
use Rattle.file.specs.Records.{Record, guard}
use Rattle.fused.specs.FusedCircuit.{wire_of}

-- the setting σ gives these conditions, in that order, the bits of j
abbrev pub Gives : Setting → List ℕ → ℕ → Type 0
Gives σ conds j = (t : ℕ) → t < length conds → σ (get_or conds t 0) ≡ bit j t

-- the record is the guard of member m: over the wires of the conditions that m rests on, with that table
pub record MemberGuard (s p : List ℕ) (m : ℕ) (r : Record) : Type 0 where
  pub conds : List ℕ
  pub table : ℕ
  pub is : r ≡ guard (map (wire_of s p) conds) table
  pub rests : (c : ℕ) → (c ∈ conds) ↔ RestsOn (gates_of s) (wanted_of s) m c
  pub rising : Rising conds
  pub bits : (j : ℕ) → j < 2 ^ length conds → (σ : Setting) → Gives σ conds j → (bit table j ≡ true) ↔ Needed (gates_of s) (wanted_of s) σ m
  pub above : (j : ℕ) → 2 ^ length conds ≤ j → bit table j ≡ false
