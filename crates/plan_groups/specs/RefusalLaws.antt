-- A row that refuses has a number, and it is not 0.
use Rattle.std.specs.Prelude.{◌≡◌}
use Rattle.std.proofs.Common.{arith}
use Rattle.base.specs.declared.Row.{Row}
use Rattle.base.specs.declared.Row.TheVariants.{RuleSize, RuleMark, RuleHead, RuleCut, UnknownCode, NoVariable, WrongKind, TooDeep, BytesLeft, ManyGates, ManyConditions}
use Rattle.base.specs.declared.Row.TheVariants.{PlanSize, PlanMark, GateCount, PlanEnd, GroupSize, GroupNumbers, InTwoGroups, NotCostly, NotAlike, NotApart, Circle, GroupOrder}
use Rattle.base.specs.declared.Row.TheVariants.{InputCount, InputBit, ResultRoom, FileRoom, CircuitHead, CircuitRecords, CircuitWires, Batch}
use Rattle.base.specs.Rows.{number_of}

pub row_some : (r : Row) → number_of r ≡ 0 → ⊥
row_some RuleSize e = omega (arith, e)
row_some RuleMark e = omega (arith, e)
row_some RuleHead e = omega (arith, e)
row_some RuleCut e = omega (arith, e)
row_some UnknownCode e = omega (arith, e)
row_some NoVariable e = omega (arith, e)
row_some WrongKind e = omega (arith, e)
row_some TooDeep e = omega (arith, e)
row_some BytesLeft e = omega (arith, e)
row_some ManyGates e = omega (arith, e)
row_some ManyConditions e = omega (arith, e)
row_some PlanSize e = omega (arith, e)
row_some PlanMark e = omega (arith, e)
row_some GateCount e = omega (arith, e)
row_some PlanEnd e = omega (arith, e)
row_some GroupSize e = omega (arith, e)
row_some GroupNumbers e = omega (arith, e)
row_some InTwoGroups e = omega (arith, e)
row_some NotCostly e = omega (arith, e)
row_some NotAlike e = omega (arith, e)
row_some NotApart e = omega (arith, e)
row_some Circle e = omega (arith, e)
row_some GroupOrder e = omega (arith, e)
row_some InputCount e = omega (arith, e)
row_some InputBit e = omega (arith, e)
row_some ResultRoom e = omega (arith, e)
row_some FileRoom e = omega (arith, e)
row_some CircuitHead e = omega (arith, e)
row_some CircuitRecords e = omega (arith, e)
row_some CircuitWires e = omega (arith, e)
row_some Batch e = omega (arith, e)
