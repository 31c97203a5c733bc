-- Document 01, "Refusals by place", with document 02's C-11, C-15 and C-16: the rows of the table by name, and their numbers.
use Rattle.std.specs.Prelude.{ℕ, Result, Ok, Err}
use Rattle.base.specs.declared.Row.{Row}
use Rattle.base.specs.declared.Row.TheVariants as row

-- the number of a row
abbrev pub number_of : Row → ℕ
number_of row.RuleSize = 1
number_of row.RuleMark = 2
number_of row.RuleHead = 3
number_of row.RuleCut = 4
number_of row.UnknownCode = 5
number_of row.NoVariable = 6
number_of row.WrongKind = 7
number_of row.TooDeep = 8
number_of row.BytesLeft = 9
number_of row.ManyGates = 10
number_of row.ManyConditions = 11
number_of row.PlanSize = 20
number_of row.PlanMark = 21
number_of row.GateCount = 22
number_of row.PlanEnd = 23
number_of row.GroupSize = 24
number_of row.GroupNumbers = 25
number_of row.InTwoGroups = 26
number_of row.NotCostly = 27
number_of row.NotAlike = 28
number_of row.NotApart = 29
number_of row.Circle = 30
number_of row.GroupOrder = 32
number_of row.InputCount = 40
number_of row.InputBit = 41
number_of row.ResultRoom = 42
number_of row.FileRoom = 50
number_of row.CircuitHead = 60
number_of row.CircuitRecords = 61
number_of row.CircuitWires = 62
number_of row.Batch = 75

module _ {A : Type 0} where
  -- the row that refuses, by its number; 0 where none does
  abbrev pub row_in : Result A Row → ℕ
  row_in (Ok a) = 0
  row_in (Err r) = number_of r
