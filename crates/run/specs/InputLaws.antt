-- Where no row refuses the inputs of a rule: there are V of them, each of its kind, and V result places (`base`, InputLaws, says it of any kinds).
use Rattle.std.specs.Prelude.{ℕ, ◌≤◌, ◌<◌, ◌≡◌, refl, List, length, get_or}
use Rattle.base.specs.Inputs.{FiguresFit, inputs_row}
use Rattle.base.specs.InputLaws as any
use Rattle.rule.specs.Header.{variables, kind_at}
use Rattle.run.specs.Inputs.{input_row}

pub row_is : (s inputs : List ℕ) (room : ℕ) → input_row s inputs room ≡ inputs_row (variables s) (kind_at s) inputs room
unfolding input_row
row_is s inputs room = refl

module _ (s inputs : List ℕ) (room : ℕ) (h : input_row s inputs room ≡ 0) where
  pub inputs_count : length inputs ≡ variables s
  unfolding input_row
  inputs_count = any.inputs_count (variables s) (kind_at s) inputs room h

  pub inputs_room : variables s ≤ room
  unfolding input_row
  inputs_room = any.inputs_room (variables s) (kind_at s) inputs room h

  -- inputs that are words fit the kinds of their variables
  pub inputs_fit : ((x : ℕ) → x < variables s → get_or inputs x 0 < 4294967296) → FiguresFit (variables s) (kind_at s) inputs
  unfolding input_row
  inputs_fit = any.inputs_fit (variables s) (kind_at s) inputs room h
