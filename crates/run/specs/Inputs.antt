-- Document 01, "Refusals by place": inputs, those of a rule.
use Rattle.std.specs.Prelude.{ℕ, List}
use Rattle.base.specs.Inputs.{inputs_row}
use Rattle.rule.specs.Header.{variables, kind_at}

-- 40 to 42 of the inputs of the rule's V variables, each of its kind
unfoldable pub input_row : List ℕ → List ℕ → ℕ → ℕ
input_row s inputs room = inputs_row (variables s) (kind_at s) inputs room
