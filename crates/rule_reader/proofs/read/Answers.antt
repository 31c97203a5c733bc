use mathlib.Core.Path.{ap, sym}
use Rattle.base.specs.Parsing.{step_of}
use Rattle.rule.specs.RuleLaws.{rule_small, rule_large}
use Rattle.rule_reader.proofs.read.Goals as goal

pub returns-then-rule-lt-LEAST_RULE_BYTES : goal.returns-then-rule-lt-LEAST_RULE_BYTES
returns-then-rule-lt-LEAST_RULE_BYTES c = ap step_of (sym (rule_small _ c.if-rule-lt-LEAST_RULE_BYTES.true))

pub returns-then-rule-gt-MOST_RULE_BYTES : goal.returns-then-rule-gt-MOST_RULE_BYTES
returns-then-rule-gt-MOST_RULE_BYTES c = ap step_of (sym (rule_large _ c.if-rule-gt-MOST_RULE_BYTES.true))
