use mathlib.Core.Path.{◌≡◌}
use lib.ListN.{length}
use Rattle.base.specs.Parsing.{step_of}
use Rattle.rule.specs.Blocks.{read_block}
use Prim.Native.Nat.{◌+◌, ◌-◌, ◌*◌, ◌≤◌}
use Rattle.rule_reader.proofs.+read_block_read_statement.Given as goal

abbrev pub decreases-read_block : goal.decreases-read_block
decreases-read_block l = 2 * (length l.rule.bytes.now - l.at) + 1

abbrev pub decreases-read_statement : goal.decreases-read_statement
decreases-read_statement l = 2 * (length l.rule.bytes.now - l.at)

abbrev pub invariant-read_block-loop-here : goal.invariant-read_block-loop-here
invariant-read_block-loop-here l = (l.at ≤ l.here) × (step_of (read_block l.rule.bytes.now l.nest l.here) ≡ step_of (read_block l.rule.bytes.now l.nest l.at))

abbrev pub decreases-read_block-loop-here : goal.decreases-read_block-loop-here
decreases-read_block-loop-here l = length l.rule.bytes.now - l.here
