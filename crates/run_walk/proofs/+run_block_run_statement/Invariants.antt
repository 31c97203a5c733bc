use lib.ListN.{length}
use Rattle.run_walk.specs.Walking.{AmidBlock}
use Prim.Native.Nat.{◌+◌, ◌-◌, ◌*◌, ◌≤◌}
use Rattle.run_walk.proofs.+run_block_run_statement.Given as goal

abbrev pub decreases-run_block : goal.decreases-run_block
decreases-run_block l = 2 * (length l.rule.bytes.now - l.at) + 1

abbrev pub decreases-run_statement : goal.decreases-run_statement
decreases-run_statement l = 2 * (length l.rule.bytes.now - l.at)

abbrev pub invariant-run_block-loop-here : goal.invariant-run_block-loop-here
invariant-run_block-loop-here l = (l.at ≤ l.here) × AmidBlock l.rule.bytes.now l.nest l.at l.initial.figures l.here l.figures

abbrev pub decreases-run_block-loop-here : goal.decreases-run_block-loop-here
decreases-run_block-loop-here l = length l.rule.bytes.now - l.here
