use lib.ListN.{length}
use Prim.Native.Nat.{◌+◌, ◌-◌, ◌*◌}
use Rattle.circuit_make.specs.Holding.{Walked}
use Prim.Native.Nat.{◌<◌}
use Rattle.circuit_plain.proofs.+make_block_make_branch_make_statement.Given as goal

abbrev pub decreases-make_block : goal.decreases-make_block
decreases-make_block l = 3 * (length l.rule.bytes.now - l.at) + 2

abbrev pub decreases-make_branch : goal.decreases-make_branch
decreases-make_branch l = 3 * (length l.rule.bytes.now - l.at)

abbrev pub decreases-make_statement : goal.decreases-make_statement
decreases-make_statement l = 3 * (length l.rule.bytes.now - l.at) + 1

abbrev pub invariant-make_block-loop-here : goal.invariant-make_block-loop-here
invariant-make_block-loop-here l = Walked l.rule.bytes.now l.nest l.at l.initial.quads l.initial.present l.count l.here l.n l.assigned l.quads
    l.present × (l.n < 65536)

abbrev pub decreases-make_block-loop-here : goal.decreases-make_block-loop-here
decreases-make_block-loop-here l = length l.rule.bytes.now - l.here
