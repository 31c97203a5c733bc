use mathlib.Core.Path.{subst}
use native.Mathlib.Omega.{arith}
use Rattle.base.specs.Parsing.{IsRead}
use Rattle.rule.specs.FirstStatement.{rule_read}
use Rattle.circuit_make.specs.BlockLaws.{rule_made}
use Rattle.circuit_plain.proofs.make_rule.Goals as goal

pub make_block-made-requires : goal.make_block-made-requires
make_block-made-requires c = let a = c.args in
    let r = rule_read a.s.now c.requires.0 in
    rw c.variables-v.ensures (subst IsRead r.block c.requires.0)

pub returns : goal.returns
returns c = let a = c.args in
    rule_made a.s.now c.requires.0 _ _ c.make_starts-count.result
    c.make_starts-count.ensures c.make_block-made.result.next c.make_block-made.result.count c.make_block-made.result.assigned _ _
    (rw c.variables-v.ensures at c.make_block-made.ensures.made)

pub invariant_of-rule : goal.invariant_of-rule
invariant_of-rule c = let r = rule_read c.args.s.now c.requires.0 in record { kinds = r.header.kinds; few = r.header.few }
