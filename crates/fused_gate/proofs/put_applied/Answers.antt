use Rattle.fused_gate.specs.PutLaws.{arity_not, unary_room, unary_put, binary_room, binary_put}
use Rattle.fused_gate.specs.AloneLaws.{first_placed, second_placed}
use native.Mathlib.Omega.{arith}
use Rattle.fused_gate.proofs.put_applied.Goals as goal

pub at-a-requires : goal.at-a-requires
at-a-requires c = rw c.index-i.ensures (omega (arith, c.requires.1.0.coded.inside), first_placed _ _ _ c.requires.1.0 c.requires.1.1)

pub put_unary-requires : goal.put_unary-requires
put_unary-requires c = unary_room _ _ _ c.requires.1.1 _ (rw c.index-i.ensures at c.code_of.ensures) _ c.if-code_of-eq1.true c.requires.0

pub returns-then-code_of-eq1 : goal.returns-then-code_of-eq1
returns-then-code_of-eq1 c =
    unary_put _ _ _ c.requires.1.1 _ (rw c.index-i.ensures at c.code_of.ensures) _ _ _ c.if-code_of-eq1.true (rw c.index-i.ensures at c.at-a.ensures)
    (rw c.index-i.ensures at c.put_unary.ensures)

pub at-b-requires : goal.at-b-requires
at-b-requires c = rw c.index-i.ensures (
  omega (arith, c.requires.1.0.coded.inside),
  second_placed _ _ _ c.requires.1.0 c.requires.1.1 (arity_not _ _ _ (rw c.index-i.ensures at c.code_of.ensures) c.if-code_of-eq1.false),
)

pub put_binary-requires : goal.put_binary-requires
put_binary-requires c = binary_room _ _ _ c.requires.1.1 _ (rw c.index-i.ensures at c.code_of.ensures) _ c.if-code_of-eq1.false c.requires.0

pub returns : goal.returns
returns c =
    binary_put _ _ _ c.requires.1.1 _ (rw c.index-i.ensures at c.code_of.ensures) _ _ _ _ c.if-code_of-eq1.false (rw c.index-i.ensures at c.at-a.ensures)
    (rw c.index-i.ensures at c.at-b.ensures) (rw c.index-i.ensures at c.put_binary.ensures)
