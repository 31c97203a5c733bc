use Rattle.std.proofs.Common.{◌∙◌, arith}
use Rattle.plan_waits.specs.ReadLaws.{arguments_length}
use Rattle.plan_waits.specs.ArgumentLaws.{putting_start, putting_into, putting_step, putting_end, argument_of}
use Rattle.plan_waits.proofs.wait_arguments.Goals as goal

pub loop-k-init : goal.loop-k-init
loop-k-init c = putting_start _ _ _ _ c.requires.1.0 (rw c.index-i.ensures c.requires.1.1)

pub overflow_add-i-in-loop-k : goal.overflow_add-i-in-loop-k
overflow_add-i-in-loop-k c = record {
  fits = omega (
    arith,
    (argument_of c.args.circuit.now.quads c.index-i.result c.loop-k.k _ c.arity_of-k-end.ensures c.loop-k-test.true).0,
    c.requires.0,
    c.index-i.ensures,
  );
}

pub argument-a-requires : goal.argument-a-requires
argument-a-requires c = let a = argument_of _ _ _ _ c.arity_of-k-end.ensures c.loop-k-test.true in
    (omega (arith, a.0, c.requires.0, c.index-i.ensures), (putting_into _ _ _ _ _ _ _ c.loop-k.invariant a.1.0 a.1.1).0)

pub group_of-requires : goal.group_of-requires
group_of-requires c = let a = argument_of _ _ _ _ c.arity_of-k-end.ensures c.loop-k-test.true in
    (putting_into _ _ _ _ _ _ _ c.loop-k.invariant a.1.0 (c.argument-a.ensures ∙ a.1.1)).0

pub wait_for-requires : goal.wait_for-requires
wait_for-requires c = let a = argument_of _ _ _ _ c.arity_of-k-end.ensures c.loop-k-test.true in
    let i = c.loop-k.invariant in
    (i.room, rw c.group_of.ensures (putting_into _ _ _ _ _ _ _ i a.1.0 (c.argument-a.ensures ∙ a.1.1)).1)

pub loop-k-preserved : goal.loop-k-preserved
loop-k-preserved c = let a = argument_of _ _ _ _ c.arity_of-k-end.ensures c.loop-k-test.true in
    putting_step _ _ _ _ _ _ _ _ _ c.loop-k.invariant a.1.0 (c.argument-a.ensures ∙ a.1.1)
    c.group_of.ensures c.wait_for.ensures

pub returns : goal.returns
returns c = rw (← c.index-i.ensures)
    (putting_end _ _ _ _ _ _ c.loop-k.invariant
    (omega (arith, arguments_length c.args.circuit.now.quads c.index-i.result, c.arity_of-k-end.ensures, c.loop-k-test.false)))
