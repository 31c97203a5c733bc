use Rattle.std.proofs.Common.{refl, arith}
use Rattle.fused_file.specs.LoopLaws.{measuring_start, measuring_inside, measuring_group, measuring_small, measuring_step, measuring_end}
use Rattle.fused_file.proofs.Fusion.size_groups.Goals as goal

pub loop-i-init : goal.loop-i-init
loop-i-init c = measuring_start _ _ _ _ _ _ _ _ _ c.requires.0 c.requires.1 c.default-total.ensures

pub bounds-self-i : goal.bounds-self-i
bounds-self-i c = omega (arith, c.loop-i-test.true, c.loop-i.invariant.measures.turnable.few)

pub size_group-requires : goal.size_group-requires
size_group-requires c = (
  measuring_inside _ _ _ _ _ _ _ _ _ _ _ c.loop-i.invariant c.loop-i-test.true refl,
  measuring_group _ _ _ _ _ _ _ _ _ _ _ c.loop-i.invariant
      c.loop-i-test.true refl _ refl,
)

pub add-total-requires : goal.add-total-requires
add-total-requires c = let z = measuring_small _ _ _ _ _ _ _ _ _ _ _ c.loop-i.invariant c.loop-i-test.true refl _ refl _ c.size_group.ensures in (
  omega (
    arith,
    z.1,
  ),
  (omega (arith, z.2), omega (arith, z.3)),
)

pub overflow_sub-wires : goal.overflow_sub-wires
overflow_sub-wires c = rw c.add-total.ensures (measuring_small _ _ _ _ _ _ _ _ _ _ _ c.loop-i.invariant c.loop-i-test.true refl _ refl _ c.size_group.ensures).0

pub overflow_cast-wires : goal.overflow_cast-wires
overflow_cast-wires c = rw c.add-total.ensures (record {
  fits = omega (
    arith,
    (measuring_small _ _ _ _ _ _ _ _ _ _ _ c.loop-i.invariant c.loop-i-test.true refl _
        refl _ c.size_group.ensures).1,
  );
})

pub bounds-wires-index : goal.bounds-wires-index
bounds-wires-index c = rw c.index.ensures (measuring_inside _ _ _ _ _ _ _ _ _ _ _ c.loop-i.invariant c.loop-i-test.true refl)

pub loop-i-preserved : goal.loop-i-preserved
loop-i-preserved c = rw (c.index.ensures, c.add-total.ensures) (measuring_step _ _ _ _ _ _ _ _ _ _ _ c.loop-i.invariant c.loop-i-test.true refl _ refl _
    c.size_group.ensures)

pub returns : goal.returns
returns c = measuring_end _ _ _ _ _ _ _ _ _ _ c.loop-i.invariant c.loop-i-test.false
