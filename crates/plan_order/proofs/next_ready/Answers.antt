use mathlib.Core.Path.{sym, ◌∙◌}
use native.Mathlib.Omega.{arith}
use Rattle.plan_order.specs.SearchLaws.{searching_start, searching_past, searching_held, searching_end, testing_start, testing_next, testing_end}
use Rattle.plan_order.proofs.next_ready.Goals as goal
use Rattle.plan_order.proofs.next_ready.Goals.{then-has+else-w-ge-SET_WORDS+then-both-ne0, else-has}

pub search-init : goal.search-init
search-init c = let pre = c.requires in rw c.index-p.ensures (searching_start _ _ _ _ _ pre.0 pre.1.0 pre.1.1.0 pre.1.1.1.0 pre.1.1.1.1)

pub waits-init : goal.waits-init
waits-init c = testing_start _ _ _ _ _ _ c.search.invariant c.if-p-count.false (sym c.has.ensures ∙ c.if-has.true)

pub highest-requires : goal.highest-requires
highest-requires c = c.if-both-ne0.true

pub hold-requires : goal.hold-requires
hold-requires c = let i = c.waits.invariant in
    (omega (arith, c.if-w-ge-SET_WORDS.false, c.highest.ensures.0), (omega (arith, i.inside, i.search.room), i.search.holding.size))

pub waits-preserved : goal.waits-preserved
waits-preserved c = testing_next _ _ _ _ _ _ _ c.waits.invariant c.if-w-ge-SET_WORDS.false c.if-both-ne0.false

pub search-preserved : goal.search-preserved
search-preserved c =
    elim c.if-has.branch [
      | then-has+else-w-ge-SET_WORDS+then-both-ne0 w ↦
          searching_held _ _ _ _ _ _ _ _ _ w.waits.invariant w.if-w-ge-SET_WORDS.false w.if-both-ne0.true w.highest.ensures (w.watch-is ∙ w.hold.ensures)
      | else-has w ↦ searching_past _ _ _ _ _ _ _ c.search.invariant c.if-p-count.false (sym c.has.ensures ∙ w.if-has.false) w.watch-is
    ]

pub returns-then-p-count : goal.returns-then-p-count
returns-then-p-count c = let r = searching_end _ _ _ _ _ _ c.search.invariant c.if-p-count.true in record { next = r.0; held = r.1 }

pub returns-then-w-ge-SET_WORDS : goal.returns-then-w-ge-SET_WORDS
returns-then-w-ge-SET_WORDS c = record { next = testing_end _ _ _ _ _ _ _ c.waits.invariant c.if-w-ge-SET_WORDS.true; held = c.waits.invariant.search.holding }
