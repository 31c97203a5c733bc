use Rattle.std.proofs.Common.{ℕ, ◌≡◌, List, [], set, get_or, refl, sym, ap, ◌∙◌, arith}
use Rattle.plan.specs.declared.Grouping.{Grouping}
use Rattle.plan_order.specs.HoldLaws.{same_all, same_else}
use Rattle.plan_order.specs.PlacingLaws.{placing_room, placing_on}
use Rattle.plan_order.specs.OrderingLaws.{ordering_start, ordering_circle, ordering_end}
use Rattle.plan_order.proofs.order_in.Goals as goal
use Rattle.plan_order.proofs.order_in.Goals.{then-lower-p, else-lower-p}

pub loop-k-init : goal.loop-k-init
loop-k-init c =
    let left = c.find_left-n.ensures in
    (left.counted, (refl, ([], ordering_start _ _ _ _ _ c.requires.0 c.find_waits.ensures left.left c.requires.1.0 refl)))

pub bounds-watch-i : goal.bounds-watch-i
bounds-watch-i c =
    let room = placing_room _ _ _ _ _ _ _ _ _ _ _ c.loop-k.invariant.1.1.1 _ (sym c.in-Some.is ∙ c.next_ready.ensures.next) in
    omega (arith, room.0, c.index-i.ensures)

pub offset_bounds-grouping-k : goal.offset_bounds-grouping-k
offset_bounds-grouping-k c =
    let room = placing_room _ _ _ _ _ _ _ _ _ _ _ c.loop-k.invariant.1.1.1 _ (sym c.in-Some.is ∙ c.next_ready.ensures.next) in
    record { fits = omega (arith, room.1) }

pub bounds-grouping-k : goal.bounds-grouping-k
bounds-grouping-k c =
    let room = placing_room _ _ _ _ _ _ _ _ _ _ _ c.loop-k.invariant.1.1.1 _ (sym c.in-Some.is ∙ c.next_ready.ensures.next) in
    room.1

pub strike-requires : goal.strike-requires
strike-requires c =
    let i = c.loop-k.invariant.1.1.1 in
    let room = placing_room _ _ _ _ _ _ _ _ _ _ _ i _ (sym c.in-Some.is ∙ c.next_ready.ensures.next) in
    (omega (arith, i.tabled.lefts.size), room.0)

pub bounds-watch-i-then-lower-p : goal.bounds-watch-i-then-lower-p
bounds-watch-i-then-lower-p c =
    let room = placing_room _ _ _ _ _ _ _ _ _ _ _ c.loop-k.invariant.1.1.1 _ (sym c.in-Some.is ∙ c.next_ready.ensures.next) in
    omega (arith, room.0, c.index-i.ensures)

pub loop-k-preserved : goal.loop-k-preserved
loop-k-preserved c =
    let i = c.loop-k.invariant in
    let e = c.in-Some.is in
    let n = c.next_ready.ensures in
    let x : c.index-i.result ≡ c.in-Some.p.0 = c.index-i.ensures in
    let a : get_or c.next_ready.new.watch c.index-i.result 0 ≡ get_or c.next_ready.new.watch c.in-Some.p.0 0 = ap (λ (k : ℕ). get_or c.next_ready.new.watch k 0) x in
    let f = ap (λ (h : Grouping). record h { order = set c.loop-k.grouping.order c.loop-k.k c.in-Some.p.0 }) i.1.0 in
    elim c.if-lower-p.branch [
      | then-lower-p w ↦ (
        i.0,
        (
          f,
          (
            _,
            placing_on _ _ _ _ _ _ _ _ _ _ _ i.1.1.1 _ (sym e ∙ n.next) _ _ _ _ _ _ e n.held (omega (arith, w.from-is, a, c.from-lower.ensures))
                (omega (arith, w.from-is, w.if-lower-p.true)) refl c.strike.ensures (same_else _ 255 _ _ (rw x at w.watch-is)),
          ),
        ),
      )
      | else-lower-p w ↦ (
        i.0,
        (
          f,
          (
            _,
            placing_on _ _ _ _ _ _ _ _ _ _ _ i.1.1.1 _ (sym e ∙ n.next) _ _ _ _ _ _ e n.held (omega (arith, w.from-is, a, c.from-lower.ensures, w.if-lower-p.false))
                (omega (arith, w.from-is)) refl c.strike.ensures (rw w.watch-is (same_all _ _)),
          ),
        ),
      )
    ]

pub returns-in_default : goal.returns-in_default
returns-in_default c =
    let i = c.loop-k.invariant in
    let r = ordering_circle c.args.circuit.now c.args.grouping.now _ _ _ _ _ _ _ i.1.1.1 _ i.0 (sym c.in_default.is ∙ c.next_ready.ensures.next) c.loop-k-test.true in
    record { answer = r.0; written = i.1.0 ∙ ap (λ (o : List ℕ). record c.args.grouping.now { order = o }) r.1 }

pub returns : goal.returns
returns c =
    let i = c.loop-k.invariant in
    let r = ordering_end c.args.circuit.now c.args.grouping.now _ _ _ _ _ _ _ i.1.1.1 _ i.0 c.loop-k-test.false in
    record { answer = r.0; written = i.1.0 ∙ ap (λ (o : List ℕ). record c.args.grouping.now { order = o }) r.1 }
