use mathlib.Core.Path.{sym, ◌∙◌}
use Rattle.circuit_make.specs.ChoiceLaws.{chosen_not, chosen_one, chosen_all}
use Rattle.circuit_make.proofs.make_choices.Goals as goal
use Rattle.circuit_make.proofs.make_choices.Goals.{then-among, else-among}

pub loop-x-preserved : goal.loop-x-preserved
loop-x-preserved c =
    let a = c.args in
    let l = c.loop-x in
    elim c.if-among.branch [
      | then-among w ↦ rw (w.n-is, w.quads-is, w.present-is)
          (chosen_one a.condition.0 a.first.now a.second.now a.assigned a.v a.quads.now a.present.now a.count l.x l.n l.quads
          l.present l.invariant c.loop-x-test.true (sym c.among.ensures ∙ w.if-among.true) _ _ _ w.choose-n.ensures)
      | else-among w ↦ rw (w.n-is, w.quads-is, w.present-is)
          (chosen_not a.condition.0 a.first.now a.second.now a.assigned a.v a.quads.now a.present.now a.count l.x l.n l.quads
          l.present l.invariant c.loop-x-test.true (sym c.among.ensures ∙ w.if-among.false))
    ]

pub returns : goal.returns
returns c = let a = c.args in
    let l = c.loop-x in
    chosen_all a.condition.0 a.first.now a.second.now a.assigned a.v a.quads.now a.present.now a.count l.x l.n l.quads
    l.present l.invariant c.loop-x-test.false
