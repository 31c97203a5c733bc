use Rattle.std.proofs.Common.{◌≡◌, sym, ◌∙◌, rules}
use borrow.Author.Tests.{tests}
use Rattle.plan_waits.specs.LeftLaws.{listing_start, listing_yes, listing_no, listing_end}
use Rattle.plan_waits.proofs.find_left.Goals as goal
use Rattle.plan_waits.proofs.find_left.Goals.{then-eq, else-eq}

pub loop-i-init : goal.loop-i-init
loop-i-init c = listing_start _ _ _ c.requires.0 c.requires.1

pub loop-i-preserved : goal.loop-i-preserved
loop-i-preserved c = let i = c.loop-i.invariant in
    let t = c.loop-i-test.true in
    elim c.if-eq.branch [
      | then-eq w ↦
          let e : c.group_of.result.0 ≡ c.loop-i.i = search (rules, tests, w.if-eq.true) in
          listing_yes _ _ _ _ _ _ _ i t (sym c.group_of.ensures ∙ e) (w.left-is ∙ w.put.ensures) w.n-is
      | else-eq w ↦
          let e : c.group_of.result.0 ≡ c.loop-i.i → ⊥ = search (rules, tests, w.if-eq.false) in
          listing_no _ _ _ _ _ _ _ i t (λ h. e (c.group_of.ensures ∙ h)) w.left-is w.n-is
    ]

pub returns : goal.returns
returns c = let r = listing_end _ _ _ _ _ c.loop-i.invariant c.loop-i-test.false in record { counted = r.0; left = r.1 }
