use Rattle.std.proofs.Common.{rules, ◌≡◌, ◌+◌, ◌-◌, ℕ, suc, sym, ap, ◌∙◌, arith}
use Rattle.file.specs.CircuitRows.{laid_from}
use Rattle.file_layout.specs.LayoutLaws.{laid_start, laid_next}
use Rattle.file_layout.proofs.laid.Goals as goal

pub loop-init : goal.loop-init
loop-init c = let n : c.read16-end.result - 0 ≡ c.read16-end.result = omega arith in
    record { inside = c.requires; same = laid_start c.args.file.now ∙ rw (n, c.read16-end.ensures) }

pub overflow_add-at : goal.overflow_add-at
overflow_add-at c = let h = (laid_next c.args.file.now c.loop.at 0 c.in-Some.size (sym c.in-Some.ensures)).1 in search rules

pub loop-preserved : goal.loop-preserved
loop-preserved c = let left : c.read16-end.result - c.loop.counter ≡ suc (c.read16-end.result - (c.loop.counter + 1)) = omega arith in
    let n = laid_next c.args.file.now c.loop.at (c.read16-end.result - (c.loop.counter + 1)) c.in-Some.size (sym c.in-Some.ensures) in
    record { inside = n.1; same = c.loop.invariant.same ∙ ap (λ (k : ℕ). laid_from k c.args.file.now c.loop.at) left ∙ n.0 }
