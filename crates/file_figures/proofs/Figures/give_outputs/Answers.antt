use Rattle.std.proofs.Common.{◌≡◌, ℕ, map, sym, ap, ◌∙◌, arith}
use Rattle.base.specs.Buffers.{over}
use Rattle.base.specs.BufferLaws.{over_nil}
use Rattle.file.specs.FileFigures.{wires_at, file_variables}
use Rattle.file_figures.specs.Working.{output_held}
use Rattle.file_figures.specs.GivingLaws.{giving_more}
use Rattle.file_figures.proofs.Figures.give_outputs.Goals as goal

pub loop-x-init : goal.loop-x-init
loop-x-init c = sym (over_nil c.args.results.now)

pub loop-x-preserved : goal.loop-x-preserved
loop-x-preserved c = giving_more c.args.self.file.now c.args.self.figures.now c.args.results.now _ c.args.at c.loop-x.x _ c.loop-x.invariant (omega (arith, c.requires.3)) c.output.ensures

pub returns : goal.returns
returns c = let s = c.args.self in
    let all : c.loop-x.x ≡ file_variables s.file.now = omega arith in
    c.loop-x.invariant ∙ ap (λ (n : ℕ). over (map (output_held s.figures.now) (wires_at n s.file.now c.args.at)) c.args.results.now) all
