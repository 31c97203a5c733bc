use Rattle.std.proofs.Common.{◌≡◌, map}
use Rattle.base.specs.Buffers.{over}
use Rattle.file.specs.FileFigures.{wires_at}
use Rattle.file_figures.specs.Working.{output_held}
use Rattle.file_figures.proofs.Figures.give_outputs.Given as goal

-- the first x are given over the results that were there before
abbrev pub invariant-loop-x : goal.invariant-loop-x
invariant-loop-x l = l.results ≡ over (map (output_held l.self.figures.now) (wires_at l.x l.self.file.now l.at)) l.initial.results
