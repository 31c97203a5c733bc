use Rattle.std.proofs.Common.{◌≡◌, ◌+◌, ◌-◌, ◌*◌, ◌%◌}
use Rattle.file.specs.WireFigures.{sum_figure}
use Rattle.file.specs.FileFigures.{pairs_at}
use Rattle.file_figures.specs.Working.{held}
use Rattle.file_figures.proofs.Figures.pick.Given as goal

-- the pairs from t on are summed
abbrev pub invariant-loop-t : goal.invariant-loop-t
invariant-loop-t l = l.sum ≡ sum_figure (held l.self.figures.now) (pairs_at (l.count - l.t) l.self.file.now (l.at + 4 * l.t)) % 4294967296
