use Rattle.std.proofs.Common.{◌≡◌, ◌+◌, ◌-◌, ◌*◌}
use Rattle.base.specs.Settings.{number_of}
use Rattle.base.specs.Results.{is_one}
use Rattle.file.specs.FileFigures.{wires_at}
use Rattle.file_figures.specs.Working.{held}
use Rattle.file_figures.proofs.Figures.guard_number.Given as goal

-- j is the number of the wires from t on
abbrev pub invariant-loop-t : goal.invariant-loop-t
invariant-loop-t l = l.j ≡ number_of (wires_at (l.count - l.t) l.self.file.now (l.at + 2 * l.t)) (λ w. is_one (held l.self.figures.now w))
