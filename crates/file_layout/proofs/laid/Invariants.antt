use Rattle.std.proofs.Common.{◌≡◌, ◌-◌, ◌≤◌, length}
use Rattle.file.specs.CircuitRows.{laid_from, laid}
use Rattle.file_layout.proofs.laid.Given as goal

abbrev pub invariant-loop : goal.invariant-loop
invariant-loop l = record { inside : l.at ≤ length l.file; same : laid l.file ≡ laid_from (l.end - l.counter) l.file l.at }
