use Rattle.std.proofs.Common.{◌≡◌}
use Rattle.file.specs.LaidOut.{record_place}
use Rattle.file_reader.proofs.record_place.Given as goal

abbrev pub invariant-loop : goal.invariant-loop
invariant-loop l = l.at ≡ record_place l.file l.counter
