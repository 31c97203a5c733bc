use Rattle.circuit_needed.specs.PassingLaws.{wanted_room, found_needed}
use Rattle.circuit_pass.proofs.find_needed.Goals as goal

pub want_all-requires : goal.want_all-requires
want_all-requires c = wanted_room _ _ c.args.wanted.now _ c.requires.0.0 c.requires.0.1

pub returns : goal.returns
returns c = found_needed _ _ _ _ _ _ _ c.requires.0.0 c.requires.0.1 c.requires.1 c.want_all.ensures c.pass.ensures.passed
