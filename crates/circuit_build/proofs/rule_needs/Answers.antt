use Rattle.std.proofs.Common.{refl}
use Rattle.circuit_build.proofs.rule_needs.Goals as goal

pub find_needed-requires : goal.find_needed-requires
find_needed-requires c = ((c.requires.0.0, rw c.list_wanted-wanted.ensures c.requires.0.1), c.requires.1)
