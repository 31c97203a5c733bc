use Rattle.fused_group.specs.JoinedLaws.{fusing}
use Rattle.fused_group.proofs.Joint.picks.Goals as goal

pub one_wire-first-requires : goal.one_wire-first-requires
one_wire-first-requires c = let f = fusing _ _ _ _ c.requires in (f.zero_paired, f.some)

pub one_wire-second-requires : goal.one_wire-second-requires
one_wire-second-requires c = let f = fusing _ _ _ _ c.requires in (f.one_paired, f.some)
