use Rattle.std.proofs.Common.{arith}
use Rattle.file.specs.RowLaws.{headed_right, laid_right}
use Rattle.file_wiring.specs.LoopLaws.{few_wires, no_record, outputs_whole, outputs_decide}
use Rattle.file_wiring.proofs.standing.Goals as goal

pub bounds-file-5 : goal.bounds-file-5
bounds-file-5 c = omega (arith, ((headed_right _).0 c.requires.0).long)

pub read16-count-requires : goal.read16-count-requires
read16-count-requires c = ((headed_right _).0 c.requires.0).long

pub returns-then-from-v : goal.returns-then-from-v
returns-then-from-v c = few_wires _ _ _ c.from-v.ensures c.read16-count.ensures (omega arith)

pub records_stand-requires : goal.records_stand-requires
records_stand-requires c = let head = (headed_right _).0 c.requires.0 in ((head, (laid_right _ head).0 c.requires.1), c.from-v.ensures, c.read16-count.ensures)

pub returns-in_default : goal.returns-in_default
returns-in_default c = no_record _ _ _ c.from-v.ensures c.read16-count.ensures (omega arith) c.in_default.ensures.place

pub invariant_of-earlier : goal.invariant_of-earlier
invariant_of-earlier c = let head = (headed_right _).0 c.requires.0 in record { short = head.short; few = omega (arith, head.wires) }

pub outputs-requires : goal.outputs-requires
outputs-requires c = (
  outputs_whole _ _ _ c.from-v.ensures c.read16-count.ensures (omega arith) _ c.in-Some.ensures.place ((laid_right _ ((headed_right _).0 c.requires.0)).0 c.requires.1),
  omega arith,
)

pub returns : goal.returns
returns c = outputs_decide _ _ _ c.from-v.ensures c.read16-count.ensures (omega arith) _ c.in-Some.ensures.place _ c.in-Some.ensures.kinds _ c.outputs.ensures
