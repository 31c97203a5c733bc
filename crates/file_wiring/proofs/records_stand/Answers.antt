use Rattle.file.specs.RowLaws.{whole_right}
use Rattle.file_wiring.specs.LoopLaws.{records_start, record_whole, record_fails, record_reads, record_more}
use Rattle.file_wiring.proofs.records_stand.Goals as goal

pub loop-i-init : goal.loop-i-init
loop-i-init c = let p = c.requires in records_start _ _ _ _ p.0.0 p.0.1 p.2 c.told-kinds

pub returns-then-not-stands-clause-place : goal.returns-then-not-stands-clause-place
returns-then-not-stands-clause-place c = record_fails _ _ _ _ _ _ c.loop-i.invariant c.loop-i-test.true _ c.stands.ensures c.if-not-stands.true

pub invariant_of-record : goal.invariant_of-record
invariant_of-record c = record { whole = (whole_right _ _).1 (record_whole _ _ _ _ _ _ c.loop-i.invariant c.loop-i-test.true) }

pub kind-requires : goal.kind-requires
kind-requires c = record_reads _ _ _ _ _ _ c.loop-i.invariant c.loop-i-test.true _ c.stands.ensures c.if-not-stands.false

pub loop-i-preserved : goal.loop-i-preserved
loop-i-preserved c = rw c.from.ensures (record_more _ _ _ _ _ _ c.loop-i.invariant c.loop-i-test.true _ c.stands.ensures c.if-not-stands.false _ c.kind.ensures _ c.size-at.ensures)
