use Rattle.std.proofs.Common.{refl, arith}
use Rattle.file.specs.FormatLaws.{row_passed}
use Rattle.file.specs.RowLaws.{whole_right}
use Rattle.file_figures.specs.WorkingLaws.{amid_start, amid_workable, amid_more, amid_end}
use Rattle.file_figures.proofs.work_out.Goals as goal

pub read16-requires : goal.read16-requires
read16-requires c = (row_passed _ c.requires.0).head.long

pub loop-i-init : goal.loop-i-init
loop-i-init c = amid_start _ _ _ _ (row_passed _ c.requires.0) c.requires.1 c.told-figures refl

pub invariant_of-record : goal.invariant_of-record
invariant_of-record c = record { whole = (whole_right _ _).1 (amid_workable _ _ _ _ _ _ _ c.loop-i.invariant (omega arith)).whole }

pub kind-kind-requires : goal.kind-kind-requires
kind-kind-requires c = (amid_workable _ _ _ _ _ _ _ c.loop-i.invariant (omega arith)).earlier

pub record-requires : goal.record-requires
record-requires c = amid_workable _ _ _ _ _ _ _ c.loop-i.invariant (omega arith)

pub loop-i-preserved : goal.loop-i-preserved
loop-i-preserved c = amid_more _ _ _ _ _ _ _ c.loop-i.invariant (omega arith) _ _ _ c.kind-kind.ensures c.record.ensures c.size-at.ensures

pub returns : goal.returns
returns c = let r = amid_end _ _ _ _ _ _ _ c.loop-i.invariant (omega arith) in record { place = r.0; figures = r.1 }
