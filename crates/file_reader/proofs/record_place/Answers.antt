use Rattle.std.proofs.Common.{rules, add-one, sym, arith}
use Rattle.file.specs.FileFigures.{first_record}
use Rattle.file.specs.FileLaws.{place_next}
use Rattle.file.specs.FormatLaws.{row_passed}
use Rattle.file.specs.LaidOut.{WholeAt}
use Rattle.file.specs.RowLaws.{whole_right}
use Rattle.file_reader.proofs.record_place.Goals as goal

pub invariant_of-record : goal.invariant_of-record
invariant_of-record c = record { whole = (whole_right _ _).1 (rw c.loop.invariant ((row_passed _ c.requires.0).layout.whole c.loop.counter (omega (arith, c.requires.1)))) }

pub overflow_add-at : goal.overflow_add-at
overflow_add-at c = let whole : WholeAt c.args.file.now c.loop.at = rw c.loop.invariant ((row_passed _ c.requires.0).layout.whole c.loop.counter (omega (arith, c.requires.1))) in
    let h = whole.inside in search rules

pub loop-preserved : goal.loop-preserved
loop-preserved c = rw (c.size-at.ensures, c.loop.invariant, add-one) (sym (place_next c.loop.counter c.args.file.now first_record))
