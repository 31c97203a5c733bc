use Rattle.std.proofs.Common.{arith}
use Rattle.report.specs.DecimalLaws.{length_some, length_more}
use Rattle.report.specs.PutLaws.{put_one, put_more}
use Rattle.report_lines.proofs.+put_decimal.Goals as goal

pub bounds-out-0 : goal.bounds-out-0
bounds-out-0 t c = omega (arith, length_some c.args.n)

pub returns-then-n-lt10 : goal.returns-then-n-lt10
returns-then-n-lt10 t c = let r = put_one c.args.n c.args.out.now c.if-n-lt10.true c.requires in record { counted = r.0; written = r.1 }

pub put_decimal-at-requires : goal.put_decimal-at-requires
put_decimal-at-requires t c = (
  omega (arith, c.decreases),
  omega (arith, length_more c.args.n c.if-n-lt10.false, c.requires),
)

pub bounds-out-at : goal.bounds-out-at
bounds-out-at t c = omega (arith, length_more c.args.n c.if-n-lt10.false, c.put_decimal-at.ensures.counted)

pub overflow_add-result : goal.overflow_add-result
overflow_add-result t c = record { fits = omega (arith, length_more c.args.n c.if-n-lt10.false, c.put_decimal-at.ensures.counted) }

pub returns : goal.returns
returns t c =
    let r = put_more c.args.n _ c.args.out.now _ c.if-n-lt10.false c.requires c.put_decimal-at.ensures.counted c.put_decimal-at.ensures.written in
    record { counted = r.0; written = r.1 }
