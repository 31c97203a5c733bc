use mathlib.Core.List.{List, ◌++◌}
use Prim.Native.Nat.{ℕ, ◌+◌, ◌≤◌}
use native.Mathlib.Omega.{arith}
use lib.ListN.{length, length-append}
use Rattle.base.specs.Lists.{flat}
use Rattle.report.specs.Line.{spaced, line}
use Rattle.report.specs.LineLaws.{length_line}
use Rattle.report.specs.PutLaws.{ended, line_ended}
use Rattle.report_lines.proofs.put_words.Goals as goal

-- the line feed finds room behind the numbers
room : (word numbers out : List ℕ) → length (line word numbers) ≤ length out → length (word ++ flat spaced numbers) + 1 ≤ length out
room word numbers out r = omega (arith, length_line word numbers, length-append word (flat spaced numbers))

pub put_front-n-requires : goal.put_front-n-requires
put_front-n-requires c = omega (arith, room c.args.word.now c.args.numbers.now c.args.out.now c.requires)

pub bounds-out-n : goal.bounds-out-n
bounds-out-n c = omega (arith, room c.args.word.now c.args.numbers.now c.args.out.now c.requires, c.put_front-n.ensures.counted, c.put_front-n.auto.out)

pub overflow_add-result : goal.overflow_add-result
overflow_add-result c = record { fits = omega (arith, room c.args.word.now c.args.numbers.now c.args.out.now c.requires, c.put_front-n.ensures.counted, c.well_formed) }

pub returns : goal.returns
returns c =
    let fits = room c.args.word.now c.args.numbers.now c.args.out.now c.requires in
    let r = rw (line_ended c.args.word.now c.args.numbers.now) at (ended _ c.args.out.now _ _ fits c.put_front-n.ensures.counted c.put_front-n.ensures.written) in
    record { counted = r.0; written = r.1 }
