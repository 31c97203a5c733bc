-- Two bytes are the number of two bytes, by `number_split` at widths 1 and 1.
use Rattle.std.proofs.Common.{◌+◌, sym, arith}
use Rattle.base.specs.NumberLaws.{number_split, number_one}
use Rattle.base_words.proofs.read16.Goals as goal

pub returns : goal.returns
returns c = let s = c.args.s.now in
    let at = c.args.at in
    rw (← number_one s at (omega arith), ← number_one s (at + 1) (omega arith))
    (sym (number_split 1 1 s at c.requires))
