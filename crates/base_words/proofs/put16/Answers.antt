-- Two stores from the start, which are the two bytes of the number.
use Rattle.std.proofs.Common.{◌/◌, ◌%◌, arith}
use Rattle.base.specs.NumberLaws.{bytes_append, bytes_one}
use Rattle.base.specs.BufferLaws.{sets_over}
use Rattle.base_words.proofs.put16.Goals as goal

pub returns : goal.returns
returns c = let x = c.args.x in
    rw (bytes_append 1 1 x, bytes_one (x / 256) (omega arith), bytes_one (x % 256) (omega arith)) (sets_over _ _ c.requires)
