-- Two numbers of 16 bits are one of 32, by `number_split`.
use Rattle.std.proofs.Common.{sym}
use Rattle.base.specs.NumberLaws.{number_split}
use Rattle.base_words.proofs.read32.Goals as goal

pub returns : goal.returns
returns c = rw (c.read16.ensures, c.read16-2.ensures) (sym (number_split 2 2 _ _ c.requires))
