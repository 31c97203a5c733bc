-- Two numbers of 32 bits are one of 64, by `number_split`.
use Rattle.std.proofs.Common.{sym}
use Rattle.base.specs.NumberLaws.{number_split}
use Rattle.base_words.proofs.read64.Goals as goal

pub returns : goal.returns
returns c = rw (c.read32.ensures, c.read32-2.ensures) (sym (number_split 4 4 _ _ c.requires))
