-- The product of two words fits 64 bits, by `below`; the rest is arithmetic.
use Rattle.base.specs.NumberLaws.{below}
use Rattle.base_words.proofs.product.Goals as goal

pub overflow_mul-result : goal.overflow_mul-result
overflow_mul-result c = record { fits = below 32 c.ranges.a.fits c.ranges.b.fits }
