use Rattle.std.proofs.Common.{refl, inl, inr, arith}
use Rattle.file_figures.proofs.Figures.choice.Goals as goal

pub read-requires : goal.read-requires
read-requires c = (omega (arith, c.requires.0), c.requires.1 _ (inl refl))

pub read-requires-then-read-eq1 : goal.read-requires-then-read-eq1
read-requires-then-read-eq1 c = (omega (arith, c.requires.0), c.requires.1 _ (inr (inl refl)))

pub read-requires-else-read-eq1 : goal.read-requires-else-read-eq1
read-requires-else-read-eq1 c = (omega (arith, c.requires.0), c.requires.1 _ (inr (inr (inl refl))))
