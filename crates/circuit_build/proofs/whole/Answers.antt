use native.Mathlib.Omega.{arith}
use mathlib.Core.Path.{sym}
use Rattle.circuit_build.specs.MakingLaws.{whole_over, whole_eleven, whole_taken}
use Rattle.circuit_build.proofs.whole.Goals as goal

pub returns-then-count-gt-MOST_GATES : goal.returns-then-count-gt-MOST_GATES
returns-then-count-gt-MOST_GATES c = (sym (whole_over _ _ _ c.if-count-gt-MOST_GATES.true), λ h. absurd (omega arith))

pub survey-found-requires : goal.survey-found-requires
survey-found-requires c = let p = c.requires in
    (c.if-count-gt-MOST_GATES.false, (p.0 c.if-count-gt-MOST_GATES.false, p.1))

pub returns-then-found-gt-MOST_CONDITIONS : goal.returns-then-found-gt-MOST_CONDITIONS
returns-then-found-gt-MOST_CONDITIONS c = (
  sym (whole_eleven _ _ _ _ c.if-count-gt-MOST_GATES.false c.survey-found.ensures.counted c.if-found-gt-MOST_CONDITIONS.true),
  λ h. c.survey-found.ensures.marked,
)

pub returns : goal.returns
returns c = (
  sym (whole_taken _ _ _ _ _ c.if-count-gt-MOST_GATES.false c.survey-found.ensures.counted c.if-found-gt-MOST_CONDITIONS.false c.survey-found.ensures.cost),
  λ h. c.survey-found.ensures.marked,
)
