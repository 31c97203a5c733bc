use mathlib.Core.Path.{◌≡◌, refl, sym}
use native.Mathlib.Omega.{arith}
use Rattle.base.specs.SetLimits.{set_conditions}
use Rattle.base.specs.SetsHeld.{words_of, set_of}
use Rattle.base.specs.MoverLaws.{movers_within, movers_across}
use Rattle.base_settings.proofs.Fits.{fits}
use Rattle.base_settings.proofs.movers.Goals as goal

pub returns-then-t-lt-WORD_CONDITIONS : goal.returns-then-t-lt-WORD_CONDITIONS
unfolding set_of
returns-then-t-lt-WORD_CONDITIONS c = let s = c.args.s in
    rw (c.word_movers.ensures, c.word_movers-then-t-lt-WORD_CONDITIONS.ensures, c.word_movers-then-t-lt-WORD_CONDITIONS-2.ensures, c.word_movers-then-t-lt-WORD_CONDITIONS-3.ensures)
    (sym (movers_within set_conditions (words_of s) (fits s c.well_formed.0.1.1) refl c.args.t c.if-t-lt-WORD_CONDITIONS.true))

pub returns-then-t-eq-WORD_CONDITIONS : goal.returns-then-t-eq-WORD_CONDITIONS
unfolding set_of
returns-then-t-eq-WORD_CONDITIONS c = let s = c.args.s in
    rw c.if-t-eq-WORD_CONDITIONS.true (sym (movers_across set_conditions (words_of s) (fits s c.well_formed.0.1.1) refl 0))

pub returns : goal.returns
unfolding set_of
returns c = let s = c.args.s in
    let e : c.args.t ≡ 7 = omega (arith, c.requires, c.if-t-lt-WORD_CONDITIONS.false, c.if-t-eq-WORD_CONDITIONS.false) in
    rw e (sym (movers_across set_conditions (words_of s) (fits s c.well_formed.0.1.1) refl 1))
