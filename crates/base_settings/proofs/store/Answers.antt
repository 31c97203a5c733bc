use mathlib.Core.Path.{◌≡◌, refl}
use Prim.Native.Nat.{ℕ, suc, ◌+◌, ◌*◌}
use native.Mathlib.Omega.{arith}
use lib.ListN.{length-set}
use Rattle.base.specs.SetLimits.{set_words}
use Rattle.base.specs.SetsHeld.{words_of, set_of}
use Rattle.base.specs.SetsHeldLaws.{sets_store}
use Rattle.base_settings.proofs.store.Goals as goal

pub bounds-words-at-2 : goal.bounds-words-at-2
bounds-words-at-2 c = simp length-set (omega (arith, c.requires))

pub bounds-words-at-3 : goal.bounds-words-at-3
bounds-words-at-3 c = simp length-set (omega (arith, c.requires))

pub bounds-words-at-4 : goal.bounds-words-at-4
bounds-words-at-4 c = simp length-set (omega (arith, c.requires))

-- the four stores are a run of stores from the set's first word on
pub returns : goal.returns
unfolding set_of
returns c = let at : ℕ = set_words * c.args.i in
    let one : at + 1 ≡ suc at = omega arith in
    let two : at + 2 ≡ suc (suc at) = omega arith in
    let three : at + 3 ≡ suc (suc (suc at)) = omega arith in
    rw (one, two, three) (sets_store c.args.words.now (words_of c.args.s) c.args.i c.requires refl)
