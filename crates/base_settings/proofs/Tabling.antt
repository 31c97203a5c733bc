-- What one turn of the loop that makes a guard's table does, for any number n of conditions and w of words that hold 2 ^ n bits.
use mathlib.Core.Path.{◌≡◌, refl, sym, ap, ◌∙◌}
use mathlib.Core.Bool.{true, false}
use mathlib.Core.List.{List}
use Prim.Native.Nat.{ℕ, ◌+◌, ◌-◌, ◌*◌, ◌^◌, ◌≤◌, ◌<◌}
use native.Mathlib.Omega.{arith}
use lib.Bits.{bit_and}
use lib.ListN.{length, replicate}
use lib.Pow.{pow_mono}
use Rattle.base.specs.Bits.{collect}
use Rattle.base.specs.BitWords.{put_bit, joined, HasWords}
use Rattle.base.specs.BitLaws.{collect_below}
use Rattle.base.specs.BitWordLaws.{clear_words, put_words}
use Rattle.base.specs.BitJoinedLaws.{joined_put, joined_clear}
use Rattle.base.specs.Sets.{has, rests_on, rests}
use Rattle.base.specs.Guards.{spread, chosen, table_over, table}
use Rattle.base.proofs.GuardLaws.{spread_below, chosen_rests}
use Rattle.base.specs.PlaceLaws.{few_rests}
use Rattle.base.specs.SpreadLaws.{spread_none, spread_next}
use Rattle.base_settings.proofs.Laws.{collect_none, collect_in, collect_out}

-- a list of what s rests on: how many bits its table has, and how large its number is
pub rested_few : (n s count on : ℕ) → count ≡ length (rests n s) → on ≡ collect n (rests_on n s) → (count ≤ n) × ((2 ^ count ≤ 2 ^ n) × (on < 2 ^ n))
rested_few n s count on e f = (rw e (few_rests n s), (rw e (pow_mono (few_rests n s)), rw f (collect_below n (rests_on n s))))

-- a table over the conditions of `on`, its bits below j in words: the setting that gives them the bits of j is at hand
pub record Tabling (n w s on size : ℕ) (bits : List ℕ) (setting j : ℕ) : Type 0 where
  pub below : j ≤ size
  pub few : size ≤ 2 ^ n
  pub listed : on < 2 ^ n
  pub words : HasWords w bits
  pub collected : joined bits ≡ collect j (λ i. has s (spread n (chosen n on) i))
  pub here : setting ≡ spread n (chosen n on) j

module _ (n w s on size : ℕ) where
  pub tabling_start : size ≤ 2 ^ n → on < 2 ^ n → Tabling n w s on size (replicate w 0) 0 0
  tabling_start h l =
      record {
        below = omega arith;
        few = h;
        listed = l;
        words = clear_words w (replicate w 0) refl;
        collected = joined_clear w ∙ collect_none (λ i. has s (spread n (chosen n on) i));
        here = sym (spread_none n on);
      }

  module _ (bits : List ℕ) (setting j : ℕ) (z : Tabling n w s on size bits setting j) where
    pub tabling_low : setting < 2 ^ n
    tabling_low = rw z.here (spread_below n (chosen n on) j)

    step : (new : List ℕ) (next : ℕ) → j < size → HasWords w new → joined new ≡ collect (j + 1) (λ i. has s (spread n (chosen n on) i))
        → next ≡ bit_and (setting + (2 ^ n - on)) on → Tabling n w s on size new next (j + 1)
    step new next l k e f =
        record {
          below = omega arith;
          few = z.few;
          listed = z.listed;
          words = k;
          collected = e;
          here = f ∙ ap (λ (x : ℕ). bit_and (x + (2 ^ n - on)) on) z.here ∙ spread_next n on j z.listed;
        }

    pub tabling_in : 2 ^ n ≤ 64 * w → (new : List ℕ) (next : ℕ) → j < size → has s setting ≡ true → new ≡ put_bit 0 j bits
        → next ≡ bit_and (setting + (2 ^ n - on)) on → Tabling n w s on size new next (j + 1)
    tabling_in room new next l e g h =
        let q : joined new ≡ collect (j + 1) (λ i. has s (spread n (chosen n on) i)) =
        ap joined g ∙ joined_put bits z.words.fits j (omega (arith, z.words.size, z.few))
        ∙ collect_in (λ i. has s (spread n (chosen n on) i)) j (joined bits) (2 ^ j) z.collected (rw z.here at e) refl in
        step new next l (rw g (put_words w 0 j bits z.words)) q h

    pub tabling_out : (new : List ℕ) (next : ℕ) → j < size → has s setting ≡ false → new ≡ bits
        → next ≡ bit_and (setting + (2 ^ n - on)) on → Tabling n w s on size new next (j + 1)
    tabling_out new next l e g h =
        let q : joined new ≡ collect (j + 1) (λ i. has s (spread n (chosen n on) i)) =
        ap joined g ∙ collect_out (λ i. has s (spread n (chosen n on) i)) j (joined bits) z.collected (rw z.here at e) in
        step new next l (rw g z.words) q h

    pub tabling_end : size ≤ j → size ≡ 2 ^ length (rests n s) → on ≡ collect n (rests_on n s) → joined bits ≡ table n s
    unfolding table table_over
    tabling_end l e f =
        let k : j ≡ 2 ^ length (rests n s) = omega (arith, z.below, e) in
        let c : chosen n on ≡ rests n s = ap (chosen n) f ∙ chosen_rests n s in
        z.collected ∙ rw (k, c)
