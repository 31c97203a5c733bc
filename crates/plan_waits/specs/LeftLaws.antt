-- The pass over the gates that finds the groups left at first: a gate whose group has its own number is in the set, and each is counted once.
use Rattle.std.specs.Prelude.{ℕ, ◌+◌, ◌≤◌, ◌<◌, ◌≡◌, refl, List, eqb, length, get_or, replicate}
use Rattle.std.proofs.Common.{◌∙◌, arith, length-append, eq-eqb, ne_eqb}
use Rattle.base.specs.Lists.{elem, keep, upto}
use Rattle.base.specs.ListLaws.{keep_yes, keep_no}
use Rattle.base.specs.MemberLaws.{elem_more}
use Rattle.plan.specs.Groups.{groups}
use Rattle.plan.specs.GroupLaws.{groups_kept}
use Rattle.base.specs.BitWords.{HasWords, bit_in, put_bit}
use Rattle.plan_waits.specs.Gathering.{Left}
use Rattle.base.specs.BitWordLaws.{clear_words, clear_bit, put_words, put_bit_lem}

-- The set of groups left: those named by a gate below i, n of them.
pub record Listing (group : List ℕ) (count : ℕ) (left : List ℕ) (n i : ℕ) : Type 0 where
  pub room : count ≤ 256
  pub few : n ≤ i
  pub counted : n ≡ length (keep (λ p. eqb (get_or group p 0) p) (upto i))
  pub below : i ≤ count
  pub words : HasWords 4 left
  pub holds : (q : ℕ) → q < 256 → bit_in 0 left q ≡ elem q (keep (λ p. eqb (get_or group p 0) p) (upto i))

module _ (group : List ℕ) (count : ℕ) where
  pub listing_start : (left : List ℕ) → count ≤ 256 → left ≡ replicate 4 0 → Listing group count left 0 0
  listing_start left h e = record { room = h; few = omega arith; counted = refl; below = omega arith; words = clear_words 4 left e; holds = λ q l. clear_bit 4 0 q left e }

  pub listing_yes : (left new : List ℕ) (n m i : ℕ) → Listing group count left n i → i < count → get_or group i 0 ≡ i → new ≡ put_bit 0 i left → m ≡ n + 1
      → Listing group count new m (i + 1)
  listing_yes left new n m i s l h e f =
      record {
        room = s.room;
        few = omega (arith, s.few, f);
        counted = rw (keep_yes (λ p. eqb (get_or group p 0) p) i (eq-eqb (get_or group i 0) i h), length-append) (omega (arith, s.counted, f));
        below = omega arith;
        words = rw e (put_words 4 0 i left s.words);
        holds = λ q k. rw (
          e,
          keep_yes (λ p. eqb (get_or group p 0) p) i (eq-eqb (get_or group i 0) i h),
          elem_more q
              (keep (λ p. eqb (get_or group p 0) p) (upto i)) i,
          ← s.holds q k,
        )
            (put_bit_lem 4 0 left s.words.size (omega arith) i (omega (arith, s.room)) 0 q k);
      }

  pub listing_no : (left new : List ℕ) (n m i : ℕ) → Listing group count left n i → i < count → (get_or group i 0 ≡ i → ⊥) → new ≡ left → m ≡ n
      → Listing group count new m (i + 1)
  listing_no left new n m i s l h e f =
      record {
        room = s.room;
        few = omega (arith, s.few, f);
        counted = rw (keep_no (λ p. eqb (get_or group p 0) p) i (ne_eqb (get_or group i 0) i h)) (f ∙ s.counted);
        below = omega arith;
        words = rw e s.words;
        holds = λ q k. rw (e, keep_no (λ p. eqb (get_or group p 0) p) i (ne_eqb (get_or group i 0) i h)) (s.holds q k);
      }

  pub listing_end : (left : List ℕ) (n i : ℕ) → Listing group count left n i → count ≤ i
      → (n ≡ length (groups count (λ x. get_or group x 0))) × Left (λ x. get_or group x 0) count left
  listing_end left n i s l =
      let e : count ≡ i = omega (arith, s.below) in
      (rw (groups_kept count (λ x. get_or group x 0), e) s.counted, record { words = s.words; holds = λ q k. rw (groups_kept count (λ x. get_or group x 0), e) (s.holds q k) })
