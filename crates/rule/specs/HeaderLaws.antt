-- Kind bytes: 00 says a word and 01 a bit, of result variables; 02 and 03 say the same of working ones.
use Rattle.std.specs.Prelude.{ℕ, ◌+◌, ◌%◌, ◌≡◌, refl, true, false, List, get_or}
use Rattle.std.proofs.Common.{eq-eqb, ne_eqb}
use Rattle.base.specs.declared.Kind.TheVariants as kind
use Rattle.rule.specs.Header.{kind_of, working_of, kind_at, working_at}

pub kind_bit : (b : ℕ) → b % 2 ≡ 1 → kind_of b ≡ kind.Bit
unfolding kind_of
kind_bit b h = rw (eq-eqb (b % 2) 1 h)

pub kind_word : (b : ℕ) → (b % 2 ≡ 1 → ⊥) → kind_of b ≡ kind.Word
unfolding kind_of
kind_word b h = rw (ne_eqb (b % 2) 1 h)

-- what a kind byte says
module _ (s : List ℕ) (x : ℕ) where
  pub word_said : get_or s (6 + x) 0 ≡ 0x00 → (kind_at s x ≡ kind.Word) × (working_at s x ≡ false)
  unfolding kind_of working_of
  word_said e = rw e (refl, refl)

  pub bit_said : get_or s (6 + x) 0 ≡ 0x01 → (kind_at s x ≡ kind.Bit) × (working_at s x ≡ false)
  unfolding kind_of working_of
  bit_said e = rw e (refl, refl)

  pub working_word_said : get_or s (6 + x) 0 ≡ 0x02 → (kind_at s x ≡ kind.Word) × (working_at s x ≡ true)
  unfolding kind_of working_of
  working_word_said e = rw e (refl, refl)

  pub working_bit_said : get_or s (6 + x) 0 ≡ 0x03 → (kind_at s x ≡ kind.Bit) × (working_at s x ≡ true)
  unfolding kind_of working_of
  working_bit_said e = rw e (refl, refl)
