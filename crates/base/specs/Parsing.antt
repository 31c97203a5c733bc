-- Document 01, "Refusals by place": reading byte by byte, the first offending byte decides, then the lowest number.
use Rattle.std.specs.Prelude.{ℕ, ◌+◌, List, [], ◌∷◌, get_or, eqb, Bool, true, false}

-- where a reader stands: past what it read, or at a refusal's number and place
pub data Step : Type 0 where
  Past : ℕ → Step
  Refused : ℕ → ℕ → Step

-- the result of a parser: what was read and the place after it, or a refusal's number and place
pub data Parsed (A : Type 0) : Type 0 where
  parsed : A → ℕ → Parsed A
  refused : ℕ → ℕ → Parsed A

module _ {A : Type 0} where
  -- where the reader stands then: it keeps the place and not what was read
  abbrev pub step_of : Parsed A → Step
  step_of (parsed a next) = Past next
  step_of (refused number place) = Refused number place

  -- it was read
  abbrev pub IsRead : Parsed A → Type 0
  IsRead (parsed a next) = Unit {0}
  IsRead (refused number place) = ⊥

  -- refuse by the number at the place unless the test holds
  abbrev pub unless : Bool → ℕ → ℕ → Parsed A → Parsed A
  unless true number place rest = rest
  unless false number place rest = refused number place

infixl 40 ◌>>=◌
-- one part, then what follows it from the place after it
abbrev pub ◌>>=◌ : {A B : Type 0} → Parsed A → (A → ℕ → Parsed B) → Parsed B
parsed a next >>= rest = rest a next
refused number place >>= rest = refused number place

-- the bytes of a mark stand in s from `at` on: the number lies on the first that differs
unfoldable pub read_mark : ℕ → List ℕ → List ℕ → ℕ → Parsed (Unit {0})
read_mark number [] s at = parsed tt at
read_mark number (b ∷ mark) s at = unless (eqb (get_or s at 0) b) number at (read_mark number mark s (at + 1))
