-- Document 01, "Refusals by place": inputs. They are those of any v variables whose kinds are `kinds`: a rule's, or a circuit file's (document 02, C-11).
use Rattle.std.specs.Prelude.{ℕ, ◌<◌, List, [], ◌∷◌, Bool, false, ◌&&◌, ◌||◌, cond, length, get_or, eqb, ltb, leb}
use Rattle.base.specs.Lists.{upto}
use Rattle.base.specs.Codes.{Fits, same_kind}
use Rattle.base.specs.declared.Kind.{Kind}
use Rattle.base.specs.declared.Kind.TheVariants as kind

-- x is a bit variable, and its input is above 1
abbrev pub above_bit : (ℕ → Kind) → List ℕ → ℕ → Bool
above_bit kinds inputs x = ltb 1 (get_or inputs x 0) && same_kind (kinds x) kind.Bit

-- so is one of these variables
unfoldable pub some_above : (ℕ → Kind) → List ℕ → List ℕ → Bool
some_above kinds inputs [] = false
some_above kinds inputs (x ∷ rest) = above_bit kinds inputs x || some_above kinds inputs rest

-- 40: not v of them; 41: a bit variable's above 1; 42: fewer than v result places; else 0. The lowest number decides.
unfoldable pub inputs_row : ℕ → (ℕ → Kind) → List ℕ → ℕ → ℕ
inputs_row v kinds inputs room = cond (eqb (length inputs) v) (cond (some_above kinds inputs (upto v)) 41 (cond (leb v room) 0 42)) 40

-- what no row says of inputs that are words: each variable's figure is of its kind
abbrev pub FiguresFit : ℕ → (ℕ → Kind) → List ℕ → Type 0
FiguresFit v kinds f = (x : ℕ) → x < v → Fits (kinds x) (get_or f x 0)
