-- Document 01, "The plain circuit" and "The fused circuit file": gates as they lie in a lent array, four numbers a gate:
-- the code that the gate's record of a circuit file begins with, then the variable of a starting value, the figure of a constant,
-- or the argument gates; 0 where there is none. So a quad is a four-address node: a code and up to three operands.
use Rattle.std.specs.Prelude.{ℕ, List, [], ◌∷◌, ◌++◌, get_or}
use Rattle.base.specs.Codes.{byte_of, start_code}
use Rattle.rule.specs.Header.{kind_at}
use Rattle.circuit.specs.Gates.{Gate, start, operation, choice, Gates}
use Rattle.circuit.specs.Gates as gate

-- the four numbers of a gate; s is the rule, for the kind of a starting value
abbrev pub quad_of : List ℕ → Gate → List ℕ
quad_of s (start x) = start_code (kind_at s x) ∷ x ∷ 0 ∷ 0 ∷ []
quad_of s (gate.word n) = 0x11 ∷ n ∷ 0 ∷ 0 ∷ []
quad_of s (gate.bit b) = 0x12 ∷ b ∷ 0 ∷ 0 ∷ []
quad_of s (operation op l) = byte_of op ∷ get_or l 0 0 ∷ get_or l 1 0 ∷ 0 ∷ []
quad_of s (choice c a b) = 0x30 ∷ c ∷ a ∷ b ∷ []

-- those of all gates, in order of making
unfoldable pub quads_of : List ℕ → Gates → List ℕ
quads_of s [] = []
quads_of s (k ∷ C) = quad_of s k ++ quads_of s C
