-- Quads have four numbers a gate.
use Rattle.std.specs.Prelude.{ℕ, ◌*◌, ◌≡◌, refl, List, [], ◌∷◌, length}
use Rattle.std.proofs.Common.{arith, length-append}
use Rattle.circuit.specs.Gates.{Gate, start, word, bit, operation, choice, Gates}
use Rattle.circuit.specs.Quads.{quad_of, quads_of}

pub quad_length : (s : List ℕ) (k : Gate) → length (quad_of s k) ≡ 4
quad_length s (start x) = refl
quad_length s (word n) = refl
quad_length s (bit b) = refl
quad_length s (operation op l) = refl
quad_length s (choice c a b) = refl

pub quads_length : (s : List ℕ) (C : Gates) → length (quads_of s C) ≡ 4 * length C
unfolding quads_of
quads_length s [] = refl
quads_length s (k ∷ C) = rw (length-append, quad_length s k, quads_length s C) (omega arith)
