-- Document 01, "The fused circuit file", and document 02, C-11, row 61: what a record needs to be read back from its bytes: every number fits its bytes, an operation has its arguments.
use Rattle.std.specs.Prelude.{ℕ, ◌^◌, ◌<◌, ◌≡◌, List, [], ◌∷◌, length}
use Rattle.base.specs.Lists.{◌∈◌}
use Rattle.base.specs.Codes.{entry_of}
use Rattle.file.specs.Records.{Record, input, word, bit, operation, choice, pick, guard, pair_wires}
use Rattle.file.specs.Versions.{Version, table_bytes}

-- every wire fits two bytes
abbrev pub Wires : List ℕ → Type 0
Wires l = (w : ℕ) → w ∈ l → w < 256 ^ 2

-- a record that is read back from its bytes, as a version writes them
abbrev pub ReadsBack : Version → Record → Type 0
ReadsBack ver (input k x) = x < 256
ReadsBack ver (word n) = n < 256 ^ 4
ReadsBack ver (bit b) = b < 256
ReadsBack ver (operation op l) = (length l ≡ (entry_of op).arity) × Wires l
ReadsBack ver (choice c a b) = Wires (c ∷ a ∷ b ∷ [])
ReadsBack ver (pick l) = (length l < 256) × Wires (pair_wires l)
ReadsBack ver (guard cs t) = (length cs < 256) × Wires cs × (t < 256 ^ table_bytes ver)

-- every record of a list is one
abbrev pub AllReadBack : Version → List Record → Type 0
AllReadBack ver [] = Unit {0}
AllReadBack ver (r ∷ R) = ReadsBack ver r × AllReadBack ver R

-- a file of them, with v variables, is read back: the wire count and the output wires fit two bytes, and there is an output for each variable
pub record FileFits (ver : Version) (v : ℕ) (R : List Record) (outputs : List ℕ) : Type 0 where
  pub each : AllReadBack ver R
  pub few : length R < 256 ^ 2
  pub wires : Wires outputs
  pub count : length outputs ≡ v
