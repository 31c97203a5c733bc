-- Records that are read back from their bytes: the fields that are no wires fit, and every wire has two bytes.
use Rattle.std.specs.Prelude.{ℕ, suc, ◌^◌, ◌<◌, ◌≡◌, List, [], ◌∷◌, length}
use Rattle.base.specs.Codes.{entry_of}
use Rattle.file.specs.Records.{Record, input, word, bit, operation, choice, pick, guard, reads, record_in}
use Rattle.file.specs.Versions.{Version, table_bytes}
use Rattle.file.specs.RecordLaws.{Along}
use Rattle.file.specs.FitRecords.{Wires, ReadsBack, AllReadBack}

-- what a record needs besides the wires that it reads
abbrev pub FieldsFit : Version → Record → Type 0
FieldsFit ver (input k x) = x < 256
FieldsFit ver (word n) = n < 256 ^ 4
FieldsFit ver (bit b) = b < 256
FieldsFit ver (operation op l) = length l ≡ (entry_of op).arity
FieldsFit ver (choice c a b) = Unit {0}
FieldsFit ver (pick l) = length l < 256
FieldsFit ver (guard cs t) = (length cs < 256) × (t < 256 ^ table_bytes ver)

abbrev pub AllFieldsFit : Version → ℕ → List Record → Type 0
AllFieldsFit ver n R = Along (λ i. FieldsFit ver) n R

-- with wires of two bytes it fits
sized_fits : (ver : Version) (r : Record) → FieldsFit ver r → Wires (reads r) → ReadsBack ver r
sized_fits ver (input k x) h w = h
sized_fits ver (word n) h w = h
sized_fits ver (bit b) h w = h
sized_fits ver (operation op l) h w = (h, w)
sized_fits ver (choice c a b) h w = w
sized_fits ver (pick l) h w = (h, w)
sized_fits ver (guard cs t) (h, k) w = (h, w, k)

pub all_fit : (ver : Version) (R : List Record) (n : ℕ) → AllFieldsFit ver n R → ((i : ℕ) → Wires (reads (record_in R i))) → AllReadBack ver R
all_fit ver [] n h w = tt
all_fit ver (r ∷ R) n (h, k) w = (sized_fits ver r h (w 0), all_fit ver R (suc n) k (λ i. w (suc i)))
