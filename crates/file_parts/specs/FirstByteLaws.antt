-- A record's first byte: what the last arm of a decision over it knows; a record that lies in the file has that byte there and, where it is a guard, the file's version byte.
use Rattle.std.specs.Prelude.{ℕ, zero, suc, ◌+◌, ◌≤◌, ◌<◌, ◌≡◌, refl, List, length, get_or}
use Rattle.std.proofs.Common.{arith}
use Rattle.base.specs.Codes.{start_code}
use Rattle.base.specs.declared.Kind.{Kind}
use Rattle.base.specs.declared.Kind.TheVariants as kind
use Rattle.file.specs.FileFigures.{version_in, size_at}
use Rattle.file.specs.FoundForms.{OtherByte, form_guard, size_some}
use Rattle.file.specs.VersionLaws.{table_few}

-- any other byte, as the last arm of a decision over the bytes is told it
pub other : (b : ℕ) {N : Type 0} → 2 ≤ b
    → (((((N × (b ≡ 0x11 → ⊥)) × (b ≡ 0x12 → ⊥)) × (b ≡ 0x30 → ⊥)) × (b ≡ 0x31 → ⊥)) × (b ≡ 0x32 → ⊥))
    → OtherByte b
other b l r = record {
  no_word = λ e. omega arith;
  no_bit = λ e. omega arith;
  no_word_constant = r.0.0.0.0.1;
  no_bit_constant = r.0.0.0.1;
  no_choice = r.0.0.1;
  no_pick = r.0.1;
  no_guard = r.1;
}

-- the two codes of an input
pub input_code : (b : ℕ) → b < 2 → (k : Kind) × (b ≡ start_code k)
input_code zero h = (kind.Word, refl)
input_code (suc zero) h = (kind.Bit, refl)
input_code (suc (suc n)) h = absurd (omega arith)

-- a record that is there has its first byte there
pub first_inside : (f : List ℕ) (at : ℕ) → at + size_at f at ≤ length f → at < length f
first_inside f at h = omega (arith, h, size_some f at)

-- and where it is a guard, the version byte is there too
pub version_inside : (f : List ℕ) (at : ℕ) → get_or f at 0 ≡ 0x32 → at + size_at f at ≤ length f → 4 < length f
version_inside f at e h = omega (arith, h, (form_guard f at e).1, table_few (version_in f))
