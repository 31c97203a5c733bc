-- The versions of a circuit file: the byte of each names it; a guard's table has a bit for each setting of the most wires; no version has more wires or bytes of a table than the second.
use Rattle.std.specs.Prelude.{ℕ, ◌*◌, ◌^◌, ◌≤◌, ◌<◌, ◌≡◌, refl}
use Rattle.std.proofs.Common.{sym, ap, ◌∙◌, arith, pow_mono}
use Rattle.base.specs.NumberLaws.{bits_bytes}
use Rattle.file.specs.declared.Version.TheVariants.{One, Two}
use Rattle.file.specs.Versions.{Version, one, two, version_byte, version_of, most_guard_wires, table_bytes}

-- the byte of a version names it, and is a byte
pub version_back : (ver : Version) → version_of (version_byte ver) ≡ ver
version_back One = refl
version_back Two = refl

pub version_small : (ver : Version) → version_byte ver < 256
version_small One = omega arith
version_small Two = omega arith

-- a table has a bit for each setting of the most wires
pub table_bits : (ver : Version) → 8 * table_bytes ver ≡ 2 ^ most_guard_wires ver
table_bits One = refl
table_bits Two = refl

-- so a table of the most wires has its bytes, and no bit is left
pub table_room : (ver : Version) → 256 ^ table_bytes ver ≡ 2 ^ 2 ^ most_guard_wires ver
table_room ver = sym (bits_bytes (table_bytes ver)) ∙ ap (λ (n : ℕ). 2 ^ n) (table_bits ver)

-- the number of a guard's wires is that of a bit of its table
pub number_bit : (ver : Version) (j n : ℕ) → n ≤ most_guard_wires ver → j < 2 ^ n → j < 8 * table_bytes ver
number_bit ver j n h l = let k : 2 ^ n ≤ 2 ^ most_guard_wires ver = pow_mono h in rw (table_bits ver) (omega (arith, l, k))

-- how few the wires and the table's bytes are: the first version has the fewest, the second the most
pub wires_few : (ver : Version) → most_guard_wires ver ≤ most_guard_wires two
wires_few One = omega arith
wires_few Two = omega arith

pub table_few : (ver : Version) → (table_bytes one ≤ table_bytes ver) × (table_bytes ver ≤ table_bytes two)
table_few One = (omega arith, omega arith)
table_few Two = (omega arith, omega arith)
