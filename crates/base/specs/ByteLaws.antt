-- Lists of bytes: the empty one, one byte more, two joined, the parts of a joined one.
use Rattle.std.specs.Prelude.{List, [], ◌∷◌, ◌++◌, ℕ, zero, suc, ◌+◌, ◌<◌, length, drop}
use Rattle.std.proofs.Common.{arith, length-drop, get_or-drop}
use Rattle.std.proofs.Math.Seq.{drop-append_seam}
use Rattle.base.specs.Numbers.{Bytes}

pub bytes_none : Bytes []
bytes_none i h = absurd (omega arith)

pub bytes_cons : (b : ℕ) (l : List ℕ) → b < 256 → Bytes l → Bytes (b ∷ l)
bytes_cons b l h k zero i = h
bytes_cons b l h k (suc j) i = k j (omega arith)

pub bytes_join : (a b : List ℕ) → Bytes a → Bytes b → Bytes (a ++ b)
bytes_join [] b h k = k
bytes_join (x ∷ a) b h k = bytes_cons x (a ++ b) (h 0 (omega arith)) (bytes_join a b (λ i l. h (suc i) (omega arith)) k)

pub bytes_drop : (s : List ℕ) (n : ℕ) → Bytes s → Bytes (drop n s)
bytes_drop s n b i l = rw (get_or-drop n s i 0) (b (n + i) (omega (arith, length-drop n s)))

pub bytes_behind : (a b : List ℕ) → Bytes (a ++ b) → Bytes b
bytes_behind a b h = rw (drop-append_seam a b) at (bytes_drop (a ++ b) (length a) h)

pub bytes_before : (a b : List ℕ) → Bytes (a ++ b) → Bytes a
bytes_before [] b h = bytes_none
bytes_before (x ∷ a) b h = bytes_cons x a (h 0 (omega arith)) (bytes_before a b (λ i l. h (suc i) (omega arith)))
