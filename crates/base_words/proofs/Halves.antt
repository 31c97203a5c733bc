-- A number of v + w bytes, written as two: the high bytes, and the low ones into the rest of the lent buffer.
use Rattle.std.proofs.Common.{◌≡◌, ℕ, ◌+◌, ◌-◌, ◌/◌, ◌%◌, ◌^◌, ◌≤◌, List, length, take, drop, sym, ap, ◌∙◌}
use borrow.Rule.Slice.PartMut.{put_mid}
use Rattle.base.specs.Numbers.{bytes_of}
use Rattle.base.specs.NumberLaws.{length_bytes, bytes_append}
use Rattle.base.specs.Buffers.{over}
use Rattle.base.specs.BufferLaws.{over_rest}

pub halves : (v w n : ℕ) (d e ys : List ℕ) → v + w ≤ length d → e ≡ over (bytes_of v (n / 256 ^ w)) d
    → ys ≡ over (bytes_of w (n % 256 ^ w)) (take (length e - v) (drop v e))
    → put_mid v (length e - v) e ys ≡ over (bytes_of (v + w) n) d
halves v w n d e ys h p r =
    over_rest (bytes_of v (n / 256 ^ w)) (bytes_of w (n % 256 ^ w)) d e ys v (sym (length_bytes v (n / 256 ^ w)))
    (rw (length_bytes v (n / 256 ^ w), length_bytes w (n % 256 ^ w)) h) p r
    ∙ ap (λ (l : List ℕ). over l d) (sym (bytes_append v w n))
