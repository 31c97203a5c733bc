-- The law for moving some bytes to the start.
use Rattle.std.specs.Prelude.{List, ◌≡◌, ℕ, ◌+◌, ◌-◌, ◌≤◌, ◌++◌, length, take, drop}
use Rattle.std.proofs.Common.{ap, arith, length-drop, length-take-le}
use Rattle.std.specs.List.{copy_within}
use Rattle.base.specs.Buffers.{over}

-- those from `from` up to `to`
pub moved_front : (w : List ℕ) (from to : ℕ) → from ≤ to → to ≤ length w → copy_within w from to 0 ≡ over (take (to - from) (drop from w)) w
unfolding over
moved_front w from to h l =
    let e : length (take (to - from) (drop from w)) ≡ to - from = length-take-le (to - from) (drop from w) (rw (length-drop from w) (omega arith)) in
    let z : 0 + (to - from) ≡ length (take (to - from) (drop from w)) = omega (arith, e) in
    ap (λ (k : ℕ). take (to - from) (drop from w) ++ drop k w) z
