-- Row 62 of a wire, of an output and of wires at equal distances: what the code tests, one after another, is what the row tests.
use Rattle.std.specs.Prelude.{ℕ, zero, suc, ◌+◌, ◌-◌, ◌*◌, ◌≤◌, ◌<◌, ◌≡◌, List, Bool, true, false, ◌&&◌}
use Rattle.std.proofs.Common.{sym, ap, ◌∙◌, arith, eq-eqb, ne_eqb, lt-ltb, le-ltb}
use Rattle.std.proofs.Math.Nat.{mul-add}
use Rattle.base.specs.Lists.{every}
use Rattle.base.specs.Numbers.{number_at}
use Rattle.base.specs.Codes.{same_kind}
use Rattle.base.specs.declared.Kind.{Kind}
use Rattle.file.specs.CircuitFile.{no_wire}
use Rattle.file.specs.CircuitRows.{output_stands}
use Rattle.file_wiring.specs.Wires.{fits, wires_by}

-- a wire, n its number as the code has it: from i on it doesn't fit; below i it fits where it is of the kind
module _ (i n w : ℕ) (e : n ≡ w) (k : ℕ → Kind) (j : Kind) where
  pub wire_late : i ≤ n → false ≡ fits i k j w
  wire_late h = rw (le-ltb w i (omega (arith, e)))

  pub wire_early : n < i → (b : Bool) → b ≡ same_kind (k n) j → b ≡ fits i k j w
  wire_early h b q = rw (← e, lt-ltb n i h) q

-- an output, n its number as the code has it: no wire stands; any other stands where it fits
module _ (count : ℕ) (k : ℕ → Kind) (x n w : ℕ) (e : n ≡ w) where
  pub output_none : n ≡ no_wire → true ≡ output_stands count k x w
  output_none h = rw (eq-eqb w no_wire (sym e ∙ h))

  pub output_wire_lem : (n ≡ no_wire → ⊥) → (b : Bool) → b ≡ fits count k (k x) w → b ≡ output_stands count k x w
  output_wire_lem h b q = rw (ne_eqb w no_wire (λ z. h (e ∙ z))) q

-- wire k decides together with those after it
module _ (f : List ℕ) (t : ℕ → Bool) (step at count k : ℕ) (h : k < count) where
  next : step * (k + 1) ≡ step * k + step
  next = mul-add step k 1 ∙ omega arith

  pub wires_next : every t (wires_by step (count - k) f (at + step * k))
      ≡ (t (number_at 2 f (at + step * k)) && every t (wires_by step (count - (k + 1)) f (at + step * (k + 1))))
  wires_next =
      let e : count - k ≡ suc (count - (k + 1)) = omega arith in
      let a : at + step * k + step ≡ at + step * (k + 1) = omega (arith, next) in
      ap (λ (n : ℕ). every t (wires_by step n f (at + step * k))) e ∙ rw a

-- of one wire or more, where the first fails the test, not all pass it
pub first_late : (f : List ℕ) (t : ℕ → Bool) (step at count : ℕ) → 1 ≤ count → t (number_at 2 f at) ≡ false → false ≡ every t (wires_by step count f at)
first_late f t step at zero h e = absurd (omega arith)
first_late f t step at (suc n) h e = rw e
