-- An argument place of a joined group (document 02, C-18): its members have one wire there exactly when each has the first one's.
use Rattle.std.specs.Prelude.{ℕ, ◌<◌, ◌≡◌, refl, true, false, List, [], ◌∷◌, eqb, length, get_or}
use Rattle.std.proofs.Common.{inl, inr, arith, eqb-true, eq-eqb}
use Rattle.std.proofs.lemmas.Bool.{false≢true}
use Rattle.base.specs.Lists.{◌∈◌}
use Rattle.base.specs.TestLaws.{split}
use Rattle.base.specs.MemberLaws.{every_right}
use Rattle.fused.specs.Emission.{one_wire}

-- the one wire is each member's
pub one_wire_each : (values : List ℕ) → one_wire values ≡ true → (w : ℕ) → w ∈ values → w ≡ get_or values 0 0
unfolding one_wire
one_wire_each [] h w m = absurd m
one_wire_each (v ∷ values) h w (inl e) = e
one_wire_each (v ∷ values) h w (inr m) = eqb-true w v ((every_right (λ u. eqb u v) values).0 h w m)

-- and so it is a member's
pub one_wire_in : (values : List ℕ) → one_wire values ≡ true → get_or values 0 0 ∈ values
unfolding one_wire
one_wire_in [] h = absurd (false≢true h)
one_wire_in (v ∷ values) h = inl refl

-- members that each have the first one's wire have one
pub one_wire_lem : (values : List ℕ) → 0 < length values → ((w : ℕ) → w ∈ values → w ≡ get_or values 0 0) → one_wire values ≡ true
unfolding one_wire
one_wire_lem [] some h = absurd (omega arith)
one_wire_lem (v ∷ values) some h = (every_right (λ u. eqb u v) values).1 (λ w m. eq-eqb w v (h w (inr m)))

-- members of which one has another wire have not
pub two_wires : (values : List ℕ) (w : ℕ) → w ∈ values → (w ≡ get_or values 0 0 → ⊥) → one_wire values ≡ false
two_wires values w m n = split (one_wire values) (λ h. absurd (n (one_wire_each values h w m))) (λ h. h)
