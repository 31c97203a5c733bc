-- The gate of an operation of two arguments (`apply_gate`): its arguments, figure and kind, in whichever order it takes them. Other files cite these and never its text.
use Rattle.std.specs.Prelude.{ℕ, ◌≡◌, refl, List, [], ◌∷◌, Bool, true, false, cond, ◌⊎◌, ltb}
use Rattle.std.proofs.Math.Bool.{and-eq-true_iff}
use Rattle.std.proofs.Common.{inl, inr, arith, ltb-true, ltb-false}
use Rattle.base.specs.Lists.{◌∈◌}
use Rattle.base.specs.TestLaws.{split}
use Rattle.base.specs.Codes.{commutes, entry_of}
use Rattle.base.specs.Results.{result_of}
use Rattle.base.specs.ResultLaws.{result_commutes}
use Rattle.base.specs.declared.Kind.{Kind}
use Rattle.base.specs.declared.Operation.{Operation}
use Rattle.circuit.specs.Gates.{Gate, operation, arguments, figure}
use Rattle.circuit.specs.PlainCircuit.{turned, in_order, apply_gate}
use Rattle.circuit.specs.GateKinds.{gate_kind}

-- its text, which no other law opens
pub apply_is : (op : Operation) (a b : ℕ) → apply_gate op a b ≡ operation op (in_order op a b)
unfolding apply_gate
apply_is op a b = refl

-- What holds of the arguments as written, and of the arguments turned where the operation commutes, holds of the gate.
pub apply_cases : (P : Gate → Type 0) (op : Operation) (a b : ℕ) → P (operation op (a ∷ b ∷ [])) → (commutes op ≡ true → P (operation op (b ∷ a ∷ []))) → P
    (apply_gate op a b)
apply_cases P op a b h k = rw (apply_is op a b) (go (turned op a b) (λ e. ((and-eq-true_iff (commutes op) (ltb b a)).0 e).0))
  where
    go : (t : Bool) → (t ≡ true → commutes op ≡ true) → P (operation op (cond t (b ∷ a ∷ []) (a ∷ b ∷ [])))
    go true c = k (c refl)
    go false c = h

-- it has its two arguments
pub apply_arguments : (op : Operation) (a b x : ℕ) → x ∈ arguments (apply_gate op a b) → (x ≡ a) ⊎ (x ≡ b)
apply_arguments op a b x = apply_cases (λ k. x ∈ arguments k → (x ≡ a) ⊎ (x ≡ b)) op a b as_written (λ c. other_way)
  where
    as_written : x ∈ (a ∷ b ∷ []) → (x ≡ a) ⊎ (x ≡ b)
    as_written (inl e) = inl e
    as_written (inr (inl e)) = inr e
    as_written (inr (inr m)) = absurd m

    other_way : x ∈ (b ∷ a ∷ []) → (x ≡ a) ⊎ (x ≡ b)
    other_way (inl e) = inr e
    other_way (inr (inl e)) = inl e
    other_way (inr (inr m)) = absurd m

-- its figure is the operation's result on its arguments' figures, in the order in which they are written
pub apply_figure : (inputs : List ℕ) (v : ℕ → ℕ) (op : Operation) (a b : ℕ) → figure inputs v (apply_gate op a b) ≡ result_of op (v a) (v b)
apply_figure inputs v op a b = apply_cases (λ k. figure inputs v k ≡ result_of op (v a) (v b)) op a b refl (λ c. result_commutes op (v b) (v a) c)

-- its kind is what the operation gives
pub apply_kind : (kinds k : ℕ → Kind) (op : Operation) (a b : ℕ) → gate_kind kinds k (apply_gate op a b) ≡ (entry_of op).gives
apply_kind kinds k op a b = apply_cases (λ g. gate_kind kinds k g ≡ (entry_of op).gives) op a b refl (λ c. refl)

-- two orders, one gate
pub apply_commutes : (op : Operation) (a b : ℕ) → commutes op ≡ true → apply_gate op a b ≡ apply_gate op b a
apply_commutes op a b h =
    rw (apply_is op a b, apply_is op b a)
    (split (ltb b a)
    (λ t. split (ltb a b) (λ u. absurd (omega (arith, ltb-true b a t, ltb-true a b u))) (λ u. rw (h, t, u)))
    (λ t. split (ltb a b) (λ u. rw (h, t, u)) (λ u. let e : a ≡ b = omega (arith, ltb-false b a t, ltb-false a b u) in rw e)))
