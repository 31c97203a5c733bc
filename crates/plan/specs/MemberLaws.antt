-- The rows 27 to 29: their tests reflect that a group's members are one costly operation, and that no two are needed together. Proved over the operation.
use Rattle.std.specs.Prelude.{◌≡◌, refl, cond, ◌↔◌, ℕ, ◌≤◌, eqb, get_or}
use Rattle.std.proofs.Common.{sym, ◌∙◌, inl, inr, arith, eqb-true, eq-eqb, ne_eqb}
use Rattle.std.proofs.Math.Path.{ap}
use Rattle.std.proofs.Math.Bool.{true}
use Rattle.std.proofs.lemmas.Bool.{false≢true, eqb-false}
use mathlib.Core.List.{List, [], ◌∷◌}
use Rattle.std.proofs.Math.ListN.{length}
use Rattle.base.specs.MemberLaws.{every_right}
use Rattle.base.specs.Lists.{◌∈◌, every}
use Rattle.base.specs.TestLaws.{split, both, and}
use Rattle.base.specs.Sets.{excludes}
use Rattle.base.specs.Codes.{costly, byte_of, operation_of}
use Rattle.base.specs.CodeLaws.{byte_operation}
use Rattle.base.specs.declared.Operation.{Operation}
use Rattle.circuit.specs.Gates.{Gate, start, word, bit, operation, choice, Gates, gate_at}
use Rattle.circuit_needed.specs.Needed.{Exclude}
use Rattle.plan.specs.PlanFile.{Plan, EachGroup}
use Rattle.plan.specs.Rows.{every_group, is_costly, operation_byte, alike, parted}
use Rattle.plan.specs.Accepted.{OneCostly, NoTwoNeeded}

-- a costly gate is a costly operation
pub costly_gate : (k : Gate) → is_costly k ≡ true → (op : Operation) × (costly op ≡ true) × (l : List ℕ) × (k ≡ operation op l)
unfolding is_costly
costly_gate (start x) h = absurd (false≢true h)
costly_gate (word n) h = absurd (false≢true h)
costly_gate (bit b) h = absurd (false≢true h)
costly_gate (operation op l) h = (op, h, l, refl)
costly_gate (choice c a b) h = absurd (false≢true h)

-- and an operation's gate is as costly as the operation
pub gate_costly : (op : Operation) (l : List ℕ) → is_costly (operation op l) ≡ costly op
unfolding is_costly
gate_costly op l = refl

-- an operation is known by its byte
byte_one : (a b : Operation) → byte_of a ≡ byte_of b → a ≡ b
byte_one a b e = sym (byte_operation a) ∙ ap operation_of e ∙ byte_operation b

module _ (C : Gates) where
  -- 27 and 28 of a group of one or more
  one_costly_to : (G : List ℕ) → 2 ≤ length G → every (λ g. is_costly (gate_at C g)) G ≡ true → alike C G ≡ true → OneCostly C G
  one_costly_to [] s h a = absurd (omega arith)
  one_costly_to (m ∷ l) s h a = (first.0, first.1, each)
    where
      costs : (g : ℕ) → g ∈ (m ∷ l) → (op : Operation) × (costly op ≡ true) × (x : List ℕ) × (gate_at C g ≡ operation op x)
      costs g k = costly_gate (gate_at C g) ((every_right (λ i. is_costly (gate_at C i)) (m ∷ l)).0 h g k)

      first : (op : Operation) × (costly op ≡ true) × (x : List ℕ) × (gate_at C m ≡ operation op x)
      first = costs m (inl refl)

      as_first : (g : ℕ) → g ∈ l → (op : Operation) × (costly op ≡ true) × (x : List ℕ) × (gate_at C g ≡ operation op x)
          → (x : List ℕ) × (gate_at C g ≡ operation first.0 x)
      as_first g k (op, c, x, e) =
          let b : byte_of first.0 ≡ byte_of op =
          ap operation_byte (sym first.3) ∙ eqb-true _ _ ((every_right (λ i. eqb (operation_byte (gate_at C m)) (operation_byte (gate_at C i))) l).0 a g k)
          ∙ ap operation_byte e in
          (x, e ∙ ap (λ (o : Operation). operation o x) (sym (byte_one first.0 op b)))

      each : (g : ℕ) → g ∈ (m ∷ l) → (x : List ℕ) × (gate_at C g ≡ operation first.0 x)
      each g (inl e) = (first.2, ap (gate_at C) e ∙ first.3)
      each g (inr k) = as_first g k (costs g (inr k))

  one_costly_27 : (G : List ℕ) → OneCostly C G → every (λ g. is_costly (gate_at C g)) G ≡ true
  unfolding is_costly
  one_costly_27 G (op, c, f) = (every_right (λ g. is_costly (gate_at C g)) G).1 (λ g m. ap is_costly (f g m).1 ∙ c)

  one_costly_28 : (G : List ℕ) → OneCostly C G → alike C G ≡ true
  one_costly_28 [] o = refl
  one_costly_28 (m ∷ l) (op, c, f) =
      (every_right (λ i. eqb (operation_byte (gate_at C m)) (operation_byte (gate_at C i))) l).1
      (λ g k. eq-eqb _ _ (ap operation_byte (f m (inl refl)).1 ∙ sym (ap operation_byte (f g (inr k)).1)))

  -- 27 and 28 of every group: its members are one costly operation
  pub costly_right : (Gs : Plan) → EachGroup (λ G. 2 ≤ length G) Gs
      → ((every_group (every (λ g. is_costly (gate_at C g))) Gs ≡ true) × (every_group (alike C) Gs ≡ true)) ↔ EachGroup (OneCostly C) Gs
  unfolding is_costly
  costly_right Gs s = (λ h. to Gs s h.0 h.1, λ o. (back_27 Gs o, back_28 Gs o))
    where
      to : (Gs : Plan) → EachGroup (λ G. 2 ≤ length G) Gs → every_group (every (λ g. is_costly (gate_at C g))) Gs ≡ true → every_group (alike C) Gs ≡ true → EachGroup
          (OneCostly C) Gs
      to [] s h a = tt
      to (G ∷ Gs) (s, t) h a =
          let r = both (every (λ g. is_costly (gate_at C g)) G) _ h in
          let q = both (alike C G) _ a in
          (one_costly_to G s r.0 q.0, to Gs t r.1 q.1)

      back_27 : (Gs : Plan) → EachGroup (OneCostly C) Gs → every_group (every (λ g. is_costly (gate_at C g))) Gs ≡ true
      back_27 [] o = refl
      back_27 (G ∷ Gs) (o, u) = and (one_costly_27 G o) (back_27 Gs u)

      back_28 : (Gs : Plan) → EachGroup (OneCostly C) Gs → every_group (alike C) Gs ≡ true
      back_28 [] o = refl
      back_28 (G ∷ Gs) (o, u) = and (one_costly_28 G o) (back_28 Gs u)

  -- 29: no two members of the group are needed together, where the sets say which gates exclude each other
  pub parted_right : (wanted sets : List ℕ) → ((g h : ℕ) → (excludes (get_or sets g 0) (get_or sets h 0) ≡ true) ↔ Exclude C wanted g h)
      → (G : List ℕ) → (parted sets G ≡ true) ↔ NoTwoNeeded C wanted G
  parted_right wanted sets right G = (to, back)
    where
      to : parted sets G ≡ true → NoTwoNeeded C wanted G
      to t g h m k n =
          (right g h).0 (rw (ne_eqb g h n) at
          ((every_right (λ j. cond (eqb g j) true (excludes (get_or sets g 0) (get_or sets j 0))) G).0
          ((every_right (λ i. every (λ j. cond (eqb i j) true (excludes (get_or sets i 0) (get_or sets j 0))) G) G).0 t g m) h k))

      back : NoTwoNeeded C wanted G → parted sets G ≡ true
      back x =
          (every_right (λ i. every (λ j. cond (eqb i j) true (excludes (get_or sets i 0) (get_or sets j 0))) G) G).1
          (λ g m. (every_right (λ j. cond (eqb g j) true (excludes (get_or sets g 0) (get_or sets j 0))) G).1
          (λ h k. split (eqb g h) (λ e. rw e) (λ e. rw e ((right g h).1 (x g h m k (eqb-false g h e))))))
