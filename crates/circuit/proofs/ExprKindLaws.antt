-- The kinds of gates: an expression makes gates that fit and stands for one of its kind; choices between values of one kind fit.
use Rattle.std.specs.Prelude.{ℕ, ◌<◌, ◌≡◌, refl, ◌⊎◌, get_or}
use Rattle.std.proofs.Math.Path.{sym}
use Rattle.std.proofs.Common.{◌∙◌, inl, inr, arith}
use mathlib.Core.List.{List, [], ◌∷◌, ◌++◌}
use Rattle.std.proofs.Math.ListN.{length}
use Rattle.base.specs.Lists.{◌∈◌, Inside}
use Rattle.base.specs.Runs.{run_at}
use Rattle.base.specs.RunLaws.{run_at_append, run_at_last}
use Rattle.base.specs.Codes.{entry_of}
use Rattle.base.specs.declared.Kind.{Kind}
use Rattle.base.specs.declared.Kind.TheVariants as kind
use Rattle.base.specs.declared.Operation.{Operation}
use Rattle.rule.specs.Tree.{Expr, variable, word, bit, one, two}
use Rattle.rule.specs.Kinds.{Typed, WordsFit}
use Rattle.circuit.specs.Gates.{Gate, start, operation, choice, Gates, gate_at, arguments, Earlier}
use Rattle.circuit.specs.Gates as gate
use Rattle.circuit.specs.GateKinds.{gate_kind, GateFits}
use Rattle.circuit.specs.PlainCircuit.{Making, Made, add, apply_gate, make_expr, choose, choices, as_before}
use Rattle.circuit.specs.PlainLaws.{extends_length, expr_extends}
use Rattle.circuit.proofs.ApplyLaws.{apply_cases, apply_arguments, apply_kind}
use Rattle.circuit.specs.EarlierLaws.{gate_add, earlier_add, argument_inside}
use Rattle.circuit.proofs.SoundLaws.{Sound, expr_standing, sound_again, CanChoose, ready_next, choice_inside}
use Rattle.circuit.proofs.HoldLaws.{PresentGives, run_at_extends, holds_extends}

-- whether a gate fits rests on the kinds of its arguments
fits_same : (g : Gate) (k j : ℕ → Kind) → ((a : ℕ) → a ∈ arguments g → k a ≡ j a) → GateFits k g → GateFits j g
fits_same (start x) k j h f = f
fits_same (gate.word n) k j h f = f
fits_same (gate.bit b) k j h f = f
fits_same (operation op l) k j h (n, f) = (n, λ a m. sym (h a m) ∙ f a m)
fits_same (choice c a b) k j h (f, e) = (sym (h c (inl refl)) ∙ f, sym (h a (inr (inl refl))) ∙ e ∙ h b (inr (inr (inl refl))))

-- an operation's gate fits if its two arguments are of the kind that it takes
apply_fits : (op : Operation) (a b : ℕ) (k : ℕ → Kind) → (entry_of op).arity ≡ 2 → k a ≡ (entry_of op).takes → k b ≡ (entry_of op).takes → GateFits k (apply_gate op a b)
apply_fits op a b k n e f = apply_cases (GateFits k) op a b (sym n, each a b e f) (λ c. (sym n, each b a f e))
  where
    each : (a b : ℕ) → k a ≡ (entry_of op).takes → k b ≡ (entry_of op).takes → (x : ℕ) → x ∈ (a ∷ b ∷ []) → k x ≡ (entry_of op).takes
    each a b e f x (inl z) = rw z e
    each a b e f x (inr (inl z)) = rw z f
    each a b e f x (inr (inr z)) = absurd z

one_in : (a : ℕ) (P : ℕ → Type 0) → P a → (x : ℕ) → x ∈ (a ∷ []) → P x
one_in a P h x (inl e) = rw e h
one_in a P h x (inr m) = absurd m

either : {n a b x : ℕ} → (x ≡ a) ⊎ (x ≡ b) → a < n → b < n → x < n
either (inl e) h k = rw e h
either (inr e) h k = rw e k

module _ (v : ℕ) (kinds : ℕ → Kind) where
  abbrev pub at : Gates → ℕ → Kind
  at = run_at kind.Word (gate_kind kinds)

  -- every gate fits
  abbrev pub Fit : Gates → Type 0
  Fit C = (i : ℕ) → GateFits (at C) (gate_at C i)

  fit_add : (C : Gates) (g : Gate) → Earlier C → Fit C → Inside (length C) (arguments g) → GateFits (at C) g → Fit (C ++ (g ∷ []))
  fit_add C g e f i h j = go (gate_add C g j)
    where
      stays : (a : ℕ) → a < length C → at C a ≡ at (C ++ (g ∷ [])) a
      stays a l = sym (run_at_append kind.Word (gate_kind kinds) C (g ∷ []) a l)

      go : (gate_at (C ++ (g ∷ [])) j ≡ gate_at C j) ⊎ ((j ≡ length C) × (gate_at (C ++ (g ∷ [])) j ≡ g)) → GateFits (at (C ++ (g ∷ []))) (gate_at (C ++ (g ∷ [])) j)
      go (inl z) = rw z (fits_same (gate_at C j) (at C) (at (C ++ (g ∷ []))) (λ a m. stays a (argument_inside C e j a m)) (f j))
      go (inr (z, w)) = rw w (fits_same g (at C) (at (C ++ (g ∷ []))) (λ a m. stays a (i a m)) h)

  -- what an expression keeps: every gate fits, and the gate that it stands for is of its kind
  pub record Kinded (k : Kind) (m : Made) : Type 0 where
    pub stands : at m.gates m.place ≡ k
    pub fit : Fit m.gates

  add_kinded : (C : Gates) (g : Gate) (k : Kind) → Earlier C → Fit C → Inside (length C) (arguments g) → GateFits (at C) g → gate_kind kinds (at C) g ≡ k → Kinded k
      (add C g)
  add_kinded C g k e f i h n = record { stands = run_at_last kind.Word (gate_kind kinds) C g ∙ n; fit = fit_add C g e f i h }

  pub expr_kinded : (e : Expr) (k : Kind) → Typed v kinds e k → WordsFit e k → (m : Making) → Sound v m → Fit m.gates
      → PresentGives kind.Word (gate_kind kinds) m kinds → Kinded k (make_expr e m.present m.gates)
  unfolding make_expr
  expr_kinded (variable x) k (h, t) w m s f a = record { stands = a x (omega (arith, s.count)) ∙ t; fit = f }
  expr_kinded (word n) k t w m s f a = add_kinded m.gates (gate.word n) k s.earlier f (λ z q. absurd q) w t
  expr_kinded (bit b) k (h, t) w m s f a = add_kinded m.gates (gate.bit b) k s.earlier f (λ z q. absurd q) h t
  expr_kinded (one op e) k (h, g, t) w m s f a =
      let n = make_expr e m.present m.gates in
      let r = expr_standing v kinds e _ t m.present m.gates s.count s.inside s.earlier in
      let q = expr_kinded e _ t w m s f a in
      add_kinded n.gates (operation op (n.place ∷ [])) k r.earlier q.fit (one_in n.place (λ z. z < length n.gates) r.within)
      (sym h, one_in n.place (λ z. at n.gates z ≡ (entry_of op).takes) q.stands) g
  expr_kinded (two op d e) k (h, g, t, u) (w, y) m s f a =
      let n = make_expr d m.present m.gates in
      let x = expr_extends d m.present m.gates in
      let r = expr_standing v kinds d _ t m.present m.gates s.count s.inside s.earlier in
      let q = expr_kinded d _ t w m s f a in
      let m' : Making = as_before m n.gates in
      let s' = sound_again v m n.gates s x r.earlier in
      let n' = make_expr e m.present n.gates in
      let x' = expr_extends e m.present n.gates in
      let r' = expr_standing v kinds e _ u m.present n.gates s'.count s'.inside s'.earlier in
      let q' = expr_kinded e _ u y m' s' q.fit (holds_extends kind.Word (gate_kind kinds) m kinds n.gates x s.inside a) in
      add_kinded n'.gates (apply_gate op n.place n'.place) k r'.earlier q'.fit
      (λ z l. either (apply_arguments op n.place n'.place z l) (omega (arith, r.within, extends_length x')) r'.within)
      (apply_fits op n.place n'.place (at n'.gates) h
      (run_at_extends kind.Word (gate_kind kinds) n.gates n'.gates x' n.place r.within ∙ q.stands) q'.stands)
      (apply_kind kinds (at n'.gates) op n.place n'.place ∙ g)

  pub choices_fit : (c : ℕ) (p q l : List ℕ) (m : Making) → CanChoose (length m.gates) c p q l → Earlier m.gates → Fit m.gates → at m.gates c ≡ kind.Bit
      → ((x : ℕ) → x ∈ l → at m.gates (get_or p x 0) ≡ at m.gates (get_or q x 0)) → Fit (choices c p q l m).gates
  unfolding choices
  choices_fit c p q [] m r s f e h = f
  choices_fit c p q (x ∷ l) m r s f e h =
      choices_fit c p q l (choose c p q x m) (ready_next m.gates g c x p q l r) (earlier_add m.gates g s inside)
      (fit_add m.gates g s f inside (e, h x (inl refl))) (stays c r.condition ∙ e)
      (λ y z. stays (get_or p y 0) (r.first y (inr z)) ∙ h y (inr z) ∙ sym (stays (get_or q y 0) (r.second y (inr z))))
    where
      g : Gate
      g = choice c (get_or p x 0) (get_or q x 0)

      inside : Inside (length m.gates) (c ∷ get_or p x 0 ∷ get_or q x 0 ∷ [])
      inside = choice_inside _ c x p q (x ∷ l) r (inl refl)

      stays : (a : ℕ) → a < length m.gates → at (m.gates ++ (g ∷ [])) a ≡ at m.gates a
      stays a i = run_at_append kind.Word (gate_kind kinds) m.gates (g ∷ []) a i
