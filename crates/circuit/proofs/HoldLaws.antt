-- What the present gates give, for whatever is run gate by gate (figures, or kinds): it stays when gates are appended, and choices give what they are to give.
use Rattle.std.specs.Prelude.{ℕ, ◌<◌, ◌≡◌, refl, false, ◌||◌, ◌⊎◌, length, get_or, set}
use Rattle.std.proofs.Common.{sym, ap, ◌∙◌, inl, inr, arith, get_or-set_same, get_or-set_other}
use mathlib.Core.List.{List, [], ◌∷◌, ◌++◌}
use Rattle.std.proofs.Math.ListN.{length-append, length-set}
use Rattle.base.specs.Lists.{◌∈◌, upto, Inside}
use Rattle.base.specs.MemberLaws.{keep_in, from_in, inside_at, inside_set, inside_more}
use Rattle.base.specs.TestLaws.{same?, split, or_none}
use Rattle.base.specs.Runs.{run_at}
use Rattle.base.specs.RunLaws.{run_at_append, run_at_last}
use Rattle.rule.specs.Tree.{Block}
use Rattle.circuit.specs.Gates.{Gate, choice, Gates}
use Rattle.circuit.specs.FigureLaws.{OnArguments}
use Rattle.circuit.specs.PlainCircuit.{Making, Made, assigns, choose, choices, assigned_in, as_before}
use Rattle.circuit.specs.PlainLaws.{Extends, extends_trans, extends_length}
use Rattle.circuit.proofs.SoundLaws.{CanChoose, ready_next, choice_inside, assigned_below, Parts, parts_whole, parts_ready}

module _ {A : Type 0} (d : A) (value : (ℕ → A) → Gate → A) where
  -- the present gate of each variable x gives h x
  abbrev pub PresentGives : Making → (ℕ → A) → Type 0
  PresentGives m h = (x : ℕ) → x < length m.present → run_at d value m.gates (get_or m.present x 0) ≡ h x

  pub run_at_extends : (B C : Gates) → Extends B C → (i : ℕ) → i < length B → run_at d value C i ≡ run_at d value B i
  run_at_extends B C x i h = ap (λ (l : Gates). run_at d value l i) x.grown ∙ run_at_append d value B x.more i h

  pub holds_extends : (m : Making) (h : ℕ → A) (C : Gates) → Extends m.gates C → Inside (length m.gates) m.present
      → PresentGives m h → PresentGives (as_before m C) h
  holds_extends m h C e i k x l = run_at_extends m.gates C e (get_or m.present x 0) (inside_at _ m.present x i l) ∙ k x l

  module _ (o : OnArguments value) (c : ℕ) (p q : List ℕ) (h : ℕ → A) where
    -- if the choice of each listed variable gives h of it, and every other variable's gate gives h of it already, then after the choices all do
    choices_hold : (l : List ℕ) (m : Making) → CanChoose (length m.gates) c p q l → Inside (length m.gates) m.present
        → ((x : ℕ) → x ∈ l → value (run_at d value m.gates) (choice c (get_or p x 0) (get_or q x 0)) ≡ h x)
        → ((x : ℕ) → x < length m.present → (x ∈ l) ⊎ (run_at d value m.gates (get_or m.present x 0) ≡ h x))
        → PresentGives (choices c p q l m) h
    unfolding choices
    choices_hold [] m r i g k x n = go (k x n)
      where
        go : ⊥ ⊎ (run_at d value m.gates (get_or m.present x 0) ≡ h x) → run_at d value m.gates (get_or m.present x 0) ≡ h x
        go (inl z) = absurd z
        go (inr e) = e
    choices_hold (y ∷ l) m r i g k x n =
        choices_hold l (choose c p q y m) (ready_next m.gates k' c y p q l r)
        (inside_set _ m.present y _ (inside_more m.present (rw length-append (omega arith)) i) (rw length-append (omega arith)))
        (λ z e. o (choice c (get_or p z 0) (get_or q z 0)) _ _ (λ a w. stays a (choice_inside _ c z p q (y ∷ l) r (inr e) a w)) ∙ g z (inr e))
        (λ z e. now z (rw length-set at e) (same? z y) (k z (rw length-set at e))) x n
      where
        k' : Gate
        k' = choice c (get_or p y 0) (get_or q y 0)

        stays : (a : ℕ) → a < length m.gates → run_at d value (m.gates ++ (k' ∷ [])) a ≡ run_at d value m.gates a
        stays a e = run_at_append d value m.gates (k' ∷ []) a e

        now : (z : ℕ) → z < length m.present → (z ≡ y) ⊎ (z ≡ y → ⊥) → (z ∈ (y ∷ l)) ⊎ (run_at d value m.gates (get_or m.present z 0) ≡ h z)
            → (z ∈ l) ⊎ (run_at d value (m.gates ++ (k' ∷ [])) (get_or (set m.present y (length m.gates)) z 0) ≡ h z)
        now z e (inl f) w =
            inr (ap (run_at d value (m.gates ++ (k' ∷ []))) (rw f (get_or-set_same m.present y (length m.gates) 0 (rw f at e)))
            ∙ run_at_last d value m.gates k'
            ∙ g y (inl refl)
            ∙ ap h (sym f))
        now z e (inr f) (inl (inl w)) = absurd (f w)
        now z e (inr f) (inl (inr w)) = inl w
        now z e (inr f) (inr w) =
            inr (ap (run_at d value (m.gates ++ (k' ∷ []))) (get_or-set_other m.present y z (length m.gates) 0 f)
            ∙ stays (get_or m.present z 0) (inside_at _ m.present z i e)
            ∙ w)

  -- the parts of an if
  module _ (v : ℕ) (m : Making) (n : Made) (first second : Making) (w : Parts v m n first second) where
    -- what each part gives stays when all are made
    pub condition_stays : run_at d value second.gates n.place ≡ run_at d value n.gates n.place
    condition_stays = run_at_extends n.gates second.gates (extends_trans w.to_first w.to_second) n.place w.stands.within

    pub first_stays : (h : ℕ → A) → PresentGives first h → (x : ℕ) → x < v → run_at d value second.gates (get_or first.present x 0) ≡ h x
    first_stays h k x l =
        let l' : x < length first.present = omega (arith, w.first_sound.count) in
        holds_extends first h second.gates w.to_second w.first_sound.inside k x l'

    pub before_stays : (h : ℕ → A) → PresentGives m h → (x : ℕ) → x < v → run_at d value second.gates (get_or m.present x 0) ≡ h x
    before_stays h k x l =
        let l' : x < length m.present = omega (arith, w.before.count) in
        holds_extends m h second.gates (parts_whole v m n first second w) w.before.inside k x l'

    -- if every variable's choice would give h of it, and a variable that neither block assigns gives h of it already, then after the if all do
    pub parts_hold : OnArguments value → (b e : Block) (h : ℕ → A)
        → ((x : ℕ) → x < v → value (run_at d value second.gates) (choice n.place (get_or first.present x 0) (get_or second.present x 0)) ≡ h x)
        → ((x : ℕ) → x < v → assigns b x ≡ false → assigns e x ≡ false → run_at d value second.gates (get_or m.present x 0) ≡ h x)
        → PresentGives (choices n.place first.present second.present (assigned_in b e (length m.present)) (as_before m second.gates)) h
    parts_hold o b e h g k =
        choices_hold o n.place first.present second.present h (assigned_in b e (length m.present)) (as_before m second.gates)
        (parts_ready v m n first second w b e) (inside_more m.present (extends_length (parts_whole v m n first second w)) w.before.inside)
        (λ x z. g x (omega (arith, w.before.count, assigned_below b e (length m.present) x z)))
        (λ x z. let z' : x < v = omega (arith, w.before.count) in
        split (assigns b x || assigns e x)
        (λ t. inl (keep_in (λ y. assigns b y || assigns e y) (upto (length m.present)) x (from_in 0 (length m.present) x (omega arith) (omega arith)) t))
        (λ t. inr (k x z' (or_none (assigns b x) (assigns e x) t).0 (or_none (assigns b x) (assigns e x) t).1)))
