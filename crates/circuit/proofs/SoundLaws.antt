-- Making the plain circuit: V present gates stay V and inside the circuit; arguments are made before their gates.
use Rattle.std.specs.Prelude.{ℕ, ◌+◌, ◌≤◌, ◌<◌, ◌≡◌, refl, List, [], ◌∷◌, ◌++◌, ◌⊎◌, length, get_or}
use Rattle.std.proofs.Common.{◌∙◌, inl, inr, arith, length-append, length-set}
use Rattle.base.specs.Lists.{◌∈◌, upto, Inside}
use Rattle.base.specs.MemberLaws.{keep_from, from_below, inside_set, inside_more, inside_at}
use Rattle.base.specs.declared.Kind.{Kind}
use Rattle.base.specs.declared.Kind.TheVariants as kind
use Rattle.base.specs.declared.Operation.{Operation}
use Rattle.rule.specs.Tree.{Expr, variable, word, bit, one, two, Statement, assign, skip, branch, Block, end, then}
use Rattle.rule.specs.Kinds.{Typed, TypedStatement, TypedBlock}
use Rattle.circuit.specs.Gates.{Gate, operation, choice, Gates, arguments, Earlier}
use Rattle.circuit.specs.Gates as gate
use Rattle.circuit.specs.PlainCircuit.{Making, Made, add, apply_gate, make_expr, choose, choices, assigned_in, as_before, make_statement, make_block, condition_made, first_made, second_made}
use Rattle.circuit.specs.PlainLaws.{Extends, extends_trans, extends_length, expr_extends, block_extends}
use Rattle.circuit.proofs.ApplyLaws.{apply_arguments}
use Rattle.circuit.specs.EarlierLaws.{earlier_add}

-- what making keeps: V present gates, all of the circuit, and arguments made before their gates
pub record Sound (v : ℕ) (m : Making) : Type 0 where
  pub count : length m.present ≡ v
  pub inside : Inside (length m.gates) m.present
  pub earlier : Earlier m.gates

-- what an expression keeps: the gate that it stands for is of the circuit, and arguments are made before their gates
pub record Standing (m : Made) : Type 0 where
  pub within : m.place < length m.gates
  pub earlier : Earlier m.gates

add_standing : (C : Gates) (k : Gate) → Earlier C → Inside (length C) (arguments k) → Standing (add C k)
add_standing C k e i = record { within = rw length-append (omega arith); earlier = earlier_add C k e i }

one_standing : (op : Operation) (m : Made) → Standing m → Standing (add m.gates (operation op (m.place ∷ [])))
one_standing op m s = add_standing m.gates (operation op (m.place ∷ [])) s.earlier below
  where
    below : (a : ℕ) → a ∈ (m.place ∷ []) → a < length m.gates
    below a (inl e) = rw e s.within
    below a (inr k) = absurd k

two_standing : (op : Operation) (m n : Made) → Standing m → Extends m.gates n.gates → Standing n
    → Standing (add n.gates (apply_gate op m.place n.place))
two_standing op m n s x t =
    add_standing n.gates (apply_gate op m.place n.place) t.earlier (λ a k. below a (apply_arguments op m.place n.place a k))
  where
    below : (a : ℕ) → (a ≡ m.place) ⊎ (a ≡ n.place) → a < length n.gates
    below a (inl e) = rw e (omega (arith, s.within, extends_length x))
    below a (inr e) = rw e t.within

module _ (v : ℕ) (kinds : ℕ → Kind) where
  pub expr_standing : (e : Expr) (k : Kind) → Typed v kinds e k → (p : List ℕ) (C : Gates) → length p ≡ v → Inside (length C) p → Earlier C
      → Standing (make_expr e p C)
  unfolding make_expr
  expr_standing (variable x) k (h, t) p C n i r = record { within = inside_at (length C) p x i (omega arith); earlier = r }
  expr_standing (word w) k t p C n i r = add_standing C (gate.word w) r (λ a m. absurd m)
  expr_standing (bit b) k t p C n i r = add_standing C (gate.bit b) r (λ a m. absurd m)
  expr_standing (one op e) k (h, g, t) p C n i r = one_standing op (make_expr e p C) (expr_standing e _ t p C n i r)
  expr_standing (two op d e) k (h, g, t, u) p C n i r =
      let m = make_expr d p C in
      let s = expr_standing d _ t p C n i r in
      let i' = inside_more p (extends_length (expr_extends d p C)) i in
      two_standing op m (make_expr e p m.gates) s (expr_extends e p m.gates) (expr_standing e _ u p m.gates n i' s.earlier)

-- a choice of each listed variable can be made: its condition and both values lie inside
pub record CanChoose (n c : ℕ) (p q l : List ℕ) : Type 0 where
  pub condition : c < n
  pub first : (x : ℕ) → x ∈ l → get_or p x 0 < n
  pub second : (x : ℕ) → x ∈ l → get_or q x 0 < n

-- and so can those of the variables after the first, after one gate more
pub ready_next : (C : Gates) (k : Gate) (c x : ℕ) (p q l : List ℕ) → CanChoose (length C) c p q (x ∷ l) → CanChoose (length (C ++ (k ∷ []))) c p q l
ready_next C k c x p q l r =
    record {
      condition = rw length-append (omega (arith, r.condition));
      first = λ y m. rw length-append (omega (arith, r.first y (inr m)));
      second = λ y m. rw length-append (omega (arith, r.second y (inr m)));
    }

-- the arguments of such a choice lie inside
pub choice_inside : (n c x : ℕ) (p q l : List ℕ) → CanChoose n c p q l → x ∈ l → Inside n (c ∷ get_or p x 0 ∷ get_or q x 0 ∷ [])
choice_inside n c x p q l r m a (inl e) = rw e r.condition
choice_inside n c x p q l r m a (inr (inl e)) = rw e (r.first x m)
choice_inside n c x p q l r m a (inr (inr (inl e))) = rw e (r.second x m)
choice_inside n c x p q l r m a (inr (inr (inr k))) = absurd k

pub choices_sound : (v c : ℕ) (p q l : List ℕ) (m : Making) → CanChoose (length m.gates) c p q l → Sound v m → Sound v (choices c p q l m)
unfolding choices
choices_sound v c p q [] m r s = s
choices_sound v c p q (x ∷ l) m r s = choices_sound v c p q l (choose c p q x m) (ready_next m.gates _ c x p q l r) chosen
  where
    chosen : Sound v (choose c p q x m)
    chosen =
        record {
          count = length-set m.present x _ ∙ s.count;
          inside = inside_set _ m.present x _ (inside_more m.present (rw length-append (omega arith)) s.inside) (rw length-append (omega arith));
          earlier = earlier_add m.gates (choice c (get_or p x 0) (get_or q x 0)) s.earlier (choice_inside _ c x p q (x ∷ l) r (inl refl));
        }

-- the variables assigned in either block are variables
pub assigned_below : (b d : Block) (v x : ℕ) → x ∈ assigned_in b d v → x < v
assigned_below b d v x m =
    let r : (0 ≤ x) × (x < 0 + v) = from_below 0 v x (keep_from _ (upto v) x m).0 in
    omega arith

-- the variables as before, in a circuit with gates appended
pub sound_again : (v : ℕ) (m : Making) (C : Gates) → Sound v m → Extends m.gates C → Earlier C → Sound v (as_before m C)
sound_again v m C s x e = record { count = s.count; inside = inside_more m.present (extends_length x) s.inside; earlier = e }

-- the parts of an if: its condition stands, both blocks are sound, each part appends gates to the one before
pub record Parts (v : ℕ) (m : Making) (n : Made) (first second : Making) : Type 0 where
  pub before : Sound v m
  pub stands : Standing n
  pub first_sound : Sound v first
  pub second_sound : Sound v second
  pub to_condition : Extends m.gates n.gates
  pub to_first : Extends n.gates first.gates
  pub to_second : Extends first.gates second.gates

module _ (v : ℕ) (m : Making) (n : Made) (first second : Making) (w : Parts v m n first second) where
  pub parts_whole : Extends m.gates second.gates
  parts_whole = extends_trans w.to_condition (extends_trans w.to_first w.to_second)

  -- the choices can be made
  pub parts_ready : (b d : Block) → CanChoose (length second.gates) n.place first.present second.present (assigned_in b d (length m.present))
  parts_ready b d =
      let e : length m.present ≡ v = w.before.count in
      let k : length first.gates ≤ length second.gates = extends_length w.to_second in
      record {
        condition = omega (arith, w.stands.within, extends_length w.to_first);
        first = λ x z. omega (arith, inside_at _ first.present x w.first_sound.inside (rw (w.first_sound.count, ← e) (assigned_below b d _ x z)));
        second = λ x z. inside_at _ second.present x w.second_sound.inside (rw (w.second_sound.count, ← e) (assigned_below b d _ x z));
      }

  parts_sound : (b d : Block) → Sound v (choices n.place first.present second.present (assigned_in b d (length m.present)) (as_before m second.gates))
  parts_sound b d =
      choices_sound v n.place first.present second.present (assigned_in b d (length m.present)) (as_before m second.gates) (parts_ready b d)
      (sound_again v m second.gates w.before parts_whole w.second_sound.earlier)

module _ (v : ℕ) (kinds : ℕ → Kind) where
  -- of an if whose blocks keep sound what is sound
  pub branch_parts : (c : Expr) (b d : Block) → Typed v kinds c kind.Bit → (m : Making) → Sound v m
      → ((m : Making) → Sound v m → Sound v (make_block b m)) → ((m : Making) → Sound v m → Sound v (make_block d m))
      → Parts v m (condition_made c m) (first_made c b m) (second_made c b d m)
  branch_parts c b d t m s f g =
      let x = expr_extends c m.present m.gates in
      let r = expr_standing v kinds c kind.Bit t m.present m.gates s.count s.inside s.earlier in
      let y = block_extends b (as_before m (condition_made c m).gates) in
      let p = f (as_before m (condition_made c m).gates) (sound_again v m (condition_made c m).gates s x r.earlier) in
      record {
        before = s;
        stands = r;
        first_sound = p;
        second_sound = g (as_before m (first_made c b m).gates) (sound_again v m (first_made c b m).gates s (extends_trans x y) p.earlier);
        to_condition = x;
        to_first = y;
        to_second = block_extends d (as_before m (first_made c b m).gates);
      }

  mutual
    unfolding make_statement

    pub statement_sound : (t : Statement) → TypedStatement v kinds t → (m : Making) → Sound v m → Sound v (make_statement t m)
    statement_sound (assign x e) (h, t) m s =
        let r = expr_standing v kinds e _ t m.present m.gates s.count s.inside s.earlier in
        let z = expr_extends e m.present m.gates in
        record {
          count = length-set m.present x _ ∙ s.count;
          inside = inside_set _ m.present x _ (inside_more m.present (extends_length z) s.inside) r.within;
          earlier = r.earlier;
        }
    statement_sound skip h m s = s
    statement_sound (branch c b d) (h, t, u) m s =
        parts_sound v m (condition_made c m) (first_made c b m) (second_made c b d m)
        (branch_parts c b d h m s (λ m' s'. block_sound b t m' s') (λ m' s'. block_sound d u m' s')) b d

    pub block_sound : (b : Block) → TypedBlock v kinds b → (m : Making) → Sound v m → Sound v (make_block b m)
    block_sound end h m s = s
    block_sound (then t b) (h, u) m s = block_sound b u (make_statement t m) (statement_sound t h m s)

  -- the parts of an if that is typed
  pub parts_of : (c : Expr) (b d : Block) → TypedStatement v kinds (branch c b d) → (m : Making) → Sound v m
      → Parts v m (condition_made c m) (first_made c b m) (second_made c b d m)
  parts_of c b d (h, t, u) m s = branch_parts c b d h m s (λ m' s'. block_sound b t m' s') (λ m' s'. block_sound d u m' s')
