-- Making an expression, by the form that reading took: a variable makes no gate, a constant makes one, an operation makes its arguments' gates and then its own.
use Rattle.std.specs.Prelude.{ℕ, ◌+◌, ◌-◌, ◌≤◌, ◌<◌, ◌≡◌, refl, List, [], ◌∷◌, ◌++◌, get_or}
use Rattle.std.proofs.Common.{arith, sym, subst, ◌∙◌, length-append}
use Rattle.std.proofs.Math.Path.{ap, subst⁻¹}
use Rattle.std.proofs.Math.ListN.{length}
use Rattle.base.specs.Codes.{code_of, entry_of, byte_of}
use Rattle.base.specs.CodeLaws.{code_entry}
use Rattle.base.specs.declared.Kind.{Kind}
use Rattle.base.specs.declared.Operation.{Operation}
use Rattle.base.specs.declared.Code.{Code}
use Rattle.base.specs.declared.Form.TheVariants.{Apply}
use Rattle.base.specs.Parsing.{Parsed, parsed, IsRead}
use Rattle.rule.specs.Tree.{Expr, variable, word, bit, one, two}
use Rattle.rule.specs.Expressions.{arguments_with, read_expr}
use Rattle.rule.specs.FirstByte as read
use Rattle.circuit.specs.Gates.{Gate, operation, Gates}
use Rattle.circuit.specs.Gates as gate
use Rattle.circuit.specs.PlainCircuit.{apply_gate, make_expr}
use Rattle.circuit.specs.PlainLaws.{extends_length, expr_extends}
use Rattle.circuit_make.specs.Holding.{Stored, StandsFor, Pushed, Applied, ExprMade}

-- the last gate's place is the count before it
last_place : (s : List ℕ) (C : Gates) (k : Gate) {quads : List ℕ} {count : ℕ} → Stored s C quads count → length (C ++ (k ∷ [])) ≤ 256 → count ≡ length C
last_place s C k held few = let more : length (C ++ (k ∷ [])) ≡ length C + 1 = length-append C (k ∷ []) in omega (arith, held.counted)

before_last : (C : Gates) (k : Gate) → length (C ++ (k ∷ [])) ≤ 256 → length C ≤ 256
before_last C k few = let more : length (C ++ (k ∷ [])) ≡ length C + 1 = length-append C (k ∷ []) in omega arith

module _ (s : List ℕ) (m : Parsed Expr) (present quads : List ℕ) (count : ℕ) where
  -- a variable makes no gate
  pub made_variable : (x next : ℕ) → m ≡ parsed (variable x) next → ExprMade s m present quads count next (get_or present x 0) count quads
  unfolding make_expr
  made_variable x next e =
      record {
        what = variable x;
        read = e;
        made = λ p C held st. held;
        stands = λ p C held st few. st few x;
      }

  -- each written constant is a gate
  pub made_word : (n next more : ℕ) (after : List ℕ) → m ≡ parsed (word n) next → Pushed (0x11 ∷ n ∷ 0 ∷ 0 ∷ []) quads count after more
      → ExprMade s m present quads count next count more after
  unfolding make_expr
  made_word n next more after e q =
      record {
        what = word n;
        read = e;
        made = λ p C held st. q.pushed s C (gate.word n) (λ h. refl) held;
        stands = λ p C held st few. last_place s C (gate.word n) held few;
      }

  pub made_bit : (n next more : ℕ) (after : List ℕ) → m ≡ parsed (bit n) next → Pushed (0x12 ∷ n ∷ 0 ∷ 0 ∷ []) quads count after more
      → ExprMade s m present quads count next count more after
  unfolding make_expr
  made_bit n next more after e q =
      record {
        what = bit n;
        read = e;
        made = λ p C held st. q.pushed s C (gate.bit n) (λ h. refl) held;
        stands = λ p C held st few. last_place s C (gate.bit n) held few;
      }

  -- an operation, after its arguments
  module _ (op : Operation) (d : Parsed Expr) (place n k : ℕ) (between : List ℕ) (x : ExprMade s d present quads count n place k between) where
    one_made : (byte more : ℕ) (after : List ℕ) → m ≡ parsed (one op x.what) n → byte ≡ byte_of op
        → Pushed (byte ∷ place ∷ 0 ∷ 0 ∷ []) between k after more → ExprMade s m present quads count n k more after
    unfolding make_expr
    one_made byte more after e b q =
        record {
          what = one op x.what;
          read = e;
          made = λ p C held st.
              let y = make_expr x.what p C in
              let r : Stored s y.gates between k = x.made p C held st in
              q.pushed s y.gates (operation op (y.place ∷ []))
              (λ h.
              let u : place ≡ y.place = x.stands p C held st (omega arith) in
              ap (λ (j : ℕ). byte_of op ∷ j ∷ 0 ∷ 0 ∷ []) (sym u) ∙ ap (λ (j : ℕ). j ∷ place ∷ 0 ∷ 0 ∷ []) (sym b)) r;
          stands = λ p C held st few. last_place s (make_expr x.what p C).gates (operation op ((make_expr x.what p C).place ∷ [])) (x.made p C held st) few;
        }

    two_made : (f : Parsed Expr) (place' n' k' : ℕ) (between' : List ℕ) (y : ExprMade s f present between k n' place' k' between') (more : ℕ) (after : List ℕ)
        → m ≡ parsed (two op x.what y.what) n' → Applied (apply_gate op place place') between' k' after more → ExprMade s m present quads count n' k' more after
    unfolding make_expr
    two_made f place' n' k' between' y more after e q =
        record {
          what = two op x.what y.what;
          read = e;
          made = λ p C held st.
              let a = make_expr x.what p C in
              let b = make_expr y.what p a.gates in
              let r : Stored s a.gates between k = x.made p C held st in
              let grown = extends_length (expr_extends x.what p C) in
              let grown' = extends_length (expr_extends y.what p a.gates) in
              let st' : length a.gates ≤ 256 → StandsFor p present = λ h. st (omega arith) in
              q.applied s b.gates (apply_gate op a.place b.place)
              (λ h.
              let u : place ≡ a.place = x.stands p C held st (omega arith) in
              let v : place' ≡ b.place = y.stands p a.gates r st' (omega arith) in
              ap (λ (j : ℕ). apply_gate op j b.place) (sym u) ∙ ap (λ (j : ℕ). apply_gate op place j) (sym v))
              (y.made p a.gates r st');
          stands = λ p C held st few.
              let a = make_expr x.what p C in
              let b = make_expr y.what p a.gates in
              let r : Stored s a.gates between k = x.made p C held st in
              let grown = extends_length (expr_extends x.what p C) in
              let st' : length a.gates ≤ 256 → StandsFor p present = λ h. st (omega arith) in
              last_place s b.gates (apply_gate op a.place b.place) (y.made p a.gates r st') few;
        }

-- by the code c that stands there, an operation's
module _ (deep : ℕ) (s : List ℕ) (want : Kind) (at : ℕ) (h : IsRead (read_expr deep s want at)) (c : Code) (e : c ≡ code_of (get_or s at 0)) (op : Operation)
    (q : c.form ≡ Apply op) where
  is_entry : c ≡ entry_of op
  is_entry = code_entry (get_or s at 0) c op e q

  opened : read.OperationRead deep s op want at (read_expr deep s want at)
  opened = read.as_operation deep s want at h c e op q

  pub level : 0 < deep
  level = opened.level

  whole : IsRead (arguments_with (read_expr (deep - 1) s) op (at + 1))
  whole = subst IsRead opened.is h

  pub first_taken : IsRead (read_expr (deep - 1) s c.takes (at + 1))
  first_taken =
      subst⁻¹ (λ (x : Code). IsRead (read_expr (deep - 1) s x.takes (at + 1))) is_entry (read.first_argument (read_expr (deep - 1) s) op (at + 1) whole)

  module _ (present quads : List ℕ) (count place n k : ℕ) (between : List ℕ)
      (x : ExprMade s (read_expr (deep - 1) s c.takes (at + 1)) present quads count n place k between) where
    first_is : read_expr (deep - 1) s (entry_of op).takes (at + 1) ≡ parsed x.what n
    first_is = ap (λ (y : Code). read_expr (deep - 1) s y.takes (at + 1)) (sym is_entry) ∙ x.read

    pub made_one : (byte more : ℕ) (after : List ℕ) → c.arity ≡ 1 → byte ≡ byte_of op
        → Pushed (byte ∷ place ∷ 0 ∷ 0 ∷ []) between k after more → ExprMade s (read_expr deep s want at) present quads count n k more after
    made_one byte more after a b p =
        one_made s (read_expr deep s want at) present quads count op (read_expr (deep - 1) s c.takes (at + 1)) place n k between x byte more after
        (opened.is ∙ read.arguments_one (read_expr (deep - 1) s) op (at + 1) x.what n first_is (ap (λ (y : Code). y.arity) (sym is_entry) ∙ a)) b p

    module _ (a : c.arity ≡ 1 → ⊥) where
      not_one : (entry_of op).arity ≡ 1 → ⊥
      not_one z = a (ap (λ (y : Code). y.arity) is_entry ∙ z)

      pub second_taken : IsRead (read_expr (deep - 1) s c.takes n)
      second_taken =
          subst⁻¹ (λ (y : Code). IsRead (read_expr (deep - 1) s y.takes n)) is_entry
          (read.second_argument (read_expr (deep - 1) s) op (at + 1) x.what n first_is not_one whole)

      pub made_two : (place' n' k' : ℕ) (between' : List ℕ) → ExprMade s (read_expr (deep - 1) s c.takes n) present between k n' place' k' between'
          → (more : ℕ) (after : List ℕ) → Applied (apply_gate op place place') between' k' after more → ExprMade s
          (read_expr deep s want at) present quads count n' k' more after
      made_two place' n' k' between' y more after p =
          two_made s (read_expr deep s want at) present quads count op (read_expr (deep - 1) s c.takes (at + 1)) place n k between x
          (read_expr (deep - 1) s c.takes n) place' n' k' between' y more after
          (opened.is
          ∙ read.arguments_two (read_expr (deep - 1) s) op (at + 1) x.what n first_is not_one y.what n'
          (ap (λ (z : Code). read_expr (deep - 1) s z.takes n) (sym is_entry) ∙ y.read)) p
