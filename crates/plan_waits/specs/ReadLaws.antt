-- What a gate reads: its arguments by its code, and lists joined.
use Rattle.std.specs.Prelude.{ℕ, zero, suc, ◌+◌, ◌*◌, ◌≤◌, ◌<◌, ◌≡◌, refl, true, cond, List, [], ◌∷◌, ◌++◌, ◌⊎◌, length, get_or, take, eqb}
use Rattle.std.proofs.Common.{sym, ap, ◌∙◌, append_assoc, append-nil, inl, inr, arith, get_or-take, length-take-le, eq-eqb, ne_eqb}
use Rattle.base.specs.Lists.{elem, flat}
use Rattle.base.specs.TestLaws.{split, same?}
use Rattle.base.specs.Codes.{code_of}
use Rattle.circuit.specs.Gates.{arguments}
use Rattle.circuit_needed.specs.Held.{choice_code, gate_in, code_at, first_at, second_at, third_at}
use Rattle.circuit_needed.specs.HeldLaws.{EachCode, each_code, each_entry}
use Rattle.circuit_needed.specs.QuadLaws.{choice_in, arguments_in}
use Rattle.plan_waits.specs.Reads.{arity_of, arguments_at}

-- how many arguments, by the code
pub arity_choice : (code : ℕ) → code ≡ choice_code → 3 ≡ arity_of code
unfolding arity_of
arity_choice code h = rw (eq-eqb code choice_code h)

pub arity_other : (code n : ℕ) → (code ≡ choice_code → ⊥) → n ≡ (code_of code).arity → n ≡ arity_of code
unfolding arity_of
arity_other code n h e = rw (ne_eqb code choice_code h) e

two_most : (code : ℕ) → (code_of code).arity ≤ 2
two_most code = each_code (λ r. r.arity ≤ 2) each code
  where
    each : EachCode (λ r. r.arity ≤ 2)
    each = record {
      of_entry = each_entry (λ r op. r.arity ≤ 2) (omega arith) (omega arith) (omega arith) (omega arith) (omega arith) (omega arith) (omega arith) (omega arith);
      of_end = omega arith;
      of_assign = omega arith;
      of_skip = omega arith;
      of_branch = omega arith;
      of_variable = omega arith;
      of_word = omega arith;
      of_bit = omega arith;
      of_unknown = omega arith;
    }

pub arity_most : (code : ℕ) → arity_of code ≤ 3
unfolding arity_of
arity_most code = go (same? code choice_code)
  where
    go : (code ≡ choice_code) ⊎ (code ≡ choice_code → ⊥) → cond (eqb code choice_code) 3 (code_of code).arity ≤ 3
    go (inl e) = rw (eq-eqb code choice_code e) (omega arith)
    go (inr n) = rw (ne_eqb code choice_code n) (omega (arith, two_most code))

take_first : (n a b c : ℕ) → n ≤ 2 → take n (a ∷ b ∷ []) ≡ take n (a ∷ b ∷ c ∷ [])
take_first zero a b c h = refl
take_first (suc zero) a b c h = refl
take_first (suc (suc zero)) a b c h = refl
take_first (suc (suc (suc n))) a b c h = absurd (omega arith)

-- the arguments of gate i are those of its numbers
pub arguments_at_lem : (quads : List ℕ) (i : ℕ) → arguments (gate_in quads i) ≡ arguments_at quads i
unfolding arguments_at arity_of
arguments_at_lem quads i = go (same? (code_at quads i) choice_code)
  where
    go : (code_at quads i ≡ choice_code) ⊎ (code_at quads i ≡ choice_code → ⊥)
        → arguments (gate_in quads i) ≡ take (cond (eqb (code_at quads i) choice_code) 3 (code_of (code_at quads i)).arity)
        (first_at quads i ∷ second_at quads i ∷ third_at quads i ∷ [])
    go (inl e) = ap arguments (choice_in quads i e) ∙ rw (eq-eqb (code_at quads i) choice_code e)
    go (inr n) =
        arguments_in quads i n
        ∙ rw (ne_eqb (code_at quads i) choice_code n)
        (take_first (code_of (code_at quads i)).arity (first_at quads i) (second_at quads i) (third_at quads i) (two_most (code_at quads i)))

-- the argument at place k
place_of : (quads : List ℕ) (i k : ℕ) → k < 3 → get_or (first_at quads i ∷ second_at quads i ∷ third_at quads i ∷ []) k 0 ≡ get_or quads (4 * i + 1 + k) 0
place_of quads i zero h = ap (λ (j : ℕ). get_or quads j 0) (omega arith)
place_of quads i (suc zero) h = ap (λ (j : ℕ). get_or quads j 0) (omega arith)
place_of quads i (suc (suc zero)) h = ap (λ (j : ℕ). get_or quads j 0) (omega arith)
place_of quads i (suc (suc (suc k))) h = absurd (omega arith)

pub arguments_length : (quads : List ℕ) (i : ℕ) → length (arguments_at quads i) ≡ arity_of (code_at quads i)
unfolding arguments_at
arguments_length quads i = length-take-le (arity_of (code_at quads i)) (first_at quads i ∷ second_at quads i ∷ third_at quads i ∷ []) (arity_most (code_at quads i))

pub argument_at_lem : (quads : List ℕ) (i k : ℕ) → k < arity_of (code_at quads i) → get_or (arguments_at quads i) k 0 ≡ get_or quads (4 * i + 1 + k) 0
unfolding arguments_at
argument_at_lem quads i k h =
    get_or-take (arity_of (code_at quads i)) (first_at quads i ∷ second_at quads i ∷ third_at quads i ∷ []) k 0 h ∙ place_of quads i k
    (omega (arith, arity_most (code_at quads i)))

-- joined runs, and one more of them
pub elem_joined : (q : ℕ) (l m : List ℕ) → elem q (l ++ m) ≡ cond (elem q m) true (elem q l)
elem_joined q [] m = split (elem q m) (λ t. rw t) (λ t. rw t)
elem_joined q (x ∷ l) m = split (eqb q x) (λ t. rw t (split (elem q m) (λ u. rw u) (λ u. rw u))) (λ t. rw t (elem_joined q l m))

pub flat_last : (f : ℕ → List ℕ) (l : List ℕ) (a : ℕ) → flat f (l ++ (a ∷ [])) ≡ flat f l ++ f a
flat_last f [] a = append-nil (f a)
flat_last f (x ∷ l) a = ap (λ (r : List ℕ). f x ++ r) (flat_last f l a) ∙ sym (append_assoc (f x) (flat f l) (f a))
