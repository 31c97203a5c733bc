-- Row 62 for each form of record: what stands is tested wire by wire, each for being earlier and of its kind at once.
use Rattle.std.specs.Prelude.{ℕ, zero, suc, ◌+◌, ◌^◌, ◌≡◌, refl, List, [], ◌∷◌, Bool, true, false, ◌&&◌, eqb}
use Rattle.std.proofs.Common.{sym, ◌∙◌, arith}
use Rattle.std.proofs.Math.Path.{ap}
use Rattle.std.proofs.Math.Bool.{and-true, and_assoc}
use Rattle.std.proofs.Math.Dec.{leb, ltb}
use Rattle.std.proofs.Math.ListN.{length}
use Rattle.base.specs.Lists.{every}
use Rattle.base.specs.Numbers.{number_at}
use Rattle.base.specs.Codes.{same_kind, entry_of}
use Rattle.base.specs.CodeLaws.{itself_kind}
use Rattle.base.specs.declared.Kind.{Kind}
use Rattle.base.specs.declared.Kind.TheVariants as kind
use Rattle.base.specs.declared.Operation.{Operation}
use Rattle.file.specs.Records.{Pair, input, word, bit, operation, choice, pick, guard, pair_wires}
use Rattle.file.specs.WireKinds.{guards_of, values_of, record_kind}
use Rattle.file.specs.FileFigures.{wires_at, pairs_at}
use Rattle.file.specs.CircuitRows.{all_of, stands}
use Rattle.file_wiring.specs.Wires.{fits, wires_by}

-- of two pairs of tests, the first ones and the second ones
paired : (a b c d : Bool) → ((a && b) && (c && d)) ≡ ((a && c) && (b && d))
paired false b c d = refl
paired true b true d = refl
paired true true false d = refl
paired true false false d = refl

-- two tests of all members are one of both
every_both : (p q : ℕ → Bool) (l : List ℕ) → (every p l && every q l) ≡ every (λ a. p a && q a) l
every_both p q [] = refl
every_both p q (a ∷ l) = paired (p a) (every p l) (q a) (every q l) ∙ ap (λ (b : Bool). (p a && q a) && b) (every_both p q l)

-- the wires of a pick are its guards and its values
every_pairs : (p : ℕ → Bool) (l : List Pair) → every p (pair_wires l) ≡ (every p (guards_of l) && every p (values_of l))
every_pairs p [] = refl
every_pairs p (a ∷ l) =
    ap (λ (b : Bool). p a.guarding && (p a.value && b)) (every_pairs p l)
    ∙ sym (and_assoc (p a.guarding) (p a.value) (every p (guards_of l) && every p (values_of l)))
    ∙ paired (p a.guarding) (p a.value) (every p (guards_of l)) (every p (values_of l))

-- a record stands by the tests of its place, of its wires' numbers, of their kinds and of its table, in this order
module _ (v : ℕ) (k : ℕ → Kind) (i : ℕ) where
  pub input_stands : (j : Kind) (x : ℕ) → stands v k i (input j x) ≡ (ltb i v && eqb x i)
  unfolding stands
  input_stands j x = simp and-true

  pub word_stands : (n : ℕ) → stands v k i (word n) ≡ leb v i
  unfolding stands
  word_stands n = simp and-true

  pub bit_stands : (b : ℕ) → stands v k i (bit b) ≡ leb v i
  unfolding stands
  bit_stands b = simp and-true

  pub operation_stands : (op : Operation) (l : List ℕ) → stands v k i (operation op l) ≡ (leb v i && every (fits i k (entry_of op).takes) l)
  unfolding stands
  operation_stands op l =
      and-true (leb v i && every (λ w. ltb w i) l && all_of k (entry_of op).takes l)
      ∙ and_assoc (leb v i) (every (λ w. ltb w i) l) (all_of k (entry_of op).takes l)
      ∙ ap (λ (b : Bool). leb v i && b) (every_both (λ w. ltb w i) (λ w. same_kind (k w) (entry_of op).takes) l)

  pub choice_stands : (c a b : ℕ) → stands v k i (choice c a b) ≡ (leb v i && (fits i k kind.Bit c && every (fits i k (k a)) (a ∷ b ∷ [])))
  unfolding stands
  choice_stands c a b = rw (itself_kind (k a)) (go (leb v i) (ltb c i) (ltb a i) (ltb b i) (same_kind (k c) kind.Bit) (same_kind (k b) (k a)))
    where
      go : (v c a b p q : Bool) → (((v && (c && (a && (b && true)))) && (p && q)) && true) ≡ (v && ((c && p) && ((a && true) && ((b && q) && true))))
      go v c a b p q =
          rw (and-true b, and-true a, and-true (b && q), and-true ((v && (c && (a && b))) && (p && q)))
          (and_assoc v (c && (a && b)) (p && q) ∙ ap (λ (t : Bool). v && t) (paired c (a && b) p q ∙ ap (λ (t : Bool). (c && p) && t) (and_assoc a b q)))

  pub pick_stands : (l : List Pair)
      → stands v k i (pick l) ≡ (leb v i && (every (fits i k kind.Bit) (guards_of l) && every (fits i k (record_kind k (pick l))) (values_of l)))
  unfolding stands
  pick_stands l =
      let K = record_kind k (pick l) in
      let guards = guards_of l in
      let values = values_of l in
      rw (every_pairs (λ w. ltb w i) l, ← every_both (λ w. ltb w i) (λ w. same_kind (k w) kind.Bit) guards, ← every_both (λ w. ltb w i) (λ w. same_kind (k w) K) values)
      (go (leb v i) (every (λ w. ltb w i) guards) (every (λ w. ltb w i) values) (all_of k kind.Bit guards) (all_of k K values))
    where
      go : (v g w p q : Bool) → (((v && (g && w)) && (p && q)) && true) ≡ (v && ((g && p) && (w && q)))
      go v g w p q = and-true ((v && (g && w)) && (p && q)) ∙ and_assoc v (g && w) (p && q) ∙ ap (λ (t : Bool). v && t) (paired g w p q)

  pub guard_stands : (cs : List ℕ) (t : ℕ) → stands v k i (guard cs t) ≡ (leb v i && (every (fits i k kind.Bit) cs && ltb t (2 ^ 2 ^ length cs)))
  unfolding stands
  guard_stands cs t =
      let table = ltb t (2 ^ 2 ^ length cs) in
      rw (and_assoc (leb v i) (every (λ w. ltb w i) cs) (all_of k kind.Bit cs), and_assoc (leb v i) (every (λ w. ltb w i) cs && all_of k kind.Bit cs) table)
      (ap (λ (b : Bool). leb v i && (b && table)) (every_both (λ w. ltb w i) (λ w. same_kind (k w) kind.Bit) cs))

-- the wires of the forms by their distances
pub wires_by_lem : (n : ℕ) (f : List ℕ) (at : ℕ) → wires_at n f at ≡ wires_by 2 n f at
wires_by_lem zero f at = refl
wires_by_lem (suc n) f at = ap (λ (l : List ℕ). number_at 2 f at ∷ l) (wires_by_lem n f (at + 2))

pub guards_by : (n : ℕ) (f : List ℕ) (at : ℕ) → guards_of (pairs_at n f at) ≡ wires_by 4 n f at
guards_by zero f at = refl
guards_by (suc n) f at = ap (λ (l : List ℕ). number_at 2 f at ∷ l) (guards_by n f (at + 4))

pub values_by : (n : ℕ) (f : List ℕ) (at : ℕ) → values_of (pairs_at n f at) ≡ wires_by 4 n f (at + 2)
values_by zero f at = refl
values_by (suc n) f at =
    let e : at + 4 + 2 ≡ at + 2 + 4 = omega arith in
    ap (λ (l : List ℕ). number_at 2 f (at + 2) ∷ l) (values_by n f (at + 4) ∙ ap (wires_by 4 n f) e)
