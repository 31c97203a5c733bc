-- Row 62: what its tests say of one record, of records one after another and of outputs.
use Rattle.std.specs.Prelude.{ℕ, zero, suc, ◌+◌, ◌^◌, ◌≤◌, ◌<◌, ◌≡◌, refl, List, [], ◌∷◌, true, ◌&&◌, ◌⊎◌, ◌↔◌, eqb, length, get_or}
use Rattle.std.proofs.Common.{inl, inr, add-zero, arith, eqb-true, eq-eqb, leb-true, le-leb, ltb-true, lt-ltb}
use Rattle.std.proofs.Math.Dec.{ltb}
use Rattle.base.specs.Lists.{every}
use Rattle.base.specs.MemberLaws.{every_right, inside_right}
use Rattle.base.specs.TestLaws.{both, and, either, or_left, or_right}
use Rattle.base.specs.Codes.{same_kind, entry_of}
use Rattle.base.specs.CodeLaws.{same_kind_lem, itself_kind}
use Rattle.base.specs.declared.Kind.{Kind}
use Rattle.base.specs.declared.Kind.TheVariants as kind
use Rattle.file.specs.Records.{Record, input, word, bit, operation, choice, pick, guard, reads}
use Rattle.file.specs.RecordLaws.{Along, ReadsBefore}
use Rattle.file.specs.WireKinds.{guards_of, values_of, record_kind, AllOf, RecordFits}
use Rattle.file.specs.CircuitFile.{no_wire}
use Rattle.file.specs.CircuitRows.{input_in_place, all_of, kinds_fit, table_fits, stands, all_stand, output_stands, outputs_stand}
use Rattle.file.specs.WellFormed.{TableFits}

-- record i among v inputs and the other wires
abbrev pub InPlace : ℕ → ℕ → Record → Type 0
InPlace v i (input j x) = (i < v) × (x ≡ i)
InPlace v i (word n) = v ≤ i
InPlace v i (bit b) = v ≤ i
InPlace v i (operation op l) = v ≤ i
InPlace v i (choice c a b) = v ≤ i
InPlace v i (pick l) = v ≤ i
InPlace v i (guard cs t) = v ≤ i

-- all that row 62 asks of record i; k: the kinds of the wires
pub record Stands (v : ℕ) (k : ℕ → Kind) (i : ℕ) (r : Record) : Type 0 where
  pub place : InPlace v i r
  pub earlier : ReadsBefore i r
  pub kinds : RecordFits k r
  pub table : TableFits r

place_right : (v i : ℕ) (r : Record) → (input_in_place v i r ≡ true) ↔ InPlace v i r
place_right v i (input j x) = (
  λ h. let (a, b) = both (ltb i v) (eqb x i) h in (ltb-true i v a, eqb-true x i b),
  λ h. and (lt-ltb i v h.0) (eq-eqb x i h.1),
)
place_right v i (word n) = (leb-true v i, le-leb v i)
place_right v i (bit b) = (leb-true v i, le-leb v i)
place_right v i (operation op l) = (leb-true v i, le-leb v i)
place_right v i (choice c a b) = (leb-true v i, le-leb v i)
place_right v i (pick l) = (leb-true v i, le-leb v i)
place_right v i (guard cs t) = (leb-true v i, le-leb v i)

alike : (a b : Kind) → (same_kind a b ≡ true) ↔ (a ≡ b)
alike a b = (same_kind_lem a b, λ e. rw e (itself_kind b))

all_right : (k : ℕ → Kind) (j : Kind) (l : List ℕ) → (all_of k j l ≡ true) ↔ AllOf k j l
all_right k j l = (
  λ h w m. same_kind_lem (k w) j ((every_right (λ a. same_kind (k a) j) l).0 h w m),
  λ f. (every_right (λ a. same_kind (k a) j) l).1 (λ w m. (alike (k w) j).1 (f w m)),
)

kinds_fit_lem : (k : ℕ → Kind) (r : Record) → (kinds_fit k r ≡ true) ↔ RecordFits k r
kinds_fit_lem k (input j x) = (λ h. tt, λ h. refl)
kinds_fit_lem k (word n) = (λ h. tt, λ h. refl)
kinds_fit_lem k (bit b) = (λ h. tt, λ h. refl)
kinds_fit_lem k (operation op l) = all_right k (entry_of op).takes l
kinds_fit_lem k (choice c a b) = (
  λ h. let (x, y) = both (same_kind (k c) kind.Bit) (same_kind (k b) (k a)) h in (same_kind_lem (k c) kind.Bit x, same_kind_lem (k b) (k a) y),
  λ h. and ((alike (k c) kind.Bit).1 h.0) ((alike (k b) (k a)).1 h.1),
)
kinds_fit_lem k (pick l) =
    let K = record_kind k (pick l) in (
      λ h. let (x, y) = both (all_of k kind.Bit (guards_of l)) (all_of k K (values_of l)) h in ((all_right k kind.Bit (guards_of l)).0 x, (all_right k K (values_of l)).0 y),
      λ h. and ((all_right k kind.Bit (guards_of l)).1 h.0) ((all_right k K (values_of l)).1 h.1),
    )
kinds_fit_lem k (guard cs t) = all_right k kind.Bit cs

table_right : (r : Record) → (table_fits r ≡ true) ↔ TableFits r
table_right (input j x) = (λ h. tt, λ h. refl)
table_right (word n) = (λ h. tt, λ h. refl)
table_right (bit b) = (λ h. tt, λ h. refl)
table_right (operation op l) = (λ h. tt, λ h. refl)
table_right (choice c a b) = (λ h. tt, λ h. refl)
table_right (pick l) = (λ h. tt, λ h. refl)
table_right (guard cs t) = (ltb-true t (2 ^ 2 ^ length cs), lt-ltb t (2 ^ 2 ^ length cs))

module _ (v : ℕ) (k : ℕ → Kind) where
  pub stands_to : (i : ℕ) (r : Record) → stands v k i r ≡ true → Stands v k i r
  unfolding stands
  stands_to i r h =
      let (h2, t) = both _ (table_fits r) h in
      let (h1, f) = both _ (kinds_fit k r) h2 in
      let (p, e) = both (input_in_place v i r) (every (λ w. ltb w i) (reads r)) h1 in
      record { place = (place_right v i r).0 p; earlier = (inside_right i (reads r)).0 e; kinds = (kinds_fit_lem k r).0 f; table = (table_right r).0 t }

  pub stands_back : (i : ℕ) (r : Record) → Stands v k i r → stands v k i r ≡ true
  unfolding stands
  stands_back i r s =
      and (and (and ((place_right v i r).1 s.place) ((inside_right i (reads r)).1 s.earlier)) ((kinds_fit_lem k r).1 s.kinds)) ((table_right r).1 s.table)

  pub all_to : (i : ℕ) (R : List Record) → all_stand v k i R ≡ true → Along (Stands v k) i R
  all_to i [] h = tt
  all_to i (r ∷ R) h = let (a, b) = both (stands v k i r) (all_stand v k (suc i) R) h in (stands_to i r a, all_to (suc i) R b)

  pub all_back : (i : ℕ) (R : List Record) → Along (Stands v k) i R → all_stand v k i R ≡ true
  all_back i [] h = refl
  all_back i (r ∷ R) (h, g) = and (stands_back i r h) (all_back (suc i) R g)

-- an output that names no wire, or a wire of its variable's kind
abbrev pub Out : ℕ → (ℕ → Kind) → ℕ → ℕ → Type 0
Out n k x w = (w ≡ no_wire) ⊎ ((w < n) × (k w ≡ k x))

output_right : (n : ℕ) (k : ℕ → Kind) (x w : ℕ) → (output_stands n k x w ≡ true) ↔ Out n k x w
output_right n k x w = (λ h. to (either (eqb w no_wire) (ltb w n && same_kind (k w) (k x)) h), back)
  where
    to : (eqb w no_wire ≡ true) ⊎ ((ltb w n && same_kind (k w) (k x)) ≡ true) → Out n k x w
    to (inl e) = inl (eqb-true w no_wire e)
    to (inr h) = let (p, q) = both (ltb w n) (same_kind (k w) (k x)) h in inr (ltb-true w n p, same_kind_lem (k w) (k x) q)

    back : Out n k x w → output_stands n k x w ≡ true
    back (inl e) = or_left (eqb w no_wire) (ltb w n && same_kind (k w) (k x)) (eq-eqb w no_wire e)
    back (inr (a, b)) = or_right (eqb w no_wire) (ltb w n && same_kind (k w) (k x)) (and (lt-ltb w n a) ((alike (k w) (k x)).1 b))

module _ (n : ℕ) (k : ℕ → Kind) where
  pub outs_to : (x : ℕ) (l : List ℕ) → outputs_stand n k x l ≡ true → (y : ℕ) → y < length l → Out n k (x + y) (get_or l y 0)
  outs_to x [] h y b = absurd (omega arith)
  outs_to x (w ∷ l) h y b =
      let (o, r) = both (output_stands n k x w) (outputs_stand n k (suc x) l) h in
      go ((output_right n k x w).0 o) (outs_to (suc x) l r) y b
    where
      go : Out n k x w → ((y : ℕ) → y < length l → Out n k (suc x + y) (get_or l y 0)) → (y : ℕ) → y < suc (length l) → Out n k (x + y) (get_or (w ∷ l) y 0)
      go o r zero b = rw add-zero o
      go o r (suc y) b = let e : x + suc y ≡ suc x + y = omega arith in rw e (r y (omega arith))

  pub outs_back : (x : ℕ) (l : List ℕ) → ((y : ℕ) → y < length l → Out n k (x + y) (get_or l y 0)) → outputs_stand n k x l ≡ true
  outs_back x [] h = refl
  outs_back x (w ∷ l) h =
      and ((output_right n k x w).1 (rw add-zero at (h 0 (omega arith))))
      (outs_back (suc x) l (λ y m. let e : suc x + y ≡ x + suc y = omega arith in rw e (h (suc y) (omega arith))))
