-- Row 62: the file's records and outputs stand as `Standing` says.
use Rattle.std.specs.Prelude.{ℕ, zero, suc, ◌≤◌, ◌<◌, ◌≡◌, refl, List, true, ◌&&◌, ◌↔◌, leb, ltb, length, get_or}
use Rattle.std.proofs.Common.{ap, zero-add, arith, leb-true, le-leb, ltb-true, ltb-false}
use Rattle.std.proofs.Math.Path.{subst⁻¹}
use Rattle.std.proofs.Math.ListN.{get_or-eq_default}
use Rattle.base.specs.TestLaws.{split, both, and}
use Rattle.base.specs.declared.Kind.{Kind}
use Rattle.file.specs.Records.{Record, input, word, bit, operation, choice, pick, guard, record_in, NotInput}
use Rattle.file.specs.RecordLaws.{Along, along_each, along_at, ReadsBefore, below_earlier}
use Rattle.file.specs.WireKinds.{wire_kind}
use Rattle.file.specs.FileFigures.{file_variables, wire_count, file_records, file_outputs}
use Rattle.file.specs.CircuitRows.{all_stand, outputs_stand, standing}
use Rattle.file.specs.WellFormed.{Standing}
use Rattle.file.specs.FilePartLaws.{file_count}
use Rattle.file.specs.StandLaws.{InPlace, Stands, all_to, all_back, Out, outs_to, outs_back}

-- what stands along the records is what `Standing` says of them
module _ (v : ℕ) (R : List Record) (outputs : List ℕ) where
  input_in_place_lem : (x : ℕ) (r : Record) → x < v → InPlace v x r → (k : Kind) × (r ≡ input k x)
  input_in_place_lem x (input j y) l (_, e) = (j, ap (input j) e)
  input_in_place_lem x (word n) l h = absurd (omega arith)
  input_in_place_lem x (bit b) l h = absurd (omega arith)
  input_in_place_lem x (operation op m) l h = absurd (omega arith)
  input_in_place_lem x (choice c a b) l h = absurd (omega arith)
  input_in_place_lem x (pick m) l h = absurd (omega arith)
  input_in_place_lem x (guard cs t) l h = absurd (omega arith)

  later_in_place : (i : ℕ) (r : Record) → v ≤ i → InPlace v i r → NotInput r
  later_in_place i (input j y) l (h, _) = omega arith
  later_in_place i (word n) l h = tt
  later_in_place i (bit b) l h = tt
  later_in_place i (operation op m) l h = tt
  later_in_place i (choice c a b) l h = tt
  later_in_place i (pick m) l h = tt
  later_in_place i (guard cs t) l h = tt

  placed : (i : ℕ) (r : Record) → (i < v → (k : Kind) × (r ≡ input k i)) → (v ≤ i → NotInput r) → InPlace v i r
  placed i r f g = split (ltb i v) (λ t. let l = ltb-true i v t in let (k, e) = f l in subst⁻¹ (InPlace v i) e (l, refl)) (λ t. let l = ltb-false i v t in go r l (g l))
    where
      go : (r : Record) → v ≤ i → NotInput r → InPlace v i r
      go (input j y) l n = absurd n
      go (word n) l h = l
      go (bit b) l h = l
      go (operation op m) l h = l
      go (choice c a b) l h = l
      go (pick m) l h = l
      go (guard cs t) l h = l

  stand_all : v ≤ length R → Along (Stands v (wire_kind R)) 0 R
      → ((x : ℕ) → x < length outputs → Out (length R) (wire_kind R) x (get_or outputs x 0)) → Standing v R outputs
  stand_all l h o =
      let at : (i : ℕ) → i < length R → Stands v (wire_kind R) i (record_in R i) = λ i b. rw zero-add at (along_at (Stands v (wire_kind R)) R 0 h i b) in
      record {
        first = λ x b. let c : x < length R = omega arith in (c, input_in_place_lem x (record_in R x) b (at x c).place);
        later = λ i b.
            split (ltb i (length R)) (λ t. later_in_place i (record_in R i) b (at i (ltb-true i (length R) t)).place)
            (λ t. rw (get_or-eq_default R (word 0) {n = i} (ltb-false i (length R) t)) tt);
        earlier = below_earlier R (along_each ReadsBefore R 0 (λ j b. rw zero-add (at j b).earlier));
        kinds = λ i b. (at i b).kinds;
        tables = λ i b. (at i b).table;
        outs = o;
      }

  all_stand_lem : Standing v R outputs → Along (Stands v (wire_kind R)) 0 R
  all_stand_lem s =
      along_each (Stands v (wire_kind R)) R 0
      (λ j b. rw zero-add (record {
        place = placed j (record_in R j) (λ l. (s.first j l).1) (s.later j);
        earlier = s.earlier j;
        kinds = s.kinds j b;
        table = s.tables j b;
      }))

  wide : Standing v R outputs → v ≤ length R
  wide s = go v (λ x l. (s.first x l).0)
    where
      go : (v : ℕ) → ((x : ℕ) → x < v → x < length R) → v ≤ length R
      go zero f = omega arith
      go (suc x) f = let h = f x (omega arith) in omega arith

standing_to : (f : List ℕ) → standing f ≡ true → Standing (file_variables f) (file_records f) (file_outputs f)
unfolding standing
standing_to f h =
    let R = file_records f in
    let k = wire_kind R in
    let n = file_count f in
    let (g, o) = both (leb (file_variables f) (wire_count f) && all_stand (file_variables f) k 0 R) (outputs_stand (wire_count f) k 0 (file_outputs f)) h in
    let (a, b) = both (leb (file_variables f) (wire_count f)) (all_stand (file_variables f) k 0 R) g in
    let c = leb-true (file_variables f) (wire_count f) a in
    stand_all (file_variables f) R (file_outputs f) (omega (arith, n, c)) (all_to (file_variables f) k 0 R b)
    (λ x l. rw n (rw zero-add at (outs_to (wire_count f) k 0 (file_outputs f) o x l)))

standing_back : (f : List ℕ) → Standing (file_variables f) (file_records f) (file_outputs f) → standing f ≡ true
unfolding standing
standing_back f s =
    let R = file_records f in
    let k = wire_kind R in
    let n = file_count f in
    let w = wide (file_variables f) R (file_outputs f) s in
    and (and (le-leb (file_variables f) (wire_count f) (omega (arith, n, w))) (all_back (file_variables f) k 0 R (all_stand_lem (file_variables f) R (file_outputs f) s)))
    (outs_back (wire_count f) k 0 (file_outputs f) (λ x l. rw (← n, zero-add) (s.outs x l)))

pub standing_right : (f : List ℕ) → (standing f ≡ true) ↔ Standing (file_variables f) (file_records f) (file_outputs f)
standing_right f = (standing_to f, standing_back f)
