-- Reading a circuit file: which of rows 60 to 62 the code's tests lead to, and the answer; showing a record: where it lies, found record by record, or nothing.
use Rattle.std.specs.Prelude.{ℕ, ◌+◌, ◌≤◌, ◌<◌, ◌≡◌, refl, List, Bool, false, not, eqb, ltb, length, take, drop}
use Rattle.std.proofs.Common.{sym, ap, ◌∙◌, add-one, arith}
use Rattle.std.proofs.Math.Bool.{true}
use borrow.Author.Tests.{eq-eqb, ne_eqb, eqb-true, eqb-false, ltb-true, lt-ltb, le-ltb, not-true, not-false}
use Rattle.base.specs.TestLaws.{split, both}
use Rattle.base.specs.Answers.{success, refusal}
use Rattle.base.specs.declared.Answer.{Answer}
use Rattle.file.specs.FileFigures.{size_at, first_record, wire_count}
use Rattle.file.specs.FileLaws.{place_next}
use Rattle.file.specs.LaidOut.{record_place, WholeAt}
use Rattle.file.specs.CircuitRows.{headed, laid, standing, circuit_row}
use Rattle.file.specs.RowLaws.{headed_right}
use Rattle.file.specs.FormatLaws.{Passed, row_passed}
use Rattle.file.specs.Answers.{circuit_answer, shown, part_start, part_length, record_part}

-- the rows in their order; a, b and c: what the code's tests answer
module _ (f : List ℕ) where
  pub head_passed : (a : Bool) → a ≡ headed f → not a ≡ false → headed f ≡ true
  head_passed a p x = sym p ∙ not-false a x

  pub head_long : (a : Bool) → a ≡ headed f → not a ≡ false → 8 ≤ length f
  head_long a p x = ((headed_right f).0 (head_passed a p x)).long

  pub row_head : (a : Bool) → a ≡ headed f → not a ≡ true → 60 ≡ circuit_row f
  unfolding circuit_row
  row_head a p x = rw (← p, not-true a x)

  pub row_layout : (a b : Bool) → a ≡ headed f → not a ≡ false → b ≡ laid f → not b ≡ true → 61 ≡ circuit_row f
  unfolding circuit_row
  row_layout a b p x q y = rw (← p, not-false a x, ← q, not-true b y)

  pub row_standing : (a b c : Bool) → a ≡ headed f → not a ≡ false → b ≡ laid f → not b ≡ false → c ≡ standing f → not c ≡ true → 62 ≡ circuit_row f
  unfolding circuit_row
  row_standing a b c p x q y r z = rw (← p, not-false a x, ← q, not-false b y, ← r, not-true c z)

  pub row_none : (a b c : Bool) → a ≡ headed f → not a ≡ false → b ≡ laid f → not b ≡ false → c ≡ standing f → not c ≡ false → 0 ≡ circuit_row f
  unfolding circuit_row
  row_none a b c p x q y r z = rw (← p, not-false a x, ← q, not-false b y, ← r, not-false c z)

-- each return of the code takes the one whose tests it made
pub ruleset rows = (row_head, row_layout, row_standing, row_none)

module _ (f : List ℕ) where
  -- the answer of reading
  pub refused_answer : (circuit_row f ≡ 0 → ⊥) → circuit_answer f ≡ refusal (circuit_row f) 0
  unfolding circuit_answer
  refused_answer h = rw (ne_eqb _ _ h)

  pub taken_answer : circuit_row f ≡ 0 → circuit_answer f ≡ success 0 (wire_count f) (length f) 0 0
  unfolding circuit_answer
  taken_answer h = rw (eq-eqb _ _ h)

  pub answer_number : (circuit_answer f).number ≡ circuit_row f
  answer_number =
      split (eqb (circuit_row f) 0)
      (λ t. let z = eqb-true _ _ t in ap (λ (a : Answer). a.number) (taken_answer z) ∙ sym z)
      (λ t. ap (λ (a : Answer). a.number) (refused_answer (eqb-false _ _ t)))

  -- the part of a record
  module _ (w : ℕ) where
    -- a and n: where it begins and how long it is, as the code answers them
    abbrev pub PartIs : ℕ → ℕ → Type 0
    PartIs a n = (a ≡ part_start f w) × ((n ≡ part_length f w) × (take n (drop a f) ≡ record_part f w))

    part_is : (a n : ℕ) → a ≡ part_start f w → n ≡ part_length f w → PartIs a n
    unfolding record_part
    part_is a n e q = (e, (q, rw (e, q)))

    pub part_none : shown f w ≡ false → PartIs 0 0
    unfolding part_start part_length
    part_none h = part_is 0 0 (rw h) (rw h)

    pub part_refused : (circuit_row f ≡ 0 → ⊥) → PartIs 0 0
    part_refused h = part_none (rw (ne_eqb _ _ h))

    pub part_past : circuit_row f ≡ 0 → wire_count f ≤ w → PartIs 0 0
    part_past h l = part_none (rw (eq-eqb _ _ h, le-ltb _ _ l))

    -- a number of more than two bytes is no wire of any file
    pub part_wide : 65535 < w → PartIs 0 0
    part_wide h =
        split (eqb (circuit_row f) 0)
        (λ t. let z = eqb-true _ _ t in part_past z (omega (arith, h, (row_passed f z).head.wires)))
        (λ t. part_refused (eqb-false _ _ t))

    pub part_shown : circuit_row f ≡ 0 → w < wire_count f → (a n : ℕ) → a ≡ record_place f w → n ≡ size_at f a → PartIs a n
    unfolding part_start part_length
    part_shown h l a n e q = let t : shown f w ≡ true = rw (eq-eqb _ _ h, lt-ltb _ _ l) in part_is a n (rw t e) (rw (t, ← e) q)

    pub part_found : shown f w ≡ true → PartIs (record_place f w) (size_at f (record_place f w))
    unfolding part_start part_length
    part_found t = part_is (record_place f w) (size_at f (record_place f w)) (rw t) (rw t)

    -- it lies inside the file
    pub part_inside : part_start f w + part_length f w ≤ length f
    part_inside =
        split (shown f w)
        (λ t.
        let (r, k) = both (eqb (circuit_row f) 0) (ltb w (wire_count f)) t in
        let h = eqb-true (circuit_row f) 0 r in
        let l = ltb-true w (wire_count f) k in
        let (a, (b, _)) = part_shown h l (record_place f w) (size_at f (record_place f w)) refl refl in
        omega (arith, a, b, ((row_passed f h).layout.whole w l).inside))
        (λ t. let (a, (b, _)) = part_none t in omega (arith, a, b))

-- amid the records before wire w
pub record AmidPlaces (f : List ℕ) (w at i : ℕ) : Type 0 where
  pub passed : Passed f
  pub below : w < wire_count f
  pub few : i ≤ w
  pub place : at ≡ record_place f i

pub places_start : (f : List ℕ) (w : ℕ) → circuit_row f ≡ 0 → w < wire_count f → AmidPlaces f w 8 0
places_start f w h l = record { passed = row_passed f h; below = l; few = omega arith; place = refl }

module _ (f : List ℕ) (w at i : ℕ) (p : AmidPlaces f w at i) where
  pub places_done : w ≤ i → at ≡ record_place f w
  places_done h = let e : i ≡ w = omega (arith, p.few) in p.place ∙ ap (record_place f) e

  module _ (h : i < w) where
    pub place_whole : WholeAt f at
    place_whole = rw p.place (p.passed.layout.whole i (omega (arith, p.below)))

    pub places_more : (n : ℕ) → n ≡ size_at f at → AmidPlaces f w (at + n) (i + 1)
    places_more n e = record {
      passed = p.passed;
      below = p.below;
      few = omega arith;
      place = rw (e, p.place, add-one i) (sym (place_next i f first_record));
    }
