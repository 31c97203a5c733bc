-- Row 62 over the whole file, record after record and output after output: what is left decides, one that does not stand ends it, and the table holds the kinds so far.
use Rattle.std.specs.Prelude.{ℕ, suc, ◌+◌, ◌-◌, ◌*◌, ◌≤◌, ◌<◌, ◌≡◌, refl, Some, None, List, Bool, true, false, ◌&&◌, cond, length, set}
use Rattle.std.proofs.Math.Path.{sym}
use Rattle.std.proofs.Common.{ap, subst, ◌∙◌, add-one, arith, length-set}
use borrow.Author.Tests.{lt-leb, le-leb}
use Rattle.base.specs.Lists.{Inside}
use Rattle.base.specs.Numbers.{number_at}
use Rattle.base.specs.TestLaws.{split}
use Rattle.base.specs.declared.Kind.{Kind}
use Rattle.file.specs.Records.{Record, reads, record_in}
use Rattle.file.specs.RecordLaws.{ReadsBefore}
use Rattle.file.specs.WireKinds.{record_kind, wire_kind}
use Rattle.file.specs.FileFigures.{wires_at, record_at, size_at, records_from, first_record, file_variables, wire_count, file_records}
use Rattle.file.specs.FilePartLaws.{wires_length, file_count, record_of, outputs_of_lem}
use Rattle.file.specs.FileLaws.{place_next}
use Rattle.file.specs.Limits.{most_wires}
use Rattle.file.specs.LaidOut.{record_place, WholeAt, LaidOut}
use Rattle.file.specs.CircuitRows.{stands, all_stand, output_stands, outputs_stand, standing}
use Rattle.file.specs.RowLaws.{Headed}
use Rattle.file.specs.StandLaws.{stands_to}
use Rattle.file_parts.specs.HeldKinds.{held_kind}
use Rattle.file_parts.specs.TableLaws.{HoldsKinds, holds_none, holds_more}
use Rattle.file_wiring.specs.SameLaws.{stands_same, outputs_same}

-- the output of variable x decides together with those after it
pub outputs_next : (f : List ℕ) (k : ℕ → Kind) (n at v x : ℕ) → x < v → outputs_stand n k x (wires_at (v - x) f (at + 2 * x))
    ≡ (output_stands n k x (number_at 2 f (at + 2 * x)) && outputs_stand n k (x + 1) (wires_at (v - (x + 1)) f (at + 2 * (x + 1))))
outputs_next f k n at v x h =
    let e : v - x ≡ suc (v - (x + 1)) = omega arith in
    let a : at + 2 * x + 2 ≡ at + 2 * (x + 1) = omega arith in
    ap (λ (m : ℕ). outputs_stand n k x (wires_at m f (at + 2 * x))) e ∙ rw (a, add-one x)

-- loop invariant, amid the records: those that are left decide, and the table holds the kinds of the wires so far
pub record AmidRecords (f : List ℕ) (v n : ℕ) (kinds : List Kind) (at i : ℕ) : Type 0 where
  pub count : n ≡ wire_count f
  pub head : Headed f
  pub layout : LaidOut f
  pub place : at ≡ record_place f i
  pub room : length kinds ≡ most_wires
  pub holds : HoldsKinds (file_records f) kinds i
  pub same : all_stand v (wire_kind (file_records f)) 0 (file_records f) ≡ all_stand v (wire_kind (file_records f)) i (records_from (n - i) f at)

pub records_start : (f : List ℕ) (v n : ℕ) (kinds : List Kind) → Headed f → LaidOut f → n ≡ wire_count f → length kinds ≡ most_wires → AmidRecords f v n kinds 8 0
unfolding file_records
records_start f v n kinds h l c r =
    let e : n - 0 ≡ wire_count f = omega (arith, c) in
    record { count = c; head = h; layout = l; place = refl; room = r; holds = holds_none (file_records f) kinds; same = rw e }

module _ (f : List ℕ) (v n : ℕ) (kinds : List Kind) (at i : ℕ) (p : AmidRecords f v n kinds at i) where
  abbrev R : List Record
  R = file_records f

  abbrev k : ℕ → Kind
  k = wire_kind (file_records f)

  module _ (h : i < n) where
    below : i < wire_count f
    below = omega (arith, p.count)

    pub record_whole : WholeAt f at
    record_whole = subst (WholeAt f) (sym p.place) (p.layout.whole i below)

    pub record_below : i < most_wires
    record_below = omega (arith, below, p.head.wires)

    here : record_in R i ≡ record_at f at
    here = record_of f i below ∙ ap (record_at f) (sym p.place)

    next_record : all_stand v k i (records_from (n - i) f at) ≡ (stands v k i (record_at f at) && all_stand v k (i + 1) (records_from (n - (i + 1)) f (at + size_at f at)))
    next_record =
        let e : n - i ≡ suc (n - (i + 1)) = omega arith in
        ap (λ (m : ℕ). all_stand v k i (records_from m f at)) e ∙ rw (add-one i)

    module _ (b : Bool) (e : b ≡ stands v (held_kind kinds) i (record_at f at)) where
      stood : b ≡ stands v k i (record_at f at)
      stood = e ∙ stands_same (held_kind kinds) k v i (record_at f at) p.holds

      pub record_fails : b ≡ false → None ≡ cond (all_stand v (wire_kind (file_records f)) 0 (file_records f)) (Some (record_place f n)) None
      record_fails z = let none : all_stand v k 0 R ≡ false = p.same ∙ next_record ∙ rw (sym stood ∙ z) in rw none

      module _ (z : b ≡ true) where
        earlier : ReadsBefore i (record_at f at)
        earlier = (stands_to v k i (record_at f at) (sym stood ∙ z)).earlier

        pub record_reads : Inside most_wires (reads (record_at f at))
        record_reads w m = omega (arith, earlier w m, record_below)

        pub record_more : (c : Kind) → c ≡ record_kind (held_kind kinds) (record_at f at) → (m : ℕ) → m ≡ size_at f at → AmidRecords f v n (set kinds i c) (at + m) (i + 1)
        record_more c q m s = record {
          count = p.count;
          head = p.head;
          layout = p.layout;
          place = rw (s, p.place, add-one i) (sym (place_next i f first_record));
          room = length-set kinds i c ∙ p.room;
          holds =
              holds_more R kinds i (omega (arith, below, file_count f)) (subst (ReadsBefore i) (sym here) earlier) p.holds c
              (q ∙ ap (record_kind (held_kind kinds)) (sym here)) (omega (arith, record_below, p.room));
          same = p.same ∙ next_record ∙ rw (sym stood ∙ z, s);
        }

-- the whole of row 62
module _ (f : List ℕ) (v n : ℕ) (e : v ≡ file_variables f) (q : n ≡ wire_count f) where
  pub few_wires : n < v → false ≡ standing f
  unfolding standing
  few_wires h = rw (lt-leb (file_variables f) (wire_count f) (omega (arith, e, q)))

  module _ (h : v ≤ n) where
    pub no_record : None ≡ cond (all_stand v (wire_kind (file_records f)) 0 (file_records f)) (Some (record_place f n)) None → false ≡ standing f
    unfolding standing
    no_record z =
        split (all_stand v (wire_kind (file_records f)) 0 (file_records f))
        (λ t. let u : None ≡ Some (record_place f n) = rw t at z in absurd cc)
        (λ t. rw (← e, t, le-leb v (wire_count f) (omega (arith, q))))

    module _ (at : ℕ) (a : Some at ≡ cond (all_stand v (wire_kind (file_records f)) 0 (file_records f)) (Some (record_place f n)) None) where
      all : all_stand v (wire_kind (file_records f)) 0 (file_records f) ≡ true
      all = split (all_stand v (wire_kind (file_records f)) 0 (file_records f)) (λ t. t) (λ t. let u : Some at ≡ None = rw t at a in absurd cc)

      outputs_there : at ≡ record_place f (wire_count f)
      outputs_there = let u : Some at ≡ Some (record_place f n) = rw all at a in let z : at ≡ record_place f n = cc in z ∙ ap (record_place f) q

      pub outputs_whole : LaidOut f → at + 2 * v ≤ length f
      outputs_whole l = omega (arith, outputs_there, e, l.ended)

      pub outputs_decide : (k : ℕ → Kind) → ((w : ℕ) → w < n → k w ≡ wire_kind (file_records f) w)
          → (b : Bool) → b ≡ outputs_stand n k 0 (wires_at v f at) → b ≡ standing f
      unfolding standing
      outputs_decide k holds b r =
          r ∙ outputs_same k (wire_kind (file_records f)) n holds 0 (wires_at v f at) (omega (arith, h, wires_length v f at))
          ∙ rw (outputs_of_lem f, ← e, all, le-leb v (wire_count f) (omega (arith, h, q)), outputs_there, q)
