-- The loop over the records: before record i the arrays hold the figures and kinds of the wires below i, so that it can be worked out; after the last one the figures of all.
use Rattle.std.specs.Prelude.{ℕ, suc, ◌+◌, ◌<◌, ◌≡◌, refl, List, [], ◌∷◌, ◌++◌, length, set}
use Rattle.std.proofs.Common.{sym, ap, subst, ◌∙◌, zero-add, add-one, arith, length-set}
use Rattle.base.specs.Buffers.{over}
use Rattle.base.specs.BufferLaws.{over_nil, over_snoc, over_at}
use Rattle.base.specs.Runs.{run}
use Rattle.base.specs.RunLaws.{run_length, run_append}
use Rattle.base.specs.declared.Kind.{Kind}
use Rattle.file.specs.Records.{Record, record_in, record_figure}
use Rattle.file.specs.WireKinds.{record_kind, wire_kind}
use Rattle.file.specs.WireFigures.{pick_sum}
use Rattle.file.specs.FileFigures.{record_at, size_at, records_from, first_record, file_variables, wire_count, file_records}
use Rattle.file.specs.RecordLaws.{picks_same, record_same}
use Rattle.file.specs.WireKindLaws.{kind_same}
use Rattle.file.specs.FilePartLaws.{records_next, records_length, file_count, record_of}
use Rattle.file.specs.FileLaws.{place_next}
use Rattle.file.specs.Limits.{most_wires}
use Rattle.file.specs.LaidOut.{record_place}
use Rattle.file.specs.FormatLaws.{Passed}
use Rattle.file_parts.specs.HeldKinds.{held_kind}
use Rattle.file_parts.specs.TableLaws.{holds_none, holds_more}
use Rattle.file_figures.specs.Working.{held, pick_by, Workable, figures_of, AmidRecords}
use Rattle.file_figures.specs.RecordLaws.{pick_told}
use Rattle.file_figures.specs.AcceptedLaws.{record_workable}

-- the figures of the first wires: so many, and the next one
pub figures_length : (f inputs : List ℕ) (i : ℕ) → length (figures_of f inputs i) ≡ i
unfolding figures_of
figures_length f inputs i = run_length 0 (record_figure inputs (pick_sum (wire_kind (file_records f)))) (records_from i f first_record) [] ∙ zero-add _ ∙ records_length i f first_record

figures_more : (f inputs : List ℕ) (i : ℕ)
    → figures_of f inputs (suc i)
    ≡ figures_of f inputs i ++ (record_figure inputs (pick_sum (wire_kind (file_records f))) (held (figures_of f inputs i)) (record_at f (record_place f i)) ∷ [])
unfolding figures_of
figures_more f inputs i =
    let value = record_figure inputs (pick_sum (wire_kind (file_records f))) in
    ap (λ (R : List Record). run 0 value R []) (records_next i f first_record)
    ∙ run_append 0 value (records_from i f first_record) (record_at f (record_place f i) ∷ []) []

-- what lies at the start of an array is read from it
pub held_over : (a d : List ℕ) (w : ℕ) → w < length a → held (over a d) w ≡ held a w
held_over a d w h = over_at a d w h

pub amid_start : (f inputs before : List ℕ) (kinds : List Kind) → Passed f → length inputs ≡ file_variables f → length before ≡ most_wires → length kinds ≡ most_wires
    → AmidRecords f inputs before before kinds 8 0
unfolding figures_of
amid_start f inputs before kinds p e l m = record {
  passed = p;
  given = e;
  room = l;
  place = refl;
  same = sym (over_nil before);
  many = m;
  holds = holds_none (file_records f) kinds;
}

module _ (f inputs before figures : List ℕ) (kinds : List Kind) (at i : ℕ) (p : AmidRecords f inputs before figures kinds at i) where
  pub amid_end : i ≡ wire_count f → (at ≡ record_place f (wire_count f)) × (figures ≡ over (figures_of f inputs (wire_count f)) before)
  amid_end e = (p.place ∙ ap (record_place f) e, p.same ∙ ap (λ (n : ℕ). over (figures_of f inputs n) before) e)

  module _ (h : i < wire_count f) where
    here : Workable f (length inputs) i at
    here = subst (λ (q : ℕ). Workable f (length inputs) i q) (sym p.place) (record_workable f p.passed (length inputs) i p.given h)

    pub amid_below : i < most_wires
    amid_below = omega (arith, h, p.passed.head.wires)

    pub amid_workable : Workable f (length inputs) most_wires at
    amid_workable = record { whole = here.whole; inputs = here.inputs; earlier = λ w m. omega (arith, here.earlier w m, amid_below) }

    -- the record there is record i of the file, and the kinds that are held are those of the wires that it reads
    there : record_at f at ≡ record_in (file_records f) i
    there = ap (record_at f) p.place ∙ sym (record_of f i h)

    kind_here : record_kind (held_kind kinds) (record_at f at) ≡ record_kind (wire_kind (file_records f)) (record_at f at)
    kind_here = kind_same (held_kind kinds) (wire_kind (file_records f)) (record_at f at) (λ w m. p.holds w (here.earlier w m))

    -- what is read of the record: its wire's kind, its figure, its size
    module _ (b : Kind) (g n : ℕ) (k : b ≡ record_kind (held_kind kinds) (record_at f at))
        (e : g ≡ record_figure inputs (pick_by b) (held figures) (record_at f at)) (s : n ≡ size_at f at) where
      -- the record reads what the run before it gave
      same_figure : g ≡ record_figure inputs (pick_sum (wire_kind (file_records f))) (held (figures_of f inputs i)) (record_at f (record_place f i))
      same_figure =
          e ∙ ap (λ (c : Kind). record_figure inputs (pick_by c) (held figures) (record_at f at)) (k ∙ kind_here)
          ∙ pick_told inputs (wire_kind (file_records f)) (held figures) (record_at f at)
          ∙ record_same inputs (pick_sum (wire_kind (file_records f))) (picks_same (wire_kind (file_records f))) (held figures) (held (figures_of f inputs i)) (record_at f at)
          (λ w m. ap (λ (l : List ℕ). held l w) p.same ∙ held_over (figures_of f inputs i) before w (rw (figures_length f inputs i) (here.earlier w m)))
          ∙ ap (λ (q : ℕ). record_figure inputs (pick_sum (wire_kind (file_records f))) (held (figures_of f inputs i)) (record_at f q)) p.place

      pub amid_more : AmidRecords f inputs before (set figures i g) (set kinds i b) (at + n) (i + 1)
      amid_more = record {
        passed = p.passed;
        given = p.given;
        room = p.room;
        place = rw (add-one i, place_next i f first_record, s, p.place);
        same =
            ap (λ (l : List ℕ). set l i g) p.same
            ∙ over_snoc (figures_of f inputs i) before i g (figures_length f inputs i) (omega (arith, amid_below, p.room))
            ∙ rw (add-one i, figures_more f inputs i, same_figure);
        many = length-set kinds i b ∙ p.many;
        holds =
            holds_more (file_records f) kinds i (rw (file_count f) h) (p.passed.stand.earlier i) p.holds b
            (k ∙ ap (record_kind (held_kind kinds)) there) (omega (arith, p.many, amid_below));
      }
