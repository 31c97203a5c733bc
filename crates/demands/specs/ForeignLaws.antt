-- Laws for document 02, C-11: circuit files are answered by the rows of the table; our own are read, and their runs give what the direct run of their rule gives.
use Rattle.std.specs.Prelude.{ℕ, ◌<◌, ◌≡◌, refl, true, List, [], ◌↔◌, eqb, ltb, length}
use Rattle.std.proofs.Common.{arith, sym, ap, ◌∙◌, true≢false, eqb-true, ltb-true, ltb-false}
use Rattle.std.proofs.Math.Path.{subst⁻¹}
use Rattle.std.proofs.lemmas.Bool.{eqb-false}
use Rattle.base.specs.Buffers.{over}
use Rattle.base.specs.Numbers.{Bytes, Words}
use Rattle.base.specs.TestLaws.{split}
use Rattle.base.specs.Answers.{success, refusal}
use Rattle.base.specs.declared.Answer.{Answer}
use Rattle.base.specs.InputLaws.{row_same}
use Rattle.rule.specs.Header.{variables, kind_at}
use Rattle.circuit.specs.Whole.{rule_answer}
use Rattle.circuit.specs.WholeLaws.{accepted}
use Rattle.run.specs.Inputs.{input_row}
use Rattle.run.specs.InputLaws.{row_is, inputs_count, inputs_fit}
use Rattle.run.specs.Direct.{run_answer, run_results}
use Rattle.run.specs.DirectLaws as direct
use Rattle.plan.specs.Rows.{plan_answer}
use Rattle.plan.proofs.AcceptedLaws.{plan_accepted}
use Rattle.file.specs.Versions.{Version, written_version}
use Rattle.file.specs.Records.{Record, record_in, ReadsEarlier}
use Rattle.file.specs.WireKinds.{wire_kind}
use Rattle.file.specs.CircuitFile.{record_bytes, file_bytes}
use Rattle.file.specs.FileFigures.{size_at, file_variables, wire_count, file_records}
use Rattle.file.specs.LaidOut.{record_place}
use Rattle.file.specs.FileLaws.{count_found, file_part}
use Rattle.file.specs.CircuitRows.{headed, laid, standing, circuit_row}
use Rattle.file.specs.RowLaws.{mark_either, headed_right, laid_right}
use Rattle.file.specs.StandingLaws.{standing_right}
use Rattle.file.specs.FormatLaws.{row_60, row_61, row_62, passed_row}
use Rattle.file.specs.WellFormed.{WellFormed}
use Rattle.file.specs.FormatLaws as format
use Rattle.fused.specs.FusedCircuit.{records_of, output_wires, fused_file}
use Rattle.fused.specs.FitPlan.{fused_found}
use Rattle.fused.specs.FusedFigures.{reads_earlier, output_earlier, file_run}
use Rattle.fused.specs.WellFormedLaws.{input_kind, fused_well_formed, fused_row, fused_is}
use Rattle.file.specs.Answers.{circuit_answer, record_part, circuit_run_answer, circuit_run_results}
use Rattle.file.specs.RefusalLaws.{file_inputs_row}
use Rattle.file.specs.RunLaws.{file_answer, inputs_answer, run_answer_lem, run_number, run_results_lem, refused_results}
use Rattle.file.specs.ReadLaws.{refused_answer, taken_answer, answer_number, part_refused, part_past, part_shown}
use Rattle.demands.specs.Table.{AnsweredBy, AnsweredAfter, FailsAt, number_of, Headed, circuit_rows, file_run_rows}
use Rattle.demands.specs.TableLaws.{taken_by, refused_by}
use Rattle.demands.specs.AnsweredLaws.{inputs_rows}
use Rattle.demands.specs.Promises.{AsDirect, OwnAsDirect}

-- by the table: rows 60 to 62
pub table_headed : (f : List ℕ) → (headed f ≡ true) ↔ Headed f
table_headed f = (
  λ t. let h = (headed_right f).0 t in
      record { long = h.long; short = h.short; marked = (mark_either f).0 h.marked; some = h.some; few = h.few; wires = h.wires },
  λ h. (headed_right f).1 (record { long = h.long; short = h.short; marked = (mark_either f).1 h.marked; some = h.some; few = h.few; wires = h.wires }),
)

pub circuit_answered : (f : List ℕ) → AnsweredBy (circuit_rows f) 0 (circuit_answer f)
circuit_answered f =
    split (headed f)
    (λ t. let head = (table_headed f).0 t in
    let laid_out = laid_right f ((headed_right f).0 t) in
    split (laid f)
    (λ u. let layout = laid_out.0 u in
    split (standing f)
    (λ w. let stand = (standing_right f).0 w in
    let e = taken_answer f (passed_row f (record { head = (headed_right f).0 t; layout = layout; stand = stand })) in
    taken_by (circuit_rows f) 0 (circuit_answer f) refl (head, (layout, (stand, tt))) (ap (λ (a : Answer). a.number) e) (ap (λ (a : Answer). a.place) e))
    (λ w. refused 2 (omega arith) (head, (layout, λ s. true≢false (sym ((standing_right f).1 s) ∙ w))) (row_62 f t u w) (λ z. omega (arith, row_62 f t u w))))
    (λ u. refused 1 (omega arith) (head, λ l. true≢false (sym (laid_out.1 l) ∙ u)) (row_61 f t u) (λ z. omega (arith, row_61 f t u))))
    (λ t. refused 0 (omega arith) (λ h. true≢false (sym ((table_headed f).1 h) ∙ t)) (row_60 f t) (λ z. omega (arith, row_60 f t)))
  where
    refused : (k : ℕ) → k < 3 → FailsAt k (circuit_rows f) → circuit_row f ≡ number_of k (circuit_rows f) → (circuit_row f ≡ 0 → ⊥) → AnsweredBy (circuit_rows f) 0 (circuit_answer f)
    refused k i g e n = refused_by k (circuit_rows f) 0 (circuit_answer f) refl i g (refused_answer f n ∙ ap (λ (x : ℕ). refusal x 0) e)

-- and 40 to 42
pub circuit_run_answered : (f inputs : List ℕ) (room : ℕ) → AnsweredAfter (circuit_answer f) (file_run_rows f inputs room) (circuit_run_answer f inputs room)
circuit_run_answered f inputs room = record { stands = λ h. file_answer f inputs h room; decided = decided }
  where
    decided : (circuit_answer f).number ≡ 0 → AnsweredBy (file_run_rows f inputs room) 0 (circuit_run_answer f inputs room)
    decided z =
        let n = run_number f inputs z room in
        inputs_rows (file_variables f) (wire_kind (file_records f)) inputs room (circuit_run_answer f inputs room) n
        (λ e. ap (λ (a : Answer). a.place) (run_answer_lem f inputs z room (sym n ∙ e) ∙ taken_answer f (sym (answer_number f) ∙ z)))
        (λ g. inputs_answer f inputs z room (λ e. g (n ∙ e)) ∙ ap (λ (k : ℕ). refusal k 0) (sym n))

-- the format, and what follows from it
pub circuit_format : (f : List ℕ) → Bytes f
    → ((circuit_answer f).number ≡ 0) ↔ ((ver : Version) × (v : ℕ) × (R : List Record) × (outputs : List ℕ) × WellFormed ver v R outputs × (f ≡ file_bytes ver v R outputs))
circuit_format f bytes = let (to, back) = format.circuit_format f bytes in (λ z. to (sym (answer_number f) ∙ z), λ w. answer_number f ∙ back w)

pub circuit_earlier : (f : List ℕ) → (circuit_answer f).number ≡ 0 → ReadsEarlier (file_records f)
circuit_earlier f z = (format.row_passed f (sym (answer_number f) ∙ z)).stand.earlier

-- the record of wire n of a file that was written is what was written for it; no other is shown
pub record_shown : (ver : Version) (v : ℕ) (R : List Record) (outputs : List ℕ) → WellFormed ver v R outputs → (n : ℕ) → n < length R
    → record_part (file_bytes ver v R outputs) n ≡ record_bytes ver (record_in R n)
record_shown ver v R outputs w n l =
    let f = file_bytes ver v R outputs in
    let (_, (_, part)) = part_shown f n (format.well_row ver v R outputs w) (rw (count_found ver v R outputs w.fits.few) l) (record_place f n) (size_at f (record_place f n)) refl refl in
    sym part ∙ file_part ver v R outputs w.fits.each n l

pub none_shown : (f : List ℕ) (n : ℕ) → ((circuit_answer f).number ≡ 0 → n < wire_count f → ⊥) → record_part f n ≡ []
none_shown f n h =
    split (eqb (circuit_row f) 0)
    (λ t. let z = eqb-true _ _ t in
    split (ltb n (wire_count f)) (λ u. absurd (h (answer_number f ∙ z) (ltb-true _ _ u))) (λ u. sym (part_past f n z (ltb-false _ _ u)).1.1))
    (λ t. sym (part_refused f n (eqb-false _ _ t)).1.1)

-- our own files
module _ (s p : List ℕ) (bytes : Bytes s) (h : (plan_answer s p).number ≡ 0) where
  abbrev f : List ℕ
  f = fused_file s p

  pub own_read : circuit_answer (fused_file s p) ≡ success 0 (length (records_of s p)) (length (fused_file s p)) 0 0
  own_read =
      let n = (fused_found s p h bytes (reads_earlier s p h) (output_earlier s p h)).3 in
      taken_answer f (fused_row s p bytes h) ∙ ap (λ (k : ℕ). success 0 k (length f) 0 0) n

  pub own_record : (n : ℕ) → n < length (records_of s p) → record_part (fused_file s p) n ≡ record_bytes written_version (record_in (records_of s p) n)
  own_record n l =
      ap (λ (x : List ℕ). record_part x n) (fused_is s p) ∙ record_shown written_version (variables s) (records_of s p) (output_wires s p) (fused_well_formed s p bytes h) n l

  -- its variables are the rule's, of the rule's kinds
  rows : (inputs : List ℕ) (room : ℕ) → file_inputs_row f inputs room ≡ input_row s inputs room
  rows inputs room =
      let (records, _, v, _) = fused_found s p h bytes (reads_earlier s p h) (output_earlier s p h) in
      rw (records, v) (row_same (variables s) (wire_kind (records_of s p)) (kind_at s) inputs room (input_kind s p bytes h)) ∙ sym (row_is s inputs room)

  pub own_number : (inputs : List ℕ) (room : ℕ) → (circuit_run_answer (fused_file s p) inputs room).number ≡ (run_answer (rule_answer s) s inputs room).number
  own_number inputs room =
      run_number f inputs (ap (λ (a : Answer). a.number) own_read) room ∙ rows inputs room ∙ sym (direct.run_number (rule_answer s) s inputs ((plan_accepted s p).0 h).0 room)

  own_counts : (inputs : List ℕ) (room : ℕ) → (circuit_run_answer (fused_file s p) inputs room).number ≡ 0
      → circuit_run_answer (fused_file s p) inputs room ≡ success 0 (length (records_of s p)) (length (fused_file s p)) 0 0
  own_counts inputs room z =
      let taken = ap (λ (a : Answer). a.number) own_read in
      run_answer_lem f inputs taken room (sym (run_number f inputs taken room) ∙ z) ∙ own_read

  own_place : (inputs : List ℕ) (room : ℕ) → (circuit_run_answer (fused_file s p) inputs room).place ≡ (run_answer (rule_answer s) s inputs room).place
  own_place inputs room =
      let taken = ap (λ (a : Answer). a.number) own_read in
      let zero = ((plan_accepted s p).0 h).0 in
      let e = rows inputs room in
      split (eqb (input_row s inputs room) 0)
      (λ t. let z = eqb-true _ _ t in
      ap (λ (a : Answer). a.place) (run_answer_lem f inputs taken room (e ∙ z) ∙ own_read)
      ∙ sym (ap (λ (a : Answer). a.place) (direct.run_answer_lem (rule_answer s) s inputs zero room z ∙ (accepted s zero).answer)))
      (λ t. let n = eqb-false _ _ t in
      ap (λ (a : Answer). a.place) (inputs_answer f inputs taken room (λ z. n (sym e ∙ z)))
      ∙ sym (ap (λ (a : Answer). a.place) (direct.inputs_answer (rule_answer s) s inputs zero room n)))

  pub own_results : (inputs : List ℕ) → Words inputs → (results : List ℕ) → circuit_run_results (fused_file s p) inputs results ≡ run_results (rule_answer s) s inputs results
  own_results inputs words results =
      let e = own_number inputs (length results) in
      split (eqb (run_answer (rule_answer s) s inputs (length results)).number 0)
      (λ t.
      let z = eqb-true _ _ t in
      let row = direct.answered_inputs (rule_answer s) s inputs (length results) z in
      let n = inputs_count s inputs (length results) row in
      let fit = inputs_fit s inputs (length results) row (λ x l. words x (omega (arith, n, l))) in
      run_results_lem f inputs results (e ∙ z) ∙ ap (λ (l : List ℕ). over l results) (file_run s p bytes h inputs fit n)
      ∙ sym (direct.answered_results (rule_answer s) s inputs results z))
      (λ t.
      let n = eqb-false _ _ t in
      refused_results f inputs results (λ z. n (sym e ∙ z)) ∙ sym (direct.refused_results (rule_answer s) s inputs results n))

-- a run of one of them, whichever rule and plan it is of
pub own_run : (f inputs : List ℕ) → Words inputs → (results : List ℕ) → OwnAsDirect f inputs results (circuit_run_answer f inputs (length results)) (circuit_run_results f inputs results)
unfolding OwnAsDirect
own_run f inputs words results s p bytes h e =
    subst⁻¹ (λ (g : List ℕ). AsDirect s inputs results (circuit_run_answer g inputs (length results)) (circuit_run_results g inputs results)
    × ((circuit_run_answer g inputs (length results)).number ≡ 0 → circuit_run_answer g inputs (length results) ≡ success 0 (length (records_of s p)) (length g) 0 0)) e (
      record {
        number = own_number s p bytes h inputs (length results);
        place = own_place s p bytes h inputs (length results);
        results = own_results s p bytes h inputs words results;
      },
      λ z. own_counts s p bytes h inputs (length results) z,
    )
