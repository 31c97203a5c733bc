-- Laws for document 02, C-13: what works changes no rule's answer and makes no gate needed; what the file and every run give for working and for result variables.
use Rattle.std.specs.Prelude.{ℕ, ◌<◌, ◌≡◌, true, false, List, ◌↔◌, length, get_or, set}
use Rattle.std.proofs.Common.{arith, sym, ap, subst, ◌∙◌, true≢false}
use Rattle.std.proofs.Math.Path.{subst⁻¹}
use Rattle.base.specs.Lists.{◌∈◌}
use Rattle.base.specs.Numbers.{Bytes}
use Rattle.base.specs.TestLaws.{split}
use Rattle.base.specs.Settings.{Setting}
use Rattle.base.specs.Parsing.{IsRead}
use Rattle.rule.specs.Header.{variables, working_of, working_at}
use Rattle.rule.specs.Tree.{Block}
use Rattle.rule.specs.Format.{rule_bytes}
use Rattle.rule.specs.Format as rules
use Rattle.rule.proofs.RuleFormat.{rule_back}
use Rattle.rule.specs.OnlyWorking.{OnlyWorking}
use Rattle.rule.proofs.WorkingLaws.{rule_working, same_size, well_working}
use Rattle.circuit.specs.Limits.{most_gates, most_conditions}
use Rattle.circuit.specs.PlainCircuit.{Making, plain_of, plain_circuit, gates_of, outputs_of}
use Rattle.circuit.proofs.StartLaws.{read_plain}
use Rattle.circuit_needed.specs.Needed.{Needed, wanted_of}
use Rattle.circuit_needed.specs.NeededLaws.{none_needed, more_wanted}
use Rattle.circuit_needed.specs.WantedLaws.{result_wanted, wanted_own, all_working}
use Rattle.circuit.specs.Whole.{whole_within, rule_answer}
use Rattle.circuit.specs.WholeLaws.{answer_whole}
use Rattle.plan.specs.Rows.{plan_answer}
use Rattle.file.specs.Versions.{Version}
use Rattle.file.specs.Records.{Record}
use Rattle.file.specs.CircuitFile.{file_bytes, no_wire}
use Rattle.file.specs.FileFigures.{wire_count, file_outputs, file_figures}
use Rattle.file.specs.WellFormed as circuits
use Rattle.file.specs.FormatLaws.{well_row}
use Rattle.file.specs.NoWireLaws.{well_less, figures_less}
use Rattle.file.specs.Answers.{circuit_answer}
use Rattle.file.specs.ReadLaws.{answer_number}
use Rattle.fused.specs.FusedCircuit.{output_wire, fused_file}
use Rattle.fused.specs.OutputLaws as own
use Rattle.fused.specs.FitPlan.{fused_found}
use Rattle.fused.specs.FusedFigures.{reads_earlier, result_earlier, output_earlier}

-- what is wanted from the start
pub wanted_are : (s : List ℕ) (g : ℕ) → (g ∈ wanted_of s) ↔ ((x : ℕ) × (x < variables s) × (working_at s x ≡ false) × (g ≡ get_or (outputs_of s) x 0))
wanted_are s g = (wanted_own s g, λ r. subst⁻¹ (λ (h : ℕ). h ∈ wanted_of s) r.3 (result_wanted s r.0 r.1 r.2))

pub nothing_needed : (s : List ℕ) → ((x : ℕ) → x < variables s → working_at s x ≡ true) → (σ : Setting) (g : ℕ) → Needed (gates_of s) (wanted_of s) σ g → ⊥
nothing_needed s h σ g n = none_needed (gates_of s) σ g (subst (λ (w : List ℕ). Needed (gates_of s) w σ g) (all_working s h) n)

-- two rules that differ only in which variables work
module _ (kinds other : List ℕ) (o : OnlyWorking kinds other) (b : Block) (w : rules.WellFormed kinds b) where
  abbrev s : List ℕ
  s = rule_bytes kinds b

  abbrev t : List ℕ
  t = rule_bytes other b

  same_plain : plain_circuit s ≡ plain_circuit t
  same_plain =
      read_plain s b (length s) (rule_back kinds b w) ∙ ap (λ (v : ℕ). plain_of v b) o.many
      ∙ sym (read_plain t b (length t) (rule_back other b (well_working kinds other o b w)))

  pub same_answer : rule_answer (rule_bytes kinds b) ≡ rule_answer (rule_bytes other b)
  same_answer =
      answer_whole s (subst⁻¹ IsRead (rule_back kinds b w) tt)
      ∙ ap (λ (m : Making). whole_within most_gates most_conditions m.gates (length s)) same_plain
      ∙ ap (whole_within most_gates most_conditions (gates_of t)) (same_size kinds other o b)
      ∙ sym (answer_whole t (subst⁻¹ IsRead (rule_back other b (well_working kinds other o b w)) tt))

  -- where more work, no gate is needed that was not
  pub fewer_needed : ((x : ℕ) → x < length kinds → working_of (get_or kinds x 0) ≡ true → working_of (get_or other x 0) ≡ true) → (σ : Setting) (g : ℕ)
      → Needed (gates_of (rule_bytes other b)) (wanted_of (rule_bytes other b)) σ g → Needed (gates_of (rule_bytes kinds b)) (wanted_of (rule_bytes kinds b)) σ g
  fewer_needed more σ g n =
      subst⁻¹ (λ (m : Making). Needed m.gates (wanted_of s) σ g) same_plain (more_wanted (gates_of t) (wanted_of t) (wanted_of s) σ among g n)
    where
      among : (h : ℕ) → h ∈ wanted_of t → h ∈ wanted_of s
      among h m =
          let (x, l, f, e) = wanted_own t h m in
          let k : x < length kinds = omega (arith, l, o.many) in
          let works : working_at s x ≡ false = split (working_of (get_or kinds x 0)) (λ y. absurd (contrary x k y f)) (λ n. rule_working kinds b x k ∙ n) in
          subst⁻¹ (λ (h : ℕ). h ∈ wanted_of s) (e ∙ ap (λ (m : Making). get_or m.present x 0) (sym same_plain)) (result_wanted s x k works)
        where
          contrary : (x : ℕ) → x < length kinds → working_of (get_or kinds x 0) ≡ true → working_at t x ≡ false → ⊥
          contrary x k y f = true≢false (sym (more x k y) ∙ sym (rule_working other b x (omega (arith, k, o.many))) ∙ f)

-- any output of a circuit that is read may be made no wire
pub no_wire_read : (ver : Version) (v : ℕ) (R : List Record) (outputs : List ℕ) → circuits.WellFormed ver v R outputs → (x : ℕ)
    → (circuit_answer (file_bytes ver v R (set outputs x no_wire))).number ≡ 0
no_wire_read ver v R outputs w x = answer_number (file_bytes ver v R (set outputs x no_wire)) ∙ well_row ver v R (set outputs x no_wire) (well_less ver v R outputs x w)

pub no_wire_run : (ver : Version) (v : ℕ) (R : List Record) (outputs : List ℕ) → circuits.WellFormed ver v R outputs → (x : ℕ) (inputs : List ℕ)
    → file_figures (file_bytes ver v R (set outputs x no_wire)) inputs ≡ set (file_figures (file_bytes ver v R outputs) inputs) x 0
no_wire_run ver v R outputs w x = figures_less ver v R outputs x w.fits

-- the outputs that stand in our own file
module _ (s p : List ℕ) (bytes : Bytes s) (h : (plan_answer s p).number ≡ 0) (x : ℕ) (l : x < variables s) where
  output_at : get_or (file_outputs (fused_file s p)) x 0 ≡ output_wire s p x
  output_at = ap (λ (w : List ℕ). get_or w x 0) (fused_found s p h bytes (reads_earlier s p h) (output_earlier s p h)).1 ∙ own.output_at s p x l

  pub output_working : working_at s x ≡ true → get_or (file_outputs (fused_file s p)) x 0 ≡ no_wire
  output_working t = output_at ∙ rw t

  pub output_result : working_at s x ≡ false → get_or (file_outputs (fused_file s p)) x 0 < wire_count (fused_file s p)
  output_result f = rw (output_at, (fused_found s p h bytes (reads_earlier s p h) (output_earlier s p h)).3) (result_earlier s p h x l f)
