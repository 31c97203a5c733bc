-- The answer of fusing: a refused plan's, or number 0 with the file's bytes counted. Writing: the file over the buffer's start, or 50 where there is no room; a refusal writes nothing.
use Rattle.std.specs.Prelude.{ℕ, ◌≤◌, ◌<◌, ◌≡◌, refl, List, eqb, length}
use Rattle.std.proofs.Common.{arith, sym, ap, ◌∙◌}
use borrow.Author.Tests.{eq-eqb, ne_eqb, eqb-true, eqb-false, le-leb, lt-leb}
use Rattle.base.specs.TestLaws.{split}
use Rattle.base.specs.Buffers.{over}
use Rattle.base.specs.Answers.{refusal}
use Rattle.base.specs.declared.Answer.{Answer}
use Rattle.circuit.specs.CostLaws.{costs_most}
use Rattle.circuit.specs.PlainCircuit.{gates_of}
use Rattle.circuit.specs.WholeLaws.{accepted}
use Rattle.plan.specs.Rows.{plan_answer}
use Rattle.plan.proofs.AcceptedLaws.{plan_accepted}
use Rattle.fused.specs.FusedCircuit.{fused_file}
use Rattle.fused.specs.Answers.{fused_counts, fused_answer, write_answer, written_over}
use Rattle.fused.specs.SizeBounds.{bytes_bound, plan_most}
use Rattle.file.specs.Limits.{most_file_bytes}

module _ (s p : List ℕ) where
  -- a refused plan has the plan's answer
  pub fused_refused : ((plan_answer s p).number ≡ 0 → ⊥) → fused_answer s p ≡ plan_answer s p
  unfolding fused_answer
  fused_refused h = rw (ne_eqb _ _ h)

  -- an accepted one is taken
  pub fused_taken : (plan_answer s p).number ≡ 0 → ((fused_answer s p).number ≡ 0) × ((fused_answer s p).place ≡ 0)
  unfolding fused_answer fused_counts
  fused_taken h = rw (eq-eqb _ _ h) (refl, refl)

  -- so a fused circuit that is answered with number 0 has an accepted plan
  pub fused_plan : (fused_answer s p).number ≡ 0 → (plan_answer s p).number ≡ 0
  fused_plan h =
      split (eqb (plan_answer s p).number 0) (λ t. eqb-true _ _ t)
      (λ t. ap (λ (a : Answer). a.number) (sym (fused_refused (eqb-false _ _ t))) ∙ h)

  -- and its answer counts the file's bytes
  pub answer_bytes : (plan_answer s p).number ≡ 0 → (fused_answer s p).bytes ≡ length (fused_file s p)
  unfolding fused_answer fused_counts
  answer_bytes h = rw (eq-eqb _ _ h)

  -- neither cost is above 10,240: no gate costs more than 40, and fused they come to no more (`plan_most`)
  pub costs_bound : (fused_answer s p).number ≡ 0 → ((fused_answer s p).before ≤ 10240) × ((fused_answer s p).after ≤ 10240)
  unfolding fused_answer fused_counts
  costs_bound z =
      let h = fused_plan z in
      let few = (accepted s ((plan_accepted s p).0 h).0).gates in
      rw (eq-eqb _ _ h) (omega (arith, costs_most (gates_of s), few), (plan_most s p h).2)

  -- writing it: the plan's refusal first, then 50, else the same answer
  module _ (room : ℕ) where
    pub write_refused : ((plan_answer s p).number ≡ 0 → ⊥) → write_answer s p room ≡ plan_answer s p
    unfolding write_answer
    write_refused h = rw (ne_eqb _ _ h)

    pub write_short : (plan_answer s p).number ≡ 0 → room < length (fused_file s p) → write_answer s p room ≡ refusal 50 0
    unfolding write_answer
    write_short h l = rw (eq-eqb _ _ h, lt-leb _ _ l)

    pub write_taken : (plan_answer s p).number ≡ 0 → length (fused_file s p) ≤ room → write_answer s p room ≡ fused_answer s p
    unfolding write_answer fused_answer
    write_taken h l = rw (eq-eqb _ _ h, le-leb _ _ l)

  -- the buffer after writing: the file over its start, or a refusal writes to none
  module _ (buffer : List ℕ) where
    pub write_over : (write_answer s p (length buffer)).number ≡ 0 → written_over s p buffer ≡ over (fused_file s p) buffer
    unfolding written_over
    write_over h = rw (eq-eqb _ _ h)

    pub write_untouched : ((write_answer s p (length buffer)).number ≡ 0 → ⊥) → written_over s p buffer ≡ buffer
    unfolding written_over
    write_untouched h = rw (ne_eqb _ _ h)

  -- 16,384 bytes always suffice
  pub room_enough : write_answer s p most_file_bytes ≡ fused_answer s p
  room_enough =
      split (eqb (plan_answer s p).number 0)
      (λ t. let h = eqb-true _ _ t in write_taken most_file_bytes h (bytes_bound s p h))
      (λ t. let n = eqb-false _ _ t in write_refused most_file_bytes n ∙ sym (fused_refused n))
