-- The bytes that an accepted answer counts are within the buffer that it was written into.
use Prim.Native.Nat.{ℕ, ◌≤◌}
use native.Mathlib.Omega.{arith}
use mathlib.Core.Path.{◌≡◌, sym, ap, ◌∙◌}
use mathlib.Core.List.{List}
use lib.Dec.{eqb, leb}
use lib.ListN.{length}
use borrow.Author.Tests.{eqb-true, eqb-false, leb-true, leb-false}
use Rattle.std.specs.Bool.{then_some}
use Rattle.std.specs.Option.{IfSome}
use Rattle.base.specs.TestLaws.{split}
use Rattle.base.specs.Answers.{refusal}
use Rattle.base.specs.declared.Answer.{Answer}
use Rattle.plan.specs.Rows.{plan_answer}
use Rattle.fused.specs.FusedCircuit.{fused_file}
use Rattle.fused.specs.Answers.{write_answer}
use Rattle.fused.specs.AnswerLaws.{answer_bytes, write_refused, write_short, write_taken}

pub written_within : (s p : List ℕ) (room : ℕ) → (write_answer s p room).number ≡ 0 → (write_answer s p room).bytes ≤ room
written_within s p room z =
    split (eqb (plan_answer s p).number 0)
    (λ t. let h = eqb-true _ _ t in
    split (leb (length (fused_file s p)) room)
    (λ fits. rw (write_taken s p room h (leb-true _ _ fits), answer_bytes s p h) (leb-true _ _ fits))
    (λ short. let e : (refusal 50 0).number ≡ 0 = sym (ap (λ (a : Answer). a.number) (write_short s p room h (leb-false _ _ short))) ∙ z in omega (arith, e)))
    (λ t. let n = eqb-false _ _ t in absurd (n (sym (ap (λ (a : Answer). a.number) (write_refused s p room n)) ∙ z)))

pub file_within : (s p : List ℕ) (room : ℕ) → IfSome (then_some (eqb (write_answer s p room).number 0) (write_answer s p room).bytes) (λ n. n ≤ room)
file_within s p room =
    split (eqb (write_answer s p room).number 0)
    (λ t. rw t (written_within s p room (eqb-true _ _ t)))
    (λ t. rw t tt)
