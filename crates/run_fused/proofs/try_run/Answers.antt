use Rattle.std.proofs.Common.{sym}
use Rattle.base.proofs.PassedLaws.{passed_answer, passed_at_0}
use Rattle.run_fused.specs.StepLaws.{refused_run, kinds_there, inputs_refused, run_done, size_inside}
use Rattle.run_fused.proofs.try_run.Goals as goal

pub returns-in_err-counts : goal.returns-in_err-counts
returns-in_err-counts c = let r = refused_run _ _ _ c.in_err-counts.ensures.answered c.args.inputs.now c.args.results.now in
    record { answer = passed_answer _ _ c.from_residual.ensures.1 r.0; results = r.1 }

pub invariant_of-inputs_refusal : goal.invariant_of-inputs_refusal
invariant_of-inputs_refusal c = let e = c.in_ok-counts.ensures.answered in record { kinds = kinds_there _ _ _ e }

pub returns-in_err-inputs_refusal : goal.returns-in_err-inputs_refusal
returns-in_err-inputs_refusal c = let r = inputs_refused _ _ _ c.in_ok-counts.ensures.answered c.args.inputs.now c.args.results.now _ c.in_err-inputs_refusal.ensures in
    record { answer = passed_at_0 _ _ c.from_residual-in_err-inputs_refusal.ensures.1 r.0; results = r.1 }

pub run_in-requires-else-counts-le-FEW_BYTES : goal.run_in-requires-else-counts-le-FEW_BYTES
run_in-requires-else-counts-le-FEW_BYTES c = ((size_inside _ _ _ c.in_ok-counts.ensures.answered, sym c.in_ok-inputs_refusal.ensures), c.in_ok-counts.ensures)

pub returns-then-counts-le-FEW_BYTES : goal.returns-then-counts-le-FEW_BYTES
returns-then-counts-le-FEW_BYTES c = let r = run_done _ _ _ c.in_ok-counts.ensures.answered _ _ c.in_ok-inputs_refusal.ensures _ c.run_in.ensures in
    record { answer = r.0; results = r.1 }

pub returns-else-counts-le-FEW_BYTES : goal.returns-else-counts-le-FEW_BYTES
returns-else-counts-le-FEW_BYTES c = let r = run_done _ _ _ c.in_ok-counts.ensures.answered _ _ c.in_ok-inputs_refusal.ensures _
    c.run_in-else-counts-le-FEW_BYTES.ensures in
    record { answer = r.0; results = r.1 }
