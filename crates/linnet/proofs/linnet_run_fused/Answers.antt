use borrow.Author.Rules.{rules}
use native.Mathlib.Omega.{arith}
use lib.ListN.{length}
use Rattle.demands.specs.PromiseLaws.{fused_told, fused_done}
use Rattle.linnet.proofs.linnet_run_fused.Goals as goal

pub returns : goal.returns
returns c = let d = c.args in record {
  answer = search rules;
  results = search rules;
  table = fused_told d.rule.now d.plan.now d.inputs.now (length d.results.now) _ (search rules);
  direct = fused_done _ _ _ _ _ _ (search rules) (search rules)
      (λ i _. omega (arith, c.type_inv.rule i))
      (λ i _. omega (arith, c.type_inv.inputs i));
}
