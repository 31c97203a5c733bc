use borrow.Author.Rules.{rules}
use lib.ListN.{length}
use Rattle.demands.specs.PromiseLaws.{run_told, run_done}
use Rattle.linnet.proofs.linnet_run_rule.Goals as goal

pub returns : goal.returns
returns c = let d = c.args in
    let a = c.run.result in
    record {
      answer = search rules;
      results = search rules;
      table = run_told d.rule.now d.inputs.now (length d.results.now) _ (search rules);
      written = run_done _ _ _ a _ (search rules) (search rules);
    }
