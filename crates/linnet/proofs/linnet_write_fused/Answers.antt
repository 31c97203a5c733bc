use borrow.Author.Rules.{rules}
use native.Mathlib.Omega.{arith}
use lib.ListN.{length}
use Rattle.base.specs.Numbers.{Bytes}
use Rattle.demands.specs.PromiseLaws.{write_told, written_earlier, written_gives}
use Rattle.linnet.proofs.linnet_write_fused.Goals as goal

pub returns : goal.returns
returns c = let d = c.args in
    let a = c.write.result in
    let bytes : Bytes d.rule.now = λ i _. omega (arith, c.type_inv.rule i) in
    record {
      answer = search rules;
      file = search rules;
      table = write_told d.rule.now d.plan.now (length d.out.now) _ (search rules);
      earlier = λ z. written_earlier d.rule.now d.plan.now d.out.now a _ (search rules) (search rules) z bytes;
      figures = λ z. written_gives d.rule.now d.plan.now d.out.now a _ (search rules) (search rules) z bytes;
    }
