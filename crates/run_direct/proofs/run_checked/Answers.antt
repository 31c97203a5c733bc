use native.Mathlib.Omega.{arith}
use mathlib.Core.Path.{ap, subst, ◌∙◌}
use mathlib.Core.List.{List}
use Prim.Native.Nat.{ℕ}
use Rattle.base.specs.Buffers.{over}
use Rattle.base.specs.Parsing.{IsRead}
use Rattle.rule.specs.FirstStatement.{rule_read}
use Rattle.run_direct.specs.ResultLaws.{rule_ran}
use Rattle.run_direct.specs.WritingLaws.{run_written}
use Rattle.run_direct.proofs.run_checked.Goals as goal

pub invariant_of-rule : goal.invariant_of-rule
invariant_of-rule c = let r = rule_read c.args.rule.now c.requires.0 in record { kinds = r.header.kinds; few = r.header.few }

pub copy32-requires : goal.copy32-requires
copy32-requires c = omega (arith, (rule_read c.args.rule.now c.requires.0).header.few, c.requires.1)

pub run_block-requires : goal.run_block-requires
run_block-requires c = let r = rule_read c.args.rule.now c.requires.0 in
    rw c.variables-v.ensures (subst IsRead r.block c.requires.0)

pub write_results-requires : goal.write_results-requires
write_results-requires c = c.requires.2

pub returns : goal.returns
returns c = let a = c.args in
    c.write_results.ensures ∙ ap (λ (t : List ℕ). over t a.results.now)
    (run_written a.rule.now a.inputs.now _ (rule_ran a.rule.now a.inputs.now _ _ _ _ c.requires.0 c.requires.1
    c.copy32.ensures (rw c.variables-v.ensures at c.run_block.ensures)))
