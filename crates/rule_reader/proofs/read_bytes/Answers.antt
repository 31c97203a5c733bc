use Rattle.base.proofs.PassedLaws.{passed}
use Rattle.rule.specs.RuleLaws.{header_past, rule_header, rule_block, rule_after, rule_whole}
use Rattle.rule_reader.proofs.read_bytes.Goals as goal

pub invariant_of-read_block : goal.invariant_of-read_block
invariant_of-read_block c = let h = header_past c.args.s.now c.requires.0 c.in_ok-body.ensures in record { kinds = h.kinds }

pub returns-in_err-body : goal.returns-in_err-body
returns-in_err-body c = passed _ _ c.from_residual.ensures.1 (rule_header c.args.s.now c.requires.0 c.requires.1 c.in_err-body.ensures)

pub returns-in_err-end : goal.returns-in_err-end
returns-in_err-end c = passed _ _ c.from_residual-in_err-end.ensures.1 (rule_block c.args.s.now c.requires.0 c.requires.1 c.in_ok-body.ensures c.in_err-end.ensures)

pub returns-then-end-s : goal.returns-then-end-s
returns-then-end-s c = rule_after c.args.s.now c.requires.0 c.requires.1 c.in_ok-body.ensures c.in_ok-end.ensures c.if-end-s.true

pub returns : goal.returns
returns c = rule_whole c.args.s.now c.requires.0 c.requires.1 c.in_ok-body.ensures c.in_ok-end.ensures c.if-end-s.false
