use Rattle.std.proofs.Common.{◌≡◌, ℕ, ◌+◌, ◌-◌, sym, ap, ◌∙◌, arith}
use Rattle.base.specs.Parsing.{step_of, Past}
use Rattle.rule.specs.Header.{read_kinds}
use Rattle.rule.specs.RuleLaws.{kinds_none, kinds_short, kinds_wrong, kinds_more}
use Rattle.rule_reader.proofs.read_kinds.Goals as goal

pub loop-at-init : goal.loop-at-init
loop-at-init c = let a = c.args in
    let e : a.count ≡ a.from + a.count - a.from = omega arith in
    ap (λ (n : ℕ). read_kinds n a.s.now a.from) e

pub returns-then-s-at : goal.returns-then-s-at
returns-then-s-at c = ap step_of (sym (c.loop-at.invariant ∙ kinds_short _ _ _ (omega arith) c.if-s-at.true))

pub returns-then-s-at-gt-LAST_KIND : goal.returns-then-s-at-gt-LAST_KIND
returns-then-s-at-gt-LAST_KIND c = ap step_of (sym (c.loop-at.invariant ∙ kinds_wrong _ _ _ (omega arith) c.if-s-at.false c.if-s-at-gt-LAST_KIND.true))

pub loop-at-preserved : goal.loop-at-preserved
loop-at-preserved c = let a = c.args in
    let at = c.loop-at.at in
    let e : a.from + a.count - at - 1 ≡ a.from + a.count - (at + 1) = omega arith in
    c.loop-at.invariant ∙ kinds_more _ _ _ (omega arith) c.if-s-at.false c.if-s-at-gt-LAST_KIND.false ∙ ap (λ (n : ℕ). read_kinds n a.s.now (at + 1)) e

pub returns : goal.returns
returns c = let a = c.args in
    let e : a.from + a.count ≡ c.loop-at.at = omega arith in
    ap Past e ∙ ap step_of (sym (c.loop-at.invariant ∙ kinds_none _ _ _ (omega arith)))
