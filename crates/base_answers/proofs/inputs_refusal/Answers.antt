use Rattle.std.proofs.Common.{sym, ap, ◌∙◌}
use Rattle.base.specs.InputLaws.{above_all, above_none, above_here, above_low, above_word, row_count, row_bit, row_room, row_none}
use Rattle.base.specs.Codes.{same_kind}
use Rattle.base.specs.declared.Kind.{Kind}
use Rattle.base.specs.declared.Kind.TheVariants as kind
use Rattle.base.proofs.KindLaws.{kind_eq}
use Rattle.base_answers.proofs.inputs_refusal.Goals as goal
use Rattle.base_answers.proofs.inputs_refusal.Goals.{else-inputs-x-gt1-via-then-inputs-x-gt1+else-eq, else-inputs-x-gt1-via-else-inputs-x-gt1}

pub returns-then-inputs-count : goal.returns-then-inputs-count
returns-then-inputs-count g c = sym (row_count _ _ _ _ c.if-inputs-count.true)

pub loop-x-init : goal.loop-x-init
loop-x-init g c = above_all _ g.kinds _

pub returns-then-eq : goal.returns-then-eq
returns-then-eq g c = let told = c.requires.1.1 c.loop-x.x c.kind_of.result c.loop-x-test.true c.kind_of.ensures in
    sym (row_bit _ _ _ _ c.if-inputs-count.false (c.loop-x.invariant ∙ above_here _ g.kinds _ _ c.loop-x-test.true c.if-inputs-x-gt1.true
    (ap (λ (k : Kind). same_kind k kind.Bit) (sym told) ∙ kind_eq _ _ c.eq.ensures c.if-eq.true)))

pub loop-x-preserved : goal.loop-x-preserved
loop-x-preserved g c = c.loop-x.invariant ∙ elim c.else-inputs-x-gt1.branch [
  | else-inputs-x-gt1-via-then-inputs-x-gt1+else-eq w ↦ let told = c.requires.1.1 c.loop-x.x w.kind_of.result c.loop-x-test.true w.kind_of.ensures in
      above_word _ g.kinds _ _ c.loop-x-test.true w.if-inputs-x-gt1.true (ap (λ (k : Kind). same_kind k kind.Bit) (sym told) ∙ kind_eq _ _ w.eq.ensures w.if-eq.false)
  | else-inputs-x-gt1-via-else-inputs-x-gt1 w ↦ above_low _ g.kinds _ _ c.loop-x-test.true w.if-inputs-x-gt1.false
]

pub returns-then-room-count : goal.returns-then-room-count
returns-then-room-count g c = sym (row_room _ _ _ _ c.if-inputs-count.false (c.loop-x.invariant ∙ above_none _ _ _ _ c.loop-x-test.false) c.if-room-count.true)

pub returns : goal.returns
returns g c = sym (row_none _ _ _ _ c.if-inputs-count.false (c.loop-x.invariant ∙ above_none _ _ _ _ c.loop-x-test.false) c.if-room-count.false)
