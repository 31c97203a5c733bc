use Rattle.std.proofs.Common.{◌≡◌, refl, arith}
use denote.Enum.Declared.{tag_of}
use Rattle.base.specs.declared.Kind.{Kind}
use Rattle.base.specs.declared.Kind.TheVariants as kind
use Rattle.base.specs.contracts.Kind.{the_type}
use Rattle.base.specs.Codes.{start_code}
use Rattle.circuit_make.specs.ChoiceLaws.{started_none, started_more, started_all}
use Rattle.circuit_plain.proofs.make_starts.Goals as goal

-- a kind's number is the code of a starting value
code_is : (k : Kind) → tag_of the_type k ≡ start_code k
code_is kind.Word = refl
code_is kind.Bit = refl

pub loop-x-init : goal.loop-x-init
loop-x-init c = let a = c.args in
    (c.variables-x-end.ensures, started_none a.rule.bytes.now a.quads.now a.present.now c.requires.0 c.requires.1)

pub loop-x-preserved : goal.loop-x-preserved
loop-x-preserved c = let l = c.loop-x in (
  l.invariant.0,
  started_more c.args.rule.bytes.now l.quads l.present l.x l.n _ c.push-n.result _ l.invariant.1 (omega (arith, l.invariant.0, c.loop-x-test.true)) c.args.rule.few
      (rw c.kind_at-code.ensures (code_is _)) c.push-n.ensures,
)
