use mathlib.Core.Logic.{inl, inr}
use native.Mathlib.Omega.{arith}
use mathlib.Core.Path.{ap, sym, ◌∙◌}
use Rattle.base.specs.Codes.{entry_of, code_of}
use Rattle.base.specs.CodeLaws.{code_operation, code_unknown}
use Rattle.base_codes.proofs.code_of.Goals as goal
use Rattle.base_codes.proofs.code_of.Goals.{in_default-via-then-b-lt32, in_default-via-else-b-lt32+else-b-lt40}

pub returns-in-0 : goal.returns-in-0
unfolding code_of
returns-in-0 c = rw c.in-0.is c.plain_code.ensures

pub returns-in-1 : goal.returns-in-1
unfolding code_of
returns-in-1 c = rw c.in-1.is c.plain_code-in-1.ensures

pub returns-in-2 : goal.returns-in-2
unfolding code_of
returns-in-2 c = rw c.in-2.is c.plain_code-in-2.ensures

pub returns-in-3 : goal.returns-in-3
unfolding code_of
returns-in-3 c = rw c.in-3.is c.plain_code-in-3.ensures

pub returns-in-16 : goal.returns-in-16
unfolding code_of
returns-in-16 c = rw c.in-16.is c.plain_code-in-16.ensures

pub returns-in-17 : goal.returns-in-17
unfolding code_of
returns-in-17 c = rw c.in-17.is c.plain_code-in-17.ensures

pub returns-in-18 : goal.returns-in-18
unfolding code_of
returns-in-18 c = rw c.in-18.is c.plain_code-in-18.ensures

pub returns-in-32-to-39 : goal.returns-in-32-to-39
returns-in-32-to-39 c = c.entry_of.ensures ∙ ap entry_of c.operation_of.ensures ∙ sym
    (code_operation _ c.in-32-to-39.if-b-lt32-own.false (omega (arith, c.in-32-to-39.if-b-lt40-own.true)))

pub returns-in_default : goal.returns-in_default
returns-in_default c = let r = c.in_default-1.rest in
    c.plain_code-in_default.ensures ∙ sym
    (code_unknown _ r.0.0.0.0.0.0.1 r.0.0.0.0.0.1 r.0.0.0.0.1 r.0.0.0.1 r.0.0.1 r.0.1 r.1
    (elim c.in_default.branch [ in_default-via-then-b-lt32 w ↦ inl (omega (arith, w)) | in_default-via-else-b-lt32+else-b-lt40 w ↦ inr (omega (arith, w)) ]))
