use borrow.Author.Tests.{ne_eqb}
use Rattle.base.specs.Codes.{operation_of}
use Rattle.base_codes.proofs.operation_of.Goals as goal

pub returns-in-32 : goal.returns-in-32
unfolding operation_of
returns-in-32 c = rw c.in-32.is

pub returns-in-33 : goal.returns-in-33
unfolding operation_of
returns-in-33 c = rw c.in-33.is

pub returns-in-34 : goal.returns-in-34
unfolding operation_of
returns-in-34 c = rw c.in-34.is

pub returns-in-35 : goal.returns-in-35
unfolding operation_of
returns-in-35 c = rw c.in-35.is

pub returns-in-36 : goal.returns-in-36
unfolding operation_of
returns-in-36 c = rw c.in-36.is

pub returns-in-37 : goal.returns-in-37
unfolding operation_of
returns-in-37 c = rw c.in-37.is

pub returns-in-38 : goal.returns-in-38
unfolding operation_of
returns-in-38 c = rw c.in-38.is

pub returns-in_default : goal.returns-in_default
unfolding operation_of
returns-in_default c = let r = c.in_default.in_default-own.rest in
    simp (
      ne_eqb _ 0x20 r.0.0.0.0.0.0.1,
      ne_eqb _ 0x21 r.0.0.0.0.0.1,
      ne_eqb _ 0x22 r.0.0.0.0.1,
      ne_eqb _ 0x23 r.0.0.0.1,
      ne_eqb _ 0x24 r.0.0.1,
      ne_eqb _ 0x25 r.0.1,
      ne_eqb _ 0x26 r.1,
    )
