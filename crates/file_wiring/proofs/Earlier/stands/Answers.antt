use Rattle.std.proofs.Common.{◌∙◌, le-ltb, arith}
use Rattle.file_parts.specs.HeldKinds.{held_kind}
use Rattle.file_parts.specs.FirstByteLaws.{other, first_inside}
use Rattle.file_wiring.specs.RecordLaws.{input_takes, choice_takes, pick_takes, guard_takes, operation_takes, input_in, input_late, early}
use Rattle.file_wiring.specs.RecordLaws.{word_in, bit_in_lem, choice_in, pick_in, guard_in_lem, operation_in_lem}
use Rattle.file_wiring.proofs.Earlier.stands.Goals as goal

pub bounds-self-at : goal.bounds-self-at
bounds-self-at c = first_inside _ _ c.requires.inside

pub bounds-self-at-then-n-v : goal.bounds-self-at-then-n-v
bounds-self-at-then-n-v c = input_takes _ _ c.requires c.if-code-lt2.true

pub returns-then-n-v : goal.returns-then-n-v
returns-then-n-v c = rw c.index-n.ensures (input_in _ _ c.requires _ _ (held_kind c.args.self.kinds.now) c.if-code-lt2.true (omega arith) _ c.from.ensures)

pub returns-else-n-v : goal.returns-else-n-v
returns-else-n-v c = le-ltb _ _ c.if-n-v.false ∙ input_late _ _ c.requires _ _ _ c.if-code-lt2.true (omega arith)

pub returns-then-n-v-2 : goal.returns-then-n-v-2
returns-then-n-v-2 c = early _ _ c.requires _ _ _ c.if-code-lt2.false (omega arith)

pub choice-requires : goal.choice-requires
choice-requires c = choice_takes _ _ c.requires c.in-48.is

pub bounds-self-at-in-49 : goal.bounds-self-at-in-49
bounds-self-at-in-49 c = omega (arith, (pick_takes _ _ c.requires c.in-49.is).0)

pub pick-requires : goal.pick-requires
pick-requires c = let p = pick_takes _ _ c.requires c.in-49.is in rw c.from-in-49.ensures p

pub bounds-self-at-in-50 : goal.bounds-self-at-in-50
bounds-self-at-in-50 c = omega (arith, (guard_takes _ _ c.requires c.in-50.is).0)

pub guard-requires : goal.guard-requires
guard-requires c = guard_takes _ _ c.requires c.in-50.is

pub operation-requires : goal.operation-requires
operation-requires c = operation_takes _ _ c.requires (other _ c.if-code-lt2.false c.in_default.in_default-own.rest)

pub returns-in-17 : goal.returns-in-17
returns-in-17 c = word_in _ _ c.requires _ _ _ (omega arith) c.in-17.is

pub returns-in-18 : goal.returns-in-18
returns-in-18 c = bit_in_lem _ _ c.requires _ _ _ (omega arith) c.in-18.is

pub returns-in-48 : goal.returns-in-48
returns-in-48 c = choice_in _ _ c.requires _ _ _ (omega arith) c.in-48.is _ c.choice.ensures

pub returns-in-49 : goal.returns-in-49
returns-in-49 c = pick_in _ _ c.requires _ _ _ (omega arith) c.in-49.is _ c.from-in-49.ensures _ c.pick.ensures

pub returns-in-50 : goal.returns-in-50
returns-in-50 c = guard_in_lem _ _ c.requires _ _ _ (omega arith) c.in-50.is _ c.guard.ensures

pub returns-in_default : goal.returns-in_default
returns-in_default c = operation_in_lem _ _ c.requires _ _ _ (omega arith) (other _ c.if-code-lt2.false c.in_default.in_default-own.rest) _ c.operation.ensures
