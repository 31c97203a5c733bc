use Rattle.std.proofs.Common.{ap, arith}
use Rattle.file.specs.RowLaws.{whole_right}
use Rattle.file_parts.specs.FirstByteLaws.{first_inside}
use Rattle.file_parts.specs.HeldLaws.{choice_kind, pick_kind, choice_value, pick_value}
use Rattle.file_parts.specs.HeldKinds.{held_kind}
use Rattle.file_parts.specs.OperationLaws.{word_gives, bit_gives}
use Rattle.file_parts.proofs.Record.kind.Goals as goal

pub bounds-file-at : goal.bounds-file-at
bounds-file-at c = first_inside _ _ ((whole_right _ _).0 c.args.self.whole).inside

pub wire_at-requires : goal.wire_at-requires
wire_at-requires c = (choice_value _ _ c.args.kinds.now ((whole_right _ _).0 c.args.self.whole) c.requires c.in-48.is).0

pub bounds-kinds-index : goal.bounds-kinds-index
bounds-kinds-index c = omega (arith, (choice_value _ _ c.args.kinds.now ((whole_right _ _).0 c.args.self.whole) c.requires c.in-48.is).1)

pub wire_at-requires-in-49 : goal.wire_at-requires-in-49
wire_at-requires-in-49 c = (pick_value _ _ c.args.kinds.now ((whole_right _ _).0 c.args.self.whole) c.requires c.in-49.is).0

pub bounds-kinds-index-in-49 : goal.bounds-kinds-index-in-49
bounds-kinds-index-in-49 c = omega (arith, (pick_value _ _ c.args.kinds.now ((whole_right _ _).0 c.args.self.whole) c.requires c.in-49.is).1)

pub returns-in-48 : goal.returns-in-48
returns-in-48 c = choice_kind _ _ c.args.kinds.now c.in-48.is _ _ c.wire_at.ensures (ap (held_kind c.args.kinds.now) c.index.ensures)

pub returns-in-49 : goal.returns-in-49
returns-in-49 c = pick_kind _ _ c.args.kinds.now ((whole_right _ _).0 c.args.self.whole) c.in-49.is _ _ c.wire_at-in-49.ensures
    (ap (held_kind c.args.kinds.now) c.index-in-49.ensures)

pub returns-in_default : goal.returns-in_default
returns-in_default c = bit_gives _ _ _ ((whole_right _ _).0 c.args.self.whole) (λ e. grind arith) (λ e. grind arith) (λ h. omega arith) (λ e. omega arith) (λ e. omega arith)

pub returns-in_default-2 : goal.returns-in_default-2
returns-in_default-2 c = bit_gives _ _ _ ((whole_right _ _).0 c.args.self.whole) (λ e. grind arith) (λ e. grind arith) (λ h. omega arith) (λ e. omega arith) (λ e. omega arith)

pub returns-in-0 : goal.returns-in-0
returns-in-0 c = word_gives _ _ _ ((whole_right _ _).0 c.args.self.whole) (omega arith) (λ e. omega arith) (λ e. omega arith)

pub returns-in-0-2 : goal.returns-in-0-2
returns-in-0-2 c = word_gives _ _ _ ((whole_right _ _).0 c.args.self.whole) (omega arith) (λ e. omega arith) (λ e. omega arith)
