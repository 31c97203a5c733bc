use Rattle.std.proofs.Common.{ℕ, ap, arith, get_or}
use Rattle.file.specs.FoundForms.{form_input, form_word, form_bit, form_choice, form_pick, form_guard, form_other}
use Rattle.file_parts.specs.FirstByteLaws.{input_code, first_inside, other}
use Rattle.file_figures.specs.RecordLaws.{input_takes, word_takes, bit_takes, choice_takes, pick_takes, guard_takes, operation_takes, figure_by}
use Rattle.file_figures.proofs.Figures.record.Goals as goal

pub bounds-self-at : goal.bounds-self-at
bounds-self-at c = first_inside _ _ c.requires.whole.inside

pub bounds-self-at-in-0 : goal.bounds-self-at-in-0
bounds-self-at-in-0 c = (input_takes _ _ _ c.requires (omega arith)).0

pub bounds-inputs-from : goal.bounds-inputs-from
bounds-inputs-from c = rw c.from-in-0.ensures (input_takes _ _ _ c.requires (omega arith)).1

pub read32-requires : goal.read32-requires
read32-requires c = word_takes _ _ _ c.requires c.in-17.is

pub bounds-self-at-in-18 : goal.bounds-self-at-in-18
bounds-self-at-in-18 c = bit_takes _ _ _ c.requires c.in-18.is

pub choice-requires : goal.choice-requires
choice-requires c = choice_takes _ _ _ c.requires c.in-48.is

pub bounds-self-at-in-49 : goal.bounds-self-at-in-49
bounds-self-at-in-49 c = omega (arith, (pick_takes _ _ _ c.requires c.in-49.is).0)

pub pick-requires : goal.pick-requires
pick-requires c = pick_takes _ _ _ c.requires c.in-49.is

pub bounds-self-at-in-50 : goal.bounds-self-at-in-50
bounds-self-at-in-50 c = omega (arith, (guard_takes _ _ _ c.requires c.in-50.is).1)

pub guard-requires : goal.guard-requires
guard-requires c = guard_takes _ _ _ c.requires c.in-50.is

pub operation-requires : goal.operation-requires
operation-requires c = operation_takes _ _ _ c.requires (other _ (omega arith) c.in_default.in_default-own.rest)

pub returns-in-0 : goal.returns-in-0
returns-in-0 c = let (k, e) = input_code (get_or c.args.self.file.now c.args.at 0) (omega arith) in
    figure_by c.args.self.file.now c.args.inputs.now c.args.self.figures.now c.args.at c.args.kind _ _
    (form_input _ _ k e).0 (ap (λ (x : ℕ). get_or c.args.inputs.now x 0) c.from-in-0.ensures)

pub returns-in-17 : goal.returns-in-17
returns-in-17 c = figure_by c.args.self.file.now c.args.inputs.now c.args.self.figures.now c.args.at c.args.kind _ _
    (form_word _ _ c.in-17.is).0 c.read32.ensures

pub returns-in-18 : goal.returns-in-18
returns-in-18 c = figure_by c.args.self.file.now c.args.inputs.now c.args.self.figures.now c.args.at c.args.kind _ _
    (form_bit _ _ c.in-18.is).0 c.from.ensures

pub returns-in-48 : goal.returns-in-48
returns-in-48 c = figure_by c.args.self.file.now c.args.inputs.now c.args.self.figures.now c.args.at c.args.kind _ _
    (form_choice _ _ c.in-48.is).0 c.choice.ensures

pub returns-in-49 : goal.returns-in-49
returns-in-49 c = figure_by c.args.self.file.now c.args.inputs.now c.args.self.figures.now c.args.at c.args.kind _ _
    (form_pick _ _ c.in-49.is).0 c.pick.ensures

pub returns-in-50 : goal.returns-in-50
returns-in-50 c = figure_by c.args.self.file.now c.args.inputs.now c.args.self.figures.now c.args.at c.args.kind _ _
    (form_guard _ _ c.in-50.is).0 c.guard.ensures

pub returns-in_default : goal.returns-in_default
returns-in_default c = figure_by c.args.self.file.now c.args.inputs.now c.args.self.figures.now c.args.at c.args.kind _ _
    (form_other _ _ (other _ (omega arith) c.in_default.in_default-own.rest)).0 c.operation.ensures
