use Rattle.std.proofs.Common.{sym, ◌∙◌, arith, get_or}
use Rattle.base.specs.declared.Operation.TheVariants.{Not}
use Rattle.file_parts.specs.FirstByteLaws.{input_code}
use Rattle.file_layout.specs.LayoutLaws.{said_input, said_word, said_bit, said_operation, said_two, said_choice, said_pick, said_guard, said_unknown}
use Rattle.file_layout.proofs.said_size.Goals as goal

pub returns-in-0 : goal.returns-in-0
returns-in-0 c = let (k, e) = input_code (get_or c.args.file.now c.args.at 0) (omega arith) in sym (said_input _ _ k e)

pub returns-in-17 : goal.returns-in-17
returns-in-17 c = sym (said_word _ _ (omega arith))

pub returns-in-17-2 : goal.returns-in-17-2
returns-in-17-2 c = sym (said_two _ _ (omega arith) (omega arith))

pub returns-in-18 : goal.returns-in-18
returns-in-18 c = c.then_some.ensures ∙ sym (said_bit _ _ _ (sym c.byte_at-2.ensures ∙ c.in-18.is) (c.from-count.ensures ∙ c.byte_at.ensures))

pub returns-in-39 : goal.returns-in-39
returns-in-39 c = sym (said_operation _ _ Not (sym c.byte_at-2.ensures ∙ c.in-39.is))

pub returns-in-48 : goal.returns-in-48
returns-in-48 c = sym (said_choice _ _ (sym c.byte_at-2.ensures ∙ c.in-48.is))

pub returns-in-49 : goal.returns-in-49
returns-in-49 c = c.then_some-in-49.ensures ∙ sym (said_pick _ _ _ (sym c.byte_at-2.ensures ∙ c.in-49.is) (c.from-count.ensures ∙ c.byte_at.ensures))

pub returns-in-50 : goal.returns-in-50
returns-in-50 c = c.then_some-in-50.ensures ∙ rw (c.most_guard_wires.ensures, c.table_bytes.ensures, c.from-version.ensures)
    (sym (said_guard _ _ _ (sym c.byte_at-2.ensures ∙ c.in-50.is) (c.from-count.ensures ∙ c.byte_at.ensures)))

-- what is left opens no record
pub returns-in_default : goal.returns-in_default
returns-in_default c = sym (said_unknown _ _ (omega arith) (λ e. grind arith) (λ e. omega arith) (λ h. grind arith) (λ e. omega arith) (λ e. omega arith) (λ e. omega arith))

pub returns-in_default-2 : goal.returns-in_default-2
returns-in_default-2 c = sym (said_unknown _ _ (omega arith) (λ e. grind arith) (λ e. omega arith) (λ h. grind arith) (λ e. omega arith) (λ e. omega arith) (λ e. omega arith))
