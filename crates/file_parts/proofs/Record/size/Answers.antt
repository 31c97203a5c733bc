use Rattle.std.proofs.Common.{◌≡◌, sym, arith, get_or}
use Rattle.base.specs.declared.Kind.TheVariants as kind
use Rattle.base.specs.declared.Operation.TheVariants.{Sum, Difference, Product, LessThan, Equal, And, Or, Not}
use Rattle.file.specs.FileFigures.{size_at}
use Rattle.file.specs.FoundForms.{form_input, form_word, form_bit, form_operation, form_choice, form_pick, form_guard}
use Rattle.file.specs.RecordBounds.{Coded, is_input, is_word, is_bit_lem, is_operation, is_choice, is_pick, is_guard, known_coded}
use Rattle.file.specs.RowLaws.{whole_right}
use Rattle.file_parts.specs.FirstByteLaws.{input_code, first_inside, version_inside}
use Rattle.file_parts.proofs.Record.size.Goals as goal

pub bounds-file-at : goal.bounds-file-at
bounds-file-at c = first_inside _ _ ((whole_right _ _).0 c.args.self.whole).inside

pub bounds-file-at-in-49 : goal.bounds-file-at-in-49
bounds-file-at-in-49 c = let r = c.args.self in omega (arith, ((whole_right _ _).0 r.whole).inside, (form_pick r.file.now r.at c.in-49.is).1)

pub bounds-file-at-in-50 : goal.bounds-file-at-in-50
bounds-file-at-in-50 c = let r = c.args.self in omega (arith, ((whole_right _ _).0 r.whole).inside, (form_guard r.file.now r.at c.in-50.is).1)

pub bounds-file-4 : goal.bounds-file-4
bounds-file-4 c = version_inside _ _ c.in-50.is ((whole_right _ _).0 c.args.self.whole).inside

pub returns-in-17 : goal.returns-in-17
returns-in-17 c = sym (form_word _ _ c.in-17.is).1

pub returns-in-39 : goal.returns-in-39
returns-in-39 c = sym (form_operation _ _ Not c.in-39.is).1

pub returns-in-48 : goal.returns-in-48
returns-in-48 c = sym (form_choice _ _ c.in-48.is).1

pub returns-in-49 : goal.returns-in-49
returns-in-49 c = let r = c.args.self in omega (arith, c.from.ensures, (form_pick r.file.now r.at c.in-49.is).1)

pub returns-in-50 : goal.returns-in-50
returns-in-50 c = let r = c.args.self in rw (c.from-in-50.ensures, c.table_bytes.ensures, c.from-in-50-2.ensures) (sym (form_guard r.file.now r.at c.in-50.is).1)

pub returns-in_default : goal.returns-in_default
returns-in_default c = go (known_coded _ ((whole_right _ _).0 c.args.self.whole).known)
  where
    go : Coded (get_or c.args.self.file.now c.args.self.at 0) → 5 ≡ size_at c.args.self.file.now c.args.self.at
    go (is_input kind.Word e) = absurd (omega arith)
    go (is_input kind.Bit e) = absurd (omega arith)
    go (is_word e) = absurd (omega arith)
    go (is_bit_lem e) = absurd (omega arith)
    go (is_operation Sum e) = sym (form_operation _ _ Sum e).1
    go (is_operation Difference e) = sym (form_operation _ _ Difference e).1
    go (is_operation Product e) = sym (form_operation _ _ Product e).1
    go (is_operation LessThan e) = sym (form_operation _ _ LessThan e).1
    go (is_operation Equal e) = sym (form_operation _ _ Equal e).1
    go (is_operation And e) = sym (form_operation _ _ And e).1
    go (is_operation Or e) = sym (form_operation _ _ Or e).1
    go (is_operation Not e) = absurd (omega arith)
    go (is_choice e) = absurd (omega arith)
    go (is_pick e) = absurd (omega arith)
    go (is_guard e) = absurd (omega arith)

pub returns-in-0 : goal.returns-in-0
returns-in-0 c = sym (form_bit _ _ c.in-0.is).1

pub returns-in-0-2 : goal.returns-in-0-2
returns-in-0-2 c = let (k, e) = input_code (get_or c.args.self.file.now c.args.self.at 0) (omega arith) in sym (form_input _ _ k e).1
