use Rattle.file_figures.specs.OperationLaws.{its_form, first_wire, second_wire, of_one, of_two}
use Rattle.file_figures.proofs.Figures.operation.Goals as goal

pub unreachable-requires : goal.unreachable-requires
unreachable-requires c = let s = c.args.self in c.in_default.not-Apply _ (its_form s.file.now s.figures.now c.args.at c.requires.0 c.requires.1 _ c.code_of-code.ensures)

pub read-a-requires : goal.read-a-requires
read-a-requires c = let s = c.args.self in first_wire s.file.now s.figures.now c.args.at c.requires.0 c.requires.1 _ c.code_of-code.ensures c.requires.2 c.requires.3

pub read-requires : goal.read-requires
read-requires c = let s = c.args.self in
    second_wire s.file.now s.figures.now c.args.at c.requires.0 c.requires.1 _ c.code_of-code.ensures c.requires.2 c.requires.3 c.if-code-eq1.false

pub returns-then-code-eq1 : goal.returns-then-code-eq1
returns-then-code-eq1 c = let s = c.args.self in
    of_one s.file.now s.figures.now c.args.at c.requires.0 c.requires.1 _ c.code_of-code.ensures c.requires.2 c.requires.3 _
    c.in-Apply.is c.if-code-eq1.true _ _ c.read-a.ensures c.apply.ensures

pub returns-else-code-eq1 : goal.returns-else-code-eq1
returns-else-code-eq1 c = let s = c.args.self in
    of_two s.file.now s.figures.now c.args.at c.requires.0 c.requires.1 _ c.code_of-code.ensures c.requires.2 c.requires.3 _
    c.in-Apply.is c.if-code-eq1.false _ _ _ c.read-a.ensures c.read.ensures c.apply-else-code-eq1.ensures
