use mathlib.Core.Path.{sym, ap}
use Rattle.base.specs.Codes.{entry_of}
use Rattle.base.specs.CodeLaws.{entry_form}
use Rattle.base.specs.declared.Form.{Form}
use Rattle.base_codes.proofs.entry_of.Goals as goal

pub returns : goal.returns
returns c = let e = entry_of c.args.op in
    rw (c.takes_of.ensures, c.gives_of.ensures, c.arity_of.ensures, c.cost_of.ensures)
    (ap (λ (f : Form). record { form = f; takes = e.takes; gives = e.gives; arity = e.arity; cost = e.cost }) (sym (entry_form c.args.op)))
