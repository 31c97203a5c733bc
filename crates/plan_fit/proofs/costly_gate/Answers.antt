use Rattle.std.proofs.Common.{ap, sym, ◌∙◌, ltb}
use Rattle.base.specs.declared.Code.{Code}
use Rattle.base.specs.Codes.{code_of}
use Rattle.plan_groups.specs.GateLaws.{costly_code}
use Rattle.plan_fit.proofs.costly_gate.Goals as goal

pub returns : goal.returns
returns c = ap (λ (r : Code). ltb 0 r.cost) (c.code_entry.ensures ∙ ap code_of c.code_at.ensures) ∙ sym (costly_code c.args.circuit.now.quads c.args.g.0)
