use Prim.Native.Nat.{◌+◌, ◌-◌}
use mathlib.Core.Path.{◌≡◌}
use Rattle.rule.specs.Header.{read_kinds}
use Rattle.rule_reader.proofs.read_kinds.Given as goal

-- the kinds that are left decide
abbrev pub invariant-loop-at : goal.invariant-loop-at
invariant-loop-at l = read_kinds l.count l.s l.from ≡ read_kinds (l.from + l.count - l.at) l.s l.at
