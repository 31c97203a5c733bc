use Prim.Native.Nat.{◌+◌}
use Prim.Native.Nat.{◌*◌}
use Rattle.circuit_plain.proofs.+make_argument_make_expr.Given as goal

abbrev pub decreases-make_argument : goal.decreases-make_argument
decreases-make_argument l = 2 * l.deep + 1

abbrev pub decreases-make_expr : goal.decreases-make_expr
decreases-make_expr l = 2 * l.deep
