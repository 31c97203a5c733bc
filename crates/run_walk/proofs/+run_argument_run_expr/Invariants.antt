use Prim.Native.Nat.{◌+◌, ◌*◌}
use Rattle.run_walk.proofs.+run_argument_run_expr.Given as goal

abbrev pub decreases-run_argument : goal.decreases-run_argument
decreases-run_argument l = 2 * l.deep + 1

abbrev pub decreases-run_expr : goal.decreases-run_expr
decreases-run_expr l = 2 * l.deep
