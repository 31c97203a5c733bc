-- Document 01, "The rule file": "A direct run is fed the rule's bytes and V inputs". The run goes by the tree that reading gives.
-- A figure is a word or a bit as a number; a run holds one figure for each variable, at first its input.
use Rattle.std.specs.Prelude.{ℕ, List, [], map, cond, get_or, set}
use Rattle.base.specs.Lists.{upto}
use Rattle.base.specs.Results.{is_one, result_of}
use Rattle.base.specs.Parsing.{Parsed, parsed, refused}
use Rattle.rule.specs.Header.{variables, working_at}
use Rattle.rule.specs.Rule.{read_rule}
use Rattle.rule.specs.Tree.{Expr, variable, word, bit, one, two, Statement, assign, skip, branch, Block, end, then}

-- 10 gives the variable's figure, 11 and 12 their constant, an operation its result on its arguments' figures
unfoldable pub figure_of : List ℕ → Expr → ℕ
figure_of f (variable x) = get_or f x 0
figure_of f (word n) = n
figure_of f (bit b) = b
figure_of f (one op e) = result_of op (figure_of f e) 0
figure_of f (two op d e) = result_of op (figure_of f d) (figure_of f e)

-- An assign works out its expression from the figures of that moment, then stores it. A skip changes nothing.
-- An if works out its bit once and runs only the block that the bit names, on the same figures.
unfoldable mutual
  pub run_statement : Statement → List ℕ → List ℕ
  run_statement (assign x e) f = set f x (figure_of f e)
  run_statement skip f = f
  run_statement (branch c x y) f = cond (is_one (figure_of f c)) (run_block x f) (run_block y f)

  -- Statements run in file order.
  pub run_block : Block → List ℕ → List ℕ
  run_block end f = f
  run_block (then t b) f = run_block b (run_statement t f)

-- The run gives every variable's figure at its end. A refused rule has no run.
abbrev pub run_read : Parsed Block → List ℕ → List ℕ
run_read (parsed b n) inputs = run_block b inputs
run_read (refused number place) inputs = []

-- the run of a rule's bytes on V inputs
unfoldable pub run_rule : List ℕ → List ℕ → List ℕ
run_rule s inputs = run_read (read_rule s) inputs

-- Document 02, C-13: what a run writes for variable x, whose figure at its end is n. "a direct run keeps working figures to its end but writes 0 for them"
unfoldable pub written_for : List ℕ → ℕ → ℕ → ℕ
written_for s x n = cond (working_at s x) 0 n

-- the V numbers that it writes
unfoldable pub run_writes : List ℕ → List ℕ → List ℕ
run_writes s inputs = map (λ x. written_for s x (get_or (run_rule s inputs) x 0)) (upto (variables s))
