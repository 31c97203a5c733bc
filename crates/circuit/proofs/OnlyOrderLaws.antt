-- Rules that differ only in the order of variables that are the two arguments of an operation that commutes have the same plain circuit (document 02, C-12).
use Rattle.std.specs.Prelude.{ℕ, ◌+◌, ◌<◌, ◌≡◌, refl, List, ◌||◌, length, get_or}
use Rattle.std.proofs.Common.{arith, sym, ap, ◌∙◌, get_or-take}
use Rattle.base.specs.Lists.{upto}
use Rattle.base.specs.ListLaws.{keep_same}
use Rattle.base.specs.Parsing.{Parsed, parsed, refused, IsRead}
use Rattle.rule.specs.Header.{kind_of, working_of, variables, kind_at, working_at}
use Rattle.rule.specs.Tree.{Expr, Statement, Block}
use Rattle.rule.specs.Rule.{read_rule}
use Rattle.rule.proofs.OrderLaws.{both_read}
use Rattle.rule.specs.OnlyOrder.{ExprUpToOrder, same, turned, in_one, in_two, StatementUpToOrder, assign, skip, branch, BlockUpToOrder, end, then, ReadUpToOrder, OnlyOrder}
use Rattle.circuit.specs.Gates.{Gates}
use Rattle.circuit.specs.PlainCircuit.{Making, add, make_expr, assigns_in, assigns, assigned_in, as_before, make_statement}
use Rattle.circuit.specs.PlainCircuit.{make_block, condition_made, first_made, starts, plain_of, plain_read, plain_circuit}
use Rattle.circuit.proofs.ApplyLaws.{apply_commutes}

expr_same : {d e : Expr} → ExprUpToOrder d e → (present : List ℕ) (C : Gates) → make_expr d present C ≡ make_expr e present C
unfolding make_expr
expr_same same p C = refl
expr_same (turned {op} {x} {y} h) p C = ap (add C) (apply_commutes op (get_or p x 0) (get_or p y 0) h)
expr_same (in_one {op} h) p C = rw (expr_same h p C)
expr_same (in_two {op} {d} {e} {d'} {e'} h k) p C = rw (expr_same h p C, expr_same k p (make_expr d' p C).gates)

mutual
  unfolding assigns_in assigns

  statement_assigns : {t u : Statement} → StatementUpToOrder t u → (x : ℕ) → assigns_in t x ≡ assigns_in u x
  statement_assigns (assign h) x = refl
  statement_assigns skip x = refl
  statement_assigns (branch h b d) x = rw (block_assigns b x, block_assigns d x)

  block_assigns : {b d : Block} → BlockUpToOrder b d → (x : ℕ) → assigns b x ≡ assigns d x
  block_assigns end x = refl
  block_assigns (then t b) x = rw (statement_assigns t x, block_assigns b x)

both_assigned : {b b' d d' : Block} → BlockUpToOrder b b' → BlockUpToOrder d d' → (v : ℕ) → assigned_in b d v ≡ assigned_in b' d' v
both_assigned {b} {b'} {d} {d'} h k v =
    keep_same (λ x. assigns b x || assigns d x) (λ x. assigns b' x || assigns d' x) (upto v) (λ x m. rw (block_assigns h x, block_assigns k x))

mutual
  unfolding make_statement make_block

  statement_same : {t u : Statement} → StatementUpToOrder t u → (m : Making) → make_statement t m ≡ make_statement u m
  statement_same (assign h) m = rw (expr_same h m.present m.gates)
  statement_same skip m = refl
  statement_same (branch {c} {c'} {b} {b'} {d} {d'} h k l) m =
      rw (
        expr_same h m.present m.gates,
        block_same k (as_before m (condition_made c' m).gates),
        block_same l (as_before m (first_made c' b' m).gates),
        both_assigned k l (length m.present),
      )

  block_same : {b d : Block} → BlockUpToOrder b d → (m : Making) → make_block b m ≡ make_block d m
  block_same end m = refl
  block_same (then {t} {t'} {b} {b'} h k) m = ap (make_block b) (statement_same h m) ∙ block_same k (make_statement t' m)

module _ (s t : List ℕ) (o : OnlyOrder s t) where
  -- a byte of the header
  header_byte : (i : ℕ) → i < 6 + variables s → get_or s i 0 ≡ get_or t i 0
  header_byte i h = sym (get_or-take (6 + variables s) s i 0 h) ∙ ap (λ (l : List ℕ). get_or l i 0) o.headers ∙ get_or-take (6 + variables s) t i 0 h

  pub same_variables : variables s ≡ variables t
  same_variables = header_byte 5 (omega arith)

  pub same_kind_lem : (x : ℕ) → x < variables s → kind_at s x ≡ kind_at t x
  same_kind_lem x h = ap kind_of (header_byte (6 + x) (omega arith))

  pub same_working : (x : ℕ) → x < variables s → working_at s x ≡ working_at t x
  same_working x h = ap working_of (header_byte (6 + x) (omega arith))

  read_same : (r q : Parsed Block) → ReadUpToOrder r q → plain_read (variables s) r ≡ plain_read (variables t) q
  read_same (parsed b n) (parsed d m) h = ap (λ (v : ℕ). plain_of v b) same_variables ∙ block_same h (starts (variables t))
  read_same (parsed b n) (refused number place) h = absurd h
  read_same (refused number place) q h = absurd h

  pub second_read : IsRead (read_rule t)
  second_read = (both_read s t o).1

  -- one plain circuit: gates and outputs
  pub same_plain : plain_circuit s ≡ plain_circuit t
  unfolding plain_circuit
  same_plain = read_same (read_rule s) (read_rule t) o.blocks
