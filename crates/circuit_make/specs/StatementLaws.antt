-- Making a statement, whose parts were read too: an assignment, an if with its blocks and choices, a skip leave what the definition makes of it.
use Rattle.std.specs.Prelude.{ℕ, ◌+◌, ◌-◌, ◌≤◌, ◌<◌, ◌≡◌, refl, Bool, ◌||◌, get_or, set, eqb}
use Rattle.std.proofs.Common.{arith, ◌∙◌, length-set}
use Rattle.std.proofs.Math.Path.{sym, ap, subst, subst⁻¹}
use mathlib.Core.List.{List}
use Rattle.std.proofs.Math.ListN.{length}
use Rattle.std.specs.Int.Bits.{bit_or}
use Rattle.base.specs.Lists.{keep, upto}
use Rattle.base.specs.ListLaws.{keep_same}
use Rattle.base.specs.MemberLaws.{from_below}
use Rattle.base.specs.Sets.{has}
use Rattle.base.specs.BitLaws.{bit_or_lem, bit_none}
use Rattle.base.specs.Codes.{code_of}
use Rattle.base.specs.declared.Kind.{Kind}
use Rattle.base.specs.declared.Kind.TheVariants as kind
use Rattle.base.specs.declared.Code.{Code}
use Rattle.base.specs.declared.Form.{Form}
use Rattle.base.specs.declared.Form.TheVariants.{Skip}
use Rattle.base.specs.Parsing.{Parsed, parsed, ◌>>=◌, IsRead}
use Rattle.base.specs.ParsingLaws.{read_is, same_what, same_next}
use Rattle.rule.specs.Limits.{deepest}
use Rattle.rule.specs.Header.{variables, kind_at}
use Rattle.rule.specs.Tree.{Expr, Statement, assign, skip, branch, Block}
use Rattle.rule.specs.Expressions.{read_expr}
use Rattle.rule.specs.Blocks.{read_assign, branch_with, statement_form, read_block, read_statement}
use Rattle.rule.specs.BlockLaws.{statement_as}
use Rattle.rule.specs.FirstStatement as read
use Rattle.circuit.specs.PlainCircuit.{Making, make_expr, assigns_in, assigns, choices, assigned_in, make_statement, make_block}
use Rattle.circuit.specs.PlainLaws.{extends_length, expr_extends, block_extends}
use Rattle.circuit_make.specs.Holding.{Held, ExprMade, Done, ChoiceParts, Chosen}
use Rattle.circuit_make.specs.ChoiceLaws.{stands_set, choices_length}

-- the count of variables stays
pub statement_length : (t : Statement) (m : Making) → length (make_statement t m).present ≡ length m.present
unfolding make_statement
statement_length (assign x e) m = length-set m.present x (make_expr e m.present m.gates).place
statement_length skip m = refl
statement_length (branch c b d) m =
    let n = make_expr c m.present m.gates in
    let first = make_block b (record { gates = n.gates; present = m.present }) in
    let second = make_block d (record { gates = first.gates; present = m.present }) in
    choices_length n.place first.present second.present (assigned_in b d (length m.present)) (record { gates = second.gates; present = m.present })

-- the same thing read another way
pub done_as : {A : Type 0} (make : A → Making → Making) (assigned : A → ℕ → Bool) (s : List ℕ)
    (m k : Parsed A) {quads present quads' present' : List ℕ} {count next more mask : ℕ}
    → m ≡ k → Done make assigned s k quads present count next more mask quads' present' → Done make assigned s m quads present count next more mask quads' present'
done_as make assigned s m k e d = record { what = d.what; read = e ∙ d.read; marks = d.marks; done = d.done }

-- an assignment
pub made_assign : (s : List ℕ) (at : ℕ) → IsRead (read_assign s at) → variables s ≤ 32
    → (present quads : List ℕ) (count next place more mask : ℕ) (after : List ℕ)
    → (want : Kind) → want ≡ kind_at s (get_or s (at + 1) 0) → ExprMade s (read_expr deepest s want (at + 2)) present quads count next place more after
    → ((x : ℕ) → has mask x ≡ eqb x (get_or s (at + 1) 0))
    → Done make_statement assigns_in s (read_assign s at) quads present count next more mask after (set present (get_or s (at + 1) 0) place)
unfolding make_statement assigns_in
made_assign s at h few present quads count next place more mask after want k v b =
    let r = read.assign_read s at h in
    let x = get_or s (at + 1) 0 in
    record {
      what = assign x v.what;
      read = r.is ∙ ap (λ (g : Parsed Expr). g >>= λ e n. parsed (assign x e) n) (ap (λ (w : Kind). read_expr deepest s w (at + 2)) (sym k) ∙ v.read);
      marks = λ y i. b y;
      done = λ n l held.
          let e = make_expr v.what n.present n.gates in
          let grown = extends_length (expr_extends v.what n.present n.gates) in
          record {
            stored = v.made n.present n.gates held.stored held.stand;
            wide = length-set present x place ∙ held.wide;
            stand = λ small.
                stands_set n.present present x place e.place (v.stands n.present n.gates held.stored held.stand small)
                (omega (arith, r.range, held.wide)) (omega (arith, r.range)) (held.stand (omega arith));
          };
    }

-- an if
module _ (s : List ℕ) (nest at : ℕ) (h : IsRead (branch_with (read_block s) s nest at)) where
  opened : read.BranchRead s nest at
  opened = read.branch_read s nest at h

  pub branch_level : 0 < nest
  branch_level = opened.level

  pub test_taken : IsRead (read_expr deepest s kind.Bit (at + 1))
  test_taken = read_is (read_expr deepest s kind.Bit (at + 1)) opened.test

  module _ (present quads : List ℕ) (count place n k : ℕ) (quads1 : List ℕ)
      (t : ExprMade s (read_expr deepest s kind.Bit (at + 1)) present quads count n place k quads1) where
    at_test : parsed t.what n ≡ parsed opened.c opened.first
    at_test = sym t.read ∙ opened.test

    yes : read_block s (nest - 1) n ≡ parsed opened.x opened.second
    yes = ap (read_block s (nest - 1)) (same_next at_test) ∙ opened.yes

    pub first_taken : IsRead (read_block s (nest - 1) n)
    first_taken = read_is (read_block s (nest - 1) n) yes

    module _ (n1 k1 mask1 : ℕ) (quads2 first : List ℕ) (x : Done make_block assigns s (read_block s (nest - 1) n) quads1 present k n1 k1 mask1 quads2 first) where
      at_first : parsed x.what n1 ≡ parsed opened.x opened.second
      at_first = sym x.read ∙ yes

      no : read_block s (nest - 1) n1 ≡ parsed opened.y opened.next
      no = ap (read_block s (nest - 1)) (same_next at_first) ∙ opened.no

      pub second_taken : IsRead (read_block s (nest - 1) n1)
      second_taken = read_is (read_block s (nest - 1) n1) no

      module _ (n2 k2 mask2 : ℕ) (quads3 second : List ℕ) (y : Done make_block assigns s (read_block s (nest - 1) n1) quads2 present k1 n2 k2 mask2 quads3 second) where
        at_second : parsed y.what n2 ≡ parsed opened.y opened.next
        at_second = sym y.read ∙ no

        parts : branch_with (read_block s) s nest at ≡ parsed (branch t.what x.what y.what) n2
        parts =
            opened.is
            ∙ ap (λ (e : Expr). parsed (branch e opened.x opened.y) opened.next) (sym (same_what at_test))
            ∙ ap (λ (b : Block). parsed (branch t.what b opened.y) opened.next) (sym (same_what at_first))
            ∙ ap (λ (g : Parsed Block). g >>= λ b i. parsed (branch t.what x.what b) i) (sym at_second)

        either : (j : ℕ) → j < 32 → has (bit_or mask1 mask2) j ≡ (assigns x.what j || assigns y.what j)
        either j i = bit_or_lem mask1 mask2 j ∙ ap (λ (b : Bool). b || has mask2 j) (x.marks j i) ∙ ap (λ (b : Bool). assigns x.what j || b) (y.marks j i)

        pub made_branch : variables s ≤ 32 → (v more : ℕ) (quads4 present4 : List ℕ) → v ≡ variables s
            → Chosen place first second (bit_or mask1 mask2) v quads3 present k2 more quads4 present4
            → Done make_statement assigns_in s (branch_with (read_block s) s nest at) quads present count n2 more (bit_or mask1 mask2) quads4 present4
        unfolding make_statement assigns_in
        made_branch few v more quads4 present4 same z =
            record {
              what = branch t.what x.what y.what;
              read = parts;
              marks = either;
              done = λ m l held.
                  let e = make_expr t.what m.present m.gates in
                  let m1 : Making = record { gates = e.gates; present = m.present } in
                  let g1 = extends_length (expr_extends t.what m.present m.gates) in
                  let h1 : Held s m1 quads1 present k
                  = record { stored = t.made m.present m.gates held.stored held.stand; wide = held.wide; stand = λ u. held.stand (omega arith) } in
                  let f = make_block x.what m1 in
                  let g2 = extends_length (block_extends x.what m1) in
                  let hf : Held s f quads2 first k1 = x.done m1 l h1 in
                  let m2 : Making = record { gates = f.gates; present = m.present } in
                  let h2 : Held s m2 quads2 present k1 = record { stored = hf.stored; wide = held.wide; stand = λ u. held.stand (omega arith) } in
                  let g = make_block y.what m2 in
                  let g3 = extends_length (block_extends y.what m2) in
                  let hg : Held s g quads3 second k2 = y.done m2 l h2 in
                  let m3 : Making = record { gates = g.gates; present = m.present } in
                  let h3 : Held s m3 quads3 present k2 = record { stored = hg.stored; wide = held.wide; stand = λ u. held.stand (omega arith) } in
                  let ready : length m3.gates ≤ 256 → ChoiceParts e.place f.present g.present place first second
                  = λ u. record { test = t.stands m.present m.gates held.stored held.stand (omega arith); yes = hf.stand (omega arith); no = hg.stand u }
                  in
                  let list : keep (has (bit_or mask1 mask2)) (upto v) ≡ assigned_in x.what y.what (length m.present)
                  = ap (λ (j : ℕ). keep (has (bit_or mask1 mask2)) (upto j)) (same ∙ sym l)
                  ∙ keep_same (has (bit_or mask1 mask2)) (λ j. assigns x.what j || assigns y.what j) (upto (length m.present))
                  (λ j i. either j (omega (arith, from_below 0 (length m.present) j i))) in
                  subst (λ (w : List ℕ). Held s (choices e.place f.present g.present w m3) quads4 present4 more) list
                  (z.chosen s m3 e.place f.present g.present (l ∙ sym same) ready h3);
            }

-- a statement, by the code c that stands there
module _ (s : List ℕ) (nest at : ℕ) (c : Code) (e : c ≡ code_of (get_or s at 0)) where
  pub statement_read_as : IsRead (read_statement s nest at) → (f : Form) → c.form ≡ f → IsRead (statement_form f (read_block s) s nest at)
  statement_read_as h f q = subst IsRead (statement_as s nest at c f e q) h

  pub made_skip : c.form ≡ Skip → (quads present : List ℕ) (count next more mask : ℕ) → next ≡ at + 1 → more ≡ count → mask ≡ 0
      → Done make_statement assigns_in s (read_statement s nest at) quads present count next more mask quads present
  unfolding make_statement assigns_in
  made_skip q quads present count next more mask n k z =
      record {
        what = skip;
        read = statement_as s nest at c Skip e q ∙ ap (parsed skip) (sym n);
        marks = λ x i. ap (λ (j : ℕ). has j x) z ∙ bit_none x;
        done = λ m l held. subst⁻¹ (λ (j : ℕ). Held s m quads present j) k held;
      }
