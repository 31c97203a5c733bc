-- Laws for document 02, C-17: a rule that is refused with 8 on a 03 has a ninth nested if there.
use Prim.Native.Nat.{ℕ, zero, suc, ◌+◌, ◌-◌, ◌≤◌, ◌<◌}
use Rattle.std.proofs.Common.{arith, sym, ap, subst, ◌∙◌, append_assoc, inl, inr, length-append, length-drop}
use Rattle.std.specs.Prelude.{◌≡◌, refl, Bool, List, [], ◌∷◌, ◌++◌, ◌⊎◌, length, get_or, drop, ltb, leb, eqb}
use Rattle.std.proofs.Math.Path.{subst⁻¹}
use Rattle.std.proofs.Math.Bool.{true, false}
use Rattle.std.proofs.Math.ListN.{get_or-eq_default}
use borrow.Author.Tests.{ltb-true, ltb-false, leb-true}
use Rattle.base.specs.Numbers.{Bytes}
use Rattle.base.specs.ListLaws.{drop_one, inside_list}
use Rattle.base.specs.Codes.{code_of}
use Rattle.base.specs.CodeLaws.{Opens, code_opens}
use Rattle.base.specs.declared.Kind.{Kind}
use Rattle.base.specs.declared.Kind.TheVariants as kind
use Rattle.base.specs.declared.Form.{Form}
use Rattle.base.specs.declared.Form.TheVariants as form
use Rattle.base.specs.Parsing.{parsed, refused, step_of, read_mark}
use Rattle.base.specs.ParsingLaws.{finds_read, forward_read}
use Rattle.rule.specs.Limits.{least_rule_bytes, most_rule_bytes, most_variables, last_kind, deepest, nested}
use Rattle.rule.specs.Header.{mark, variables, kind_at, read_count, read_kinds, read_header}
use Rattle.rule.specs.Tree.{Expr, Statement, Block, end, then}
use Rattle.rule.specs.Kinds.{EachExpr}
use Rattle.rule.specs.Expressions.{read_expr}
use Rattle.rule.specs.ExpressionLaws.{expr_forward}
use Rattle.rule.specs.Blocks.{read_assign, branch_with, statement_form, statement_with, closed_or, block_with, read_block, read_statement}
use Rattle.rule.specs.BlockLaws.{block_short}
use Rattle.rule.specs.FuelLaws.{block_is, block_forward, statement_forward}
use Rattle.rule.specs.Format.{expr_bytes, statement_bytes, block_bytes, header_bytes, kind_bytes, kind_in}
use Rattle.rule.specs.EachLaws.{each_same, typed_same}
use Rattle.rule.specs.FoundExprLaws.{ExprFound, expr_found}
use Rattle.rule.proofs.FoundLaws.{Good, StatementFound, BlockFound, good, block_found, statement_found}
use Rattle.rule.proofs.FoundRuleLaws.{kinds_count, kinds_same, header_bytes_lem}
use Rattle.rule.specs.Rule.{read_rule}
use Rattle.rule.specs.RuleLaws.{Headed, header_past}
use Rattle.rule.specs.RefusalLaws.{Refuses, test, after, refuses_too, InExpr, expr_row}
use Rattle.rule.specs.NestedIfs.{WellExpr, Leads, outset, past, into_first, into_second}

-- a file of bytes that has these kind bytes
module _ (s kinds : List ℕ) (bytes : Bytes s) (v : length kinds ≡ variables s) (same : (x : ℕ) → x < variables s → kind_at s x ≡ kind_in kinds x) where
  well_expr : (e : Expr) (k : Kind) → Good s e k → WellExpr kinds e k
  well_expr e k g = (rw v (typed_same (variables s) (kind_at s) (kind_in kinds) same e k g.typed), g.words bytes, g.shallow)

  well_each : (b : Block) → EachExpr (variables s) (kind_at s) (Good s) b → EachExpr (length kinds) (kind_in kinds) (WellExpr kinds) b
  well_each b h = rw v (each_same (variables s) (kind_at s) (kind_in kinds) same (Good s) (WellExpr kinds) well_expr b h)

  -- the bytes from the body on lead there, into n ifs, and so many may still nest
  record Inside (body n : ℕ) (pre : List ℕ) (nest at : ℕ) : Type 0 where
    leads : Leads kinds n pre
    left : nest + n ≡ nested
    there : drop body s ≡ pre ++ drop at s

  -- a ninth if: the bytes lead there into eight
  abbrev pub NinthAt : ℕ → ℕ → Type 0
  NinthAt body place = (pre : List ℕ) × Leads kinds nested pre × (drop body s ≡ pre ++ drop place s)

  -- a refusal with 8 on a 03 is one
  abbrev pub OnNinth : ℕ → ℕ → ℕ → Type 0
  OnNinth body k p = k ≡ 8 → get_or s p 0 ≡ 0x03 → NinthAt body p

  module _ (body : ℕ) where
    abbrev R : ℕ → ℕ → Type 0
    R = OnNinth body

    other : (k p : ℕ) → (k ≡ 8 → ⊥) → R k p
    other k p n e b = absurd (n e)

    expr_on : (want : Kind) (from : ℕ) → Refuses R (read_expr deepest s want from)
    expr_on want from = refuses_too (InExpr s) R (λ k p r e b. absurd (r.deep e b)) (read_expr deepest s want from) (expr_row s deepest want from)

    assign_on : (at : ℕ) → Refuses R (read_assign s at)
    unfolding read_assign
    assign_on at =
        test R (ltb (at + 1) (length s)) 4 (length s) _ (λ z. other 4 (length s) (λ e. omega arith))
        (λ z. test R (ltb (get_or s (at + 1) 0) (variables s)) 6 (at + 1) _ (λ y. other 6 (at + 1) (λ e. omega arith))
        (λ y. after R (read_expr deepest s (kind_at s (get_or s (at + 1) 0)) (at + 2)) _ (expr_on (kind_at s (get_or s (at + 1) 0)) (at + 2)) (λ e n q. tt)))

    -- at a statement's code, where it is known of every block that begins later
    module _ (f : ℕ) (later : (nest at n : ℕ) (pre : List ℕ) → length s ≤ at + f → Inside body n pre nest at → Refuses R (read_block s nest at))
        (nest at n : ℕ) (pre : List ℕ) (few : length s ≤ at + suc f) (i : Inside body n pre nest at) (inside : at < length s) where
      -- an if: the ninth, or the places in its two blocks
      module _ (c : get_or s at 0 ≡ 0x03) where
        ninth_here : nest ≤ 0 → NinthAt body at
        ninth_here z = let e : n ≡ nested = omega (arith, i.left, z) in (pre, rw e at i.leads, i.there)

        module _ (z : 0 < nest) (e : Expr) (m : ℕ) (p : read_expr deepest s kind.Bit (at + 1) ≡ parsed e m) where
          test_found : ExprFound s kind.Bit deepest (at + 1) e m
          test_found = finds_read (read_expr deepest s kind.Bit (at + 1)) (expr_found s deepest kind.Bit (at + 1)) p

          test_past : at + 1 < m
          test_past = forward_read (read_expr deepest s kind.Bit (at + 1)) (expr_forward deepest s kind.Bit (at + 1)) p

          well_test : WellExpr kinds e kind.Bit
          well_test = well_expr e kind.Bit (good s kind.Bit (at + 1) e m test_found)

          first_there : drop body s ≡ pre ++ (0x03 ∷ (expr_bytes e ++ drop m s))
          first_there = i.there ∙ ap (λ (l : List ℕ). pre ++ l) (drop_one s at 0x03 inside c ∙ ap (λ (l : List ℕ). 0x03 ∷ l) (test_found.bytes bytes))

          in_first_lem : Inside body (suc n) (pre ++ (0x03 ∷ expr_bytes e)) (nest - 1) m
          in_first_lem = record {
            leads = into_first i.leads e well_test;
            left = omega (arith, i.left, z);
            there = first_there ∙ sym (append_assoc pre (0x03 ∷ expr_bytes e) (drop m s));
          }

          module _ (x : Block) (l : ℕ) (q : read_block s (nest - 1) m ≡ parsed x l) where
            block_is_found : BlockFound s (nest - 1) m x l
            block_is_found = finds_read (read_block s (nest - 1) m) (block_found s (nest - 1) m) q

            block_past : m < l
            block_past = forward_read (read_block s (nest - 1) m) (block_forward s (nest - 1) m) q

            in_second_lem : Inside body (suc n) (pre ++ (0x03 ∷ (expr_bytes e ++ block_bytes x))) (nest - 1) l
            in_second_lem = record {
              leads = into_second i.leads e well_test x (well_each x block_is_found.each, omega (arith, i.left, z, block_is_found.nests));
              left = omega (arith, i.left, z);
              there =
                  first_there
                  ∙ ap (λ (u : List ℕ). pre ++ (0x03 ∷ u)) (ap (λ (u : List ℕ). expr_bytes e ++ u) (block_is_found.bytes bytes) ∙ sym (append_assoc (expr_bytes e) (block_bytes x) (drop l s)))
                  ∙ sym (append_assoc pre (0x03 ∷ (expr_bytes e ++ block_bytes x)) (drop l s));
            }

        branch_on : Refuses R (branch_with (read_block s) s nest at)
        unfolding branch_with
        branch_on =
            test R (ltb 0 nest) 8 at _ (λ z e b. ninth_here (ltb-false 0 nest z))
            (λ z. let o : 0 < nest = ltb-true 0 nest z in
            after R (read_expr deepest s kind.Bit (at + 1)) _ (expr_on kind.Bit (at + 1))
            (λ e m p. let g = test_past o e m p in
            after R (read_block s (nest - 1) m) _ (later (nest - 1) m (suc n) (pre ++ (0x03 ∷ expr_bytes e)) (omega (arith, few, g)) (in_first_lem o e m p))
            (λ x l q. let h = block_past o e m p x l q in
            after R (read_block s (nest - 1) l) _
            (later (nest - 1) l (suc n) (pre ++ (0x03 ∷ (expr_bytes e ++ block_bytes x))) (omega (arith, few, g, h)) (in_second_lem o e m p x l q)) (λ y k r. tt))))

      form_on : (g : Form) → Opens (get_or s at 0) g → Refuses R (statement_form g (read_block s) s nest at)
      form_on form.End c = other 5 at (λ e. omega arith)
      form_on form.Assign c = assign_on at
      form_on form.Skip c = tt
      form_on form.Branch c = branch_on c
      form_on form.Variable c = other 5 at (λ e. omega arith)
      form_on form.Word c = other 5 at (λ e. omega arith)
      form_on form.Bit c = other 5 at (λ e. omega arith)
      form_on (form.Apply op) c = other 5 at (λ e. omega arith)
      form_on form.Unknown c = other 5 at (λ e. omega arith)

      -- past a statement
      module _ (t : Statement) (m : ℕ) (p : read_statement s nest at ≡ parsed t m) where
        is_found : StatementFound s nest at t m
        is_found = finds_read (read_statement s nest at) (statement_found s nest at inside) p

        statement_past : at < m
        statement_past = forward_read (read_statement s nest at) (statement_forward s nest at) p

        in_rest_lem : Inside body n (pre ++ statement_bytes t) nest m
        in_rest_lem = record {
          leads = past i.leads t ((well_each (then t end) (is_found.each, tt)).0, omega (arith, i.left, is_found.nests));
          left = i.left;
          there = i.there ∙ ap (λ (l : List ℕ). pre ++ l) (is_found.bytes bytes) ∙ sym (append_assoc pre (statement_bytes t) (drop m s));
        }

      closed_on : (z : Bool) → Refuses R (closed_or z (read_block s) s nest at)
      unfolding statement_with read_statement
      closed_on true = tt
      closed_on false =
          after R (statement_with (read_block s) s nest at) _ (form_on (code_of (get_or s at 0)).form (code_opens (get_or s at 0)))
          (λ t m p. let g = statement_past t m p in
          after R (read_block s nest m) _ (later nest m n (pre ++ statement_bytes t) (omega (arith, few, g)) (in_rest_lem t m p)) (λ b k q. tt))

    block_on : (f nest at n : ℕ) (pre : List ℕ) → length s ≤ at + f → Inside body n pre nest at → Refuses R (read_block s nest at)
    unfolding block_with
    block_on zero nest at n pre few i = subst⁻¹ (Refuses R) (block_short s nest at (omega (arith, few))) (other 4 (length s) (λ e. omega arith))
    block_on (suc f) nest at n pre few i =
        subst⁻¹ (Refuses R) (block_is s nest at)
        (test R (ltb at (length s)) 4 (length s) _ (λ z. other 4 (length s) (λ e. omega arith))
        (λ z. closed_on f (block_on f) nest at n pre few i (ltb-true _ _ z) (eqb (get_or s at 0) 0x00)))

    -- so of the body as a whole
    pub body_on : Refuses (OnNinth body) (read_block s nested body)
    body_on = block_on (length s) nested body 0 [] (omega arith) (record { leads = outset; left = refl; there = refl })

-- no header is refused with 8
abbrev NotEight : ℕ → ℕ → Type 0
NotEight k p = k ≡ 8 → ⊥

mark_not : (m s : List ℕ) (at : ℕ) → Refuses NotEight (read_mark 2 m s at)
unfolding read_mark
mark_not [] s at = tt
mark_not (b ∷ m) s at = test NotEight (eqb (get_or s at 0) b) 2 at _ (λ z e. omega arith) (λ z. mark_not m s (at + 1))

kinds_not : (n : ℕ) (s : List ℕ) (at : ℕ) → Refuses NotEight (read_kinds n s at)
unfolding read_kinds
kinds_not zero s at = tt
kinds_not (suc n) s at =
    test NotEight (ltb at (length s)) 4 (length s) _ (λ z e. omega arith)
    (λ z. test NotEight (leb (get_or s at 0) last_kind) 3 at _ (λ y e. omega arith) (λ y. kinds_not n s (at + 1)))

header_not : (s : List ℕ) → Refuses NotEight (read_header s)
unfolding read_header read_count
header_not s =
    after NotEight (read_mark 2 mark s 0) _ (mark_not mark s 0)
    (λ u at e. after NotEight (read_count s at) _
    (test NotEight (ltb 0 (get_or s at 0)) 3 at _ (λ z e. omega arith) (λ z. test NotEight (leb (get_or s at 0) most_variables) 3 at _ (λ y e. omega arith) (λ y. tt)))
    (λ v k q. kinds_not v s k))

-- the whole rule, by its own kind bytes
module _ (s : List ℕ) (bytes : Bytes s) where
  abbrev Ninth : ℕ → Type 0
  Ninth place = (kinds : List ℕ) × (pre : List ℕ) × (rest : List ℕ) × Leads kinds nested pre × (s ≡ header_bytes kinds ++ (pre ++ (0x03 ∷ rest))) × (place ≡ length (header_bytes kinds ++ pre))

  abbrev Q : ℕ → ℕ → Type 0
  Q k p = k ≡ 8 → get_or s p 0 ≡ 0x03 → Ninth p

  inside_by : (p : ℕ) → get_or s p 0 ≡ 0x03 → p < length s
  inside_by p b = go (inside_list s p)
    where
      go : (p < length s) ⊎ (length s ≤ p) → p < length s
      go (inl l) = l
      go (inr l) = absurd (let z = get_or-eq_default s 0 {n = p} l in omega (arith, b, z))

  module _ {at : ℕ} (h : Headed s at) where
    ninth_there : (p : ℕ) → get_or s p 0 ≡ 0x03 → NinthAt s (kind_bytes s) bytes (kinds_count s h) (kinds_same s) (6 + variables s) p → Ninth p
    ninth_there p b (pre, leads, there) = (kind_bytes s, pre, drop (p + 1) s, leads, whole, place)
      where
        i : p < length s
        i = inside_by p b

        whole : s ≡ header_bytes (kind_bytes s) ++ (pre ++ (0x03 ∷ drop (p + 1) s))
        whole =
            header_bytes_lem s h ∙ ap (λ (l : List ℕ). header_bytes (kind_bytes s) ++ l) (there ∙ ap (λ (l : List ℕ). pre ++ l) (drop_one s p 0x03 i b))

        place : p ≡ length (header_bytes (kind_bytes s) ++ pre)
        place =
            let e : length s - (6 + variables s) ≡ length pre + (length s - p) = sym (length-drop (6 + variables s) s) ∙ ap length there ∙ length-append pre (drop p s)
            ∙ ap (λ (n : ℕ). length pre + n) (length-drop p s) in
            let f = length-append (kind_bytes s) pre in
            omega (arith, e, f, kinds_count s h, i, h.kinds)

    by_header : Refuses Q (read_block s nested at)
    by_header =
        subst⁻¹ (λ (a : ℕ). Refuses Q (read_block s nested a)) h.after
        (refuses_too (OnNinth s (kind_bytes s) bytes (kinds_count s h) (kinds_same s) (6 + variables s)) Q (λ k p o e b. ninth_there p b (o e b)) (read_block s nested (6 + variables s))
        (body_on s (kind_bytes s) bytes (kinds_count s h) (kinds_same s) (6 + variables s)))

  rule_on : Refuses Q (read_rule s)
  unfolding read_rule
  rule_on =
      test Q (leb least_rule_bytes (length s)) 1 0 _ (λ z e b. absurd (omega (arith, e)))
      (λ six. test Q (leb (length s) most_rule_bytes) 1 0 _ (λ z e b. absurd (omega (arith, e)))
      (λ z. after Q (read_header s) _ (refuses_too NotEight Q (λ k p n e b. absurd (n e)) (read_header s) (header_not s))
      (λ u at e. after Q (read_block s nested at) _ (by_header (header_past s (leb-true _ _ six) (sym (ap step_of e))))
      (λ b n q. test Q (leb (length s) n) 9 n _ (λ z e b. absurd (omega (arith, e))) (λ z. tt)))))

  pub ninth_only : (place : ℕ) → read_rule s ≡ refused 8 place → get_or s place 0 ≡ 0x03
      → (kinds : List ℕ) × (pre : List ℕ) × (rest : List ℕ) × Leads kinds nested pre
      × (s ≡ header_bytes kinds ++ (pre ++ (0x03 ∷ rest))) × (place ≡ length (header_bytes kinds ++ pre))
  ninth_only place e b = subst (Refuses Q) e rule_on refl b
