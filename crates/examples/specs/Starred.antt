-- Document 01, "Examples (a star: proved)": what the starred examples claim, 1 to 9, in its order. The proof stands in StarredProved.
use Rattle.std.specs.Prelude.{ℕ, ◌^◌, ◌<◌, ◌≡◌, List, [], ◌∷◌, ◌++◌, map, true, ◌↔◌, length, take, set, get_or}
use Rattle.base.specs.Numbers.{sum_of, difference_of, product_of}
use Rattle.base.specs.Lists.{upto, flat}
use Rattle.base.specs.Settings.{Setting, setting_of}
use Rattle.base.specs.Sets.{has}
use Rattle.base.specs.declared.Kind.TheVariants.{Word, Bit}
use Rattle.base.specs.declared.Operation.TheVariants.{Sum, Difference, Product, LessThan}
use Rattle.base.specs.Answers.{success, refusal}
use Rattle.base.specs.Parsing.{parsed}
use Rattle.rule.specs.Header.{variables, kind_at}
use Rattle.rule.specs.Tree.{variable, word, two, assign, branch, end, then}
use Rattle.rule.specs.Rule.{read_rule}
use Rattle.rule.specs.Examples.{r1}
use Rattle.circuit.specs.Running.{figure_of, run_rule}
use Rattle.circuit.specs.Gates.{operation, choice, gate_at, arguments, conditions}
use Rattle.circuit.specs.Limits.{most_conditions}
use Rattle.circuit.specs.PlainCircuit.{gates_of, gate_count}
use Rattle.circuit.specs.Examples.{r2, r7, r8}
use Rattle.circuit_needed.specs.Needed.{wanted_of, Needed}
use Rattle.circuit_needed.specs.Pass.{rule_preconditions}
use Rattle.circuit.specs.Whole.{rule_answer}
use Rattle.plan.specs.PlanFile.{groups_in}
use Rattle.plan.specs.Layout.{plan_bytes}
use Rattle.plan.specs.Groups.{group_of, RestsOn, rests_of, Waits}
use Rattle.plan.specs.Rows.{plan_answer}
use Rattle.plan.specs.Examples.{p1}
use Rattle.fused.specs.FusedCircuit.{fused_file}
use Rattle.fused.specs.Answers.{write_answer, written_over}
use Rattle.file.specs.Examples.{file3}
use Rattle.run.specs.Direct.{run_answer, run_results}

-- the precondition of gate g of the rule s, held as 256 bits: bit j is 1 exactly when setting j needs the gate
abbrev pub Precondition : List ℕ → ℕ → ℕ → Type 0
Precondition s g bits =
    (get_or (rule_preconditions s) g 0 ≡ bits)
    × ((j : ℕ) → j < 2 ^ most_conditions → (has bits j ≡ true) ↔ Needed (gates_of s) (wanted_of s) (setting_of (conditions (gates_of s)) j) g)

-- no setting needs gate g of the rule s
abbrev pub Unneeded : List ℕ → ℕ → Type 0
Unneeded s g = (σ : Setting) → Needed (gates_of s) (wanted_of s) σ g → ⊥

-- example 6's plan of both groups, and the group of each gate by it
abbrev pub both : List ℕ
both = plan_bytes 11 ((4 ∷ 7 ∷ []) ∷ (5 ∷ 6 ∷ []) ∷ [])

abbrev pub both_group : ℕ → ℕ
both_group = group_of (groups_in both)

-- the list of the starred examples: its type has a field for each, the parts in the order of the sentence above it, so that none can be missing.
-- R1 and R2 are the bytes r1 and r2, P1 is p1; the rules of 7 and 8 are r7 and r8
pub record Starred : Type 0 where
  -- 1. R1: gates 3 and 4 products, 5 a choice; preconditions AAAAAAAAAAAAAAAA and 5555555555555555; document 02, C-17: "example 1's patterns go on over 256 bits".
  pub example_1 :
      (length r1 ≡ 29)
      × (map (gate_at (gates_of r1)) (3 ∷ 4 ∷ 5 ∷ []) ≡ operation Product (1 ∷ 2 ∷ []) ∷ operation Product (2 ∷ 2 ∷ []) ∷ choice 0 3 4 ∷ [])
      × Precondition r1 3 0xAAAAAAAAAAAAAAAAAAAAAAAAAAAAAAAAAAAAAAAAAAAAAAAAAAAAAAAAAAAAAAAA
      × Precondition r1 4 0x5555555555555555555555555555555555555555555555555555555555555555
  -- 2. R1, inputs 1, 6, 7: results 1, 42, 7. Inputs 0, 6, 7: 0, 49, 7. Inputs 2, 6, 7: 41.
  pub example_2 :
      (map (run_rule r1) ((1 ∷ 6 ∷ 7 ∷ []) ∷ (0 ∷ 6 ∷ 7 ∷ []) ∷ []) ≡ (1 ∷ 42 ∷ 7 ∷ []) ∷ (0 ∷ 49 ∷ 7 ∷ []) ∷ [])
      × (map (λ x. run_answer (rule_answer r1) r1 (x ∷ 6 ∷ 7 ∷ []) 3) (1 ∷ 0 ∷ 2 ∷ []) ≡ success 6 0 0 33 0 ∷ success 6 0 0 33 0 ∷ refusal 41 0 ∷ [])
      × ((a b c : ℕ) → map (λ x. run_results (rule_answer r1) r1 (x ∷ 6 ∷ 7 ∷ []) (a ∷ b ∷ c ∷ [])) (1 ∷ 0 ∷ 2 ∷ [])
      ≡ (1 ∷ 42 ∷ 7 ∷ []) ∷ (0 ∷ 49 ∷ 7 ∷ []) ∷ (a ∷ b ∷ c ∷ []) ∷ [])
  -- 3. R1 with P1, whole, with document 02's C-17 and C-18: 43 49 52 00 02 03 00 08; 01 00; 00 01; 00 02; 32 01 00 00 and a table of 32 bytes that ends 02; the same ending 01;
  -- 31 02 00 03 00 01 00 04 00 02; 22 00 05 00 02; 30 00 00 00 06 00 06; 00 00 00 07 00 02 (file3). 114 bytes; a buffer of 113: 50.
  pub example_3 :
      (fused_file r1 p1 ≡ file3)
      × (length file3 ≡ 114)
      × (write_answer r1 p1 114 ≡ success 6 8 114 33 24)
      × (write_answer r1 p1 113 ≡ refusal 50 0)
      × ((d : List ℕ) → length d ≡ 114 → written_over r1 p1 d ≡ file3)
      × ((d : List ℕ) → length d ≡ 113 → written_over r1 p1 d ≡ d)
  -- 4. R1 cut by one byte: 4 at 28; one 00 more: 9 at 29. Byte 11 made 03: 6 at 11; made 01: 7 at 11. Byte 14 made 28: 5 at 14; made 23: 7 at 14.
  pub example_4 :
      (rule_answer (take 28 r1) ≡ refusal 4 28)
      × (rule_answer (r1 ++ (0x00 ∷ [])) ≡ refusal 9 29)
      × (rule_answer (set r1 11 0x03) ≡ refusal 6 11)
      × (rule_answer (set r1 11 0x01) ≡ refusal 7 11)
      × (rule_answer (set r1 14 0x28) ≡ refusal 5 14)
      × (rule_answer (set r1 14 0x23) ≡ refusal 7 14)
  -- 5. Group 3, 5 in R1: 27.
  pub example_5 : plan_answer r1 (plan_bytes 6 ((3 ∷ 5 ∷ []) ∷ [])) ≡ refusal 27 0
  -- 6. R2, variables bit, word, word, bit: if v0 then v3 := v1 × v1 < v2 else (if v1 < v2 then v1 := v1 × v2). 11 gates; products 4 and 7,
  -- comparisons 5 and 6. Groups {4, 7} or {5, 6} alone: accepted. Both: 30, by gate 7's condition.
  pub example_6 :
      (map (kind_at r2) (upto (variables r2)) ≡ Bit ∷ Word ∷ Word ∷ Bit ∷ [])
      × (read_rule r2 ≡ parsed
      (then (branch (variable 0)
      (then (assign 3 (two LessThan (two Product (variable 1) (variable 1)) (variable 2))) end)
      (then (branch (two LessThan (variable 1) (variable 2)) (then (assign 1 (two Product (variable 1) (variable 2))) end) end) end)) end)
      41)
      × (gate_count r2 ≡ 11)
      × (map (gate_at (gates_of r2)) (4 ∷ 7 ∷ []) ≡ operation Product (1 ∷ 1 ∷ []) ∷ operation Product (1 ∷ 2 ∷ []) ∷ [])
      × (map (gate_at (gates_of r2)) (5 ∷ 6 ∷ []) ≡ operation LessThan (4 ∷ 2 ∷ []) ∷ operation LessThan (1 ∷ 2 ∷ []) ∷ [])
      × (plan_answer r2 (plan_bytes 11 ((4 ∷ 7 ∷ []) ∷ [])) ≡ success 11 0 0 119 0)
      × (plan_answer r2 (plan_bytes 11 ((5 ∷ 6 ∷ []) ∷ [])) ≡ success 11 0 0 119 0)
      × (plan_answer r2 both ≡ refusal 30 0)
      -- gate 7 rests on the condition 6, so group {4, 7} waits for {5, 6}, in which 5 has the argument 4;
      -- no argument of 4 or 7 is in {5, 6}, and gate 4 rests on the condition 0 alone
      × RestsOn (gates_of r2) (wanted_of r2) 7 6
      × Waits (gates_of r2) (wanted_of r2) both_group 4 5
      × Waits (gates_of r2) (wanted_of r2) both_group 5 4
      × (map both_group (flat (λ g. arguments (gate_at (gates_of r2) g)) (4 ∷ 7 ∷ [])) ≡ 1 ∷ 1 ∷ 1 ∷ 2 ∷ [])
      × (map (rests_of (gates_of r2) (rule_preconditions r2)) (4 ∷ 7 ∷ []) ≡ (0 ∷ []) ∷ (0 ∷ 6 ∷ []) ∷ [])
  -- 7. One word: v0 := (v0 × v0) × v0, then v0 := 7. Group {1, 2}: 30, though nothing needs either.
  pub example_7 :
      (map (kind_at r7) (upto (variables r7)) ≡ Word ∷ [])
      × (read_rule r7 ≡ parsed (then (assign 0 (two Product (two Product (variable 0) (variable 0)) (variable 0))) (then (assign 0 (word 7)) end)) 25)
      × (plan_answer r7 (plan_bytes 4 ((1 ∷ 2 ∷ []) ∷ [])) ≡ refusal 30 0)
      × Unneeded r7 1
      × Unneeded r7 2
  -- 8. Three words: if v0 < 5 then v1 := v0 × v0; if 5 < v0 then v2 := v0 × v0. Group {5, 9}: 29.
  pub example_8 :
      (map (kind_at r8) (upto (variables r8)) ≡ Word ∷ Word ∷ Word ∷ [])
      × (read_rule r8 ≡ parsed
      (then (branch (two LessThan (variable 0) (word 5)) (then (assign 1 (two Product (variable 0) (variable 0))) end) end)
      (then (branch (two LessThan (word 5) (variable 0)) (then (assign 2 (two Product (variable 0) (variable 0))) end) end) end))
      46)
      × (plan_answer r8 (plan_bytes 11 ((5 ∷ 9 ∷ []) ∷ [])) ≡ refusal 29 0)
  -- 9. 4294967295 + 1 = 0; 0 − 1 = 4294967295; 65536 × 65536 = 0. So too for the expressions of a direct run, whatever its figures.
  pub example_9 :
      (sum_of 4294967295 1 ≡ 0)
      × (difference_of 0 1 ≡ 4294967295)
      × (product_of 65536 65536 ≡ 0)
      × ((f : List ℕ) → map (figure_of f) (two Sum (word 4294967295) (word 1) ∷ two Difference (word 0) (word 1) ∷ two Product (word 65536) (word 65536) ∷ [])
      ≡ 0 ∷ 4294967295 ∷ 0 ∷ [])
