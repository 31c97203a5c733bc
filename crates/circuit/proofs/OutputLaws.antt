-- The outputs of the plain circuit: for every typed tree, and for every rule that is read, they have the figures that the direct run ends with.
use Rattle.std.specs.Prelude.{ℕ, ◌<◌, ◌≡◌, refl, List, map, length, get_or}
use Rattle.std.proofs.Common.{sym, ◌∙◌, arith, ext_get_or}
use Rattle.std.proofs.lemmas.List.{length-map}
use Rattle.base.specs.Parsing.{parsed}
use Rattle.rule.specs.Header.{variables, kind_at}
use Rattle.rule.specs.Tree.{Block}
use Rattle.rule.specs.Rule.{read_rule}
use Rattle.rule.specs.Kinds.{TypedBlock}
use Rattle.rule.proofs.FoundRuleLaws.{read_typed}
use Rattle.base.specs.declared.Kind.{Kind}
use Rattle.circuit.specs.Running.{run_block}
use Rattle.circuit.specs.Gates.{figure, figure_at}
use Rattle.circuit.specs.PlainCircuit.{starts, plain_of, plain_circuit, gates_of, outputs_of}
use Rattle.circuit.specs.FigureLaws.{figure_same, map_at}
use Rattle.circuit.proofs.RunLaws.{block_count}
use Rattle.circuit.proofs.StartLaws.{starts_sound, starts_hold, read_plain, plain_sound}
use Rattle.circuit.proofs.DemandLaws.{Agrees, block_agrees}

-- of a typed tree: whatever the inputs, each variable's output has the figure that the direct run ends with
pub tree_figure : (v : ℕ) (kinds : ℕ → Kind) (b : Block) → TypedBlock v kinds b → (inputs : List ℕ) → length inputs ≡ v
    → Agrees inputs (plain_of v b) (run_block b inputs)
tree_figure v kinds b t inputs fed =
    block_agrees inputs v kinds b t (starts v) (starts_sound v) inputs fed
    (starts_hold 0 (figure inputs) (figure_same inputs) v (λ y. get_or inputs y 0) (λ g y. refl))

module _ (s : List ℕ) (b : Block) (n : ℕ) (read : read_rule s ≡ parsed b n) (inputs : List ℕ) (fed : length inputs ≡ variables s) where
  -- of a rule, variable by variable
  pub output_figure_lem : (x : ℕ) → x < variables s → figure_at inputs (gates_of s) (get_or (outputs_of s) x 0) ≡ get_or (run_block b inputs) x 0
  unfolding figure_at
  output_figure_lem x l =
      let agrees : Agrees inputs (plain_circuit s) (run_block b inputs) = rw (read_plain s b n read)
      (tree_figure (variables s) (kind_at s) b (read_typed s b n read) inputs fed) in
      agrees x (omega (arith, (plain_sound s b n read).count))

  -- all of them, in order
  pub output_figures : map (figure_at inputs (gates_of s)) (outputs_of s) ≡ run_block b inputs
  output_figures =
      let v : length (outputs_of s) ≡ variables s = (plain_sound s b n read).count in
      let m : length (map (figure_at inputs (gates_of s)) (outputs_of s)) ≡ length (outputs_of s) = length-map (outputs_of s) _ in
      ext_get_or 0 _ _ (m ∙ v ∙ sym fed ∙ sym (block_count b inputs))
      (λ x l. map_at (figure_at inputs (gates_of s)) (outputs_of s) x (omega arith) ∙ output_figure_lem x (omega arith))
