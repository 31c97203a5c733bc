-- What a direct run writes: figures past the V variables change nothing, and the first V are the results.
use Rattle.std.specs.Prelude.{ℕ, ◌+◌, ◌≡◌, List, length, take, drop}
use Rattle.std.proofs.Common.{sym, ap, ◌∙◌, take_at}
use Rattle.base.specs.Buffers.{over}
use Rattle.base.specs.Parsing.{parsed, IsRead}
use Rattle.rule.specs.Limits.{nested}
use Rattle.rule.specs.Header.{variables, kind_at}
use Rattle.rule.specs.Tree.{Block}
use Rattle.rule.specs.Blocks.{read_block}
use Rattle.rule.specs.Rule.{read_rule}
use Rattle.rule.specs.FirstStatement.{rule_read}
use Rattle.circuit.specs.Running.{run_block, run_rule}
use Rattle.circuit.proofs.RunLaws.{block_count, block_pad}
use Rattle.rule.proofs.FoundRuleLaws.{read_typed}
use Rattle.circuit.proofs.StartLaws.{read_run}
use Rattle.run_walk.specs.Walking.{Ran}

-- the first V figures after the run of a rule that was read, its inputs over any figures d
pub results_are : (s inputs d : List ℕ) (b : Block) (n : ℕ) → read_rule s ≡ parsed b n → length inputs ≡ variables s
    → take (variables s) (run_block b (over inputs d)) ≡ run_rule s inputs
unfolding over
results_are s inputs d b n r l =
    ap (take (variables s)) (block_pad (variables s) (kind_at s) (drop (length inputs) d) b (read_typed s b n r) inputs l)
    ∙ take_at (run_block b inputs) _ (variables s) (block_count b inputs ∙ l)
    ∙ sym (read_run s b n r inputs)

-- so what the code runs, the block after the header, leaves them in its first V figures
pub rule_ran : (s inputs d f g : List ℕ) (n : ℕ) → IsRead (read_rule s) → length inputs ≡ variables s → f ≡ over inputs d
    → Ran run_block (read_block s nested (6 + variables s)) f n g → take (variables s) g ≡ run_rule s inputs
rule_ran s inputs d f g n h l e r =
    ap (take (variables s)) (r.figures ∙ ap (run_block r.what) e)
    ∙ results_are s inputs d r.what n ((rule_read s h).block ∙ r.read) l
