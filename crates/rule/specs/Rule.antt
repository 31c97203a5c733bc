-- Document 01, "The rule file" and "Refusals by place": rows 1 to 9 of a whole rule.
use Rattle.std.specs.Prelude.{ℕ, List, length, leb}
use Rattle.base.specs.Parsing.{Parsed, parsed, unless, ◌>>=◌}
use Rattle.rule.specs.Limits.{least_rule_bytes, most_rule_bytes, nested}
use Rattle.rule.specs.Header.{read_header}
use Rattle.rule.specs.Tree.{Block}
use Rattle.rule.specs.Blocks.{read_block}

-- the block ends the file
abbrev pub nothing_after : List ℕ → Block → ℕ → Parsed Block
nothing_after s b at = unless (leb (length s) at) 9 at (parsed b at)

-- 1 by its size; then byte by byte the header, a block, and nothing after it
unfoldable pub read_rule : List ℕ → Parsed Block
read_rule s =
    unless (leb least_rule_bytes (length s)) 1 0
    (unless (leb (length s) most_rule_bytes) 1 0
    (read_header s >>= λ _ at.
    read_block s nested at >>= λ b at.
    nothing_after s b at))
