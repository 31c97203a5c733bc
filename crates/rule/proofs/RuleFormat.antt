-- The rule's format decides what reading takes: which files pass rows 1 to 9, and to which tree each is read, said without a reader.
use Rattle.std.specs.Prelude.{ℕ, ◌≡◌, List, ◌↔◌, length}
use Rattle.std.proofs.Math.Path.{subst⁻¹}
use Rattle.base.specs.Numbers.{Bytes}
use Rattle.base.specs.Parsing.{parsed, IsRead}
use Rattle.base.specs.ParsingLaws.{is_read}
use Rattle.rule.specs.Tree.{Block}
use Rattle.rule.specs.Rule.{read_rule}
use Rattle.rule.specs.Format.{rule_bytes, kind_bytes, WellFormed}
use Rattle.rule.proofs.FoundRuleLaws.{read_bytes, read_well}
use Rattle.rule.proofs.BackRuleLaws.{well_back}

-- a well-formed rule's bytes are read, to the rule itself and to their end
pub rule_back : (kinds : List ℕ) (b : Block) → WellFormed kinds b → read_rule (rule_bytes kinds b) ≡ parsed b (length (rule_bytes kinds b))
rule_back kinds b w = well_back kinds b w

-- what is read is the tree of the file's bytes, and well-formed
pub rule_found : (s : List ℕ) → Bytes s → (b : Block) (n : ℕ) → read_rule s ≡ parsed b n → (s ≡ rule_bytes (kind_bytes s) b) × WellFormed (kind_bytes s) b
rule_found s bytes b n h = (read_bytes s b n h bytes, read_well s b n h bytes)

-- so a file is read exactly when it is a well-formed rule's
pub rule_format : (s : List ℕ) → Bytes s → IsRead (read_rule s) ↔ ((kinds : List ℕ) × (b : Block) × WellFormed kinds b × (s ≡ rule_bytes kinds b))
rule_format s bytes = (
  λ h. let r = is_read (read_rule s) h in let f = rule_found s bytes r.0 r.1 r.2 in (kind_bytes s, r.0, f.1, f.0),
  λ w. subst⁻¹ (λ (t : List ℕ). IsRead (read_rule t)) w.3 (subst⁻¹ IsRead (rule_back w.0 w.1 w.2) tt),
)
