-- Rules that reading refuses, as they are answered: 3 at a kind byte (document 02, C-13), 8 at a ninth nested if (C-17).
use Rattle.std.specs.Prelude.{ℕ, ◌+◌, ◌≤◌, ◌<◌, ◌≡◌, List, ◌∷◌, ◌++◌, ◌↔◌, length, get_or, take}
use Rattle.std.proofs.Common.{arith}
use Rattle.base.specs.Numbers.{Bytes}
use Rattle.base.specs.Answers.{refusal}
use Rattle.rule.specs.Limits.{most_rule_bytes, most_variables, last_kind, nested}
use Rattle.rule.specs.Header.{mark, variables}
use Rattle.rule.specs.Format.{header_bytes}
use Rattle.rule.specs.KindLaws as kinds
use Rattle.rule.specs.NestedIfs.{Leads}
use Rattle.rule.proofs.NestedIfLaws as nested-ifs
use Rattle.rule.proofs.NinthIfLaws as ninth
use Rattle.circuit.specs.Whole.{rule_answer}
use Rattle.circuit.specs.WholeLaws.{answer_bytes, answer_from}

pub kind_refused : (s : List ℕ) → 6 ≤ length s → length s ≤ most_rule_bytes → take 5 s ≡ mark → 1 ≤ variables s → variables s ≤ most_variables
    → (x : ℕ) → x < variables s → 6 + x < length s → ((y : ℕ) → y < x → get_or s (6 + y) 0 ≤ last_kind) → (rule_answer s ≡ refusal 3 (6 + x)) ↔ (last_kind < get_or s (6 + x) 0)
kind_refused s lo hi marked some few x one there known =
    let (to, back) = kinds.kind_refused s lo hi marked some few x one there known in
    (λ e. to (answer_from s 3 (6 + x) (omega arith) (omega arith) e), λ h. answer_bytes s (back h))

pub ninth_nested : (kinds pre rest : List ℕ) → 1 ≤ length kinds → length kinds ≤ most_variables → ((x : ℕ) → x < length kinds → get_or kinds x 0 ≤ last_kind) → Leads kinds nested pre
    → length (header_bytes kinds ++ (pre ++ (0x03 ∷ rest))) ≤ most_rule_bytes
    → rule_answer (header_bytes kinds ++ (pre ++ (0x03 ∷ rest))) ≡ refusal 8 (length (header_bytes kinds ++ pre))
ninth_nested kinds pre rest some few known leads size = answer_bytes (header_bytes kinds ++ (pre ++ (0x03 ∷ rest))) (nested-ifs.ninth_nested kinds pre rest some few known leads size)

pub ninth_only : (s : List ℕ) → Bytes s → (place : ℕ) → rule_answer s ≡ refusal 8 place → get_or s place 0 ≡ 0x03
    → (kinds : List ℕ) × (pre : List ℕ) × (rest : List ℕ) × Leads kinds nested pre
    × (s ≡ header_bytes kinds ++ (pre ++ (0x03 ∷ rest))) × (place ≡ length (header_bytes kinds ++ pre))
ninth_only s bytes place e = ninth.ninth_only s bytes place (answer_from s 8 place (omega arith) (omega arith) e)
