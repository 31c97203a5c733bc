-- Document 02, C-17, "Eight conditions": its sentences, each quoted above its theorems. s is a rule's bytes, p a plan's, f a circuit file's.
use Rattle.std.specs.Prelude.{ℕ, ◌+◌, ◌-◌, ◌*◌, ◌/◌, ◌%◌, ◌^◌, ◌≤◌, ◌<◌, ◌≡◌, refl, true, List, ◌∷◌, ◌++◌, map, ◌↔◌, length, take, get_or}
use Rattle.std.proofs.Common.{arith, sym, ◌∙◌}
use Rattle.base.specs.Lists.{◌∈◌}
use Rattle.base.specs.Numbers.{bytes_of, number_at, Bytes}
use Rattle.base.specs.Bits.{bit}
use Rattle.base.specs.BitByteLaws as tables
use Rattle.base.specs.Answers.{refusal}
use Rattle.base.specs.Parsing.{step_of, IsRead}
use Rattle.base.specs.Parsing.{Refused}
use Rattle.base.specs.Settings.{setting_of, number_of}
use Rattle.base.specs.Sets.{has, excludes, rests}
use Rattle.base.specs.Guards.{table}
use Rattle.base.proofs.GuardLaws as guards
use Rattle.base.specs.SetsHeldLaws as held
use Rattle.rule.specs.Tree.{Block}
use Rattle.rule.specs.Blocks.{read_statement}
use Rattle.rule.specs.Rule.{read_rule}
use Rattle.rule.specs.Format.{header_bytes, WellFormed, nesting}
use Rattle.rule.specs.NestedIfs.{Leads}
use Rattle.rule.proofs.NestedIfLaws as ifs
use Rattle.circuit.specs.Gates.{Gates, Earlier, conditions}
use Rattle.circuit.specs.PlainCircuit.{gates_of}
use Rattle.circuit_needed.specs.Needed.{Needed, wanted_of}
use Rattle.circuit_needed.specs.Pass.{precondition_of, rule_preconditions}
use Rattle.circuit_needed.specs.PreconditionLaws as preconditions
use Rattle.circuit.specs.Whole.{rule_answer}
use Rattle.plan.specs.Rows.{plan_answer}
use Rattle.file.specs.Versions.{one, two, most_guard_wires, table_bytes}
use Rattle.file.specs.Records.{Record, guard, record_in}
use Rattle.file.specs.CircuitFile.{mark, wires_bytes, record_bytes, file_bytes}
use Rattle.file.specs.FileFigures.{record_at, version_in, wire_count, file_records, file_figures}
use Rattle.file.specs.LaidOut.{record_place}
use Rattle.file.specs.CircuitRows.{headed}
use Rattle.file.specs.WellFormed as circuits
use Rattle.fused.specs.FusedCircuit.{records_of, fused_file}
use Rattle.fused.specs.SizeLimits.{most_bytes_of_two}
use Rattle.fused.specs.SizeBounds as sizes
use Rattle.fused.specs.Answers.{fused_answer, write_answer}
use Rattle.fused.specs.AnswerLaws as answers
use Rattle.file.specs.Answers.{circuit_answer}
use Rattle.demands.specs.Promises.{OneArray}
use Rattle.demands.specs.EightLaws as laws
use Rattle.demands.specs.VersionLaws as versions
use Rattle.demands.specs.ReadingLaws as rules

-- "Conditions go to 8 .. 11 .. the ninth condition": a rule that is read and has no gate too many is taken exactly when it has
-- at most eight conditions, and is 11 at its length else;
pub eight_taken : (s : List ℕ) → IsRead (read_rule s) → length (gates_of s) ≤ 256 → ((rule_answer s).number ≡ 0) ↔ (length (conditions (gates_of s)) ≤ 8)
eight_taken = laws.conditions_taken

pub ninth_condition : (s : List ℕ) → IsRead (read_rule s) → length (gates_of s) ≤ 256 → 8 < length (conditions (gates_of s)) → rule_answer s ≡ refusal 11 (length s)
ninth_condition = laws.conditions_refused

-- "and ifs nest to 8 .. Refusals 8 .. the ninth nested if": the trees of the rules that are read, which are the well-formed ones (`rule_format`, Demands), nest no deeper,
pub eight_nested : (kinds : List ℕ) (b : Block) → WellFormed kinds b → nesting b ≤ 8
eight_nested kinds b w = w.nests

-- and an if where as many are around it as may be is 8 at its code. (A rule's block is read with eight to go, and each if takes one.)
pub ninth_if : (s : List ℕ) (at : ℕ) → get_or s at 0 ≡ 0x03 → Refused 8 at ≡ step_of (read_statement s 0 at)
ninth_if = ifs.too_deep

-- So of a whole rule: where its bytes, after a right header, lead into eight ifs, one within another, and go on with 03, it is 8 at that byte, whatever follows.
pub ninth_nested : (kinds pre rest : List ℕ) → 1 ≤ length kinds → length kinds ≤ 32 → ((x : ℕ) → x < length kinds → get_or kinds x 0 ≤ 0x03) → Leads kinds 8 pre
    → length (header_bytes kinds ++ (pre ++ (0x03 ∷ rest))) ≤ 4096
    → rule_answer (header_bytes kinds ++ (pre ++ (0x03 ∷ rest))) ≡ refusal 8 (length (header_bytes kinds ++ pre))
ninth_nested = rules.ninth_nested

-- And no other if is 8: where 8 lies on a 03, the bytes before it lead into eight ifs.
pub ninth_only : (s : List ℕ) → Bytes s → (place : ℕ) → rule_answer s ≡ refusal 8 place → get_or s place 0 ≡ 0x03
    → (kinds : List ℕ) × (pre : List ℕ) × (rest : List ℕ) × Leads kinds 8 pre
    × (s ≡ header_bytes kinds ++ (pre ++ (0x03 ∷ rest))) × (place ≡ length (header_bytes kinds ++ pre))
ninth_only = rules.ninth_only

-- "so a precondition is a set of 256 settings. .. Facts about sets of settings are to be shown for any number of conditions and used at six and eight": for any number n, of
-- gates that have no more conditions, setting j is in a gate's precondition exactly when the gate is needed under it,
pub any_precondition : (C : Gates) (wanted : List ℕ) → Earlier C → ((g : ℕ) → g ∈ wanted → g < length C) → (n : ℕ) → length (conditions C) ≤ n → (g j : ℕ) → j < 2 ^ n
    → (has (precondition_of n C wanted g) j ≡ true) ↔ Needed C wanted (setting_of (conditions C) j) g
any_precondition = preconditions.precondition_right

-- so at eight for a rule that is taken;
pub own_precondition : (s : List ℕ) → (rule_answer s).number ≡ 0 → (g j : ℕ) → j < 256
    → (has (get_or (rule_preconditions s) g 0) j ≡ true) ↔ Needed (gates_of s) (wanted_of s) (setting_of (conditions (gates_of s)) j) g
own_precondition = laws.own_precondition

-- (and where code holds the preconditions in words, these are fixed by them;)
pub one_array : (sets : List ℕ) → OneArray sets
unfolding OneArray
one_array sets a b m n f g e h = held.sets_once a b 256 m n f g (e ∙ sym h)

-- and a guard's table has, at what its wires hold, the bit of the set;
pub any_guard : (n s j : ℕ) → j < 2 ^ n → has (table n s) (number_of (rests n s) (bit j)) ≡ has s j
any_guard = guards.guard_right

pub six_guard : (s j : ℕ) → j < 64 → has (table 6 s) (number_of (rests 6 s) (bit j)) ≡ has s j
six_guard = any_guard 6

pub eight_guard : (s j : ℕ) → j < 256 → has (table 8 s) (number_of (rests 8 s) (bit j)) ≡ has s j
eight_guard = any_guard 8

-- "example 1's patterns go on over 256 bits": of gates that have at most six conditions, the precondition over eight repeats that over six.
pub patterns_go_on : (C : Gates) (wanted : List ℕ) → Earlier C → ((g : ℕ) → g ∈ wanted → g < length C) → length (conditions C) ≤ 6 → (g j : ℕ) → j < 256
    → has (precondition_of 8 C wanted g) j ≡ has (precondition_of 6 C wanted g) (j % 64)
patterns_go_on C wanted earlier inside few = laws.pattern_repeats C wanted earlier inside 6 2 few

-- So nothing of such gates moves with the conditions there may be: the same gates exclude each other, a member rests on the same conditions, and its guard has the same table.
pub same_excludes : (C : Gates) (wanted : List ℕ) → Earlier C → ((g : ℕ) → g ∈ wanted → g < length C) → length (conditions C) ≤ 6 → (g h : ℕ)
    → excludes (precondition_of 8 C wanted g) (precondition_of 8 C wanted h) ≡ excludes (precondition_of 6 C wanted g) (precondition_of 6 C wanted h)
same_excludes C wanted earlier inside few = laws.same_excludes C wanted earlier inside 8 6 (omega (arith, few)) few

pub same_rests : (C : Gates) (wanted : List ℕ) → Earlier C → ((g : ℕ) → g ∈ wanted → g < length C) → length (conditions C) ≤ 6 → (g : ℕ)
    → map (λ t. get_or (conditions C) t 0) (rests 8 (precondition_of 8 C wanted g)) ≡ map (λ t. get_or (conditions C) t 0) (rests 6 (precondition_of 6 C wanted g))
same_rests C wanted earlier inside few = laws.same_rests C wanted earlier inside 8 6 (omega (arith, few)) few

pub same_table : (C : Gates) (wanted : List ℕ) → Earlier C → ((g : ℕ) → g ∈ wanted → g < length C) → length (conditions C) ≤ 6 → (g : ℕ)
    → table 8 (precondition_of 8 C wanted g) ≡ table 6 (precondition_of 6 C wanted g)
same_table C wanted earlier inside few = laws.same_table C wanted earlier inside 8 6 (omega (arith, few)) few

-- "A guard has up to 8 wires and a table of 32 bytes": its record in version 2, and the guards that are written,
pub guard_bytes : (cs : List ℕ) (t : ℕ) → record_bytes two (guard cs t) ≡ 0x32 ∷ length cs ∷ (wires_bytes cs ++ bytes_of 32 t)
guard_bytes cs t = refl

pub own_guards : (s p : List ℕ) → Bytes s → (plan_answer s p).number ≡ 0 → (i : ℕ) → i < length (records_of s p) → (cs : List ℕ) (t : ℕ) → record_in (records_of s p) i ≡ guard cs t
    → length cs ≤ 8
own_guards = versions.own_guards

-- "lowest setting in the lowest bit": bit j of a table of 32 bytes that begins at a place is bit j % 8 of the byte that j / 8 bytes follow.
pub lowest_last : (f : List ℕ) → Bytes f → (at j : ℕ) → at + 32 ≤ length f → j < 8 * 32
    → has (get_or f (at + (32 - 1 - j / 8)) 0) (j % 8) ≡ has (number_at 32 f at) j
lowest_last f bytes at j inside l = tables.bit_byte f bytes at 32 j inside l

-- "Circuits are written as version 00 02":
pub written_two : (s p : List ℕ) → take 5 (fused_file s p) ≡ mark two
written_two = versions.written_two

-- "and the reader takes both versions" (`circuit_format`, C11): another mark or version is 60,
pub other_version : (f : List ℕ) → (take 5 f ≡ mark one → ⊥) → (take 5 f ≡ mark two → ⊥) → circuit_answer f ≡ refusal 60 0
other_version = versions.other_version

-- "each with its own guard size .. 61 allows 8 guard wires in version 2": six wires and a table of 8 bytes in version 1, eight and 32 in version 2,
pub guard_sizes : (most_guard_wires one ≡ 6) × (table_bytes one ≡ 8) × (most_guard_wires two ≡ 8) × (table_bytes two ≡ 32)
guard_sizes = (refl, refl, refl, refl)

-- a wire more is 61, and the guards of a file that is read keep within them.
pub over_guard : (f : List ℕ) → headed f ≡ true → (i : ℕ) → i < wire_count f → (cs : List ℕ) (t : ℕ) → record_at f (record_place f i) ≡ guard cs t
    → most_guard_wires (version_in f) < length cs → circuit_answer f ≡ refusal 61 0
over_guard = versions.over_guard

pub guards_within : (f : List ℕ) → (circuit_answer f).number ≡ 0 → (i : ℕ) → i < length (file_records f) → (cs : List ℕ) (t : ℕ) → record_in (file_records f) i ≡ guard cs t
    → length cs ≤ most_guard_wires (version_in f)
guards_within = versions.guards_within

-- (What version 1 holds, version 2 holds too, where its longer tables leave it at most 16,384 bytes, and gives the same figures.)
pub one_in_two : (v : ℕ) (R : List Record) (outputs : List ℕ) → circuits.WellFormed one v R outputs → length (file_bytes two v R outputs) ≤ 16384
    → circuits.WellFormed two v R outputs
one_in_two = versions.one_in_two

pub same_figures : (v : ℕ) (R : List Record) (outputs : List ℕ) → circuits.WellFormed one v R outputs → circuits.WellFormed two v R outputs → (inputs : List ℕ)
    → file_figures (file_bytes one v R outputs) inputs ≡ file_figures (file_bytes two v R outputs) inputs
same_figures = versions.same_figures

-- "A file still fits in 16,384 bytes": at most 125 bytes to two gates, 16,072 in all, so a buffer of 16,384 is never too short.
pub two_gates : most_bytes_of_two ≡ 125
two_gates = refl

pub file_bytes_lem : (s p : List ℕ) → (plan_answer s p).number ≡ 0 → length (fused_file s p) ≤ 16072
file_bytes_lem = sizes.bytes_most

pub room_enough : (s p : List ℕ) → write_answer s p 16384 ≡ fused_answer s p
room_enough = answers.room_enough

-- "example 3 becomes 124 bytes": `example_3_picks` of `file` (C-18 makes it 114). "example 1's patterns go on over 256 bits", "example 10: eight accepted, nine 11": `Starred`
-- (examples), and `example_10` of `rule` and of `circuit` (WholeExamples).
