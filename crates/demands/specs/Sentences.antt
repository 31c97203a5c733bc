-- Document 01: sentences of its own beside the demands, each quoted above its theorems. s is a rule's bytes, p a plan's, f a circuit file's.
use Rattle.std.specs.Prelude.{ℕ, ◌+◌, ◌≤◌, ◌<◌, ◌≡◌, List, length, get_or}
use Rattle.base.specs.Numbers.{Bytes, Words}
use Rattle.base.specs.Settings.{setting_of}
use Rattle.circuit.specs.Whole.{rule_answer}
use Rattle.run.specs.Direct.{run_answer, run_results}
use Rattle.run.specs.DirectLaws as direct
use Rattle.circuit.specs.PlainCircuit.{gate_count}
use Rattle.plan.specs.PlanFile.{groups_in, Rising}
use Rattle.plan.specs.Groups.{group_of}
use Rattle.plan.specs.ListedLaws as listed
use Rattle.plan.specs.Rows.{plan_answer}
use Rattle.plan.proofs.AcceptedLaws as plans
use Rattle.file.specs.Records.{record_in}
use Rattle.file.specs.FileFigures.{wire_count}
use Rattle.fused.specs.FusedCircuit.{records_of, wire_of, fused_file}
use Rattle.fused.specs.JoinedGates.{joined_with, picks_with}
use Rattle.fused.specs.SizeBounds as sizes
use Rattle.fused.specs.Answers.{fused_answer, write_answer}
use Rattle.fused.specs.AnswerLaws as answers
use Rattle.run.specs.FusedRun.{fused_results}
use Rattle.file.specs.Answers.{circuit_run_answer, circuit_run_results}
use Rattle.demands.specs.Promises.{RunWritten, FileWritten}
use Rattle.demands.specs.WrittenRunLaws as written
use Rattle.demands.specs.SentenceLaws as laws
use Rattle.demands.specs.GuardTables.{Gives, MemberGuard}
use Rattle.demands.specs.GuardTableLaws as guards

-- "A larger one is: for each member, rising, a guard over the conditions it rests on, rising, whose table bit j is 1 when the member is needed under the settings that give those
-- conditions, in that order, the bits of j, else 0, table bits above the first 2^d zero": of an accepted plan, where gate m is joined and its group has a pick (C-18: else it has no
-- guards), its members rise, and the first of its records, from wire n on, are their guards, each as that sentence has it; the picks and the operation follow (`group_records_lem`, C18).
pub members_rise : (s p : List ℕ) (m : ℕ) → Rising (joined_with s p m)
members_rise s p m = listed.members_rise (gate_count s) (group_of (groups_in p)) (group_of (groups_in p) m)

pub guard_records : (s p : List ℕ) → (plan_answer s p).number ≡ 0 → (m : ℕ) → m < gate_count s → 2 ≤ length (joined_with s p m) → 0 < picks_with s p m
    → (n : ℕ) × (wire_of s p m ≡ n + length (joined_with s p m) + picks_with s p m)
    × ((i : ℕ) → i < length (joined_with s p m) → MemberGuard s p (get_or (joined_with s p m) i 0) (record_in (records_of s p) (n + i)))
guard_records = guards.guards_stand

-- (For every j some setting gives them its bits, so every bit of the table is told.)
pub bits_given : (conds : List ℕ) → Rising conds → (j : ℕ) → Gives (setting_of conds j) conds j
bits_given = guards.bits_given

-- "At most 640 wires": of an accepted plan, the records, and the wires that the file itself counts;
pub most_wires_lem : (s p : List ℕ) → (plan_answer s p).number ≡ 0 → length (records_of s p) ≤ 640
most_wires_lem = sizes.wires_bound

pub most_counted : (s p : List ℕ) → Bytes s → (plan_answer s p).number ≡ 0 → wire_count (fused_file s p) ≤ 640
most_counted = laws.wires_counted

-- "16,384 bytes always suffice": a buffer of so many bytes or more is never too short (`file_bytes_lem`, C17: no file has more than 16,072).
pub bytes_suffice : (s p : List ℕ) (room : ℕ) → 16384 ≤ room → write_answer s p room ≡ fused_answer s p
bytes_suffice = laws.room_suffices

-- "Rule comes before plan, plan before inputs or buffer": a refused rule's answer is that of the plan's check, of writing, of a direct run and of a run of the fused circuit,
-- whatever the plan, the inputs and the buffers are,
pub rule_before_plan : (s p : List ℕ) → ((rule_answer s).number ≡ 0 → ⊥) → plan_answer s p ≡ rule_answer s
rule_before_plan = plans.answer_rule

pub rule_before_buffer : (s p : List ℕ) → ((rule_answer s).number ≡ 0 → ⊥) → (room : ℕ) → write_answer s p room ≡ rule_answer s
rule_before_buffer = laws.rule_before_writing

pub rule_before_inputs : (s : List ℕ) → ((rule_answer s).number ≡ 0 → ⊥) → (inputs : List ℕ) (room : ℕ) → run_answer (rule_answer s) s inputs room ≡ rule_answer s
rule_before_inputs s h inputs = direct.rule_answer_lem (rule_answer s) s inputs h

pub rule_before_fused : (s p : List ℕ) → ((rule_answer s).number ≡ 0 → ⊥) → (inputs : List ℕ) (room : ℕ) → run_answer (fused_answer s p) s inputs room ≡ rule_answer s
rule_before_fused = laws.rule_before_running

-- and a refused plan's is that of writing and of a run of the fused circuit (`fused_run_answered`, Demands: its `stands`).
pub plan_before_buffer : (s p : List ℕ) (room : ℕ) → ((plan_answer s p).number ≡ 0 → ⊥) → write_answer s p room ≡ plan_answer s p
plan_before_buffer = answers.write_refused

-- "It writes the first V results, .. and nothing after": a direct run, a run of the fused circuit (on a rule's bytes and inputs that are words, as all that arrive are),
pub run_written : (s inputs results : List ℕ) → (run_answer (rule_answer s) s inputs (length results)).number ≡ 0
    → RunWritten s inputs results (run_results (rule_answer s) s inputs results)
run_written = written.run_written

pub fused_run_written : (s p inputs results : List ℕ) → Bytes s → Words inputs → (run_answer (fused_answer s p) s inputs (length results)).number ≡ 0
    → RunWritten s inputs results (fused_results s p inputs results)
fused_run_written = written.fused_written

-- and a run of a circuit file. ("or the file": `file_fixed`, Demands.)
pub circuit_run_written : (f inputs results : List ℕ) → (circuit_run_answer f inputs (length results)).number ≡ 0
    → FileWritten f inputs results (circuit_run_results f inputs results)
circuit_run_written = written.file_written
