-- Document 02, C-16, "What a month saved": its sentences, each quoted above its theorems. b is any bytes as a batch, e an entry (a rule and a plan), es the entries of a batch.
use Rattle.std.specs.Prelude.{ℕ, ◌-◌, ◌≤◌, ◌<◌, ◌≡◌, ◌⊎◌, length, take}
use Rattle.std.proofs.Common.{arith, sym, ap}
use mathlib.Core.List.{List, ◌∷◌, ◌++◌, map, flatten}
use Rattle.base.specs.Numbers.{Bytes}
use Rattle.base.specs.Answers.{refusal}
use Rattle.circuit.specs.Whole.{rule_answer}
use Rattle.fused.specs.Answers.{write_answer}
use Rattle.fused.specs.AnswerLaws as answers
use Rattle.report.specs.Line.{decimal, spaced, line_of}
use Rattle.report.specs.Total.{spaced_less}
use Rattle.report.specs.TotalLaws as totals
use Rattle.report.specs.declared.Progress.TheVariants.{Stopped}
use Rattle.report.specs.Batch.{report_of}
use Rattle.report.specs.Packed.{Entry, Fits, AllFit, entry_bytes, batch_of, answer_to, lines_of, accepts, among, cost_of, total_in, NoEntry, Found, printed_for}
use Rattle.report.specs.Steps.{feed_all, start, fed}
use Rattle.report.specs.Limits.{most_line}
use Rattle.report.specs.FoundLaws as found
use Rattle.report.specs.FeedLaws as feeding
use Rattle.report.specs.HeldLaws as held
use Rattle.report.specs.BoundLaws as bounds
use Rattle.demands.specs.BatchLaws as limits

-- "A batch .. is 42 41 54 ("BAT"), 00 01, a two-byte count, and for each entry a two-byte length with its rule and a two-byte length with its plan. A second program ..
-- prints document 01's line for each entry, then `total`, the entries accepted and refused, the accepted ones' cost before and after, and before less after, ..":
pub whole_report : (es : List Entry) → AllFit es → length es < 65536 → report_of (batch_of es) ≡ lines_of es ++ total_in es
whole_report = found.whole_report

-- "which may be negative": the last number of the total, behind its space, has a sign then, and none else.
pub saved : (before after : ℕ) → after ≤ before → spaced_less before after ≡ spaced (before - after)
saved = totals.less_positive

pub lost : (before after : ℕ) → before < after → spaced_less before after ≡ 32 ∷ 45 ∷ decimal (after - before)
lost = totals.less_negative

-- "75 when the mark or version is wrong, the batch ends before its header and all the entries it counts are whole, or bytes are left": any bytes are a batch or one of these,
pub batch_sorts : (b : List ℕ) → Bytes b → Found b
batch_sorts = found.every_found

-- "the lines of the entries that are whole before that are printed, then `refused 75` and no total": what is printed of each sort is the report.
pub sort_report : (b : List ℕ) → Bytes b → (f : Found b) → report_of b ≡ printed_for f
sort_report = found.found_report

-- (An entry that is cut, wherever that is, is no whole one.)
pub cut_entry : (e : Entry) → Fits e → (k : ℕ) → k < length (entry_bytes e) → NoEntry (take k (entry_bytes e))
cut_entry = found.cut_entry

-- "document 01's line for each entry": the one that the first program prints, which writes the circuit to a buffer of 16,384 bytes. ("writes no circuit": `fused_write::count`
-- is lent no buffer.)
pub entry_line : (e : Entry) → line_of (answer_to e) ≡ line_of (write_answer e.rule e.plan 16384)
entry_line e = ap line_of (sym (answers.room_enough e.rule e.plan))

-- "A rule or plan over its limit gets its refusal and is skipped": the refusal; `whole_report`, where a rule or plan may have 65,535 bytes, has the next entry's line behind
-- it. (A refused rule goes before its plan, whatever that is.)
pub rule_over : (e : Entry) → 4096 < length e.rule → answer_to e ≡ refusal 1 0
rule_over = limits.rule_over

pub plan_over : (e : Entry) → (rule_answer e.rule).number ≡ 0 → 1024 < length e.plan → answer_to e ≡ refusal 20 0
plan_over = limits.plan_over

pub rule_first : (e : Entry) → ((rule_answer e.rule).number ≡ 0 → ⊥) → answer_to e ≡ rule_answer e.rule
rule_first = limits.rule_first

-- "The batch need not fit in memory": in whatever pieces it comes, and whatever room there is for lines, so long as one fits, what is printed is its report;
pub any_pieces : (room : ℕ) → most_line ≤ room → (pieces : List (List ℕ)) → fed room pieces ≡ report_of (flatten pieces)
any_pieces = feeding.fed_report

-- once nothing more can change the report, reading may end;
pub nothing_more : (room : ℕ) (pieces : List (List ℕ)) → (feed_all room start pieces).progress ≡ Stopped → (x : List ℕ)
    → report_of (flatten pieces ++ x) ≡ fed room pieces
nothing_more = feeding.fed_stopped

-- until then fewer bytes are at hand after each piece than the longest entry has;
pub few_held : (room : ℕ) → most_line ≤ room → (pieces : List (List ℕ)) → Bytes (flatten pieces)
    → ((feed_all room start pieces).progress ≡ Stopped) ⊎ (length (feed_all room start pieces).held < 131074)
few_held = held.fed_held

-- and 32 bits hold the costs of every batch.
pub costs_fit : (es : List Entry) → length es < 65536
    → (cost_of (λ a. a.before) (among accepts (map answer_to es)) < 4294967296) × (cost_of (λ a. a.after) (among accepts (map answer_to es)) < 4294967296)
costs_fit es h = (omega (arith, bounds.before_small es), omega (arith, bounds.after_small es))
