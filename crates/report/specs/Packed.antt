-- Document 02, C-16, "What a month saved": a batch as it is made of its entries, and what is printed of any bytes, said without a reader.
use Rattle.std.specs.Prelude.{Bool, cond, not, ◌≡◌, ℕ, suc, ◌+◌, ◌<◌, eqb, length, take}
use mathlib.Core.List.{List, [], ◌∷◌, ◌++◌, map, flat_map}
use Rattle.base.specs.Numbers.{bytes_of}
use Rattle.base.specs.declared.Answer.{Answer}
use Rattle.fused.specs.Answers.{fused_answer}
use Rattle.report.specs.Line.{line_of}
use Rattle.report.specs.Total.{total_line}
use Rattle.report.specs.Batch.{batch_mark, head_bytes, refused75}

pub record Entry : Type 0 where
  pub rule : List ℕ
  pub plan : List ℕ

-- two bytes hold the length of its rule and that of its plan
abbrev pub Fits : Entry → Type 0
Fits e = (length e.rule < 65536) × (length e.plan < 65536)

abbrev pub AllFit : List Entry → Type 0
AllFit [] = Unit {0}
AllFit (e ∷ es) = Fits e × AllFit es

-- "a two-byte length with its rule and a two-byte length with its plan"
abbrev pub part_bytes : List ℕ → List ℕ
part_bytes b = bytes_of 2 (length b) ++ b

unfoldable pub entry_bytes : Entry → List ℕ
entry_bytes e = part_bytes e.rule ++ part_bytes e.plan

-- "42 41 54 ("BAT"), 00 01, a two-byte count, and for each entry" its bytes
abbrev pub head_of : ℕ → List ℕ
head_of n = batch_mark ++ bytes_of 2 n

unfoldable pub batch_of : List Entry → List ℕ
batch_of es = head_of (length es) ++ flat_map entry_bytes es

-- what the tool answers for each entry, and "document 01's line for each entry"
abbrev pub answer_to : Entry → Answer
answer_to e = fused_answer e.rule e.plan

unfoldable pub lines_of : List Entry → List ℕ
lines_of es = flat_map (λ e. line_of (answer_to e)) es

-- the answers that accept, those that refuse, and a cost of all of these
unfoldable pub accepts : Answer → Bool
accepts a = eqb a.number 0

abbrev pub refuses : Answer → Bool
refuses a = not (accepts a)

unfoldable pub among : (Answer → Bool) → List Answer → List Answer
among test [] = []
among test (a ∷ l) = cond (test a) (a ∷ among test l) (among test l)

unfoldable pub cost_of : (Answer → ℕ) → List Answer → ℕ
cost_of cost [] = 0
cost_of cost (a ∷ l) = cost a + cost_of cost l

-- "`total`, the entries accepted and refused, the accepted ones' cost before and after, and before less after"
unfoldable pub total_in : List Entry → List ℕ
total_in es =
    let answers = map answer_to es in
    let accepted = among accepts answers in
    total_line (length accepted) (length (among refuses answers)) (cost_of (λ a. a.before) accepted) (cost_of (λ a. a.after) accepted)

-- no whole entry stands at the start of x
abbrev pub NoEntry : List ℕ → Type 0
NoEntry x = (e : Entry) (y : List ℕ) → Fits e → x ≡ entry_bytes e ++ y → ⊥

-- what any bytes are: a batch of some entries; one with bytes left; one that ends "before .. all the entries it counts are whole", n + 1 of them
-- missing; bytes that end before a header is whole; or bytes with another mark or version
pub data Found : List ℕ → Type 0 where
  whole : (es : List Entry) → AllFit es → length es < 65536 → Found (batch_of es)
  left : (es : List Entry) → AllFit es → length es < 65536 → (b : ℕ) (x : List ℕ) → Found (batch_of es ++ (b ∷ x))
  missing : (es : List Entry) → AllFit es → (n : ℕ) → length es + suc n < 65536 → (x : List ℕ) → NoEntry x → Found (head_of (length es + suc n) ++ (flat_map entry_bytes es ++ x))
  short : (b : List ℕ) → length b < head_bytes → Found b
  other : (b : List ℕ) → (take 5 b ≡ batch_mark → ⊥) → Found b

-- what is printed of them
unfoldable pub printed_for : {b : List ℕ} → Found b → List ℕ
printed_for (whole es f n) = lines_of es ++ total_in es
printed_for (left es f n b x) = lines_of es ++ refused75
printed_for (missing es f n h x none) = lines_of es ++ refused75
printed_for (short b h) = refused75
printed_for (other b h) = refused75
