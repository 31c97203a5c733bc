-- Document 01, "The fused circuit file": "The file's figures are worked out record by record"; document 02, C-11: "A pick with several guards at 1 gives the sum of their
-- values modulo 4,294,967,296, or modulo 2 for bits, as in the paper's formula". That on our own files it is the value whose guard is 1, else 0, is proved (`fused/specs/PickSums.antt`).
use Rattle.std.specs.Prelude.{ℕ, ◌+◌, ◌%◌, List, [], ◌∷◌, cond}
use Rattle.base.specs.Runs.{run_at}
use Rattle.base.specs.declared.Kind.{Kind}
use Rattle.base.specs.declared.Kind.TheVariants as kind
use Rattle.base.specs.Results.{is_one}
use Rattle.file.specs.Records.{Pair, Record, pick, record_figure}
use Rattle.file.specs.WireKinds.{record_kind, wire_kind}

-- how many figures a kind has
abbrev pub figures_in : Kind → ℕ
figures_in kind.Word = 4294967296
figures_in kind.Bit = 2

-- the sum of the values whose guards are 1, from the figures W of the wires
abbrev pub sum_figure : (ℕ → ℕ) → List Pair → ℕ
sum_figure W [] = 0
sum_figure W (p ∷ l) = cond (is_one (W p.guarding)) (W p.value) 0 + sum_figure W l

-- what a pick gives: that sum, modulo by the kind of its values; k: the kinds of the wires
unfoldable pub pick_sum : (ℕ → Kind) → (ℕ → ℕ) → List Pair → ℕ
pick_sum k W l = sum_figure W l % figures_in (record_kind k (pick l))

-- the figure of wire i
unfoldable pub wire_figure : List ℕ → List Record → ℕ → ℕ
wire_figure inputs R i = run_at 0 (record_figure inputs (pick_sum (wire_kind R))) R i
