-- Figures and kinds: where records read earlier wires of the right kinds, and constants and inputs are of theirs, every wire's figure is of its kind.
-- So a pick with at most one guard at 1 gives the value whose guard is 1, else 0: the sum is not cut.
use Rattle.std.specs.Prelude.{ℕ, zero, suc, ◌%◌, ◌≤◌, ◌<◌, ◌≡◌, Bool, true, false, List, [], ◌∷◌, length, get_or}
use Rattle.std.proofs.Math.Path.{refl, ap}
use Rattle.std.proofs.Common.{subst, ◌∙◌, inl, inr, ⊎_elim, zero-add, arith}
use Rattle.std.proofs.Math.Nat.{zero-mod}
use Rattle.base.specs.Lists.{◌∈◌}
use Rattle.base.specs.ListLaws.{inside_list}
use Rattle.base.specs.RunLaws.{run_at_past}
use Rattle.base.specs.TestLaws.{split}
use Rattle.base.specs.Bits.{bit_of}
use Rattle.base.specs.Settings.{number_of}
use Rattle.base.specs.Sets.{has}
use Rattle.base.specs.Codes.{Fits}
use Rattle.base.specs.Results.{is_one}
use Rattle.base.specs.ResultLaws.{result_fits}
use Rattle.base.specs.declared.Kind.{Kind}
use Rattle.base.specs.declared.Kind.TheVariants as kind
use Rattle.file.specs.Records.{Pair, Record, input, word, bit, operation, choice, pick, guard, reads, record_in, ReadsEarlier, pick_figure, record_figure}
use Rattle.file.specs.Versions.{Version}
use Rattle.file.specs.WireKinds.{values_of, record_kind, wire_kind, AllOf, RecordFits}
use Rattle.file.specs.WireFigures.{figures_in, sum_figure, pick_sum, wire_figure}
use Rattle.file.specs.FitRecords.{ReadsBack, AllReadBack}
use Rattle.file.specs.LaidOut.{Bounded}
use Rattle.file.specs.RecordLaws.{along_each, wires_right, GivesFigure, Figured}
use Rattle.file.specs.WireKindLaws.{kinds_right}
use Rattle.file.specs.Sums.{guards_at_one}
use Rattle.file.specs.SumLaws.{sum_pick, OneGuard}

-- a number modulo the figures of a kind is of that kind; a figure of that kind is not changed by it
modulo_fits : (j : Kind) (n : ℕ) → Fits j (n % figures_in j)
modulo_fits kind.Word n = omega arith
modulo_fits kind.Bit n = omega arith

fits_modulo : (j : Kind) (n : ℕ) → Fits j n → n % figures_in j ≡ n
fits_modulo kind.Word n h = omega arith
fits_modulo kind.Bit n h = omega arith

-- a guard's figure is a bit
bit_fits : (b : Bool) → bit_of b ≤ 1
bit_fits true = omega arith
bit_fits false = omega arith

-- k: the kinds of the wires, W: their figures
module _ (k : ℕ → Kind) (W : ℕ → ℕ) where
  -- so is the value whose guard is 1, else 0, where the values are of one kind
  pick_whole : (j : Kind) (l : List Pair) → AllOf k j (values_of l) → ((w : ℕ) → w ∈ values_of l → Fits (k w) (W w)) → pick_figure W l % figures_in j ≡ pick_figure W l
  pick_whole j [] a f = zero-mod (figures_in j)
  pick_whole j (p ∷ l) a f =
      split (is_one (W p.guarding))
      (λ t. rw t (fits_modulo j (W p.value) (subst (λ (i : Kind). Fits i (W p.value)) (a p.value (inl refl)) (f p.value (inl refl)))))
      (λ t. rw t (pick_whole j l (λ w m. a w (inr m)) (λ w m. f w (inr m))))

  -- with at most one guard at 1 a pick gives that value
  pub sum_value : (l : List Pair) → guards_at_one W l ≤ 1 → RecordFits k (pick l) → ((w : ℕ) → w ∈ values_of l → Fits (k w) (W w)) → pick_sum k W l ≡ pick_figure W l
  unfolding pick_sum
  sum_value l one (_, a) f =
      let j = record_kind k (pick l) in
      ap (λ (n : ℕ). n % figures_in j) (sum_pick W l one) ∙ pick_whole j l a f

  -- a record's figure is of its kind, if those that it reads are of theirs
  record_fits : (ver : Version) (inputs : List ℕ) (r : Record) → RecordFits k r → Bounded ver r → ReadsBack ver r → ((j : Kind) (x : ℕ) → r ≡ input j x → Fits j (get_or inputs x 0))
      → ((a : ℕ) → a ∈ reads r → Fits (k a) (W a)) → Fits (record_kind k r) (record_figure inputs (pick_sum k) W r)
  unfolding pick_sum
  record_fits ver inputs (input j x) h b n i f = i j x refl
  record_fits ver inputs (word c) h b n i f = n
  record_fits ver inputs (bit c) h b n i f = b
  record_fits ver inputs (operation op l) h b n i f = result_fits op _ _
  record_fits ver inputs (choice c x y) (_, e) b n i f =
      split (is_one (W c)) (λ t. rw t (f x (inr (inl refl)))) (λ t. rw t (subst (λ (j : Kind). Fits j (W y)) e (f y (inr (inr (inl refl))))))
  record_fits ver inputs (pick l) h b n i f = modulo_fits (record_kind k (pick l)) (sum_figure W l)
  record_fits ver inputs (guard cs t) h b n i f = bit_fits (has t (number_of cs (λ c. is_one (W c))))

  -- and where a pick has at most one guard at 1, it is the figure that document 01 gives
  record_picked : (inputs : List ℕ) (i : ℕ) (r : Record) → RecordFits k r → OneGuard W i r → ((a : ℕ) → Fits (k a) (W a))
      → record_figure inputs (pick_sum k) W r ≡ record_figure inputs pick_figure W r
  record_picked inputs i (input j x) h o f = refl
  record_picked inputs i (word c) h o f = refl
  record_picked inputs i (bit c) h o f = refl
  record_picked inputs i (operation op l) h o f = refl
  record_picked inputs i (choice c x y) h o f = refl
  record_picked inputs i (pick l) h o f = sum_value l o h (λ w _. f w)
  record_picked inputs i (guard cs t) h o f = refl

back_at : (ver : Version) (R : List Record) → AllReadBack ver R → (i : ℕ) → i < length R → ReadsBack ver (record_in R i)
back_at ver [] h i l = absurd (omega arith)
back_at ver (r ∷ R) (h, _) zero l = h
back_at ver (r ∷ R) (_, h) (suc i) l = back_at ver R h i (omega arith)

module _ (ver : Version) (inputs : List ℕ) (R : List Record) (earlier : ReadsEarlier R) (kinds : (i : ℕ) → i < length R → RecordFits (wire_kind R) (record_in R i))
    (bounded : (i : ℕ) → i < length R → Bounded ver (record_in R i)) (back : AllReadBack ver R)
    (given : (i : ℕ) (k : Kind) (x : ℕ) → record_in R i ≡ input k x → Fits k (get_or inputs x 0)) where
  -- past the last record: 0, a word
  past_fits : (i : ℕ) → length R ≤ i → Fits (wire_kind R i) (wire_figure inputs R i)
  unfolding wire_kind wire_figure
  past_fits i l =
      rw (run_at_past kind.Word record_kind R i l, run_at_past 0 (record_figure inputs (pick_sum (wire_kind R))) R i l) (omega arith)

  here_fits : (i : ℕ) → i < length R → ((a : ℕ) → a ∈ reads (record_in R i) → Fits (wire_kind R a) (wire_figure inputs R a)) → Fits (wire_kind R i) (wire_figure inputs R i)
  here_fits i l f =
      rw (kinds_right R earlier i l, wires_right inputs R earlier i l)
      (record_fits (wire_kind R) (wire_figure inputs R) ver inputs (record_in R i) (kinds i l) (bounded i l) (back_at ver R back i l) (given i) f)

  below_fits : (n i : ℕ) → i < n → Fits (wire_kind R i) (wire_figure inputs R i)
  below_fits zero i h = absurd (omega arith)
  below_fits (suc n) i h = ⊎_elim (λ l. here_fits i l (λ a m. below_fits n a (omega (arith, earlier i a m)))) (λ l. past_fits i l) (inside_list R i)

  -- every wire's figure is of its kind
  pub wire_fits : (i : ℕ) → Fits (wire_kind R i) (wire_figure inputs R i)
  wire_fits i = below_fits (suc i) i (omega arith)

  -- and where at most one guard of each pick is 1, each pick gives the value whose guard is 1, else 0
  pub wires_figured : ((i : ℕ) → i < length R → OneGuard (wire_figure inputs R) i (record_in R i)) → Figured inputs (wire_figure inputs R) 0 R
  wires_figured one =
      along_each (GivesFigure inputs (wire_figure inputs R)) R 0
      (λ i l. rw zero-add
      (wires_right inputs R earlier i l ∙ record_picked (wire_kind R) (wire_figure inputs R) inputs i (record_in R i) (kinds i l) (one i l) wire_fits))
