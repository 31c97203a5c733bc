-- Records: a record's figure reads only the wires that it names; records that read only earlier wires are each worked out from them.
use Rattle.std.specs.Prelude.{ℕ, zero, suc, ◌+◌, ◌%◌, ◌≤◌, ◌<◌, ◌≡◌, refl, List, [], ◌∷◌, ◌++◌, map, length}
use Rattle.std.proofs.Common.{ap, inl, inr, add-zero, zero-add, add-suc, suc-add, arith}
use Rattle.base.specs.Lists.{◌∈◌}
use Rattle.base.specs.ListLaws.{map_same}
use Rattle.base.specs.RunLaws.{run_right}
use Rattle.base.specs.Bits.{bit_of}
use Rattle.base.specs.Sets.{has}
use Rattle.base.specs.SettingLaws.{number_of_agree}
use Rattle.base.specs.declared.Kind.{Kind}
use Rattle.base.specs.Results.{is_one, result_on}
use Rattle.file.specs.Records.{Pair, Record, input, word, bit, operation, choice, pick, guard, pair_wires, reads, record_in, ReadsEarlier, pick_figure, record_figure}
use Rattle.file.specs.WireKinds.{record_kind, wire_kind}
use Rattle.file.specs.WireFigures.{figures_in, sum_figure, pick_sum, wire_figure}

-- what a pick gives reads only the wires of its pairs
abbrev pub ReadsPairs : ((ℕ → ℕ) → List Pair → ℕ) → Type 0
ReadsPairs picked = (v w : ℕ → ℕ) (l : List Pair) → ((a : ℕ) → a ∈ pair_wires l → v a ≡ w a) → picked v l ≡ picked w l

pub pick_same : ReadsPairs pick_figure
pick_same v w [] h = refl
pick_same v w (p ∷ l) h = rw (h p.guarding (inl refl), h p.value (inr (inl refl)), pick_same v w l (λ a m. h a (inr (inr m))))

sum_same : ReadsPairs sum_figure
sum_same v w [] h = refl
sum_same v w (p ∷ l) h = rw (h p.guarding (inl refl), h p.value (inr (inl refl)), sum_same v w l (λ a m. h a (inr (inr m))))

pub picks_same : (k : ℕ → Kind) → ReadsPairs (pick_sum k)
unfolding pick_sum
picks_same k v w l h = ap (λ (n : ℕ). n % figures_in (record_kind k (pick l))) (sum_same v w l h)

-- a record's figure reads only the wires that the record names
module _ (inputs : List ℕ) (picked : (ℕ → ℕ) → List Pair → ℕ) (same : ReadsPairs picked) (v w : ℕ → ℕ) where
  pub record_same : (r : Record) → ((a : ℕ) → a ∈ reads r → v a ≡ w a) → record_figure inputs picked v r ≡ record_figure inputs picked w r
  record_same (input k x) h = refl
  record_same (word n) h = refl
  record_same (bit b) h = refl
  record_same (operation op l) h = ap (result_on op) (map_same v w l h)
  record_same (choice c a b) h = rw (h c (inl refl), h a (inr (inl refl)), h b (inr (inr (inl refl))))
  record_same (pick l) h = same v w l h
  record_same (guard cs t) h =
      ap (λ (j : ℕ). bit_of (has t j)) (number_of_agree cs (λ c. is_one (v c)) (λ c. is_one (w c)) (λ c m. ap is_one (h c m)))

-- P holds of every record with its number, the first of them being numbered n
module _ (P : ℕ → Record → Type 0) where
  abbrev pub Along : ℕ → List Record → Type 0
  Along n [] = Unit {0}
  Along n (r ∷ R) = P n r × Along (suc n) R

  pub along_append : (R S : List Record) (n : ℕ) → Along n R → Along (n + length R) S → Along n (R ++ S)
  along_append [] S n h k = rw add-zero at k
  along_append (r ∷ R) S n (h, q) k = (h, along_append R S (suc n) q (rw (add-suc, ← suc-add) at k))

  pub along_left : (R S : List Record) (n : ℕ) → Along n (R ++ S) → Along n R
  along_left [] S n h = tt
  along_left (r ∷ R) S n (h, k) = (h, along_left R S (suc n) k)

  pub along_right : (R S : List Record) (n : ℕ) → Along n (R ++ S) → Along (n + length R) S
  along_right [] S n h = rw add-zero h
  along_right (r ∷ R) S n (h, k) = rw (add-suc, ← suc-add) (along_right R S (suc n) k)

  pub along_each : (R : List Record) (n : ℕ) → ((j : ℕ) → j < length R → P (n + j) (record_in R j)) → Along n R
  along_each [] n h = tt
  along_each (r ∷ R) n h =
      (rw add-zero at (h 0 (omega arith)), along_each R (suc n) (λ j l. let e : suc n + j ≡ n + suc j = omega arith in rw e (h (suc j) (omega arith))))

  pub along_at : (R : List Record) (n : ℕ) → Along n R → (j : ℕ) → j < length R → P (n + j) (record_in R j)
  along_at [] n h j l = absurd (omega arith)
  along_at (r ∷ R) n (h, k) zero l = rw add-zero h
  along_at (r ∷ R) n (h, k) (suc j) l = let e : n + suc j ≡ suc n + j = omega arith in rw e (along_at R (suc n) k j (omega arith))

  -- of records made from a list of numbers
  pub along_map : (F : ℕ → Record) (l : List ℕ) (n k : ℕ) → n ≤ k → ((i : ℕ) → i ∈ l → (j : ℕ) → n ≤ j → P j (F i)) → Along k (map F l)
  along_map F [] n k h b = tt
  along_map F (i ∷ l) n k h b = (b i (inl refl) k h, along_map F l n (suc k) (omega arith) (λ j m. b j (inr m)))

-- what holds along the records, wherever each of them stands, and of a constant holds of the record of every wire
pub along_any : (P : Record → Type 0) (R : List Record) (n : ℕ) → Along (λ i. P) n R → P (word 0) → (j : ℕ) → P (record_in R j)
along_any P [] n h d j = d
along_any P (r ∷ R) n (h, k) d zero = h
along_any P (r ∷ R) n (h, k) d (suc j) = along_any P R (suc n) k d j

-- record i reads only earlier wires; so does each of the records
abbrev pub ReadsBefore : ℕ → Record → Type 0
ReadsBefore i r = (a : ℕ) → a ∈ reads r → a < i

abbrev pub Below : ℕ → List Record → Type 0
Below n R = Along ReadsBefore n R

-- past the last record nothing is read
past_reads : (R : List Record) (i w : ℕ) → w ∈ reads (record_in R i) → i < length R
past_reads [] i w m = absurd m
past_reads (r ∷ R) zero w m = omega arith
past_reads (r ∷ R) (suc i) w m = omega (arith, past_reads R i w m)

-- numbered from 0 that is ReadsEarlier
pub below_earlier : (R : List Record) → Below 0 R → ReadsEarlier R
below_earlier R b i w m = rw zero-add at (along_at ReadsBefore R 0 b i (past_reads R i w m)) w m

-- the figure of every wire is its record's figure of the figures of all wires
pub wires_right : (inputs : List ℕ) (R : List Record) → ReadsEarlier R
    → (i : ℕ) → i < length R → wire_figure inputs R i ≡ record_figure inputs (pick_sum (wire_kind R)) (wire_figure inputs R) (record_in R i)
unfolding wire_figure
wires_right inputs R e =
    run_right 0 (record_figure inputs (pick_sum (wire_kind R))) (word 0) R
    (λ j v w s. record_same inputs (pick_sum (wire_kind R)) (picks_same (wire_kind R)) v w (record_in R j) (λ a m. s a (rw zero-add (e j a m))))

-- W gives record i its figure, and each of the records, a pick being the value whose guard is 1, else 0
abbrev pub GivesFigure : List ℕ → (ℕ → ℕ) → ℕ → Record → Type 0
GivesFigure inputs W i r = W i ≡ record_figure inputs pick_figure W r

abbrev pub Figured : List ℕ → (ℕ → ℕ) → ℕ → List Record → Type 0
Figured inputs W n R = Along (GivesFigure inputs W) n R
