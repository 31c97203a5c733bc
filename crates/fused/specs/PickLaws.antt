-- The figures of a group's records: a gate alone has its gate's; a pick gives the value of the one member whose bit is 1; a joined group its operation's result on what each place gives.
use Rattle.std.specs.Prelude.{ℕ, suc, ◌+◌, ◌-◌, ◌<◌, ◌≡◌, refl, Bool, true, false, List, [], ◌∷◌, map, ◌⊎◌, length, get_or}
use Rattle.std.proofs.Common.{sym, ap, ◌∙◌, inl, inr, add-zero, zero-add, arith}
use Rattle.std.proofs.lemmas.Simd.{map-map}
use Rattle.base.specs.Lists.{◌∈◌, from, upto}
use Rattle.base.specs.TestLaws.{same?}
use Rattle.base.specs.Bits.{bit_of}
use Rattle.base.specs.declared.Operation.{Operation}
use Rattle.base.specs.Results.{is_one, result_on}
use Rattle.file.specs.Records.{Record, pick_figure, record_figure}
use Rattle.file.specs.RecordLaws.{Along, GivesFigure, Figured}
use Rattle.circuit.specs.Gates.{Gate, figure}
use Rattle.circuit.specs.Gates as gate
use Rattle.fused.specs.Emission.{alone, pairs, one_wire, joined}
use Rattle.fused.specs.JoinedParts.{behind_guards, joined_picks, joined_last, arguments_hold}

-- a list by its places
pub places_map : (f v : ℕ → ℕ) (l : List ℕ) → ((k : ℕ) → k < length l → f k ≡ v (get_or l k 0)) → map f (upto (length l)) ≡ map v l
places_map f v l h = go l 0 (λ k b. ap f (zero-add k) ∙ h k b)
  where
    go : (l : List ℕ) (i : ℕ) → ((k : ℕ) → k < length l → f (i + k) ≡ v (get_or l k 0)) → map f (from i (length l)) ≡ map v l
    go [] i h = refl
    go (a ∷ l) i h = cc (rw add-zero at (h 0 (omega arith)), go l (suc i) (λ k b. ap f (omega arith) ∙ h (suc k) (omega arith)))

-- a gate alone has the gate's figure of the figures of its arguments' wires
pub alone_figure : (inputs s : List ℕ) (W wire : ℕ → ℕ) (k : Gate) → record_figure inputs pick_figure W (alone s wire k) ≡ figure inputs (λ a. W (wire a)) k
alone_figure inputs s W wire (gate.start x) = refl
alone_figure inputs s W wire (gate.word n) = refl
alone_figure inputs s W wire (gate.bit b) = refl
alone_figure inputs s W wire (gate.operation op l) = ap (result_on op) (map-map W wire l)
alone_figure inputs s W wire (gate.choice c a b) = refl

-- a bit's number is 1 exactly when the bit is
pub is_bit_lem : (b : Bool) → is_one (bit_of b) ≡ b
is_bit_lem true = refl
is_bit_lem false = refl

module _ (W : ℕ → ℕ) (bit : ℕ → Bool) where
  -- the wires from n on hold the bits of the members
  abbrev pub Guarding : ℕ → List ℕ → Type 0
  Guarding n [] = Unit {0}
  Guarding n (m ∷ ms) = (W n ≡ bit_of (bit m)) × Guarding (suc n) ms

  -- so do the wires of guards F that give these bits
  pub guards_hold : (P : ℕ → Record → Type 0) (F : ℕ → Record) → ((i m : ℕ) → P i (F m) → W i ≡ bit_of (bit m))
      → (ms : List ℕ) (n : ℕ) → Along P n (map F ms) → Guarding n ms
  guards_hold P F h [] n g = tt
  guards_hold P F h (m ∷ ms) n (e, g) = (h n m e, guards_hold P F h ms (suc n) g)

  -- a pick gives the value of the one member whose bit is 1
  pub pick_one : (value : ℕ → ℕ) (ms : List ℕ) (n : ℕ) → Guarding n ms
      → (i : ℕ) → i ∈ ms → bit i ≡ true → ((m : ℕ) → m ∈ ms → (i ≡ m → ⊥) → bit m ≡ false)
      → pick_figure W (pairs n (map value ms)) ≡ W (value i)
  pick_one value [] n g i m t others = absurd m
  pick_one value (j ∷ ms) n (g, r) i m t others =
      go (same? i j) m (λ k. pick_one value ms (suc n) r i k t (λ a q. others a (inr q)))
    where
      first : is_one (W n) ≡ bit j
      first = ap is_one g ∙ is_bit_lem (bit j)

      go : (i ≡ j) ⊎ (i ≡ j → ⊥) → i ∈ (j ∷ ms) → (i ∈ ms → pick_figure W (pairs (suc n) (map value ms)) ≡ W (value i))
          → pick_figure W (pairs n (map value (j ∷ ms))) ≡ W (value i)
      go (inl e) q ih = let u : is_one (W n) ≡ true = first ∙ ap bit (sym e) ∙ t in rw u (ap (λ (a : ℕ). W (value a)) (sym e))
      go (inr f) (inl e) ih = absurd (f e)
      go (inr f) (inr k) ih = let u : is_one (W n) ≡ false = first ∙ others j (inl refl) f in rw u (ih k)

-- a joined group's last record is the operation's result on what each place gives: its pick, or the wire that all members have
pub joined_figure : (inputs : List ℕ) (W : ℕ → ℕ) (n : ℕ) (op : Operation) (guards : List Record) (F : ℕ → List ℕ) (ks : List ℕ) (g : ℕ → ℕ)
    → ((i : ℕ) → i ∈ ks → one_wire (F i) ≡ true → W (get_or (F i) 0 0) ≡ g i)
    → ((i : ℕ) → i ∈ ks → one_wire (F i) ≡ false → pick_figure W (pairs n (F i)) ≡ g i)
    → Figured inputs W n (joined n op guards (map F ks)) → W (n + length (joined n op guards (map F ks)) - 1) ≡ result_on op (map g ks)
joined_figure inputs W n op guards F ks g one other h =
    joined_last (GivesFigure inputs W) n op guards F ks h
    ∙ ap (result_on op)
    (arguments_hold W g (GivesFigure inputs W) n F ks (behind_guards n guards (map F ks)) one (λ i j m f e. e ∙ other i m f)
    (joined_picks (GivesFigure inputs W) n op guards F ks h))
