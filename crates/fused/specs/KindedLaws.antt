-- The kinds of a group's records: a gate alone is of its gate's kind; in a joined group guards are bits, and picks and wires that all members have what the operation takes.
use Rattle.std.specs.Prelude.{ℕ, suc, ◌+◌, ◌-◌, ◌≡◌, refl, false, List, [], ◌∷◌, map, length, get_or, drop}
use Rattle.std.proofs.Common.{sym, ap, ◌∙◌, inl, inr, arith}
use Rattle.base.specs.Lists.{◌∈◌, from}
use Rattle.base.specs.MemberLaws.{map_in}
use Rattle.base.specs.Codes.{entry_of}
use Rattle.base.specs.declared.Kind.{Kind}
use Rattle.base.specs.declared.Kind.TheVariants as kind
use Rattle.base.specs.declared.Operation.{Operation}
use Rattle.rule.specs.Header.{kind_at}
use Rattle.circuit.specs.Gates.{Gate, arguments}
use Rattle.circuit.specs.Gates as gate
use Rattle.circuit.specs.GateKinds.{gate_kind, GateFits}
use Rattle.file.specs.Records.{Record, pick}
use Rattle.file.specs.WireKinds.{guards_of, values_of, record_kind, AllOf, RecordFits}
use Rattle.file.specs.WireKindLaws.{GivesKind, KindsGiven}
use Rattle.file.specs.RecordLaws.{Along, along_map}
use Rattle.fused.specs.Emission.{alone, pairs, one_wire, joined}
use Rattle.fused.specs.JoinedParts.{behind_guards, operation_reads, joined_along, joined_guards, joined_picks, joined_last, arguments_hold}
use Rattle.fused.specs.PlaceLaws.{one_wire_in}

-- record i fits the kinds k, wherever it stands
abbrev pub FitsAt : (ℕ → Kind) → ℕ → Record → Type 0
FitsAt k i r = RecordFits k r

-- a gate alone is of its gate's kind, and fits where its gate does
pub alone_kind : (s : List ℕ) (k : ℕ → Kind) (wire : ℕ → ℕ) (g : Gate) → record_kind k (alone s wire g) ≡ gate_kind (kind_at s) (λ a. k (wire a)) g
alone_kind s k wire (gate.start x) = refl
alone_kind s k wire (gate.word n) = refl
alone_kind s k wire (gate.bit b) = refl
alone_kind s k wire (gate.operation op l) = refl
alone_kind s k wire (gate.choice c a b) = refl

pub mapped : (k : ℕ → Kind) (j : Kind) (wire : ℕ → ℕ) (l : List ℕ) → ((a : ℕ) → a ∈ l → k (wire a) ≡ j) → AllOf k j (map wire l)
mapped k j wire l h w m = let r = map_in wire w l m in ap k r.2 ∙ h r.0 r.1

pub alone_fits : (s : List ℕ) (k : ℕ → Kind) (wire : ℕ → ℕ) (j : ℕ → Kind) (g : Gate) → GateFits j g → ((a : ℕ) → a ∈ arguments g → k (wire a) ≡ j a)
    → RecordFits k (alone s wire g)
alone_fits s k wire j (gate.start x) f h = tt
alone_fits s k wire j (gate.word n) f h = tt
alone_fits s k wire j (gate.bit b) f h = tt
alone_fits s k wire j (gate.operation op l) f h = mapped k (entry_of op).takes wire l (λ a m. h a m ∙ f.1 a m)
alone_fits s k wire j (gate.choice c a b) f h =
    (h c (inl refl) ∙ f.0, h b (inr (inr (inl refl))) ∙ sym f.1 ∙ sym (h a (inr (inl refl))))

-- the guards of a pick are the wires from n on, its values those given
pub pairs_guards : (n : ℕ) (values : List ℕ) → guards_of (pairs n values) ≡ from n (length values)
pairs_guards n [] = refl
pairs_guards n (w ∷ values) = ap (λ (l : List ℕ). n ∷ l) (pairs_guards (suc n) values)

pub pairs_values : (n : ℕ) (values : List ℕ) → values_of (pairs n values) ≡ values
pairs_values n [] = refl
pairs_values n (w ∷ values) = ap (λ (l : List ℕ). w ∷ l) (pairs_values (suc n) values)

-- the wires of records made from a list, each of one kind, are of that kind
given_each : (k : ℕ → Kind) (j : Kind) (F : ℕ → Record) (l : List ℕ) (n : ℕ) → ((i : ℕ) → i ∈ l → record_kind k (F i) ≡ j) → KindsGiven k n (map F l)
    → AllOf k j (from n (length l))
given_each k j F [] n h g w m = absurd m
given_each k j F (i ∷ l) n h (e, g) w (inl q) = ap k q ∙ e ∙ h i (inl refl)
given_each k j F (i ∷ l) n h (e, g) w (inr m) = given_each k j F l (suc n) (λ a b. h a (inr b)) g w m

-- wires that are each of one kind, one for each number of a list
all_same : (k : ℕ → Kind) (j : Kind) (l ks : List ℕ) → map k l ≡ map (λ _. j) ks → AllOf k j l
all_same k j [] ks e w m = absurd m
all_same k j (a ∷ l) [] e w m = absurd (let z : suc (length (map k l)) ≡ 0 = ap (λ (x : List Kind). length x) e in omega (arith, z))
all_same k j (a ∷ l) (i ∷ ks) e w (inl q) = ap k q ∙ ap (λ (x : List Kind). get_or x 0 j) e
all_same k j (a ∷ l) (i ∷ ks) e w (inr m) = all_same k j l ks (ap (λ (x : List Kind). drop 1 x) e) w m

-- a joined group: guards G over members ms, values F at the places ks; its guards are bits, its values what the operation takes
module _ (k : ℕ → Kind) (n : ℕ) (op : Operation) (G : ℕ → Record) (ms : List ℕ) (F : ℕ → List ℕ) (ks : List ℕ)
    (guards : (m : ℕ) → m ∈ ms → (record_kind k (G m) ≡ kind.Bit) × RecordFits k (G m))
    (values : (i : ℕ) → i ∈ ks → (length (F i) ≡ length ms) × AllOf k (entry_of op).takes (F i) × (record_kind k (pick (pairs n (F i))) ≡ (entry_of op).takes))
    (given : KindsGiven k n (joined n op (map G ms) (map F ks))) where
  -- a pick's guards, where there is one
  bits : (i : ℕ) → i ∈ ks → one_wire (F i) ≡ false → AllOf k kind.Bit (from n (length ms))
  bits i m f = given_each k kind.Bit G ms n (λ m q. (guards m q).0) (joined_guards (GivesKind k) n op (map G ms) F ks given i m f)

  taken : AllOf k (entry_of op).takes (operation_reads n (map G ms) (map F ks))
  taken =
      all_same k (entry_of op).takes (operation_reads n (map G ms) (map F ks)) ks
      (arguments_hold k (λ _. (entry_of op).takes) (GivesKind k) n F ks (behind_guards n (map G ms) (map F ks))
      (λ i m t. (values i m).1 (get_or (F i) 0 0) (one_wire_in (F i) t)) (λ i j m f e. e ∙ (values i m).2) (joined_picks (GivesKind k) n op (map G ms) F ks given))

  pub joined_kind : k (n + length (joined n op (map G ms) (map F ks)) - 1) ≡ (entry_of op).gives
  joined_kind = joined_last (GivesKind k) n op (map G ms) F ks given

  pub joined_fits : Along (FitsAt k) n (joined n op (map G ms) (map F ks))
  joined_fits =
      joined_along (FitsAt k) n op (map G ms) F ks (along_map (FitsAt k) G ms n n (omega arith) (λ m q j o. (guards m q).1))
      (λ i m f j o. (
        rw (pairs_guards n (F i), (values i m).0) (bits i m f),
        λ w q. (values i m).1 w (rw (pairs_values n (F i)) at q) ∙ sym (values i m).2,
      ))
      taken
