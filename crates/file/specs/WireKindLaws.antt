-- The kinds of wires: a record's kind reads only the wires that the record names; so of records that read only earlier wires each has its kind.
use Rattle.std.specs.Prelude.{ℕ, suc, ◌<◌, ◌≡◌, refl, List, [], ◌∷◌, ◌++◌, length, take, drop}
use Rattle.std.proofs.Common.{sym, ap, ◌∙◌, append_assoc, inl, inr, zero-add, arith, length-append, take-append-drop, length-take-le, take-suc}
use Rattle.base.specs.Lists.{◌∈◌}
use Rattle.base.specs.Runs.{run_at}
use Rattle.base.specs.RunLaws.{run_at_append, run_at_last, run_right}
use Rattle.base.specs.declared.Kind.{Kind}
use Rattle.base.specs.declared.Kind.TheVariants as kind
use Rattle.file.specs.Records.{Record, input, word, bit, operation, choice, pick, guard, reads, record_in, ReadsEarlier}
use Rattle.file.specs.WireKinds.{record_kind, wire_kind}
use Rattle.file.specs.RecordLaws.{Along, along_each, ReadsBefore}

-- a record's kind reads only the wires that the record names
pub kind_same : (k j : ℕ → Kind) (r : Record) → ((a : ℕ) → a ∈ reads r → k a ≡ j a) → record_kind k r ≡ record_kind j r
kind_same k j (input i x) h = refl
kind_same k j (word n) h = refl
kind_same k j (bit b) h = refl
kind_same k j (operation op l) h = refl
kind_same k j (choice c a b) h = h a (inr (inl refl))
kind_same k j (pick []) h = refl
kind_same k j (pick (p ∷ l)) h = h p.value (inr (inl refl))
kind_same k j (guard cs t) h = refl

-- the kind of every wire is its record's kind of the kinds of all wires
pub kinds_right : (R : List Record) → ReadsEarlier R → (i : ℕ) → i < length R → wire_kind R i ≡ record_kind (wire_kind R) (record_in R i)
unfolding wire_kind
kinds_right R e = run_right kind.Word record_kind (word 0) R (λ j v w s. kind_same v w (record_in R j) (λ a m. s a (rw zero-add (e j a m))))

-- so it is where that record alone reads earlier wires: what stands after it changes nothing
pub kind_there : (R : List Record) (i : ℕ) → i < length R → ReadsBefore i (record_in R i) → wire_kind R i ≡ record_kind (wire_kind R) (record_in R i)
unfolding wire_kind
kind_there R i l e =
    let r = record_in R i in
    let A = take i R in
    let B = drop (suc i) R in
    let n : length A ≡ i = length-take-le i R (omega arith) in
    let whole : R ≡ (A ++ (r ∷ [])) ++ B = sym (take-append-drop (suc i) R) ∙ ap (λ (Q : List Record). Q ++ B) (take-suc R i (word 0) l) in
    let before : (w : ℕ) → w < i → run_at kind.Word record_kind R w ≡ run_at kind.Word record_kind A w =
    λ w b.
    ap (λ (Q : List Record). run_at kind.Word record_kind Q w) (whole ∙ append_assoc A (r ∷ []) B)
    ∙ run_at_append kind.Word record_kind A ((r ∷ []) ++ B) w (omega (arith, n)) in
    ap (λ (Q : List Record). run_at kind.Word record_kind Q i) whole
    ∙ run_at_append kind.Word record_kind (A ++ (r ∷ [])) B i (rw (length-append A (r ∷ [])) (omega (arith, n)))
    ∙ ap (run_at kind.Word record_kind (A ++ (r ∷ []))) (sym n)
    ∙ run_at_last kind.Word record_kind A r
    ∙ kind_same (run_at kind.Word record_kind A) (run_at kind.Word record_kind R) r (λ a m. sym (before a (e a m)))

-- k gives record i its kind; it gives each of the records its kind
abbrev pub GivesKind : (ℕ → Kind) → ℕ → Record → Type 0
GivesKind k i r = k i ≡ record_kind k r

abbrev pub KindsGiven : (ℕ → Kind) → ℕ → List Record → Type 0
KindsGiven k n R = Along (GivesKind k) n R

-- records that read only earlier wires have their kinds
pub run_kinds : (R : List Record) → ReadsEarlier R → KindsGiven (wire_kind R) 0 R
run_kinds R e = along_each (GivesKind (wire_kind R)) R 0 (λ j l. rw zero-add (kinds_right R e j l))
