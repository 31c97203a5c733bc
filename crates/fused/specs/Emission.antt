-- Document 01, "The fused circuit file": the records of a group. "A group alone is one record. A larger one is: for each member, rising, a guard
-- over the conditions it rests on; a pick for each argument place, members rising; the operation, whose wire stands for every member." Document 02, C-18, "No pick
-- between equal wires": "When all members of a group have the same wire of the fused circuit at an argument place, write no pick there and use the wire. If no
-- pick remains, write no guards for the group."
use Rattle.std.specs.Prelude.{ℕ, suc, ◌+◌, List, [], ◌∷◌, ◌++◌, map, Bool, false, cond, eqb, length, get_or}
use Rattle.base.specs.Lists.{upto, every}
use Rattle.base.specs.Guards.{table}
use Rattle.base.specs.declared.Operation.{Operation}
use Rattle.base.specs.declared.Operation.TheVariants as operations
use Rattle.file.specs.Records.{Pair, Record, input, word, bit, operation, choice, pick, guard}
use Rattle.rule.specs.Header.{kind_at}
use Rattle.circuit.specs.Gates.{Gate, Gates, gate_at, arguments}
use Rattle.circuit.specs.Gates as gate
use Rattle.circuit.specs.Limits.{most_conditions}
use Rattle.plan.specs.Groups.{rests_of}

-- a gate alone, its arguments read from the wires of their groups; s is the rule, for the kind of a starting value
abbrev pub alone : List ℕ → (ℕ → ℕ) → Gate → Record
alone s wire (gate.start x) = input (kind_at s x) x
alone s wire (gate.word n) = word n
alone s wire (gate.bit b) = bit b
alone s wire (gate.operation op l) = operation op (map wire l)
alone s wire (gate.choice c a b) = choice (wire c) (wire a) (wire b)

-- the operation of a joined gate; a gate that is none is never joined (27)
abbrev pub gate_operation : Gate → Operation
gate_operation (gate.start x) = operations.Sum
gate_operation (gate.word n) = operations.Sum
gate_operation (gate.bit b) = operations.Sum
gate_operation (gate.operation op l) = op
gate_operation (gate.choice c a b) = operations.Sum

-- the pairs of a pick: the guards are the wires from n on, one for each value
abbrev pub pairs : ℕ → List ℕ → List Pair
pairs n [] = []
pairs n (w ∷ values) = record { guarding = n; value = w } ∷ pairs (suc n) values

-- all members have the same wire at an argument place, these being their wires at it; no members have none
unfoldable pub one_wire : List ℕ → Bool
one_wire [] = false
one_wire (w ∷ values) = every (λ v. eqb v w) values

-- the places that have a pick: those at which the members' wires differ
abbrev pub picked : List (List ℕ) → List (List ℕ)
picked [] = []
picked (values ∷ places) = cond (one_wire values) (picked places) (values ∷ picked places)

-- the guards that are written: all, or none where no place has a pick
abbrev pub guarded : List (List ℕ) → List Record → List Record
guarded [] guards = []
guarded (values ∷ picks) guards = guards

-- what the operation reads at each place, n being the first pick's wire: the next pick, or the wire that all members have
abbrev pub argument_wires : ℕ → List (List ℕ) → List ℕ
argument_wires n [] = []
argument_wires n (values ∷ places) = cond (one_wire values) (get_or values 0 0 ∷ argument_wires n places) (n ∷ argument_wires (suc n) places)

-- a joined group, from its members' guards and, for each argument place, its members' wires at that place: n is the first record's wire.
-- The one place that says which guards and picks there are and what the operation reads.
unfoldable pub joined : ℕ → Operation → List Record → List (List ℕ) → List Record
joined n op guards places =
    let kept = guarded (picked places) guards in
    kept ++ (map (λ values. pick (pairs n values)) (picked places) ++ (operation op (argument_wires (n + length kept) places) ∷ []))

-- over the gates C of the rule s with their preconditions; wire: the wire that stands for a gate
module _ (s : List ℕ) (C : Gates) (sets : List ℕ) (wire : ℕ → ℕ) where
  -- the guard of a member, over the conditions it rests on, rising
  abbrev pub guard_of : ℕ → Record
  guard_of m = guard (map wire (rests_of C sets m)) (table most_conditions (get_or sets m 0))

  -- the members' wires at argument place k
  abbrev pub values_at : List ℕ → ℕ → List ℕ
  values_at ms k = map (λ m. wire (get_or (arguments (gate_at C m)) k 0)) ms

  -- the records of a group with these members, the first of them being wire n
  abbrev pub emit : ℕ → List ℕ → List Record
  emit n [] = []
  emit n (m ∷ []) = alone s wire (gate_at C m) ∷ []
  emit n (m ∷ k ∷ l) =
      joined n (gate_operation (gate_at C m)) (map guard_of (m ∷ k ∷ l)) (map (values_at (m ∷ k ∷ l)) (upto (length (arguments (gate_at C m)))))
