-- Document 02, C-18, "No pick between equal wires": its sentences, each quoted above its theorems. s is a rule's bytes, p a plan's.
use Rattle.std.specs.Prelude.{ℕ, suc, ◌+◌, ◌*◌, ◌≤◌, ◌<◌, ◌≡◌, true, false, List, [], ◌∷◌, ◌++◌, map, ◌↔◌, length, get_or}
use Rattle.base.specs.Lists.{◌∈◌}
use Rattle.base.specs.Numbers.{Bytes}
use Rattle.base.specs.Codes.{entry_of}
use Rattle.base.specs.Inputs.{FiguresFit}
use Rattle.base.specs.Results.{is_one, result_on}
use Rattle.base.specs.declared.Operation.{Operation}
use Rattle.file.specs.Versions.{written_version}
use Rattle.file.specs.Records.{Pair, Record, operation, pick, guard, record_in, records_cost}
use Rattle.file.specs.CircuitFile.{records_bytes}
use Rattle.file.specs.WireKinds.{guards_of, values_of}
use Rattle.file.specs.WireFigures.{wire_figure}
use Rattle.rule.specs.Header.{variables, kind_at}
use Rattle.circuit.specs.Gates.{gate_at, arguments, figure_at}
use Rattle.circuit.specs.PlainCircuit.{gates_of, gate_count}
use Rattle.circuit_needed.specs.Needed.{Needed, wanted_of}
use Rattle.circuit_needed.specs.Pass.{rule_preconditions}
use Rattle.plan.specs.PlanFile.{groups_in}
use Rattle.plan.specs.Groups.{group_of, rests_of}
use Rattle.plan.specs.Rows.{plan_answer}
use Rattle.fused.specs.Emission.{gate_operation, pairs, one_wire, joined}
use Rattle.fused.specs.FusedCircuit.{records_of, wire_of}
use Rattle.fused.specs.JoinedGates.{argument, joined_with, guards_with, wires_at, records_with, picks_with, Stands}
use Rattle.fused.specs.FusedFigures as figures
use Rattle.fused.specs.GroupStands as stands
use Rattle.fused.specs.GuardsRead as read
use Rattle.fused.specs.JoinedShapes as shapes
use Rattle.fused.specs.EqualWireLaws as equal

-- "When all members of a group have the same wire of the fused circuit at an argument place, write no pick there and use the wire. If no pick remains, write no guards for the
-- group": the records of a joined group, of which the first is wire n, from its members' guards and their wires a and b at its two places. With a pick at both places, at one, at none:
pub both_picked : (n : ℕ) (op : Operation) (guards : List Record) (a b : List ℕ) → one_wire a ≡ false → one_wire b ≡ false
    → joined n op guards (a ∷ b ∷ []) ≡ guards ++ (pick (pairs n a) ∷ pick (pairs n b) ∷ operation op ((n + length guards) ∷ suc (n + length guards) ∷ []) ∷ [])
both_picked = shapes.both_picked

pub first_picked : (n : ℕ) (op : Operation) (guards : List Record) (a b : List ℕ) → one_wire a ≡ false → one_wire b ≡ true
    → joined n op guards (a ∷ b ∷ []) ≡ guards ++ (pick (pairs n a) ∷ operation op ((n + length guards) ∷ get_or b 0 0 ∷ []) ∷ [])
first_picked = shapes.first_picked

pub second_picked : (n : ℕ) (op : Operation) (guards : List Record) (a b : List ℕ) → one_wire a ≡ true → one_wire b ≡ false
    → joined n op guards (a ∷ b ∷ []) ≡ guards ++ (pick (pairs n b) ∷ operation op (get_or a 0 0 ∷ (n + length guards) ∷ []) ∷ [])
second_picked = shapes.second_picked

pub none_picked : (n : ℕ) (op : Operation) (guards : List Record) (a b : List ℕ) → one_wire a ≡ true → one_wire b ≡ true
    → joined n op guards (a ∷ b ∷ []) ≡ operation op (get_or a 0 0 ∷ get_or b 0 0 ∷ []) ∷ []
none_picked = shapes.none_picked

-- of an accepted plan these are the records of each group of two or more, where they stand in the circuit, from the wires of the whole circuit,
pub group_records_lem : (s p : List ℕ) → (plan_answer s p).number ≡ 0 → (m : ℕ) → m < gate_count s → 2 ≤ length (joined_with s p m)
    → Stands (records_of s p) (wire_of s p m) (records_with s p m)
group_records_lem = shapes.joined_stands

-- "all members .. have the same wire": each has that of gate m, whichever member m is,
pub same_wire : (s p : List ℕ) (m k : ℕ) → m < gate_count s
    → (one_wire (wires_at s p m k) ≡ true) ↔ ((j : ℕ) → j ∈ joined_with s p m → wire_of s p (argument s j k) ≡ wire_of s p (argument s m k))
same_wire = equal.one_wire_right

-- and "of the fused circuit": gates have the same wire exactly when they are in the same group, so members whose arguments were joined share a wire, and no others do.
pub same_group : (s p : List ℕ) → (plan_answer s p).number ≡ 0 → (g k : ℕ) → g < gate_count s → k < gate_count s
    → (wire_of s p g ≡ wire_of s p k) ↔ (group_of (groups_in p) g ≡ group_of (groups_in p) k)
same_group = stands.same_wire

-- So no pick of the circuit is between equal wires,
pub picks_differ : (s p : List ℕ) (i : ℕ) → i < length (records_of s p) → (l : List Pair) → record_in (records_of s p) i ≡ pick l → one_wire (values_of l) ≡ false
picks_differ = shapes.picks_differ

-- and every guard is there for a pick.
pub guards_picked : (s p : List ℕ) (i : ℕ) → i < length (records_of s p) → (cs : List ℕ) (t : ℕ) → record_in (records_of s p) i ≡ guard cs t
    → (j : ℕ) × (l : List Pair) × (record_in (records_of s p) j ≡ pick l) × (i ∈ guards_of l)
guards_picked = read.guards_picked

-- "Who waits for whom is judged as before": `Waits` knows no wire, and `plan_accepted` (Demands) did not move. A joined gate still comes after the conditions that it rests on, with
-- guards or without.
pub after_conditions : (s p : List ℕ) → (plan_answer s p).number ≡ 0 → (m : ℕ) → m < gate_count s → 2 ≤ length (joined_with s p m)
    → (c : ℕ) → c ∈ rests_of (gates_of s) (rule_preconditions s) m → wire_of s p c < wire_of s p m
after_conditions = equal.condition_earlier

-- "The accuracy demand stands with this shape of record" (`file_run` and `same_run`, Demands): the wire of a gate that is needed has the plain circuit's figure, whatever its group,
pub needed_figure : (s p : List ℕ) → Bytes s → (plan_answer s p).number ≡ 0 → (inputs : List ℕ) → FiguresFit (variables s) (kind_at s) inputs
    → (g : ℕ) → Needed (gates_of s) (wanted_of s) (λ c. is_one (figure_at inputs (gates_of s) c)) g
    → wire_figure inputs (records_of s p) (wire_of s p g) ≡ figure_at inputs (gates_of s) g
needed_figure = figures.needed_figure

-- and the wire of a group without guards holds what its argument wires give, also where no member is needed.
pub unguarded_figure : (s p : List ℕ) → (plan_answer s p).number ≡ 0 → (m : ℕ) → m < gate_count s → 2 ≤ length (joined_with s p m)
    → one_wire (wires_at s p m 0) ≡ true → one_wire (wires_at s p m 1) ≡ true → (inputs : List ℕ)
    → wire_figure inputs (records_of s p) (wire_of s p m)
    ≡ result_on (gate_operation (gate_at (gates_of s) m)) (map (λ a. wire_figure inputs (records_of s p) (wire_of s p a)) (arguments (gate_at (gates_of s) m)))
unguarded_figure = equal.unpicked_figure

-- What its records come to: with no pick one record of five bytes at the operation's cost,
pub unpicked_sizes : (s p : List ℕ) (m n : ℕ) → picks_with s p m ≡ 0
    → (length (records_with s p m n) ≡ 1) × (length (records_bytes written_version (records_with s p m n)) ≡ 5)
    × (records_cost (records_with s p m n) ≡ (entry_of (gate_operation (gate_at (gates_of s) m))).cost)
unpicked_sizes = equal.unpicked_sizes

-- with one or two a guard for each member, the picks, of a pair for each member, and the operation,
pub picked_sizes : (s p : List ℕ) (m n : ℕ) → 0 < picks_with s p m
    → (length (records_with s p m n) ≡ length (joined_with s p m) + picks_with s p m + 1)
    × (length (records_bytes written_version (records_with s p m n))
    ≡ length (records_bytes written_version (guards_with s p m)) + picks_with s p m * (2 + 4 * length (joined_with s p m)) + 5)
    × (records_cost (records_with s p m n)
    ≡ (entry_of (gate_operation (gate_at (gates_of s) m))).cost + length (joined_with s p m) + picks_with s p m * (2 * length (joined_with s p m)))
picked_sizes = equal.picked_sizes

-- so never more than with both picks, as it was before.
pub never_more : (s p : List ℕ) (m n : ℕ)
    → (length (records_with s p m n) ≤ length (joined_with s p m) + 3)
    × (length (records_bytes written_version (records_with s p m n)) ≤ length (records_bytes written_version (guards_with s p m)) + 2 * (2 + 4 * length (joined_with s p m)) + 5)
    × (records_cost (records_with s p m n) ≤ (entry_of (gate_operation (gate_at (gates_of s) m))).cost + 5 * length (joined_with s p m))
never_more = equal.sizes_most

-- "R1 with P1 (example 3) now gives 114 bytes and prints `accepted 6 8 33 24`": `Starred`, and `saved_nine` (Batches), which has the line and "the batch above ends `total 2 0 66
-- 57 9`" (examples). No pick at one place, at both, a chain of groups, a condition written late, a circle: EqualWires (examples).
