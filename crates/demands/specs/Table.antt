-- Document 01, "Refusals by place", with document 02's C-11, C-15 and C-17: the table. A row is its number and, in the documents' own terms, the fact whose failing it refuses.
use Rattle.std.specs.Prelude.{ℕ, zero, suc, ◌≤◌, ◌<◌, ◌≡◌, true, List, [], ◌∷◌, ◌⊎◌, ◌↔◌, length, get_or, take}
use Rattle.base.specs.Lists.{◌∈◌}
use Rattle.base.specs.Answers.{refusal}
use Rattle.base.specs.Parsing.{refused, IsRead}
use Rattle.base.specs.declared.Answer.{Answer}
use Rattle.base.specs.Codes.{costly}
use Rattle.base.specs.declared.Kind.{Kind}
use Rattle.base.specs.declared.Kind.TheVariants as kind
use Rattle.base.specs.declared.Operation.{Operation}
use Rattle.rule.specs.Header.{variables, kind_at}
use Rattle.rule.specs.Rule.{read_rule}
use Rattle.circuit.specs.Limits.{most_gates, most_conditions}
use Rattle.circuit.specs.Gates.{Gates, gate_at, operation, conditions}
use Rattle.circuit.specs.PlainCircuit.{gates_of, gate_count}
use Rattle.circuit_needed.specs.Needed.{wanted_of}
use Rattle.plan.specs.PlanFile as plan
use Rattle.plan.specs.Limits.{least_plan_bytes, most_plan_bytes}
use Rattle.plan.specs.PlanFile.{gates_counted, groups_counted, groups_in, EachGroup, Rising, Apart, Ends}
use Rattle.plan.specs.Groups.{group_of}
use Rattle.plan.specs.Accepted.{Exist, GroupsRise, OneCostly, NoTwoNeeded, NoCircle}
use Rattle.file.specs.Versions.{one, two}
use Rattle.file.specs.Limits.{most_file_bytes, most_file_variables, most_wires}
use Rattle.file.specs.CircuitFile.{mark}
use Rattle.file.specs.FileFigures.{first_record, file_variables, wire_count, file_records, file_outputs}
use Rattle.file.specs.LaidOut.{LaidOut}
use Rattle.file.specs.WireKinds.{wire_kind}
use Rattle.file.specs.WellFormed.{Standing}
use Rattle.fused.specs.FusedCircuit.{fused_file}

pub data TableRow : Type 1 where
  row : ℕ → Type 0 → TableRow

-- every fact of the list holds; those before row k hold, and its own fails
abbrev pub Hold : List TableRow → Type 0
Hold [] = Unit {0}
Hold (row n fact ∷ l) = fact × Hold l

abbrev pub FailsAt : ℕ → List TableRow → Type 0
FailsAt k [] = ⊥
FailsAt zero (row n fact ∷ l) = fact → ⊥
FailsAt (suc k) (row n fact ∷ l) = fact × FailsAt k l

-- the number of row k
abbrev pub number_of : ℕ → List TableRow → ℕ
number_of k [] = 0
number_of zero (row n fact ∷ l) = n
number_of (suc k) (row n fact ∷ l) = number_of k l

-- what is answered by the rows of a list, whose refusals have this place: 0 exactly when every fact holds, at place 0; the number of row k exactly when the facts before it hold
-- and its own fails; and nothing else
pub record AnsweredBy (rows : List TableRow) (place : ℕ) (a : Answer) : Type 0 where
  pub taken : (a.number ≡ 0) ↔ Hold rows
  pub refused : (k : ℕ) → k < length rows → (a.number ≡ number_of k rows) ↔ FailsAt k rows
  pub listed : ((a.number ≡ 0) × (a.place ≡ 0)) ⊎ ((k : ℕ) × (k < length rows) × (a ≡ refusal (number_of k rows) place))

-- "Rule comes before plan, plan before inputs or buffer": what was refused before is answered as it was; else the rows decide, at place 0
pub record AnsweredAfter (before : Answer) (rows : List TableRow) (a : Answer) : Type 0 where
  pub stands : (before.number ≡ 0 → ⊥) → a ≡ before
  pub decided : before.number ≡ 0 → AnsweredBy rows 0 a

-- rule, byte by byte: 1 to 9. "the place is the file's length for 4, .. the offending byte for 2, 3 and 5 to 9, else 0"; which byte offends, and by which number, is what reading says (`read_rule`)
pub data ByteRow (size : ℕ) : ℕ → ℕ → Type 0 where
  by_size : ByteRow size 1 0
  on_byte : {number place : ℕ} → 2 ≤ number → number ≤ 9 → (number ≡ 4 → ⊥) → place < size → ByteRow size number place
  past_end : ByteRow size 4 size

-- rule, read whole: 10: over 256 gates; 11: over 6 conditions (C-17: 8)
abbrev pub rule_rows : List ℕ → List TableRow
rule_rows s =
    row 10 (length (gates_of s) ≤ most_gates)
    ∷ row 11 (length (conditions (gates_of s)) ≤ most_conditions)
    ∷ []

-- what reading a rule answers: the one of 1 to 9 that reading byte by byte gives, or, where it is read so, by these two
pub record RuleAnswered (s : List ℕ) (a : Answer) : Type 0 where
  pub bytes : IsRead (read_rule s) ⊎ ((number : ℕ) × (place : ℕ) × (read_rule s ≡ refused number place) × ByteRow (length s) number place × (a ≡ refusal number place))
  pub whole : IsRead (read_rule s) → AnsweredBy (rule_rows s) (length s) a

-- every member of the group is a costly operation
abbrev pub AllCostly : Gates → List ℕ → Type 0
AllCostly C G = (g : ℕ) → g ∈ G → (op : Operation) × (costly op ≡ true) × (l : List ℕ) × (gate_at C g ≡ operation op l)

-- plan, row by row: 20: under 9 or over 1,024 bytes; 21: mark or version; 22: gate count differs; 23: groups run past the end or bytes are left; 24: size below 2; 25: no such gate,
-- or not rising; 26: gate in two groups; 32 (C-15): groups out of order; 27: member not costly; 28: operations differ; 29: two members do not exclude each other; 30: a group waits in a circle
abbrev pub plan_rows : List ℕ → List ℕ → List TableRow
plan_rows s p =
    row 20 ((least_plan_bytes ≤ length p) × (length p ≤ most_plan_bytes))
    ∷ row 21 (take 5 p ≡ plan.mark)
    ∷ row 22 (gates_counted p ≡ gate_count s)
    ∷ row 23 (Ends (groups_counted p) p least_plan_bytes)
    ∷ row 24 (EachGroup (λ G. 2 ≤ length G) (groups_in p))
    ∷ row 25 (EachGroup Rising (groups_in p) × EachGroup (Exist (gate_count s)) (groups_in p))
    ∷ row 26 (Apart (groups_in p))
    ∷ row 32 (GroupsRise (groups_in p))
    ∷ row 27 (EachGroup (AllCostly (gates_of s)) (groups_in p))
    ∷ row 28 (EachGroup (OneCostly (gates_of s)) (groups_in p))
    ∷ row 29 (EachGroup (NoTwoNeeded (gates_of s) (wanted_of s)) (groups_in p))
    ∷ row 30 (NoCircle (gates_of s) (wanted_of s) (group_of (groups_in p)))
    ∷ []

-- inputs, those of v variables of these kinds: 40: not V of them; 41: a bit variable's above 1; 42: fewer than V result places
abbrev pub input_rows : ℕ → (ℕ → Kind) → List ℕ → ℕ → List TableRow
input_rows v kinds inputs room =
    row 40 (length inputs ≡ v)
    ∷ row 41 ((x : ℕ) → x < v → kinds x ≡ kind.Bit → get_or inputs x 0 ≤ 1)
    ∷ row 42 (v ≤ room)
    ∷ []

-- those of a rule's variables
abbrev pub run_rows : List ℕ → List ℕ → ℕ → List TableRow
run_rows s inputs room = input_rows (variables s) (kind_at s) inputs room

-- circuit buffer: 50: shorter than the file
abbrev pub buffer_rows : List ℕ → List ℕ → ℕ → List TableRow
buffer_rows s p room = row 50 (length (fused_file s p) ≤ room) ∷ []

-- circuit file (C-11): 60: under 8 or over 16,384 bytes, another mark or version, V outside 1 to 32 or over 640 wires
pub record Headed (f : List ℕ) : Type 0 where
  pub long : first_record ≤ length f
  pub short : length f ≤ most_file_bytes
  pub marked : (take 5 f ≡ mark one) ⊎ (take 5 f ≡ mark two)
  pub some : 1 ≤ file_variables f
  pub few : file_variables f ≤ most_file_variables
  pub wires : wire_count f ≤ most_wires

-- 61: not laid out as one; 62: the inputs, what a record reads, tables and outputs are not as they should be
abbrev pub circuit_rows : List ℕ → List TableRow
circuit_rows f =
    row 60 (Headed f)
    ∷ row 61 (LaidOut f)
    ∷ row 62 (Standing (file_variables f) (file_records f) (file_outputs f))
    ∷ []

-- and the inputs of such a file's variables, each of the kind of its input's wire
abbrev pub file_run_rows : List ℕ → List ℕ → ℕ → List TableRow
file_run_rows f inputs room = input_rows (file_variables f) (wire_kind (file_records f)) inputs room
