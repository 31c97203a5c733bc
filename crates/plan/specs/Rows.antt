-- Document 01, "Refusals by place", with document 02's C-15: the rows of a plan, 20 to 26, 32, 27 to 30, and what its check answers.
use Rattle.std.specs.Prelude.{ℕ, List, [], ◌∷◌, ◌++◌, map, Bool, true, false, not, cond, ◌&&◌, eqb, leb, ltb, length, get_or, take}
use Rattle.base.specs.Lists.{elem, every, same}
use Rattle.base.specs.Sets.{excludes}
use Rattle.base.specs.Answers.{refusal}
use Rattle.base.specs.declared.Answer.{Answer}
use Rattle.base.specs.Codes.{costly, byte_of}
use Rattle.circuit.specs.Gates.{Gate, start, word, bit, operation, choice, Gates, gate_at}
use Rattle.circuit.specs.PlainCircuit.{gates_of, gate_count}
use Rattle.circuit_needed.specs.Pass.{rule_preconditions}
use Rattle.circuit.specs.Whole.{rule_answer}
use Rattle.plan.specs.PlanFile.{mark, gates_counted, groups_counted, Plan, ends, groups_in}
use Rattle.plan.specs.Limits.{least_plan_bytes, most_plan_bytes}
use Rattle.plan.specs.Groups.{smallest, groups, group_of}
use Rattle.plan.specs.Order.{all_in, order}

-- every group of a plan passes the test
abbrev pub every_group : (List ℕ → Bool) → Plan → Bool
every_group t [] = true
every_group t (G ∷ Gs) = t G && every_group t Gs

-- 25: the numbers of a group rise, and are gates
abbrev pub above : ℕ → List ℕ → Bool
above m [] = true
above m (k ∷ l) = ltb m k

abbrev pub rises : List ℕ → Bool
rises [] = true
rises (m ∷ l) = above m l && rises l

-- 26: the gate is in a group of the plan; no gate is in two
abbrev pub listed : Plan → ℕ → Bool
listed [] g = false
listed (G ∷ Gs) g = cond (elem g G) true (listed Gs g)

abbrev pub apart : Plan → Bool
apart [] = true
apart (G ∷ Gs) = every (λ g. not (listed Gs g)) G && apart Gs

-- 32: the smallest members of the groups rise
abbrev pub groups_rise : Plan → Bool
groups_rise Gs = rises (map smallest Gs)

-- 27: a costly operation
unfoldable pub is_costly : Gate → Bool
is_costly (start x) = false
is_costly (word n) = false
is_costly (bit b) = false
is_costly (operation op l) = costly op
is_costly (choice c a b) = false

-- 28: the operation's byte, 0 for a gate that is none; a group has the operation of its first member
abbrev pub operation_byte : Gate → ℕ
operation_byte (start x) = 0
operation_byte (word n) = 0
operation_byte (bit b) = 0
operation_byte (operation op l) = byte_of op
operation_byte (choice c a b) = 0

abbrev pub alike : Gates → List ℕ → Bool
alike C [] = true
alike C (m ∷ l) = every (λ k. eqb (operation_byte (gate_at C m)) (operation_byte (gate_at C k))) l

-- 29: the preconditions of two members have no setting in common
abbrev pub parted : List ℕ → List ℕ → Bool
parted sets G = every (λ m. every (λ k. cond (eqb m k) true (excludes (get_or sets m 0) (get_or sets k 0))) G) G

-- 30: the order of writing places every group
unfoldable pub placed : Gates → List ℕ → (ℕ → ℕ) → Bool
placed C sets group = all_in (groups (length C) group) (order C sets group)

-- a row: its number, and the fact whose failing it refuses
pub record Row : Type 0 where
  pub refuses : ℕ
  pub holds : Bool

-- the rows as they are checked: 20 to 26, of the plan p for a circuit of n gates
abbrev pub layout_rows : ℕ → List ℕ → List Row
layout_rows n p =
    record { refuses = 20; holds = leb least_plan_bytes (length p) && leb (length p) most_plan_bytes }
    ∷ record { refuses = 21; holds = same (take 5 p) mark }
    ∷ record { refuses = 22; holds = eqb (gates_counted p) n }
    ∷ record { refuses = 23; holds = ends (groups_counted p) p least_plan_bytes }
    ∷ record { refuses = 24; holds = every_group (λ G. leb 2 (length G)) (groups_in p) }
    ∷ record { refuses = 25; holds = every_group (λ G. rises G && every (λ g. ltb g n) G) (groups_in p) }
    ∷ record { refuses = 26; holds = apart (groups_in p) }
    ∷ []

-- 32 and 27 to 29, of the plan p for the gates C, whose preconditions are the sets
abbrev pub join_rows : Gates → List ℕ → List ℕ → List Row
join_rows C sets p =
    record { refuses = 32; holds = groups_rise (groups_in p) }
    ∷ record { refuses = 27; holds = every_group (every (λ g. is_costly (gate_at C g))) (groups_in p) }
    ∷ record { refuses = 28; holds = every_group (alike C) (groups_in p) }
    ∷ record { refuses = 29; holds = every_group (parted sets) (groups_in p) }
    ∷ []

-- 30, of the same
abbrev pub order_rows : Gates → List ℕ → List ℕ → List Row
order_rows C sets p =
    record { refuses = 30; holds = placed C sets (group_of (groups_in p)) }
    ∷ []

-- the rows of the plan p for the rule s
abbrev pub rows : List ℕ → List ℕ → List Row
rows s p = layout_rows (gate_count s) p ++ (join_rows (gates_of s) (rule_preconditions s) p ++ order_rows (gates_of s) (rule_preconditions s) p)

-- the number of the first row of the list that fails, 0 when none does
abbrev pub first_failing : List Row → ℕ
first_failing [] = 0
first_failing (r ∷ l) = cond r.holds (first_failing l) r.refuses

-- row by row, each over the whole file: the first failing row decides
unfoldable pub plan_row : List ℕ → List ℕ → ℕ
plan_row s p = first_failing (rows s p)

-- what checking a plan answers: rule comes before plan; success counts what reading the rule counts, gates and cost before
unfoldable pub plan_answer : List ℕ → List ℕ → Answer
plan_answer s p = cond (eqb (rule_answer s).number 0) (cond (eqb (plan_row s p) 0) (rule_answer s) (refusal (plan_row s p) 0)) (rule_answer s)
