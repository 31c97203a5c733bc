-- What the check of a plan leaves of a group of two or more, and that no setting needs two of its members.
use Rattle.std.specs.Prelude.{ℕ, ◌≤◌, ◌≡◌, false, List, eqb, length}
use Rattle.base.specs.Lists.{◌∈◌, upto}
use Rattle.base.specs.TestLaws.{split}
use Rattle.base.specs.Settings.{Setting, Once}
use Rattle.base.specs.SettingListLaws.{from_once, keep_once}
use Rattle.base.specs.declared.Operation.{Operation}
use Rattle.circuit.specs.Gates.{Gates, gate_at, operation, arguments}
use Rattle.circuit_needed.specs.Needed.{Needed, Exclude}
use Rattle.circuit_needed.specs.Pass.{needed}
use Rattle.circuit_needed.specs.PassLaws.{needed_sound}
use Rattle.plan.specs.Groups.{members}
use Rattle.fused.specs.Emission.{gate_operation}

-- what the rows 27 to 29 leave: the members of a group of two or more are one operation on equally many arguments, and exclude each other
pub record Joined (C : Gates) (wanted : List ℕ) (group : ℕ → ℕ) : Type 0 where
  pub alike : (p : ℕ) → 2 ≤ length (members (length C) group p) → (m k : ℕ) → m ∈ members (length C) group p → k ∈ members (length C) group p
      → (op : Operation) × (l : List ℕ) × (gate_at C k ≡ operation op l) × (gate_operation (gate_at C m) ≡ op) × (length (arguments (gate_at C m)) ≡ length l)
  pub exclude : (p : ℕ) → 2 ≤ length (members (length C) group p) → (m k : ℕ) → m ∈ members (length C) group p → k ∈ members (length C) group p
      → (m ≡ k → ⊥) → Exclude C wanted m k

-- a member stands in its group once
pub members_once : (n : ℕ) (group : ℕ → ℕ) (p : ℕ) → Once (members n group p)
members_once n group p = keep_once (λ g. eqb (group g) p) (upto n) (from_once 0 n)

-- of two members one at most is needed
pub joined_one : (C : Gates) (wanted : List ℕ) (group : ℕ → ℕ) → Joined C wanted group → (p : ℕ) → 2 ≤ length (members (length C) group p)
    → (m k : ℕ) → m ∈ members (length C) group p → k ∈ members (length C) group p → (m ≡ k → ⊥)
    → (σ : Setting) → Needed C wanted σ m → needed C wanted k σ ≡ false
joined_one C wanted group joins p t m k h j f σ n =
    split (needed C wanted k σ) (λ y. absurd (joins.exclude p t m k h j f σ n (needed_sound C wanted σ k y))) (λ y. y)
