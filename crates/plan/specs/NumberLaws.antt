-- A group in the bytes of a plan: it has as many members as its size byte says, and member i is the i-th number of two bytes behind that byte.
use Rattle.std.specs.Prelude.{ℕ, zero, suc, ◌+◌, ◌*◌, ◌<◌, ◌≡◌, List, length, get_or}
use Rattle.std.proofs.Common.{ap, ◌∙◌, arith}
use Rattle.base.specs.Lists.{◌∈◌}
use Rattle.base.specs.MemberLaws.{get_or_in}
use Rattle.base.specs.Numbers.{number_at}
use Rattle.plan.specs.PlanFile.{numbers_at, group_at}
use Rattle.plan.specs.LayoutLaws.{length_numbers}

numbers_at_lem : (n : ℕ) (p : List ℕ) (at i : ℕ) → i < n → number_at 2 p (at + 2 * i) ≡ get_or (numbers_at n p at) i 0
numbers_at_lem zero p at i h = absurd (omega arith)
numbers_at_lem (suc n) p at zero h = let e : at + 2 * 0 ≡ at = omega arith in ap (number_at 2 p) e
numbers_at_lem (suc n) p at (suc i) h = let e : at + 2 * suc i ≡ at + 2 + 2 * i = omega arith in ap (number_at 2 p) e ∙ numbers_at_lem n p (at + 2) i (omega arith)

-- as many as the size byte says
pub length_group : (p : List ℕ) (at : ℕ) → length (group_at p at) ≡ get_or p at 0
length_group p at = length_numbers (get_or p at 0) p (at + 1)

-- member i
pub member_at : (p : List ℕ) (at i : ℕ) → i < get_or p at 0 → number_at 2 p (at + 1 + 2 * i) ≡ get_or (group_at p at) i 0
member_at p at i h = numbers_at_lem (get_or p at 0) p (at + 1) i h

pub member_in : (p : List ℕ) (at i : ℕ) → i < get_or p at 0 → get_or (group_at p at) i 0 ∈ group_at p at
member_in p at i h = get_or_in (group_at p at) i (rw (length_group p at) h)
