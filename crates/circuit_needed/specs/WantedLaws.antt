-- What a rule wants from the start: the last gates of its result variables, and of nothing else.
use Rattle.std.specs.Prelude.{ℕ, ◌<◌, ◌≡◌, List, [], map, true, false, not, length, get_or}
use Rattle.std.proofs.Common.{arith, sym, ap, ap₂, ◌∙◌}
use Rattle.std.proofs.lemmas.Bool.{false≢true}
use Rattle.base.specs.Lists.{◌∈◌, upto}
use Rattle.base.specs.MemberLaws.{keep_in, keep_from, from_in, from_below, in_map, map_in, get_or_in}
use Rattle.base.specs.TestLaws.{split}
use Rattle.base.specs.SettingListLaws.{keep_none}
use Rattle.rule.specs.Header.{variables, working_at, result_variables}
use Rattle.circuit.specs.PlainCircuit.{outputs_of}
use Rattle.circuit_needed.specs.Needed.{wanted_among, wanted_of}

-- a result variable's output is wanted
pub result_wanted : (s : List ℕ) (x : ℕ) → x < variables s → working_at s x ≡ false → get_or (outputs_of s) x 0 ∈ wanted_of s
unfolding wanted_of
result_wanted s x l h =
    in_map (λ y. get_or (outputs_of s) y 0) x (result_variables s) (keep_in (λ y. not (working_at s y)) (upto (variables s)) x (from_in 0 (variables s) x (omega arith) (omega arith)) (ap not h))

-- what is wanted is the output of a result variable
pub wanted_result : (s outputs : List ℕ) (g : ℕ) → g ∈ wanted_among s outputs → (x : ℕ) × (x < variables s) × (working_at s x ≡ false) × (g ≡ get_or outputs x 0)
wanted_result s outputs g m =
    let r = map_in (λ y. get_or outputs y 0) g (result_variables s) m in
    let k = keep_from (λ y. not (working_at s y)) (upto (variables s)) r.0 r.1 in
    let l = (from_below 0 (variables s) r.0 k.0).1 in
    (r.0, omega (arith, l), split (working_at s r.0) (λ t. absurd (false≢true (ap not (sym t) ∙ k.1))) (λ t. t), r.2)

pub wanted_own : (s : List ℕ) (g : ℕ) → g ∈ wanted_of s → (x : ℕ) × (x < variables s) × (working_at s x ≡ false) × (g ≡ get_or (outputs_of s) x 0)
unfolding wanted_of
wanted_own s g m = wanted_result s (outputs_of s) g m

-- so it is one of the outputs, where there is one for each variable
pub wanted_output : (s outputs : List ℕ) → length outputs ≡ variables s → (g : ℕ) → g ∈ wanted_among s outputs → g ∈ outputs
wanted_output s outputs c g m = let r = wanted_result s outputs g m in rw r.3 (get_or_in outputs r.0 (omega (arith, c, r.1)))

-- where every variable works, nothing is wanted
pub all_working : (s : List ℕ) → ((x : ℕ) → x < variables s → working_at s x ≡ true) → wanted_of s ≡ []
unfolding wanted_of
all_working s h =
    ap (map (λ y. get_or (outputs_of s) y 0))
    (keep_none (λ y. not (working_at s y)) (upto (variables s)) (λ x m. ap not (h x (let l = (from_below 0 (variables s) x m).1 in omega (arith, l)))))

-- rules with the same outputs and the same result variables want the same
pub wanted_same : (s t : List ℕ) → outputs_of s ≡ outputs_of t → result_variables s ≡ result_variables t → wanted_of s ≡ wanted_of t
unfolding wanted_of
wanted_same s t o r = ap₂ (λ (outputs l : List ℕ). map (λ x. get_or outputs x 0) l) o r
