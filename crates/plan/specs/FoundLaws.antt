-- A plan put together: taken apart again it gives its gate count and its groups, and ends where the file ends.
use Rattle.std.specs.Prelude.{◌≡◌, refl, List, [], ◌∷◌, ◌++◌, ℕ, suc, ◌+◌, ◌*◌, ◌^◌, ◌≤◌, ◌<◌, length, get_or}
use Rattle.std.proofs.Common.{sym, ap, ap₂, ◌∙◌, subst, append_assoc, arith, length-append}
use Rattle.std.proofs.Math.Path.{subst⁻¹}
use Rattle.base.specs.Lists.{flat}
use Rattle.base.specs.Numbers.{bytes_of, number_at}
use Rattle.base.specs.NumberLaws.{length_bytes, number_found}
use Rattle.plan.specs.PlanFile.{mark, gates_counted, groups_counted, Plan, numbers_at, group_at, after, groups_from, groups_in, EachGroup, Ends}
use Rattle.plan.specs.Limits.{least_plan_bytes}
use Rattle.plan.specs.Layout.{Small, groups_bytes, plan_bytes}

numbers_found : (G a b : List ℕ) → Small G → numbers_at (length G) (a ++ (flat (bytes_of 2) G ++ b)) (length a) ≡ G
numbers_found [] a b s = refl
numbers_found (g ∷ G) a b (s, u) =
    let e : a ++ ((bytes_of 2 g ++ flat (bytes_of 2) G) ++ b) ≡ a ++ (bytes_of 2 g ++ (flat (bytes_of 2) G ++ b)) =
    ap (λ (r : List ℕ). a ++ r) (append_assoc (bytes_of 2 g) (flat (bytes_of 2) G) b) in
    let f : a ++ (bytes_of 2 g ++ (flat (bytes_of 2) G ++ b)) ≡ (a ++ bytes_of 2 g) ++ (flat (bytes_of 2) G ++ b) =
    sym (append_assoc a (bytes_of 2 g) (flat (bytes_of 2) G ++ b)) in
    let k : length a + 2 ≡ length (a ++ bytes_of 2 g) = sym (length-append a (bytes_of 2 g) ∙ ap (λ (w : ℕ). length a + w) (length_bytes 2 g)) in
    ap₂ (λ (x : ℕ) (l : List ℕ). x ∷ l)
    (ap (λ (q : List ℕ). number_at 2 q (length a)) e ∙ number_found 2 g a (flat (bytes_of 2) G ++ b) s)
    (ap₂ (λ (q : List ℕ) (at : ℕ). numbers_at (length G) q at) (e ∙ f) k ∙ numbers_found G (a ++ bytes_of 2 g) b u)

length_numbers : (G : List ℕ) → length (flat (bytes_of 2) G) ≡ 2 * length G
length_numbers [] = refl
length_numbers (g ∷ G) =
    let e : length (flat (bytes_of 2) G) ≡ 2 * length G = length_numbers G in
    length-append (bytes_of 2 g) (flat (bytes_of 2) G) ∙ ap₂ (λ (x y : ℕ). x + y) (length_bytes 2 g) e ∙ double (length G)
  where
    double : (n : ℕ) → 2 + 2 * n ≡ 2 * suc n
    double n = omega arith

seam : (a : List ℕ) (x : ℕ) (r : List ℕ) → get_or (a ++ (x ∷ r)) (length a) 0 ≡ x
seam [] x r = refl
seam (y ∷ a) x r = seam a x r

groups_found : (Gs : Plan) (a : List ℕ) → EachGroup Small Gs
    → (groups_from (length Gs) (a ++ groups_bytes Gs) (length a) ≡ Gs) × Ends (length Gs) (a ++ groups_bytes Gs) (length a)
groups_found [] a s = (refl, sym (length-append a [] ∙ none (length a)))
  where
    none : (n : ℕ) → n + 0 ≡ n
    none n = omega arith
groups_found (G ∷ Gs) a (s, u) = go (groups_found Gs (a ++ (length G ∷ flat (bytes_of 2) G)) u)
  where
    X : List ℕ
    X = a ++ (length G ∷ (flat (bytes_of 2) G ++ groups_bytes Gs))

    b : List ℕ
    b = a ++ (length G ∷ flat (bytes_of 2) G)

    one : X ≡ (a ++ (length G ∷ [])) ++ (flat (bytes_of 2) G ++ groups_bytes Gs)
    one = sym (append_assoc a (length G ∷ []) (flat (bytes_of 2) G ++ groups_bytes Gs))

    whole : X ≡ b ++ groups_bytes Gs
    whole = sym (append_assoc a (length G ∷ flat (bytes_of 2) G) (groups_bytes Gs))

    size : get_or X (length a) 0 ≡ length G
    size = seam a (length G) (flat (bytes_of 2) G ++ groups_bytes Gs)

    here : group_at X (length a) ≡ G
    here =
        ap (λ (n : ℕ). numbers_at n X (length a + 1)) size
        ∙ ap₂ (λ (q : List ℕ) (at : ℕ). numbers_at (length G) q at) one (sym (length-append a (length G ∷ [])))
        ∙ numbers_found G (a ++ (length G ∷ [])) (groups_bytes Gs) s

    past : after X (length a) ≡ length b
    past =
        let e : length b ≡ length a + suc (length (flat (bytes_of 2) G)) = length-append a (length G ∷ flat (bytes_of 2) G) in
        let f : length (flat (bytes_of 2) G) ≡ 2 * length G = length_numbers G in
        ap (λ (n : ℕ). length a + 1 + 2 * n) size ∙ omega arith

    rest : groups_from (length Gs) X (after X (length a)) ≡ groups_from (length Gs) (b ++ groups_bytes Gs) (length b)
    rest = ap₂ (λ (q : List ℕ) (at : ℕ). groups_from (length Gs) q at) whole past

    fits : after X (length a) ≤ length X
    fits =
        let e : length X ≡ length b + length (groups_bytes Gs) = ap length whole ∙ length-append b (groups_bytes Gs) in
        omega (arith, past)

    go : (groups_from (length Gs) (b ++ groups_bytes Gs) (length b) ≡ Gs) × Ends (length Gs) (b ++ groups_bytes Gs) (length b)
        → (group_at X (length a) ∷ groups_from (length Gs) X (after X (length a)) ≡ G ∷ Gs) × ((after X (length a) ≤ length X) × Ends (length Gs) X (after X (length a)))
    go (e, f) =
        let l : Ends (length Gs) X (length b) = subst⁻¹ (λ (q : List ℕ). Ends (length Gs) q (length b)) whole f in
        (ap₂ (λ (H : List ℕ) (Hs : Plan). H ∷ Hs) here (rest ∙ e), (fits, subst⁻¹ (λ (at : ℕ). Ends (length Gs) X at) past l))

-- the plan of a gate count and groups that fit their bytes, taken apart
pub plan_found : (n : ℕ) (Gs : Plan) → n < 256 ^ 2 → length Gs < 256 ^ 2 → EachGroup Small Gs
    → (gates_counted (plan_bytes n Gs) ≡ n) × (groups_counted (plan_bytes n Gs) ≡ length Gs)
    × (groups_in (plan_bytes n Gs) ≡ Gs) × Ends (groups_counted (plan_bytes n Gs)) (plan_bytes n Gs) least_plan_bytes
unfolding groups_in
plan_found n Gs h k s = (
  number_found 2 n mark (bytes_of 2 (length Gs) ++ groups_bytes Gs) h,
  counted,
  ap₂ (λ (c at : ℕ). groups_from c (plan_bytes n Gs) at) counted (sym front) ∙ ap (λ (q : List ℕ). groups_from (length Gs) q (length head)) parts ∙ found.0,
  subst⁻¹ (λ (c : ℕ). Ends c (plan_bytes n Gs) least_plan_bytes) counted
      (subst (λ (at : ℕ). Ends (length Gs) (plan_bytes n Gs) at) front (subst⁻¹ (λ (q : List ℕ). Ends (length Gs) q (length head)) parts found.1)),
)
  where
    head : List ℕ
    head = (mark ++ bytes_of 2 n) ++ bytes_of 2 (length Gs)

    front : length head ≡ least_plan_bytes
    front =
        length-append (mark ++ bytes_of 2 n) (bytes_of 2 (length Gs))
        ∙ ap₂ (λ (x y : ℕ). x + y) (length-append mark (bytes_of 2 n) ∙ ap (λ (x : ℕ). 5 + x) (length_bytes 2 n)) (length_bytes 2 (length Gs))

    halves : plan_bytes n Gs ≡ (mark ++ bytes_of 2 n) ++ (bytes_of 2 (length Gs) ++ groups_bytes Gs)
    halves = sym (append_assoc mark (bytes_of 2 n) (bytes_of 2 (length Gs) ++ groups_bytes Gs))

    parts : plan_bytes n Gs ≡ head ++ groups_bytes Gs
    parts = halves ∙ sym (append_assoc (mark ++ bytes_of 2 n) (bytes_of 2 (length Gs)) (groups_bytes Gs))

    counted : groups_counted (plan_bytes n Gs) ≡ length Gs
    counted =
        ap₂ (λ (q : List ℕ) (at : ℕ). number_at 2 q at) halves (sym (length-append mark (bytes_of 2 n) ∙ ap (λ (x : ℕ). 5 + x) (length_bytes 2 n)))
        ∙ number_found 2 (length Gs) (mark ++ bytes_of 2 n) (groups_bytes Gs) k

    found : (groups_from (length Gs) (head ++ groups_bytes Gs) (length head) ≡ Gs) × Ends (length Gs) (head ++ groups_bytes Gs) (length head)
    found = groups_found Gs head s
