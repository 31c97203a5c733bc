-- What the order of writing begins with: the groups 0, 1, .., v − 1, where each of these is a gate alone that reads nothing;
-- of an accepted plan every starting value is a group alone.
use Rattle.std.specs.Prelude.{ℕ, zero, suc, ◌+◌, ◌-◌, ◌≤◌, ◌<◌, ◌≡◌, refl, Bool, true, false, ◌⊎◌}
use Rattle.std.proofs.Common.{sym, ◌∙◌, inl, inr, zero-add, length-append}
use Rattle.std.proofs.Math.Path.{ap}
use mathlib.Core.List.{List, [], ◌∷◌, ◌++◌, append_assoc}
use Rattle.std.proofs.Math.Option.{Option, none, some}
use native.Mathlib.Omega.{arith}
use Rattle.std.proofs.Math.Dec.{eqb}
use Rattle.std.proofs.Math.ListN.{length}
use borrow.Author.Tests.{eq-eqb}
use Rattle.base.specs.Lists.{◌∈◌, elem, keep, from, upto}
use Rattle.base.specs.ListLaws.{length_from}
use Rattle.base.specs.MemberLaws.{elem→∈, ∈→elem}
use Rattle.base.specs.TestLaws.{split, same?}
use Rattle.circuit.specs.Gates.{Gates, gate_at, arguments}
use Rattle.circuit.specs.Gates as gate
use Rattle.circuit.specs.PlainCircuit.{gates_of, gate_count}
use Rattle.plan.specs.PlanFile.{groups_in}
use Rattle.plan.specs.Groups.{group_of, Named, groups, members, waits_for}
use Rattle.plan.specs.Order.{first_ready, schedule, order}
use Rattle.plan.specs.Accepted.{Acceptable}
use Rattle.plan.specs.OrderLaws.{turn}
use Rattle.plan.specs.GroupLaws.{groups_kept, group_of_named, member_of}
use Rattle.plan.specs.JoinedLaws.{members_costly}
use Rattle.plan.specs.ReadsLaws.{waits_read}

-- n − 1, .., 1, 0: the first n groups written, the last first
abbrev pub down : ℕ → List ℕ
down zero = []
down (suc n) = n ∷ down n

pub down_in : (n x : ℕ) → x < n → x ∈ down n
down_in zero x h = absurd (omega arith)
down_in (suc n) x h = go (same? x n) (λ l. down_in n x l)
  where
    go : (x ≡ n) ⊎ (x ≡ n → ⊥) → (x < n → x ∈ down n) → x ∈ down (suc n)
    go (inl e) ih = inl e
    go (inr m) ih = inr (ih (omega arith))

down_below : (n x : ℕ) → x ∈ down n → x < n
down_below zero x m = absurd m
down_below (suc n) x (inl e) = omega arith
down_below (suc n) x (inr m) = omega (arith, down_below n x m)

-- where the first n numbers of a run pass a test, what is kept begins with them
keep_run : (t : ℕ → Bool) (i n m : ℕ) → ((x : ℕ) → x < i + n → t x ≡ true) → keep t (from i (n + m)) ≡ from i n ++ keep t (from (i + n) m)
keep_run t i zero m h = let e : i + 0 ≡ i = omega arith in rw (e, zero-add)
keep_run t i (suc n) m h =
    let a : suc n + m ≡ suc (n + m) = omega arith in
    let e : i + suc n ≡ suc i + n = omega arith in
    rw (a, h i (omega arith), e) (ap (λ (l : List ℕ). i ∷ l) (keep_run t (suc i) n m (λ x l. h x (omega arith))))

module _ (waits : ℕ → List ℕ) where
  -- a turn only adds a group to those written
  schedule_grows : (gs : List ℕ) (k : ℕ) (done : List ℕ) → (more : List ℕ) × (schedule waits gs k done ≡ more ++ done)
  schedule_grows gs zero done = ([], refl)
  schedule_grows gs (suc k) done = go (first_ready waits done gs) (λ p. schedule_grows gs k (p ∷ done))
    where
      go : (f : Option ℕ) → ((p : ℕ) → (more : List ℕ) × (schedule waits gs k (p ∷ done) ≡ more ++ (p ∷ done)))
          → (more : List ℕ) × (elim f [ none ↦ done | some p ↦ schedule waits gs k (p ∷ done) ] ≡ more ++ done)
      go none ih = ([], refl)
      go (some p) ih = let r = ih p in (r.0 ++ (p ∷ []), r.1 ∙ sym (append_assoc r.0 (p ∷ []) done))

  module _ (v : ℕ) (free : (x : ℕ) → x < v → waits x ≡ []) (rest : List ℕ) where
    -- when those below j are written, j is the first ready
    first_ready_lem : (j : ℕ) → j < v → (i n : ℕ) → i ≤ j → j < i + n → first_ready waits (down j) (from i n ++ rest) ≡ some j
    first_ready_lem j l i zero a b = absurd (omega arith)
    first_ready_lem j l i (suc n) a b = go (same? i j) (λ c. first_ready_lem j l (suc i) n c (omega arith))
      where
        new : elem j (down j) ≡ false
        new = split (elem j (down j)) (λ t. absurd (omega (arith, down_below j j (elem→∈ j (down j) t)))) (λ t. t)

        go : (i ≡ j) ⊎ (i ≡ j → ⊥) → (suc i ≤ j → first_ready waits (down j) (from (suc i) n ++ rest) ≡ some j)
            → first_ready waits (down j) (from i (suc n) ++ rest) ≡ some j
        go (inl e) ih = rw (e, new, free j l)
        go (inr m) ih = rw (∈→elem i (down j) (down_in j i (omega arith))) (ih (omega arith))

    schedule_turns : (j : ℕ) → j ≤ v → (k : ℕ) → schedule waits (upto v ++ rest) (j + k) [] ≡ schedule waits (upto v ++ rest) k (down j)
    schedule_turns zero h k = ap (λ (i : ℕ). schedule waits (upto v ++ rest) i []) (zero-add k)
    schedule_turns (suc j) h k =
        let e : suc j + k ≡ j + suc k = omega arith in
        ap (λ (i : ℕ). schedule waits (upto v ++ rest) i []) e ∙ schedule_turns j (omega arith) (suc k)
        ∙ turn waits (down j) (upto v ++ rest) k j (first_ready_lem j (omega arith) 0 v (omega arith) (omega arith))

    -- groups 0 to v − 1 that wait for none are written first, in order
    schedule_first : (more : List ℕ) × (schedule waits (upto v ++ rest) (length (upto v ++ rest)) [] ≡ more ++ down v)
    schedule_first =
        let r = schedule_grows (upto v ++ rest) (length rest) (down v) in
        let e : length (upto v ++ rest) ≡ v + length rest = length-append (upto v) rest ∙ ap (λ (n : ℕ). n + length rest) (length_from 0 v) in
        (r.0, ap (λ (n : ℕ). schedule waits (upto v ++ rest) n []) e ∙ schedule_turns v (omega arith) (length rest) ∙ r.1)

-- gate x is a group alone
abbrev pub Alone : ℕ → (ℕ → ℕ) → ℕ → Type 0
Alone n group x = (group x ≡ x) × (members n group x ≡ x ∷ [])

module _ (C : Gates) (sets : List ℕ) (group : ℕ → ℕ) where
  -- a gate alone that reads nothing waits for none
  alone_waits : (x : ℕ) → Alone (length C) group x → arguments (gate_at C x) ≡ [] → waits_for C sets group x ≡ []
  alone_waits x (e, f) a = waits_read C sets group x ∙ rw (f, a)

  -- gates 0 to v − 1, each a group alone that reads nothing, are written first, in order
  pub order_first : (v : ℕ) → v ≤ length C → ((x : ℕ) → x < v → Alone (length C) group x × (arguments (gate_at C x) ≡ []))
      → (more : List ℕ) × (order C sets group ≡ more ++ down v)
  unfolding order
  order_first v h own =
      let rest = keep (λ p. eqb (group p) p) (from (0 + v) (length C - v)) in
      let n : length C ≡ v + (length C - v) = omega arith in
      let e : groups (length C) group ≡ upto v ++ rest =
      groups_kept (length C) group ∙ ap (λ (k : ℕ). keep (λ p. eqb (group p) p) (upto k)) n
      ∙ keep_run (λ p. eqb (group p) p) 0 v (length C - v) (λ x l. eq-eqb (group x) x (own x (omega arith)).0.0) in
      let r = schedule_first (waits_for C sets group) v (λ x l. alone_waits x (own x l).0 (own x l).1) rest in
      (r.0, ap (λ (gs : List ℕ). schedule (waits_for C sets group) gs (length gs) []) e ∙ r.1)

-- a gate whose group has no two members is a group alone
single : (n : ℕ) (group : ℕ → ℕ) → Named group → (x : ℕ) → x < n → (2 ≤ length (members n group (group x)) → ⊥) → Alone n group x
single n group named x l few = go (members n group (group x)) refl
  where
    go : (ms : List ℕ) → members n group (group x) ≡ ms → Alone n group x
    go [] e = absurd (rw e at (member_of n group x (group x) l refl))
    go (m ∷ []) e = (name, ap (members n group) (sym name) ∙ e ∙ ap (λ (k : ℕ). k ∷ []) (sym mine))
      where
        only : (k : ℕ) → k ∈ (m ∷ []) → k ≡ m
        only k (inl q) = q
        only k (inr q) = absurd q

        mine : x ≡ m
        mine = only x (rw e at (member_of n group x (group x) l refl))

        name : group x ≡ x
        name = only (group x) (rw e at (member_of n group (group x) (group x) (omega (arith, (named x).0)) (named x).1)) ∙ sym mine
    go (m ∷ k ∷ ms) e = absurd (few (rw e (omega arith)))

-- of an accepted plan a starting value is a group alone
pub start_alone : (s p : List ℕ) → Acceptable s p → (x y : ℕ) → x < gate_count s → gate_at (gates_of s) x ≡ gate.start y → Alone (gate_count s) (group_of (groups_in p)) x
start_alone s p a x y l e =
    let group = group_of (groups_in p) in
    single (gate_count s) group (group_of_named (groups_in p) a.laid_out.joins a.laid_out.rising a.once) x l
    (λ two.
    let (op, _, f) = members_costly s p a (group x) two in
    let (_, o) = f x (member_of (gate_count s) group x (group x) l refl) in
    let z : ◌≡◌ {A = ℕ} 0 1 = cc in
    omega arith)
