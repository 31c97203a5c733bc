-- What a group reads, for any sets of settings: it is in the circuit, so what a group waits for is a group.
use Rattle.std.specs.Prelude.{ℕ, ◌≤◌, ◌<◌, ◌≡◌, refl, cond, List, [], map, ◌⊎◌, leb}
use Rattle.std.proofs.Common.{inl, inr, arith, eq-eqb, le-leb}
use Rattle.std.proofs.Math.Dec.{eqb}
use Rattle.std.proofs.Math.ListN.{length}
use Rattle.base.specs.Lists.{◌∈◌, upto, flat}
use Rattle.base.specs.MemberLaws.{keep_in, from_in, flat_in, in_flat, map_in, in_map, append_in, in_append}
use Rattle.base.specs.TestLaws.{split}
use Rattle.circuit.specs.Gates.{Gates, gate_at, arguments, Earlier}
use Rattle.plan.specs.Groups.{groups, members, rests_of, reads_of, waits_for}
use Rattle.plan.specs.GroupLaws.{of_member}
use Rattle.plan.specs.RestLaws.{rests_inside}

-- a group waits for the groups of what its members read
pub waits_read : (C : Gates) (sets : List ℕ) (group : ℕ → ℕ) (p : ℕ)
    → waits_for C sets group p ≡ map group (flat (reads_of C sets (members (length C) group p)) (members (length C) group p))
unfolding waits_for
waits_read C sets group p = refl

module _ (C : Gates) (earlier : Earlier C) (sets : List ℕ) where
  -- what a group reads on account of its member m
  pub reads_inside : (ms : List ℕ) (m a : ℕ) → m < length C → a ∈ reads_of C sets ms m → a < length C
  reads_inside ms m a l h = go (append_in a (arguments (gate_at C m)) (cond (leb 2 (length ms)) (rests_of C sets m) []) h)
    where
      go : (a ∈ arguments (gate_at C m)) ⊎ (a ∈ cond (leb 2 (length ms)) (rests_of C sets m) []) → a < length C
      go (inl k) = omega (arith, earlier m a k)
      go (inr k) = split (leb 2 (length ms)) (λ t. rests_inside C sets m a (omega arith) (rw t at k)) (λ t. absurd (rw t at k))

  -- what it waits for
  pub waits_closed : (group : ℕ → ℕ) → ((x : ℕ) → x < length C → (group x ≤ x) × (group (group x) ≡ group x))
      → (p q : ℕ) → q ∈ waits_for C sets group p → q ∈ groups (length C) group
  unfolding waits_for groups
  waits_closed group named p q h =
      let ms = members (length C) group p in
      let r = map_in group q (flat (reads_of C sets ms) ms) h in
      let s = flat_in (reads_of C sets ms) r.0 ms r.1 in
      let l : r.0 < length C = reads_inside ms s.0 r.0 (of_member (length C) group s.0 p s.1).0 s.2 in
      let k = named r.0 l in
      rw r.2
      (keep_in (λ x. eqb (group x) x) (upto (length C)) (group r.0) (from_in 0 (length C) (group r.0) (omega arith) (omega (arith, k.0)))
      (eq-eqb (group (group r.0)) (group r.0) k.1))

module _ (C : Gates) (sets : List ℕ) (group : ℕ → ℕ) where
  -- a group waits for its members' arguments
  pub waits_argument : (p m a : ℕ) → m ∈ members (length C) group p → a ∈ arguments (gate_at C m) → group a ∈ waits_for C sets group p
  unfolding waits_for
  waits_argument p m a h k =
      let ms = members (length C) group p in
      in_map group a (flat (reads_of C sets ms) ms)
      (in_flat (reads_of C sets ms) a m ms h (in_append a (arguments (gate_at C m)) (cond (leb 2 (length ms)) (rests_of C sets m) []) (inl k)))

  -- and, of two members or more, for the conditions that they rest on
  pub waits_rests : (p m c : ℕ) → m ∈ members (length C) group p → 2 ≤ length (members (length C) group p) → c ∈ rests_of C sets m → group c ∈ waits_for C sets group p
  unfolding waits_for
  waits_rests p m c h t k =
      let ms = members (length C) group p in
      in_map group c (flat (reads_of C sets ms) ms)
      (in_flat (reads_of C sets ms) c m ms h (in_append c (arguments (gate_at C m)) (cond (leb 2 (length ms)) (rests_of C sets m) []) (inr (rw (le-leb 2 (length ms) t) k))))
