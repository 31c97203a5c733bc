-- Where the records of a group stand in the fused circuit, as they follow from the wires of the whole circuit; distinct groups have distinct wires, and what a group
-- waits for has an earlier one.
use Rattle.std.specs.Prelude.{ℕ, ◌+◌, ◌-◌, ◌<◌, ◌≡◌, refl, List, [], ◌∷◌, ◌++◌, ◌↔◌, ◌⊎◌, length}
use Rattle.std.proofs.Common.{sym, ap, ◌∙◌, append_assoc, append-nil, inl, inr, arith}
use Rattle.base.specs.Lists.{◌∈◌}
use Rattle.base.specs.TestLaws.{same?}
use Rattle.base.specs.Settings.{Once}
use Rattle.file.specs.Records.{Record, record_in}
use Rattle.circuit.specs.Gates.{Gates}
use Rattle.circuit.specs.PlainCircuit.{gates_of}
use Rattle.circuit_needed.specs.Pass.{rule_preconditions}
use Rattle.plan.specs.PlanFile.{groups_in}
use Rattle.plan.specs.Groups.{group_of, groups, members, waits_for}
use Rattle.plan.specs.Order.{Ordered, order}
use Rattle.plan.specs.Rows.{plan_answer}
use Rattle.plan.specs.ReadsLaws.{waits_argument, waits_rests}
use Rattle.plan.proofs.WaitLaws.{order_from, order_ordered, order_once}
use Rattle.fused.specs.Emission.{emit}
use Rattle.fused.specs.FusedCircuit.{Written, group_records, written, fused, records_of, wire_of}
use Rattle.fused.specs.JoinedGates.{Stands}
use Rattle.fused.specs.EmitSame.{emit_same}
use Rattle.fused.specs.WrittenLaws.{Level, written_more, written_length, records_some, wire_last, wire_old, wire_below}
use Rattle.fused.specs.PlannedLaws.{planned_level, planned_group}

-- the record behind some others
pub record_behind : (before : List Record) (r : Record) (after : List Record) → record_in (before ++ (r ∷ after)) (length before) ≡ r
record_behind [] r after = refl
record_behind (b ∷ before) r after = record_behind before r after

-- records that are other ones at every place stand where these do
pub stands_as : (R : List Record) (w : ℕ) (f g : ℕ → List Record) → ((n : ℕ) → f n ≡ g n) → Stands R w f → Stands R w g
stands_as R w f g e z =
    record {
      before = z.before;
      after = z.after;
      together = z.together ∙ ap (λ (G : List Record). z.before ++ (G ++ z.after)) (e (length z.before));
      last = z.last ∙ ap (λ (G : List Record). length z.before + length G - 1) (e (length z.before));
    }

-- what a group waits for is written before it
waits_done : (C : Gates) (sets : List ℕ) (group : ℕ → ℕ) (done : List ℕ) → Ordered (waits_for C sets group) done → (p : ℕ) → p ∈ done → (q : ℕ) → q ∈ waits_for C sets group p → q ∈ done
waits_done C sets group [] _ p x4 q k = elim x4 [ ]
waits_done C sets group (r ∷ done) (before, o) p (inl e) q k = inr (before q (rw e at k))
waits_done C sets group (r ∷ done) (before, o) p (inr m) q k = inr (waits_done C sets group done o p m q k)

module _ (s : List ℕ) (C : Gates) (sets : List ℕ) (group : ℕ → ℕ) (level : Level C group) where
  -- a group's records from the wires of the groups done are those from the wires of one group more
  one_more : (r : ℕ) (done : List ℕ) → Once (r ∷ done) → (p : ℕ) → ((q : ℕ) → q ∈ waits_for C sets group p → q ∈ done) → (n : ℕ)
      → emit s C sets (λ a. (written s C sets group done).wire (group a)) n (members (length C) group p)
      ≡ emit s C sets (λ a. (written s C sets group (r ∷ done)).wire (group a)) n (members (length C) group p)
  one_more r done once p waits n =
      emit_same s C sets (λ a. (written s C sets group done).wire (group a)) (λ a. (written s C sets group (r ∷ done)).wire (group a)) n (members (length C) group p)
      (λ m a i k. sym (wire_old s C sets group r done once (group a) (waits (group a) (waits_argument C sets group p m a i k))))
      (λ t m a i k. sym (wire_old s C sets group r done once (group a) (waits (group a) (waits_rests C sets group p m a i t k))))
      (level p)

  written_stands : (done : List ℕ) → Once done → Ordered (waits_for C sets group) done → (p : ℕ) → p ∈ done
      → Stands (written s C sets group done).records ((written s C sets group done).wire p)
      (λ n. emit s C sets (λ a. (written s C sets group done).wire (group a)) n (members (length C) group p))
  written_stands [] _ _ p k = elim k [ ]
  written_stands (r ∷ done) (new, u) (before, o) p k = go (same? p r) k (λ m. written_stands done u o p m)
    where
      w : Written
      w = written s C sets group done

      x : Written
      x = written s C sets group (r ∷ done)

      go : (p ≡ r) ⊎ (p ≡ r → ⊥) → p ∈ (r ∷ done)
          → (p ∈ done → Stands w.records (w.wire p) (λ n. emit s C sets (λ a. w.wire (group a)) n (members (length C) group p)))
          → Stands x.records (x.wire p) (λ n. emit s C sets (λ a. x.wire (group a)) n (members (length C) group p))
      go (inl e) m ih =
          let same = one_more r done (new, u) r before (length w.records) in
          rw e (record {
            before = w.records;
            after = [];
            together = rw (written_more s C sets group r done, same, append-nil);
            last = rw (wire_last s C sets group r done, written_length s C sets group r done, same);
          })
      go (inr n) (inl e) ih = absurd (n e)
      go (inr n) (inr m) ih =
          let i = ih m in
          let same = one_more r done (new, u) p (waits_done C sets group done o p m) (length i.before) in
          record {
            before = i.before;
            after = i.after ++ group_records s C sets group w r;
            together = rw (written_more s C sets group r done, i.together) (rw (append_assoc, append_assoc, same));
            last = rw (wire_old s C sets group r done (new, u) p m, ← same) i.last;
          }

-- distinct groups have distinct wires
module _ (s : List ℕ) (C : Gates) (sets : List ℕ) (group : ℕ → ℕ) where
  -- the wire of the group just written lies behind those of all others
  wire_behind : (r : ℕ) (done : List ℕ) → Once (r ∷ done) → ((p : ℕ) → p ∈ (r ∷ done) → p ∈ groups (length C) group) → (q : ℕ) → q ∈ done
      → (written s C sets group (r ∷ done)).wire q < (written s C sets group (r ∷ done)).wire r
  wire_behind r done once f q m =
      omega (
        arith,
        wire_old s C sets group r done once q m,
        wire_below s C sets group done (λ h k. f h (inr k)) q m,
        wire_last s C sets group r done,
        written_length s C sets group r done,
        records_some s C sets group (written s C sets group done) r (f r (inl refl)),
      )

  -- so what a group waits for has an earlier wire
  waits_earlier : (done : List ℕ) → Once done → ((p : ℕ) → p ∈ done → p ∈ groups (length C) group) → Ordered (waits_for C sets group) done
      → (p q : ℕ) → p ∈ done → q ∈ waits_for C sets group p → (written s C sets group done).wire q < (written s C sets group done).wire p
  waits_earlier [] once f _ p q x6 k = elim x6 [ ]
  waits_earlier (r ∷ done) once f (before, o) p q (inl e) k = rw e (wire_behind r done once f q (before q (rw e at k)))
  waits_earlier (r ∷ done) once f (before, o) p q (inr m) k =
      rw (wire_old s C sets group r done once q (waits_done C sets group done o p m q k), wire_old s C sets group r done once p m)
      (waits_earlier done once.1 (λ g i. f g (inr i)) o p q m k)

  written_distinct : (done : List ℕ) → Once done → ((p : ℕ) → p ∈ done → p ∈ groups (length C) group) → (p q : ℕ) → p ∈ done → q ∈ done
      → (written s C sets group done).wire p ≡ (written s C sets group done).wire q → p ≡ q
  written_distinct [] _ f p q i j e = elim i [ ]
  written_distinct (r ∷ done) (new, u) f p q i j e = go (same? p r) (same? q r) i j (λ x y z. written_distinct done u (λ g k. f g (inr k)) p q x y z)
    where
      w : Written
      w = written s C sets group done

      x : Written
      x = written s C sets group (r ∷ done)

      go : (p ≡ r) ⊎ (p ≡ r → ⊥) → (q ≡ r) ⊎ (q ≡ r → ⊥) → p ∈ (r ∷ done) → q ∈ (r ∷ done) → (p ∈ done → q ∈ done → w.wire p ≡ w.wire q → p ≡ q) → p ≡ q
      go (inl a) (inl b) i j ih = a ∙ sym b
      go (inl a) (inr b) i (inl c) ih = absurd (b c)
      go (inl a) (inr b) i (inr k) ih = let z : x.wire r ≡ x.wire q = rw a at e in absurd (omega (arith, wire_behind r done (new, u) f q k, z))
      go (inr a) (inl b) (inl c) j ih = absurd (a c)
      go (inr a) (inl b) (inr k) j ih = let z : x.wire p ≡ x.wire r = rw b at e in absurd (omega (arith, wire_behind r done (new, u) f p k, z))
      go (inr a) (inr b) (inl c) j ih = absurd (a c)
      go (inr a) (inr b) (inr k) (inl c) ih = absurd (b c)
      go (inr a) (inr b) (inr k) (inr l) ih = ih k l (sym (wire_old s C sets group r done (new, u) p k) ∙ e ∙ wire_old s C sets group r done (new, u) q l)

module _ (s p : List ℕ) (h : (plan_answer s p).number ≡ 0) where
  -- of an accepted plan: the records of every gate's group, from the wires of the whole circuit
  pub group_stands : (g : ℕ) → g < length (gates_of s)
      → Stands (records_of s p) (wire_of s p g) (λ n. emit s (gates_of s) (rule_preconditions s) (wire_of s p) n (members (length (gates_of s)) (group_of (groups_in p)) (group_of (groups_in p) g)))
  unfolding fused
  group_stands g l =
      let C = gates_of s in
      let sets = rule_preconditions s in
      let group = group_of (groups_in p) in
      written_stands s C sets group (planned_level s p h) (order C sets group) (order_once C sets group) (order_ordered C sets group) (group g) (planned_group s p h g l)

  -- distinct groups have distinct wires,
  wires_distinct : (g k : ℕ) → g < length (gates_of s) → k < length (gates_of s) → wire_of s p g ≡ wire_of s p k → group_of (groups_in p) g ≡ group_of (groups_in p) k
  unfolding fused
  wires_distinct g k l b e =
      let C = gates_of s in
      let sets = rule_preconditions s in
      let group = group_of (groups_in p) in
      written_distinct s C sets group (order C sets group) (order_once C sets group) (order_from C sets group) (group g) (group k)
      (planned_group s p h g l) (planned_group s p h k b) e

  -- so gates have one wire exactly when they are in one group
  pub same_wire : (g k : ℕ) → g < length (gates_of s) → k < length (gates_of s) → (wire_of s p g ≡ wire_of s p k) ↔ (group_of (groups_in p) g ≡ group_of (groups_in p) k)
  same_wire g k l b = (wires_distinct g k l b, λ e. ap (fused s p).wire e)

  -- what a group waits for has an earlier wire
  pub waited_earlier : (m a : ℕ) → m < length (gates_of s)
      → group_of (groups_in p) a ∈ waits_for (gates_of s) (rule_preconditions s) (group_of (groups_in p)) (group_of (groups_in p) m) → wire_of s p a < wire_of s p m
  unfolding fused
  waited_earlier m a l k =
      let C = gates_of s in
      let sets = rule_preconditions s in
      let group = group_of (groups_in p) in
      waits_earlier s C sets group (order C sets group) (order_once C sets group) (order_from C sets group) (order_ordered C sets group) (group m) (group a)
      (planned_group s p h m l) k
