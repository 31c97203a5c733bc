-- The kinds of what is written, group by group: a gate's wire is of the gate's kind, and every record reads wires of the right kinds.
use Rattle.std.specs.Prelude.{ℕ, ◌+◌, ◌-◌, ◌≤◌, ◌<◌, ◌≡◌, refl, List, [], ◌∷◌, ◌++◌, length, get_or}
use Rattle.std.proofs.Common.{sym, ap, subst, ◌∙◌, inl, inr, zero-add, arith}
use Rattle.std.proofs.lemmas.List.{length-map}
use Rattle.base.specs.Lists.{◌∈◌, upto}
use Rattle.base.specs.MemberLaws.{get_or_in, from_below}
use Rattle.base.specs.Settings.{Once}
use Rattle.base.specs.Codes.{entry_of}
use Rattle.base.specs.declared.Kind.{Kind}
use Rattle.base.specs.declared.Kind.TheVariants as kind
use Rattle.base.specs.declared.Operation.{Operation}
use Rattle.rule.specs.Header.{kind_at}
use Rattle.circuit.specs.Gates.{Gates, gate_at, arguments, Earlier, conditions}
use Rattle.circuit.specs.Gates as gate
use Rattle.circuit.specs.GateKinds.{gate_kind, kind_of_gate, GateFits, GatesFit}
use Rattle.circuit.proofs.KindLaws as gateLaws
use Rattle.circuit.specs.Limits.{most_conditions}
use Rattle.circuit.specs.ConditionLaws.{condition_below, condition_from}
use Rattle.circuit_needed.specs.Pass.{precondition_sets}
use Rattle.plan.specs.Groups.{members, rests_of, waits_for}
use Rattle.plan.specs.Order.{Ordered}
use Rattle.plan.specs.GroupLaws.{member_of, of_member}
use Rattle.plan.specs.RestLaws.{rests_right}
use Rattle.plan.specs.ReadsLaws.{waits_argument, waits_rests}
use Rattle.file.specs.Records.{pick}
use Rattle.file.specs.WireKinds.{record_kind, AllOf, RecordFits}
use Rattle.file.specs.WireKindLaws.{GivesKind, KindsGiven}
use Rattle.file.specs.RecordLaws.{Along, along_append, along_left, along_right}
use Rattle.fused.specs.Emission.{gate_operation, pairs, guard_of, values_at, emit}
use Rattle.fused.specs.FusedCircuit.{Written, group_records, written}
use Rattle.fused.specs.JoinedLaws.{Joined}
use Rattle.fused.specs.WrittenLaws.{written_none, written_more, written_length, wire_last, wire_old}
use Rattle.fused.specs.KindedLaws.{FitsAt, alone_kind, mapped, alone_fits, joined_kind, joined_fits}

module _ (s : List ℕ) (C : Gates) (wanted : List ℕ) (earlier : Earlier C) (inside : (g : ℕ) → g ∈ wanted → g < length C) (few : length (conditions C) ≤ most_conditions)
    (fit : GatesFit (kind_at s) C) (group : ℕ → ℕ) (joins : Joined C wanted group) where
  abbrev sets : List ℕ
  sets = precondition_sets most_conditions C wanted

  abbrev of : ℕ → List ℕ
  of p = members (length C) group p

  abbrev kinds : ℕ → Kind
  kinds = kind_of_gate (kind_at s) C

  -- the wires of the groups in done are of their gates' kinds
  abbrev pub KindRight : (ℕ → Kind) → (ℕ → ℕ) → List ℕ → Type 0
  KindRight k wire done = (m : ℕ) → m < length C → group m ∈ done → k (wire (group m)) ≡ kind_of_gate (kind_at s) C m

  -- a condition is a bit
  condition_bit : (c : ℕ) → c ∈ conditions C → kinds c ≡ kind.Bit
  condition_bit c m = let r = condition_from C c m in (subst (GateFits kinds) r.3 (fit r.0)).0

  module _ (k : ℕ → Kind) (wire : ℕ → ℕ) (done : List ℕ) (right : KindRight k wire done) (p : ℕ) (before : (q : ℕ) → q ∈ waits_for C sets group p → q ∈ done) (n : ℕ) where
    abbrev to : ℕ → ℕ
    to a = wire (group a)

    argument_kind : (m a : ℕ) → m ∈ of p → a ∈ arguments (gate_at C m) → k (to a) ≡ kinds a
    argument_kind m a h q =
        right a (omega (arith, earlier m a q, (of_member (length C) group m p h).0)) (before (group a) (waits_argument C sets group p m a h q))

    one_kind : (m : ℕ) → m ∈ of p → gate_kind (kind_at s) (λ a. k (to a)) (gate_at C m) ≡ kinds m
    one_kind m h =
        gateLaws.kind_same (kind_at s) (gate_at C m) (λ a. k (to a)) kinds (λ a q. argument_kind m a h q)
        ∙ sym (gateLaws.kinds_right (kind_at s) C earlier m (of_member (length C) group m p h).0)

    module _ (two : 2 ≤ length (of p)) where
      guard_fits : (m : ℕ) → m ∈ of p → RecordFits k (guard_of s C sets to m)
      guard_fits m h =
          mapped k kind.Bit to (rests_of C sets m)
          (λ c q.
          let i : c ∈ conditions C = ((rests_right C wanted earlier inside few m c).0 q).0 in
          right c (condition_below C c i) (before (group c) (waits_rests C sets group p m c h two q)) ∙ condition_bit c i)

      -- a member's value at an argument place is what the operation takes
      value_kind : (op : Operation) (m : ℕ) → m ∈ of p → (l : List ℕ) → gate_at C m ≡ gate.operation op l → (i : ℕ) → i < length l
          → k (to (get_or (arguments (gate_at C m)) i 0)) ≡ (entry_of op).takes
      value_kind op m h l e i b =
          let f = subst (GateFits kinds) e (fit m) in
          argument_kind m (get_or (arguments (gate_at C m)) i 0) h (rw e (get_or_in l i b)) ∙ rw e (f.1 (get_or l i 0) (get_or_in l i b))

      -- so the picks of a group whose members are of one operation fit, and so does the operation
      many_kinds : (a b : ℕ) (l : List ℕ) → of p ≡ a ∷ b ∷ l → KindsGiven k n (emit s C sets to n (a ∷ b ∷ l))
          → Along (FitsAt k) n (emit s C sets to n (a ∷ b ∷ l)) × ((m : ℕ) → m ∈ of p → k (n + length (emit s C sets to n (a ∷ b ∷ l)) - 1) ≡ kinds m)
      many_kinds a b l e given = (joined_fits k n op (guard_of s C sets to) ms F ks guards values given, λ m h. joined_kind k n op (guard_of s C sets to) ms F ks guards values given ∙ gives m h)
        where
          ms : List ℕ
          ms = a ∷ b ∷ l

          op : Operation
          op = gate_operation (gate_at C a)

          ks : List ℕ
          ks = upto (length (arguments (gate_at C a)))

          F : ℕ → List ℕ
          F = values_at s C sets to ms

          among : (m : ℕ) → m ∈ ms → m ∈ of p
          among m h = rw e h

          -- each member is that operation on as many arguments
          its : (m : ℕ) → m ∈ of p → (r : List ℕ) × (gate_at C m ≡ gate.operation op r) × (length (arguments (gate_at C a)) ≡ length r)
          its m h = let r = joins.alike p two a m (among a (inl refl)) h in (r.1, rw r.3 r.2, r.4)

          gives : (m : ℕ) → m ∈ of p → (entry_of op).gives ≡ kinds m
          gives m h =
              ap (gate_kind (kind_at s) kinds) (sym (its m h).1) ∙ sym (gateLaws.kinds_right (kind_at s) C earlier m (of_member (length C) group m p h).0)

          guards : (m : ℕ) → m ∈ ms → (record_kind k (guard_of s C sets to m) ≡ kind.Bit) × RecordFits k (guard_of s C sets to m)
          guards m h = (refl, guard_fits m (among m h))

          at_place : (i m : ℕ) → i ∈ ks → m ∈ ms → k (to (get_or (arguments (gate_at C m)) i 0)) ≡ (entry_of op).takes
          at_place i m q h =
              let r = its m (among m h) in
              value_kind op m (among m h) r.0 r.1 i (omega (arith, (from_below 0 (length (arguments (gate_at C a))) i q).1, r.2))

          values : (i : ℕ) → i ∈ ks → (length (F i) ≡ length ms) × AllOf k (entry_of op).takes (F i) × (record_kind k (pick (pairs n (F i))) ≡ (entry_of op).takes)
          values i q = (
            length-map ms (λ m. to (get_or (arguments (gate_at C m)) i 0)),
            mapped k (entry_of op).takes (λ m. to (get_or (arguments (gate_at C m)) i 0)) ms (λ m h. at_place i m q h),
            at_place i a q (inl refl),
          )

    -- the records of a group fit, and its last is of each member's kind
    group_kinds : KindsGiven k n (emit s C sets to n (of p))
        → Along (FitsAt k) n (emit s C sets to n (of p)) × ((m : ℕ) → m ∈ of p → k (n + length (emit s C sets to n (of p)) - 1) ≡ kinds m)
    group_kinds given = go (of p) refl given
      where
        go : (ms : List ℕ) → of p ≡ ms → KindsGiven k n (emit s C sets to n ms)
            → Along (FitsAt k) n (emit s C sets to n ms) × ((m : ℕ) → m ∈ of p → k (n + length (emit s C sets to n ms) - 1) ≡ kinds m)
        go [] e g = (tt, λ m h. absurd (rw e at h))
        go (a ∷ []) e (g, _) = (
          (alone_fits s k to kinds (gate_at C a) (fit a) (λ b q. argument_kind a b (rw e (inl refl)) q), tt),
          λ m h. ap k (omega arith) ∙ g ∙ alone_kind s k to (gate_at C a) ∙ one_kind a (rw e (inl refl)) ∙ ap kinds (sym (only a m (rw e at h))),
        )
          where
            only : (a m : ℕ) → m ∈ (a ∷ []) → m ≡ a
            only a m (inl q) = q
            only a m (inr q) = absurd q
        go (a ∷ b ∷ l) e g = many_kinds (rw e (omega arith)) a b l e g

  -- groups written in order: every record fits, and every wire is of its gates' kind
  pub written_kinds : (k : ℕ → Kind) (done : List ℕ) → Once done → Ordered (waits_for C (precondition_sets most_conditions C wanted) group) done
      → KindsGiven k 0 (written s C (precondition_sets most_conditions C wanted) group done).records
      → Along (FitsAt k) 0 (written s C (precondition_sets most_conditions C wanted) group done).records
      × KindRight k (written s C (precondition_sets most_conditions C wanted) group done).wire done
  written_kinds k [] u o g = (rw (written_none s C sets group) tt, λ m l h. absurd h)
  written_kinds k (p ∷ done) (new, u) (before, o) g = with_old (written_kinds k done u o (along_left (GivesKind k) w.records _ 0 parts))
    where
      w : Written
      w = written s C sets group done

      parts : KindsGiven k 0 (w.records ++ group_records s C sets group w p)
      parts = rw (written_more s C sets group p done) at g

      with_old : Along (FitsAt k) 0 w.records × KindRight k w.wire done
          → Along (FitsAt k) 0 (written s C sets group (p ∷ done)).records × KindRight k (written s C sets group (p ∷ done)).wire (p ∷ done)
      with_old (fits, right) =
          (rw (written_more s C sets group p done) (along_append (FitsAt k) w.records _ 0 fits (rw zero-add fresh.0)), wires)
        where
          fresh : Along (FitsAt k) (length w.records) (group_records s C sets group w p)
              × ((m : ℕ) → m ∈ of p → k (length w.records + length (group_records s C sets group w p) - 1) ≡ kinds m)
          fresh =
              group_kinds k w.wire done right p before (length w.records) (rw zero-add at (along_right (GivesKind k) w.records _ 0 parts))

          wires : KindRight k (written s C sets group (p ∷ done)).wire (p ∷ done)
          wires m l (inl e) =
              ap (λ (q : ℕ). k ((written s C sets group (p ∷ done)).wire q)) e
              ∙ ap k (wire_last s C sets group p done ∙ ap (λ (n : ℕ). n - 1) (written_length s C sets group p done))
              ∙ fresh.1 m (member_of (length C) group m p l e)
          wires m l (inr j) = ap k (wire_old s C sets group p done (new, u) (group m) j) ∙ right m l j
