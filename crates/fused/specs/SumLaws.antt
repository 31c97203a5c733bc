-- The guards of picks: whatever figures the other wires hold, at most one guard of a pick is 1.
use Rattle.std.specs.Prelude.{ℕ, suc, ◌≤◌, ◌<◌, ◌≡◌, refl, Bool, true, false, List, [], ◌∷◌, ◌++◌, map, length, get_or}
use Rattle.std.proofs.Common.{ap, ◌∙◌, inl, inr, zero-add, arith}
use Rattle.base.specs.Lists.{◌∈◌, upto}
use Rattle.base.specs.TestLaws.{split}
use Rattle.base.specs.Settings.{Once}
use Rattle.base.specs.declared.Operation.{Operation}
use Rattle.base.specs.Results.{is_one}
use Rattle.file.specs.Records.{Record}
use Rattle.file.specs.Sums.{guards_at_one}
use Rattle.file.specs.SumLaws.{GivesGuard, OneGuard}
use Rattle.file.specs.RecordLaws.{Along, along_append, along_left, along_right, along_map}
use Rattle.circuit.specs.Gates.{Gates, gate_at, arguments, Earlier, conditions}
use Rattle.circuit.specs.Limits.{most_conditions}
use Rattle.circuit_needed.specs.Pass.{needed, precondition_sets}
use Rattle.circuit_needed.specs.PassLaws.{needed_sound}
use Rattle.plan.specs.Groups.{members}
use Rattle.fused.specs.Emission.{gate_operation, pairs, one_wire, guard_of, values_at, emit}
use Rattle.fused.specs.FusedCircuit.{Written, group_records, written}
use Rattle.fused.specs.EmitLaws.{alone_any}
use Rattle.fused.specs.JoinedParts.{joined_along, joined_guards}
use Rattle.fused.specs.PickLaws.{is_bit_lem, Guarding, guards_hold}
use Rattle.fused.specs.JoinedLaws.{Joined, members_once, joined_one}
use Rattle.fused.specs.GuardLaws.{guard_figure_lem}
use Rattle.fused.specs.WrittenLaws.{written_none, written_more}

module _ (W : ℕ → ℕ) where
  module _ (on : ℕ → Bool) (value : ℕ → ℕ) where
    guards_none : (ms : List ℕ) (n : ℕ) → Guarding W on n ms → ((m : ℕ) → m ∈ ms → on m ≡ false) → guards_at_one W (pairs n (map value ms)) ≡ 0
    guards_none [] n g h = refl
    guards_none (m ∷ ms) n (e, g) h =
        let u : is_one (W n) ≡ false = ap is_one e ∙ is_bit_lem (on m) ∙ h m (inl refl) in
        rw (u, zero-add) (guards_none ms (suc n) g (λ k q. h k (inr q)))

    -- of members that exclude each other one guard at most is 1
    guards_one : (ms : List ℕ) (n : ℕ) → Guarding W on n ms → Once ms → ((m k : ℕ) → m ∈ ms → k ∈ ms → (m ≡ k → ⊥) → on m ≡ true → on k ≡ false)
        → guards_at_one W (pairs n (map value ms)) ≤ 1
    guards_one [] n g o h = omega arith
    guards_one (m ∷ ms) n (e, g) (new, o) h =
        split (on m)
        (λ t.
        let u : is_one (W n) ≡ true = ap is_one e ∙ is_bit_lem (on m) ∙ t in
        rw (u, guards_none ms (suc n) g (λ k q. h m k (inl refl) (inr q) (λ y. new (rw y q)) t)) (omega arith))
        (λ t.
        let u : is_one (W n) ≡ false = ap is_one e ∙ is_bit_lem (on m) ∙ t in
        rw (u, zero-add) (guards_one ms (suc n) g o (λ i k x y. h i k (inr x) (inr y))))

  module _ (s : List ℕ) (C : Gates) (wanted : List ℕ) (earlier : Earlier C) (inside : (g : ℕ) → g ∈ wanted → g < length C) (few : length (conditions C) ≤ most_conditions)
      (group : ℕ → ℕ) (joins : Joined C wanted group) where
    abbrev sets : List ℕ
    sets = precondition_sets most_conditions C wanted

    group_one : (wire : ℕ → ℕ) (n p : ℕ) → Along (GivesGuard W) n (emit s C sets wire n (members (length C) group p))
        → Along (OneGuard W) n (emit s C sets wire n (members (length C) group p))
    group_one wire n p = go (members (length C) group p) refl
      where
        on : ℕ → Bool
        on m = needed C wanted m (λ c. is_one (W (wire c)))

        go : (ms : List ℕ) → members (length C) group p ≡ ms → Along (GivesGuard W) n (emit s C sets wire n ms) → Along (OneGuard W) n (emit s C sets wire n ms)
        go [] e h = tt
        go (a ∷ []) e h = (alone_any (OneGuard W n) (λ k x. tt) (λ n. tt) (λ b. tt) (λ op l. tt) (λ c a b. tt) s wire (gate_at C a), tt)
        go (a ∷ j ∷ l) e h =
            joined_along (OneGuard W) n op guards (values_at s C sets wire ms) ks (along_map (OneGuard W) (guard_of s C sets wire) ms n n (omega arith) (λ i m k b. tt))
            (λ i m f k b. guards_one on (λ q. wire (get_or (arguments (gate_at C q)) i 0)) ms n (held i m f) (rw e at (members_once (length C) group p))
            (λ q r x y f t. joined_one C wanted group joins p (rw e (omega arith)) q r (rw e x) (rw e y) f (λ c. is_one (W (wire c)))
            (needed_sound C wanted (λ c. is_one (W (wire c))) q t)))
            tt
          where
            ms : List ℕ
            ms = a ∷ j ∷ l

            op : Operation
            op = gate_operation (gate_at C a)

            ks : List ℕ
            ks = upto (length (arguments (gate_at C a)))

            guards : List Record
            guards = map (guard_of s C sets wire) ms

            held : (i : ℕ) → i ∈ ks → one_wire (values_at s C sets wire ms i) ≡ false → Guarding W on n ms
            held i m f =
                guards_hold W on (GivesGuard W) (guard_of s C sets wire) (λ i m k. k _ _ refl ∙ guard_figure_lem C wanted earlier inside few W wire m) ms n
                (joined_guards (GivesGuard W) n op guards (values_at s C sets wire ms) ks h i m f)

    -- so it is of every pick that is written
    pub written_one : (done : List ℕ) → Along (GivesGuard W) 0 (written s C (precondition_sets most_conditions C wanted) group done).records
        → Along (OneGuard W) 0 (written s C (precondition_sets most_conditions C wanted) group done).records
    written_one [] h = rw (written_none s C sets group) tt
    written_one (p ∷ done) h =
        rw (written_more s C sets group p done)
        (along_append (OneGuard W) w.records _ 0 (written_one done (along_left (GivesGuard W) w.records _ 0 parts))
        (rw zero-add (group_one (λ a. w.wire (group a)) (length w.records) p (rw zero-add at (along_right (GivesGuard W) w.records _ 0 parts)))))
      where
        w : Written
        w = written s C sets group done

        parts : Along (GivesGuard W) 0 (w.records ++ group_records s C sets group w p)
        parts = rw (written_more s C sets group p done) at h
