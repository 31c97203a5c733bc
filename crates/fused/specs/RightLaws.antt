-- The fused circuit gives every needed gate its plain figure, group by group in the order of writing.
use Rattle.std.specs.Prelude.{ℕ, ◌+◌, ◌-◌, ◌≤◌, ◌<◌, ◌≡◌, refl, true, false, List, [], ◌∷◌, ◌++◌, map, length, get_or}
use Rattle.std.proofs.Common.{sym, ap, ◌∙◌, subst, inl, inr, zero-add, arith}
use Rattle.base.specs.Lists.{◌∈◌, upto}
use Rattle.base.specs.MemberLaws.{get_or_in, from_below, in_map}
use Rattle.base.specs.TestLaws.{split}
use Rattle.base.specs.ListLaws.{map_same}
use Rattle.base.specs.Settings.{Setting, Once}
use Rattle.base.specs.declared.Operation.{Operation}
use Rattle.base.specs.Results.{is_one, result_on}
use Rattle.file.specs.Records.{Record, pick_figure}
use Rattle.file.specs.RecordLaws.{GivesFigure, Figured, along_left, along_right}
use Rattle.circuit.specs.Gates.{Gate, start, word, bit, operation, choice, Gates, gate_at, arguments, Earlier, figure, figure_at, conditions}
use Rattle.circuit.specs.FigureLaws.{figures_right}
use Rattle.circuit.specs.Limits.{most_conditions}
use Rattle.circuit_needed.specs.Needed.{asks, Needed, asked}
use Rattle.circuit_needed.specs.NeededLaws.{asks_arguments, needed_inside}
use Rattle.circuit_needed.specs.Pass.{needed, precondition_sets}
use Rattle.circuit_needed.specs.PassLaws.{needed_complete}
use Rattle.plan.specs.Groups.{members, waits_for}
use Rattle.plan.specs.Order.{Ordered}
use Rattle.plan.specs.GroupLaws.{member_of}
use Rattle.plan.specs.ReadsLaws.{waits_argument, waits_rests}
use Rattle.fused.specs.Emission.{gate_operation, pairs, one_wire, joined, guard_of, values_at, emit}
use Rattle.fused.specs.PlaceLaws.{one_wire_each}
use Rattle.fused.specs.JoinedParts.{joined_guards}
use Rattle.fused.specs.FusedCircuit.{Written, group_records, written}
use Rattle.fused.specs.PickLaws.{places_map, alone_figure, Guarding, guards_hold, pick_one, joined_figure}
use Rattle.fused.specs.JoinedLaws.{Joined, joined_one}
use Rattle.fused.specs.GuardLaws.{guard_figure_lem, guard_needed}
use Rattle.fused.specs.WrittenLaws.{written_more, written_length, wire_last, wire_old}

-- a gate's figure reads only what it asks for under the setting that the figures v give
figure_asks : (inputs : List ℕ) (v w : ℕ → ℕ) (k : Gate) → ((a : ℕ) → a ∈ asks (λ c. is_one (v c)) k → w a ≡ v a) → figure inputs w k ≡ figure inputs v k
figure_asks inputs v w (start x) h = refl
figure_asks inputs v w (word n) h = refl
figure_asks inputs v w (bit b) h = refl
figure_asks inputs v w (operation op l) h = ap (result_on op) (map_same w v l h)
figure_asks inputs v w (choice c a b) h =
    rw (h c (inl refl)) (split (is_one (v c)) (λ t. rw t (h a (inr (inl (rw t))))) (λ t. rw t (h b (inr (inl (rw t))))))

module _ (s : List ℕ) (C : Gates) (wanted : List ℕ) (earlier : Earlier C) (inside : (g : ℕ) → g ∈ wanted → g < length C) (few : length (conditions C) ≤ most_conditions)
    (group : ℕ → ℕ) (joins : Joined C wanted group) (inputs : List ℕ) where
  abbrev sets : List ℕ
  sets = precondition_sets most_conditions C wanted

  abbrev of : ℕ → List ℕ
  of p = members (length C) group p

  abbrev v : ℕ → ℕ
  v = figure_at inputs C

  -- the actual setting
  abbrev actual : Setting
  actual = λ c. is_one (figure_at inputs C c)

  -- the wires of the groups in done are right for every needed gate
  abbrev pub Right : (ℕ → ℕ) → (ℕ → ℕ) → List ℕ → Type 0
  Right W wire done = (m : ℕ) → group m ∈ done → Needed C wanted (λ c. is_one (figure_at inputs C c)) m → W (wire (group m)) ≡ figure_at inputs C m

  module _ (W wire : ℕ → ℕ) (done : List ℕ) (right : Right W wire done) (p : ℕ) (before : (q : ℕ) → q ∈ waits_for C sets group p → q ∈ done) (n : ℕ) where
    -- the setting that the wires of the conditions make
    abbrev wired : Setting
    wired = λ c. is_one (W (wire (group c)))

    abbrev emitted : List ℕ → List Record
    emitted ms = emit s C sets (λ a. wire (group a)) n ms

    argument_right : (m a : ℕ) → m ∈ of p → Needed C wanted actual m → a ∈ asks actual (gate_at C m) → W (wire (group a)) ≡ v a
    argument_right m a h d k = right a (before (group a) (waits_argument C sets group p m a h (asks_arguments actual (gate_at C m) a k))) (asked d k)

    one_gate : (m : ℕ) → m < length C → m ∈ of p → Needed C wanted actual m → figure inputs (λ a. W (wire (group a))) (gate_at C m) ≡ v m
    one_gate m b h d =
        figure_asks inputs v (λ a. W (wire (group a))) (gate_at C m) (λ a k. argument_right m a h d k) ∙ sym (figures_right inputs C earlier m b)

    module _ (two : 2 ≤ length (of p)) where
      -- every guard says whether its member is needed
      guards_right : (m : ℕ) → m ∈ of p → needed C wanted m wired ≡ needed C wanted m actual
      guards_right m h =
          guard_needed C wanted earlier inside few actual wired m
          (λ c k d. ap is_one (right c (before (group c) (waits_rests C sets group p m c h two k)) d))

      -- so every pick gives the needed member's value
      pick_right : (m : ℕ) → m ∈ of p → Needed C wanted actual m → (op : Operation) (l : List ℕ) → gate_at C m ≡ operation op l
          → Guarding W (λ i. needed C wanted i wired) n (of p) → (j : ℕ) → j < length l
          → pick_figure W (pairs n (values_at s C sets (λ a. wire (group a)) (of p) j)) ≡ v (get_or l j 0)
      pick_right m h d op l e g j b =
          pick_one W (λ i. needed C wanted i wired) (λ i. wire (group (get_or (arguments (gate_at C i)) j 0))) (of p) n g m h
          (guards_right m h ∙ needed_complete C wanted actual earlier inside m d) (λ i q f. guards_right i q ∙ joined_one C wanted group joins p two m i h q f actual d)
          ∙ rw e (argument_right m (get_or l j 0) h d (rw e (get_or_in l j b)))

      -- and a wire that all members have at a place has it
      wire_right : (m : ℕ) → m ∈ of p → Needed C wanted actual m → (op : Operation) (l : List ℕ) → gate_at C m ≡ operation op l
          → (j : ℕ) → j < length l → one_wire (values_at s C sets (λ a. wire (group a)) (of p) j) ≡ true
          → W (get_or (values_at s C sets (λ a. wire (group a)) (of p) j) 0 0) ≡ v (get_or l j 0)
      wire_right m h d op l e j b t =
          ap W (sym (one_wire_each (values_at s C sets (λ a. wire (group a)) (of p) j) t (wire (group (get_or (arguments (gate_at C m)) j 0)))
          (in_map (λ i. wire (group (get_or (arguments (gate_at C i)) j 0))) m (of p) h)))
          ∙ rw e (argument_right m (get_or l j 0) h d (rw e (get_or_in l j b)))

      -- the guards and the places of a group whose first member is a
      abbrev guards : List ℕ → List Record
      guards ms = map (guard_of s C sets (λ c. wire (group c))) ms

      abbrev places : ℕ → List ℕ
      places a = upto (length (arguments (gate_at C a)))

      abbrev larger : ℕ → List ℕ → List Record
      larger a ms = joined n (gate_operation (gate_at C a)) (guards ms) (map (values_at s C sets (λ c. wire (group c)) ms) (places a))

      many_gates : (a : ℕ) → a ∈ of p → (m : ℕ) → m < length C → m ∈ of p → Needed C wanted actual m → Figured inputs W n (larger a (of p))
          → W (n + length (larger a (of p)) - 1) ≡ v m
      many_gates a k m b h d f =
          let op = gate_operation (gate_at C a) in
          let F = values_at s C sets (λ c. wire (group c)) (of p) in
          let r = joins.alike p two a m k h in
          let below : (j : ℕ) → j ∈ places a → j < length r.1 = λ j q. omega (arith, (from_below 0 (length (arguments (gate_at C a))) j q).1, r.4) in
          let g : (j : ℕ) → j ∈ places a → one_wire (F j) ≡ false → Guarding W (λ i. needed C wanted i wired) n (of p) = λ j q o. guards_hold W (λ i. needed C wanted i wired) (GivesFigure inputs W)
          (guard_of s C sets (λ c. wire (group c))) (λ i q e. e ∙ guard_figure_lem C wanted earlier inside few W (λ c. wire (group c)) q) (of p) n
          (joined_guards (GivesFigure inputs W) n op (guards (of p)) F (places a) f j q o) in
          let values : result_on op (map (λ j. v (get_or r.1 j 0)) (places a)) ≡ result_on r.0 (map v r.1) =
          rw (r.3, r.4) (ap (result_on r.0) (places_map (λ j. v (get_or r.1 j 0)) v r.1 (λ j q. refl))) in
          joined_figure inputs W n op (guards (of p)) F (places a) (λ j. v (get_or r.1 j 0))
          (λ j q t. wire_right m h d r.0 r.1 r.2 j (below j q) t)
          (λ j q o. pick_right m h d r.0 r.1 r.2 (g j q o) j (below j q)) f
          ∙ values
          ∙ ap (figure inputs v) (sym r.2)
          ∙ sym (figures_right inputs C earlier m b)

    -- the last record of a group's has the needed member's figure
    group_right : Figured inputs W n (emitted (of p)) → (m : ℕ) → m < length C → m ∈ of p → Needed C wanted actual m → W (n + length (emitted (of p)) - 1) ≡ v m
    group_right f m b h d = go (of p) refl f h
      where
        go : (ms : List ℕ) → of p ≡ ms → Figured inputs W n (emitted ms) → m ∈ ms → W (n + length (emitted ms) - 1) ≡ v m
        go [] e f k = absurd k
        go (a ∷ []) e (f, _) (inl q) =
            ap W (omega arith) ∙ f ∙ alone_figure inputs s W (λ c. wire (group c)) (gate_at C a)
            ∙ ap (λ (g : ℕ). figure inputs (λ c. W (wire (group c))) (gate_at C g)) (sym q) ∙ one_gate m b h d
        go (a ∷ []) e f (inr k) = absurd k
        go (a ∷ j ∷ ms) e f k =
            let two : 2 ≤ length (of p) = rw e (omega arith) in
            subst (λ (l : List ℕ). Figured inputs W n (larger two a l) → W (n + length (larger two a l) - 1) ≡ v m) e
            (many_gates two a (rw e (inl refl)) m b h d) f

  -- the wires of groups written in order are right for every needed gate
  pub written_right : (W : ℕ → ℕ) (done : List ℕ) → Once done → Ordered (waits_for C (precondition_sets most_conditions C wanted) group) done
      → Figured inputs W 0 (written s C (precondition_sets most_conditions C wanted) group done).records
      → Right W (written s C (precondition_sets most_conditions C wanted) group done).wire done
  written_right W [] u o f m k d = absurd k
  written_right W (p ∷ done) (new, u) (before, o) f m k d = go (written_right W done u o (along_left (GivesFigure inputs W) w.records _ 0 parts)) k
    where
      w : Written
      w = written s C sets group done

      parts : Figured inputs W 0 (w.records ++ group_records s C sets group w p)
      parts = rw (written_more s C sets group p done) at f

      b : m < length C
      b = needed_inside C wanted actual earlier inside m d

      go : Right W w.wire done → group m ∈ (p ∷ done) → W ((written s C sets group (p ∷ done)).wire (group m)) ≡ v m
      go old (inl e) =
          ap (λ (q : ℕ). W ((written s C sets group (p ∷ done)).wire q)) e
          ∙ ap W (wire_last s C sets group p done ∙ ap (λ (n : ℕ). n - 1) (written_length s C sets group p done))
          ∙ group_right W w.wire done old p before (length w.records) (rw zero-add at (along_right (GivesFigure inputs W) w.records _ 0 parts))
          m b (member_of (length C) group m p b e) d
      go old (inr j) = ap W (wire_old s C sets group p done (new, u) (group m) j) ∙ old m j d
