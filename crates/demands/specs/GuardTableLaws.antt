-- The guards that stand in our own circuit: where each member's guard stands, what it is over, and its table bit by bit.
use Rattle.std.specs.Prelude.{ℕ, zero, suc, ◌+◌, ◌^◌, ◌≤◌, ◌<◌, ◌≡◌, refl, List, [], ◌∷◌, ◌++◌, map, length, get_or}
use Rattle.std.proofs.Common.{arith, sym, ap, ◌∙◌, get_or-append-add}
use Rattle.std.proofs.Math.Path.{subst⁻¹}
use Rattle.std.proofs.lemmas.List.{length-map}
use Rattle.std.proofs.Math.ListN.{get_or-append}
use Rattle.base.specs.Lists.{◌∈◌}
use Rattle.base.specs.BitLaws.{same_bits}
use Rattle.base.specs.Settings.{Setting, Once, setting_of, number_of}
use Rattle.base.specs.Sets.{has}
use Rattle.base.specs.Guards.{table}
use Rattle.base.specs.SettingLaws.{setting_of_at, number_of_below, bit_number_of}
use Rattle.base.proofs.GuardLaws.{table_above, guard_holds}
use Rattle.base.specs.ParsingLaws.{is_read}
use Rattle.file.specs.Records.{Record, word, record_in}
use Rattle.rule.specs.Rule.{read_rule}
use Rattle.circuit.specs.Limits.{most_conditions}
use Rattle.circuit.specs.Gates.{Earlier, gate_at, conditions}
use Rattle.circuit.specs.ConditionLaws.{conditions_rise}
use Rattle.circuit.specs.PlainCircuit.{gates_of, gate_count}
use Rattle.circuit_needed.specs.Needed.{wanted_of}
use Rattle.circuit_needed.specs.Pass.{needed, rule_preconditions}
use Rattle.circuit_needed.specs.PassLaws.{needed_sound, needed_complete}
use Rattle.circuit_needed.specs.PreconditionLaws.{precondition_holds}
use Rattle.circuit_needed.specs.RulePreconditions.{rule_earlier, wanted_inside}
use Rattle.circuit.specs.WholeLaws.{accepted}
use Rattle.plan.specs.PlanFile.{Rising}
use Rattle.plan.specs.Groups.{rests_of}
use Rattle.plan.specs.GroupLaws.{rising_first}
use Rattle.plan.specs.ListedLaws.{rising_keep, rising_places}
use Rattle.plan.specs.RestLaws.{rests_list, rests_right, rests_count}
use Rattle.plan.specs.Rows.{plan_answer}
use Rattle.plan.proofs.AcceptedLaws.{plan_accepted}
use Rattle.fused.specs.Emission.{gate_operation, guard_of}
use Rattle.fused.specs.JoinedParts.{guards_first}
use Rattle.fused.specs.FusedCircuit.{records_of, wire_of}
use Rattle.fused.specs.JoinedGates.{joined_with, guards_with, wires_at, records_with, picks_with}
use Rattle.fused.specs.JoinedShapes.{joined_stands}
use Rattle.fused.specs.EqualWireLaws.{picked_sizes}
use Rattle.demands.specs.GuardTables.{Gives, MemberGuard}

-- numbers that rise are distinct, so a setting may give them any bits
rising_once : (l : List ℕ) → Rising l → Once l
rising_once [] h = tt
rising_once (m ∷ l) h = (λ i. let k = rising_first m l h.0 h.1 m i in omega (arith, k), rising_once l h.1)

pub bits_given : (conds : List ℕ) → Rising conds → (j : ℕ) → Gives (setting_of conds j) conds j
bits_given conds h j t l = setting_of_at conds (rising_once conds h) j t l

-- an element of a list that is mapped
map_at : (f : ℕ → Record) (l : List ℕ) (i : ℕ) → i < length l → get_or (map f l) i (word 0) ≡ f (get_or l i 0)
map_at f [] i h = absurd (omega arith)
map_at f (x ∷ l) zero h = refl
map_at f (x ∷ l) (suc i) h = map_at f l i (omega arith)

-- the guard of a gate, over gates whose conditions are few enough
module _ (s p : List ℕ) (earlier : Earlier (gates_of s)) (inside : (g : ℕ) → g ∈ wanted_of s → g < length (gates_of s))
    (few : length (conditions (gates_of s)) ≤ most_conditions) (m : ℕ) where
  abbrev conds : List ℕ
  conds = rests_of (gates_of s) (rule_preconditions s) m

  abbrev set : ℕ
  set = get_or (rule_preconditions s) m 0

  -- the table's bit at the number of a setting
  at_setting : (σ : Setting) → has (table most_conditions set) (number_of conds σ) ≡ needed (gates_of s) (wanted_of s) m σ
  at_setting σ =
      ap (λ (l : List ℕ). has (table most_conditions set) (number_of l σ)) (rests_list (gates_of s) (wanted_of s) earlier inside few m)
      ∙ guard_holds most_conditions set (conditions (gates_of s)) (needed (gates_of s) (wanted_of s) m)
      (precondition_holds (gates_of s) (wanted_of s) earlier inside most_conditions few m) σ

  numbered : (j : ℕ) → j < 2 ^ length conds → (σ : Setting) → Gives σ conds j → number_of conds σ ≡ j
  numbered j l σ g = same_bits (length conds) (number_of conds σ) j (number_of_below conds σ) l (λ t i. bit_number_of conds σ t i ∙ g t i)

  told : (j : ℕ) → j < 2 ^ length conds → (σ : Setting) → Gives σ conds j → has (table most_conditions set) j ≡ needed (gates_of s) (wanted_of s) m σ
  told j l σ g = ap (has (table most_conditions set)) (sym (numbered j l σ g)) ∙ at_setting σ

  pub guard_right : MemberGuard s p m (guard_of s (gates_of s) (rule_preconditions s) (wire_of s p) m)
  guard_right = record {
    conds = conds;
    table = table most_conditions set;
    is = refl;
    rests = rests_right (gates_of s) (wanted_of s) earlier inside few m;
    rising = subst⁻¹ Rising (rests_list (gates_of s) (wanted_of s) earlier inside few m)
        (rising_keep _ (conditions (gates_of s)) (rising_places (conditions (gates_of s)) (conditions_rise (gates_of s))));
    bits = λ j l σ g. (
      λ t. needed_sound (gates_of s) (wanted_of s) σ m (sym (told j l σ g) ∙ t),
      λ n. told j l σ g ∙ needed_complete (gates_of s) (wanted_of s) σ earlier inside m n,
    );
    above = λ j l. table_above most_conditions set j (rw (rests_count (gates_of s) (rule_preconditions s) m) at l);
  }

-- a guard stands before all else of its group
guard_first : (s p : List ℕ) (m n : ℕ) → 0 < picks_with s p m → (i : ℕ) → i < length (joined_with s p m) → (after : List Record)
    → record_in (records_with s p m n ++ after) i ≡ guard_of s (gates_of s) (rule_preconditions s) (wire_of s p) (get_or (joined_with s p m) i 0)
guard_first s p m n some i l after =
    let f = guard_of s (gates_of s) (rule_preconditions s) (wire_of s p) in
    let many = length-map (joined_with s p m) f in
    let size = (picked_sizes s p m n some).0 in
    get_or-append (records_with s p m n) after (word 0) i (omega (arith, size, l))
    ∙ guards_first n (gate_operation (gate_at (gates_of s) m)) (guards_with s p m) (wires_at s p m 0 ∷ wires_at s p m 1 ∷ []) some i (omega (arith, many, l))
    ∙ map_at f (joined_with s p m) i l

-- so in our own circuit
pub guards_stand : (s p : List ℕ) → (plan_answer s p).number ≡ 0 → (m : ℕ) → m < gate_count s → 2 ≤ length (joined_with s p m) → 0 < picks_with s p m
    → (n : ℕ) × (wire_of s p m ≡ n + length (joined_with s p m) + picks_with s p m)
    × ((i : ℕ) → i < length (joined_with s p m) → MemberGuard s p (get_or (joined_with s p m) i 0) (record_in (records_of s p) (n + i)))
guards_stand s p h m l two some =
    let st = joined_stands s p h m l two in
    let n = length st.before in
    let a = accepted s ((plan_accepted s p).0 h).0 in
    let (b, e, read) = is_read (read_rule s) a.read in
    let size = (picked_sizes s p m n some).0 in (
      n,
      omega (arith, st.last, size),
      λ i k.
          subst⁻¹ (MemberGuard s p (get_or (joined_with s p m) i 0))
          (ap (λ (R : List Record). record_in R (n + i)) st.together ∙ get_or-append-add st.before _ i (word 0) ∙ guard_first s p m n some i k st.after)
          (guard_right s p (rule_earlier s b e read) (wanted_inside s b e read) a.conds (get_or (joined_with s p m) i 0)),
    )
