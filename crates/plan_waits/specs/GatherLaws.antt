-- The pass over the gates that fills the table of waits: after i gates it holds what the groups wait for by the arguments and conditions of these.
use Rattle.std.specs.Prelude.{ℕ, ◌+◌, ◌*◌, ◌≤◌, ◌<◌, ◌≡◌, refl, true, cond, List, ◌++◌, map, ◌⊎◌, get_or, replicate}
use Rattle.std.proofs.Common.{sym, ◌∙◌, append-nil, inl, inr, arith, eq-eqb, ne_eqb}
use Rattle.std.proofs.Math.Path.{ap}
use Rattle.std.proofs.lemmas.List.{map-append}
use Rattle.std.proofs.Math.Dec.{eqb}
use Rattle.std.proofs.Math.ListN.{length}
use Rattle.base.specs.Lists.{◌∈◌, elem, keep, upto, flat}
use Rattle.base.specs.ListLaws.{keep_yes, keep_no}
use Rattle.base.specs.MemberLaws.{map_in}
use Rattle.base.specs.TestLaws.{same?}
use Rattle.base.specs.Sets.{rests}
use Rattle.circuit.specs.Gates.{Gates, gate_at, arguments}
use Rattle.circuit_needed.specs.Held.{gates_in}
use Rattle.circuit_needed.specs.HeldLaws.{gates_length, gates_at}
use Rattle.plan.specs.Groups.{members, rests_of, reads_of}
use Rattle.plan.specs.RestLaws.{rests_inside, rests_held}
use Rattle.plan.specs.ReadsLaws.{waits_read, reads_inside}
use Rattle.base.specs.BitWords.{HasWords, bit_in, put_each}
use Rattle.plan_waits.specs.Reads.{arguments_at, Into, Orderable}
use Rattle.base.specs.SetsHeld.{sets_in}
use Rattle.circuit.specs.declared.Circuit.{Circuit}
use Rattle.plan.specs.declared.Grouping.{Grouping}
use Rattle.plan_waits.specs.Gathering.{Waiting}
use Rattle.base.specs.BitWordLaws.{clear_words, clear_bit, puts_words, puts_bit, puts_append}
use Rattle.plan_waits.specs.ReadLaws.{arguments_at_lem, elem_joined, flat_last}
use Rattle.circuit.specs.Limits.{most_conditions}

-- the groups that p waits for on account of the gates below i
unfoldable pub waits_below : Gates → List ℕ → (ℕ → ℕ) → ℕ → ℕ → List ℕ
waits_below C sets group i p = map group (flat (reads_of C sets (members (length C) group p)) (keep (λ x. eqb (group x) p) (upto i)))

below_yes : (C : Gates) (sets : List ℕ) (group : ℕ → ℕ) (i p : ℕ) → group i ≡ p
    → waits_below C sets group (i + 1) p ≡ waits_below C sets group i p ++ map group (reads_of C sets (members (length C) group p) i)
unfolding waits_below
below_yes C sets group i p e =
    let f = reads_of C sets (members (length C) group p) in
    let l = keep (λ x. eqb (group x) p) (upto i) in
    ap (λ (r : List ℕ). map group (flat f r)) (keep_yes (λ x. eqb (group x) p) i (eq-eqb (group i) p e))
    ∙ ap (map group) (flat_last f l i) ∙ map-append group (flat f l) (f i)

below_no : (C : Gates) (sets : List ℕ) (group : ℕ → ℕ) (i p : ℕ) → (group i ≡ p → ⊥) → waits_below C sets group (i + 1) p ≡ waits_below C sets group i p
unfolding waits_below
below_no C sets group i p e =
    ap (λ (r : List ℕ). map group (flat (reads_of C sets (members (length C) group p)) r)) (keep_no (λ x. eqb (group x) p) i (ne_eqb (group i) p e))

-- The table of waits: those on account of the gates below i.
pub record GatheringWaits (circuit : Circuit) (grouping : Grouping) (waits : List ℕ) (size i : ℕ) : Type 0 where
  pub orderable : Orderable circuit grouping
  pub below : i ≤ circuit.count
  pub wide : 4 * circuit.count ≤ size
  pub words : HasWords size waits
  pub holds : (p q : ℕ) → p < 256 → q < 256
      → bit_in (4 * p) waits q ≡ elem q (waits_below (gates_in circuit.quads circuit.count) (sets_in circuit.needs) (λ x. get_or grouping.group x 0) i p)

module _ (circuit : Circuit) (grouping : Grouping) where
  abbrev quads : List ℕ
  quads = circuit.quads

  abbrev count : ℕ
  count = circuit.count

  abbrev needs : List ℕ
  needs = sets_in circuit.needs

  abbrev conds : List ℕ
  conds = circuit.conditions

  abbrev group : List ℕ
  group = grouping.group

  abbrev places : List ℕ
  places = grouping.places

  abbrev C : Gates
  C = gates_in quads count

  abbrev g : ℕ → ℕ
  g = λ x. get_or group x 0

  pub gathering_start : (waits : List ℕ) → Orderable circuit grouping → waits ≡ replicate (length waits) 0 → 4 * count ≤ length waits
      → GatheringWaits circuit grouping waits (length waits) 0
  unfolding waits_below
  gathering_start waits o e r =
      record {
        orderable = o;
        below = omega arith;
        wide = r;
        words = clear_words (length waits) waits e;
        holds = λ p q h l. clear_bit (length waits) (4 * p) q waits e;
      }

  module _ (waits : List ℕ) (size i : ℕ) (s : GatheringWaits circuit grouping waits size i) (l : i < count) where
    inside : i < length C
    inside = rw (gates_length quads count) l

    group_low : (a : ℕ) → a < count → get_or group a 0 < 256
    group_low a h = omega (arith, (s.orderable.named a h).0, s.orderable.room)

    arguments_here : arguments (gate_at C i) ≡ arguments_at quads i
    arguments_here = ap arguments (gates_at quads count i l) ∙ arguments_at_lem quads i

    pub gathering_group : (get_or group i 0 < 256) × (4 * get_or group i 0 + 4 ≤ size)
    gathering_group = (group_low i l, omega (arith, (s.orderable.named i l).0, s.wide))

    pub gathering_arguments : Into group (arguments_at quads i)
    gathering_arguments a m =
        let k : a < i = s.orderable.earlier i a (rw arguments_here m) in
        (omega (arith, s.orderable.room), group_low a (omega arith))

    rests_here : rests_of C needs i ≡ map (λ t. get_or conds t 0) (rests most_conditions (get_or needs i 0))
    rests_here = rests_held C needs conds s.orderable.listed i

    pub gathering_conditions : (n : ℕ) → n ≡ get_or needs i 0 → Into group (map (λ t. get_or conds t 0) (rests most_conditions n))
    gathering_conditions n e a m =
        let k : a < length C = rests_inside C needs i a (omega (arith, inside)) (rw rests_here (rw e at m)) in
        let h : a < count = rw (gates_length quads count) at k in
        (omega (arith, s.orderable.room), group_low a h)

    step : (new : List ℕ) → new ≡ put_each (4 * g i) (map g (reads_of C needs (members (length C) g (g i)) i)) waits
        → GatheringWaits circuit grouping new size (i + 1)
    step new e =
        record {
          orderable = s.orderable;
          below = omega arith;
          wide = s.wide;
          words = rw e (puts_words size (4 * g i) reads waits s.words);
          holds = held;
        }
      where
        reads : List ℕ
        reads = map g (reads_of C needs (members (length C) g (g i)) i)

        low : (q : ℕ) → q ∈ reads → q < 256
        low q m =
            let r = map_in g q (reads_of C needs (members (length C) g (g i)) i) m in
            let k : r.0 < length C = reads_inside C s.orderable.earlier needs (members (length C) g (g i)) i r.0 inside r.1 in
            rw r.2 (group_low r.0 (omega (arith, k, gates_length quads count)))

        held : (p q : ℕ) → p < 256 → q < 256 → bit_in (4 * p) new q ≡ elem q (waits_below C needs g (i + 1) p)
        held p q h k =
            ap (λ (w : List ℕ). bit_in (4 * p) w q) e
            ∙ puts_bit size (g i) reads waits s.words gathering_group.1 low p q k
            ∙ go (same? p (g i))
          where
            go : (p ≡ g i) ⊎ (p ≡ g i → ⊥)
                → cond (eqb p (g i)) (cond (elem q reads) true (bit_in (4 * p) waits q)) (bit_in (4 * p) waits q) ≡ elem q (waits_below C needs g (i + 1) p)
            go (inl f) = rw (
              f,
              eq-eqb (g i) (g i) refl,
              ← f,
              s.holds p q h k,
              below_yes C needs g i p (sym f),
              elem_joined q (waits_below C needs g i p)
                  (map g (reads_of C needs (members (length C) g p) i)),
            )
            go (inr f) = rw (ne_eqb p (g i) f, below_no C needs g i p (λ z. f (sym z))) (s.holds p q h k)

    pub gathering_size : (base : ℕ) (m mid : List ℕ) → mid ≡ put_each base m waits → length mid ≡ size
    gathering_size base m mid e = ap length e ∙ (puts_words size base m waits s.words).size

    -- a member of a group of one
    pub gathering_alone : (new : List ℕ) (p : ℕ) → p ≡ get_or group i 0 → get_or places i 0 ≡ 0 → new ≡ put_each (4 * p)
        (map (λ a. get_or group a 0) (arguments_at quads i)) waits
        → GatheringWaits circuit grouping new size (i + 1)
    gathering_alone new p e z h = step new (h ∙ rw e (ap (λ (r : List ℕ). put_each (4 * g i) (map g r) waits) reads))
      where
        reads : arguments_at quads i ≡ reads_of C needs (members (length C) g (g i)) i
        reads = rw (gates_length quads count, s.orderable.many i l, eq-eqb (get_or places i 0) 0 z, append-nil) (sym arguments_here)

    -- a member of a larger group
    pub gathering_joined : (mid new : List ℕ) (p n : ℕ) → p ≡ get_or group i 0 → (get_or places i 0 ≡ 0 → ⊥) → n ≡ get_or needs i 0
        → mid ≡ put_each (4 * p) (map (λ a. get_or group a 0) (arguments_at quads i)) waits
        → new ≡ put_each (4 * p) (map (λ a. get_or group a 0) (map (λ t. get_or conds t 0) (rests most_conditions n))) mid
        → GatheringWaits circuit grouping new size (i + 1)
    gathering_joined mid new p n e z f h k =
        step new
        (k ∙ rw (h, f, e) (puts_append (4 * g i) (map g (arguments_at quads i)) (map g (map (λ t. get_or conds t 0) (rests most_conditions (get_or needs i 0)))) waits
        ∙ ap (λ (r : List ℕ). put_each (4 * g i) r waits)
        (sym (map-append g (arguments_at quads i) (map (λ t. get_or conds t 0) (rests most_conditions (get_or needs i 0)))) ∙ ap (map g) reads)))
      where
        reads : arguments_at quads i ++ map (λ t. get_or conds t 0) (rests most_conditions (get_or needs i 0)) ≡ reads_of C needs (members (length C) g (g i)) i
        reads = rw (gates_length quads count, s.orderable.many i l, ne_eqb (get_or places i 0) 0 z, ← rests_here, arguments_here)

  pub gathering_end : (waits : List ℕ) (size i : ℕ) → GatheringWaits circuit grouping waits size i → count ≤ i → Waiting C needs g waits
  unfolding waits_below
  gathering_end waits size i s l =
      record {
        wide = rw (gates_length quads count, s.words.size) s.wide;
        fits = s.words.fits;
        holds = λ p q h k. s.holds p q h k ∙ ap
            (λ (n : ℕ). elem q (map g (flat (reads_of C needs (members (length C) g p)) (keep (λ x. eqb (g x) p) (upto n))))) len
            ∙ ap (elem q) (sym (waits_read C needs g p));
      }
    where
      len : i ≡ length C
      len = omega (arith, s.below, gates_length quads count)
