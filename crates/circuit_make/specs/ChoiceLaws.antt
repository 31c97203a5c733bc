-- The loops over the variables: the first leaves their starting values; the one after an if gives each assigned variable the next choice as its gate, and every other keeps its own.
use Rattle.std.specs.Prelude.{ℕ, zero, suc, ◌+◌, ◌-◌, ◌^◌, ◌/◌, ◌%◌, ◌≤◌, ◌<◌, ◌≡◌, refl, ◌⊎◌, Bool, true, false, set, replicate, eqb}
use native.Mathlib.Omega.{arith}
use Rattle.std.proofs.Common.{sym, ◌∙◌, inl, inr, eqb-true, eq-eqb, ne_eqb, get_or-set_same, get_or-set_other}
use Rattle.std.proofs.Math.Path.{ap, subst, subst⁻¹}
use Rattle.std.proofs.Math.Bool.{cond}
use mathlib.Core.List.{List, [], ◌∷◌, ◌++◌, map, map-append}
use Rattle.std.proofs.Math.ListN.{length, get_or, length-set, length-append}
use Rattle.std.proofs.lemmas.Bool.{eqb-false}
use Rattle.base.specs.ListLaws.{get_or_zeros, get_or_from, upto_more}
use Rattle.base.specs.Lists.{keep, from, upto}
use Rattle.base.specs.TestLaws.{split, same?}
use Rattle.base.specs.Bits.{bit}
use Rattle.base.specs.Sets.{has}
use Rattle.base.specs.BitLaws.{bit_zero, bit_suc, bit_none}
use Rattle.base.specs.Codes.{start_code}
use Rattle.rule.specs.Header.{variables, kind_at}
use Rattle.circuit.specs.Gates.{Gate, start, choice, Gates}
use Rattle.circuit.specs.PlainCircuit.{Making, choose, choices, starts}
use Rattle.circuit.specs.Quads.{quad_of, quads_of}
use Rattle.circuit_make.specs.Holding.{Stored, StandsFor, Held, Pushed, Chose, Chosen, ChosenTo, Started}

-- the bit of one variable alone
eqb_suc : (j t : ℕ) → eqb j t ≡ eqb (suc j) (suc t)
eqb_suc j t =
    split (eqb j t) (λ e. e ∙ sym (eq-eqb (suc j) (suc t) (ap suc (eqb-true j t e)))) (λ e. e ∙ sym (ne_eqb (suc j) (suc t) (λ q. eqb-false j t e (omega arith))))

pub only_bit : (t j : ℕ) → has (2 ^ t) j ≡ eqb j t
only_bit zero zero = refl
only_bit zero (suc j) = bit_suc 1 j ∙ bit_none j ∙ sym (ne_eqb (suc j) 0 (λ e. omega arith))
only_bit (suc t) zero = let e : 2 ^ suc t % 2 ≡ 0 = omega arith in bit_zero (2 ^ suc t) ∙ ap (λ (k : ℕ). eqb k 1) e ∙ sym (ne_eqb 0 (suc t) (λ q. omega arith))
only_bit (suc t) (suc j) = let e : 2 ^ suc t / 2 ≡ 2 ^ t = omega arith in bit_suc (2 ^ suc t) j ∙ ap (λ (k : ℕ). bit k j) e ∙ only_bit t j ∙ eqb_suc j t

-- a variable's gate stored in both
pub stands_set : (p l : List ℕ) (x a b : ℕ) → a ≡ b → x < length l → x < length p → StandsFor p l → StandsFor (set p x b) (set l x a)
stands_set p l x a b e h k st y = go (same? y x)
  where
    go : (y ≡ x) ⊎ (y ≡ x → ⊥) → get_or (set l x a) y 0 ≡ get_or (set p x b) y 0
    go (inl q) = rw q (get_or-set_same l x a 0 h ∙ e ∙ sym (get_or-set_same p x b 0 k))
    go (inr n) = get_or-set_other l x y a 0 n ∙ st y ∙ sym (get_or-set_other p x y b 0 n)

-- a gate that variable x stands for
pub pushed_chose : (k : Gate) (code a b c x : ℕ) (quads present : List ℕ) (count : ℕ) (after : List ℕ) (more : ℕ) → x < 32
    → ((s : List ℕ) → quad_of s k ≡ code ∷ a ∷ b ∷ c ∷ []) → Pushed (code ∷ a ∷ b ∷ c ∷ []) quads count after more
    → Chose k x quads present count after (set present x count) more
pushed_chose k code a b c x quads present count after more small four q =
    record {
      chose = λ s m wanted right inside held.
          let longer : length (m.gates ++ (wanted ∷ [])) ≡ length m.gates + 1 = length-append m.gates (wanted ∷ []) in
          record {
            stored = q.pushed s m.gates wanted (λ h. ap (quad_of s) (right h) ∙ four s) held.stored;
            wide = length-set present x count ∙ held.wide;
            stand = λ few.
                stands_set m.present present x count (length m.gates) (omega (arith, held.stored.counted)) (omega (arith, held.wide)) inside
                (held.stand (omega arith));
          };
    }

-- choices keep the count of variables
pub choices_length : (c : ℕ) (p q l : List ℕ) (m : Making) → length (choices c p q l m).present ≡ length m.present
unfolding choices
choices_length c p q [] m = refl
choices_length c p q (x ∷ l) m = choices_length c p q l (choose c p q x m) ∙ length-set m.present x (length m.gates)

-- the choices, one variable after another
module _ (condition : ℕ) (first second : List ℕ) (mask v : ℕ) (quads present : List ℕ) (count : ℕ) where
  pub chosen_none : ChosenTo condition first second mask v quads present count 0 count quads present
  chosen_none =
      record {
        inside = omega arith;
        to = λ s m c p q l ready held.
            let e : v - 0 ≡ v = omega arith in
            record { now = m; count = l; grown = omega arith; held = held; same = ap (λ (k : ℕ). choices c p q (keep (has mask) (from 0 k)) m) e };
      }

  step : (x : ℕ) → x < v → keep (has mask) (from x (v - x)) ≡ cond (has mask x) (x ∷ keep (has mask) (from (x + 1) (v - (x + 1))))
      (keep (has mask) (from (x + 1) (v - (x + 1))))
  step x h =
      let e : v - x ≡ suc (v - (x + 1)) = omega arith in
      let f : suc x ≡ x + 1 = omega arith in
      ap (λ (k : ℕ). keep (has mask) (from x k)) e
      ∙ ap (λ (j : ℕ). cond (has mask x) (x ∷ keep (has mask) (from j (v - (x + 1)))) (keep (has mask) (from j (v - (x + 1))))) f

  module _ (x n : ℕ) (quads' present' : List ℕ) (r : ChosenTo condition first second mask v quads present count x n quads' present') (inside : x < v) where
    pub chosen_not : has mask x ≡ false → ChosenTo condition first second mask v quads present count (x + 1) n quads' present'
    chosen_not b =
        record {
          inside = omega arith;
          to = λ s m c p q l ready held.
              let z = r.to s m c p q l ready held in
              let e = step x inside ∙ ap (λ (t : Bool). cond t (x ∷ keep (has mask) (from (x + 1) (v - (x + 1)))) (keep (has mask) (from (x + 1) (v - (x + 1))))) b in
              record { now = z.now; count = z.count; grown = z.grown; held = z.held; same = ap (λ (k : List ℕ). choices c p q k z.now) (sym e) ∙ z.same };
        }

    pub chosen_one : has mask x ≡ true → (more : ℕ) (quads'' present'' : List ℕ) → Chose
        (choice condition (get_or first x 0) (get_or second x 0)) x quads' present' n quads'' present'' more
        → ChosenTo condition first second mask v quads present count (x + 1) more quads'' present''
    unfolding choices
    chosen_one b more quads'' present'' y =
        record {
          inside = omega arith;
          to = λ s m c p q l ready held.
              let z = r.to s m c p q l ready held in
              let k = choice c (get_or p x 0) (get_or q x 0) in
              let rest = keep (has mask) (from (x + 1) (v - (x + 1))) in
              let e = step x inside ∙ ap (λ (t : Bool). cond t (x ∷ rest) rest) b in
              let longer : length (z.now.gates ++ (k ∷ [])) ≡ length z.now.gates + 1 = length-append z.now.gates (k ∷ []) in
              let right : length z.now.gates < 256 → k ≡ choice condition (get_or first x 0) (get_or second x 0)
              = λ h.
              let u = ready (omega (arith, z.grown)) in
              ap (λ (j : ℕ). choice j (get_or p x 0) (get_or q x 0)) (sym u.test)
              ∙ ap (λ (j : ℕ). choice condition j (get_or q x 0)) (sym (u.yes x))
              ∙ ap (λ (j : ℕ). choice condition (get_or first x 0) j) (sym (u.no x)) in
              record {
                now = choose c p q x z.now;
                count = length-set z.now.present x (length z.now.gates) ∙ z.count;
                grown = omega (arith, z.grown);
                held = y.chose s z.now k right (omega (arith, z.count)) z.held;
                same = ap (λ (j : List ℕ). choices c p q j z.now) (sym e) ∙ z.same;
              };
        }

  pub chosen_all : (x n : ℕ) (quads' present' : List ℕ) → ChosenTo condition first second mask v quads present count x n quads' present' → v ≤ x
      → Chosen condition first second mask v quads present count n quads' present'
  unfolding choices
  chosen_all x n quads' present' r h =
      record {
        chosen = λ s m c p q l ready held.
            let z = r.to s m c p q l ready held in
            let e : v - x ≡ 0 = omega arith in
            subst (λ (w : Making). Held s w quads' present' n) (ap (λ (k : ℕ). choices c p q (keep (has mask) (from x k)) z.now) (sym e) ∙ z.same) z.held;
      }

starts_more : (x : ℕ) → map start (upto (x + 1)) ≡ map start (upto x) ++ (start x ∷ [])
starts_more x =
    let e : x + 1 ≡ suc x = omega arith in
    ap (λ (k : ℕ). map start (upto k)) e ∙ ap (map start) (upto_more x) ∙ map-append start (upto x) (x ∷ [])

-- the next variable's place is the only one that changes
from_next : (i n k : ℕ) → (k ≡ n → ⊥) → get_or (from i n) k 0 ≡ get_or (from i (suc n)) k 0
from_next i zero zero h = absurd (h refl)
from_next i zero (suc k) h = refl
from_next i (suc n) zero h = refl
from_next i (suc n) (suc k) h = from_next (suc i) n k (λ e. h (ap suc e))

-- the starting values, one variable after another
module _ (s quads present : List ℕ) where
  pub started_none : quads ≡ replicate 1024 0 → present ≡ replicate 32 0 → Started s 0 quads present 0
  unfolding quads_of
  started_none r w =
      record {
        inside = omega arith;
        wide = ap length w;
        stored = record { counted = omega arith; lie = λ few. r };
        stand = λ y. ap (λ (l : List ℕ). get_or l y 0) w ∙ get_or_zeros 32 y;
      }

  pub started_more : (x n code more : ℕ) (after : List ℕ) → Started s x quads present n → x < variables s → variables s ≤ 32 → code ≡ start_code (kind_at s x)
      → Pushed (code ∷ x ∷ 0 ∷ 0 ∷ []) quads n after more → Started s (x + 1) after (set present x x) more
  started_more x n code more after r h few e q =
      record {
        inside = omega arith;
        wide = length-set present x x ∙ r.wide;
        stored =
            subst⁻¹ (λ (C : Gates). Stored s C after more) (starts_more x)
            (q.pushed s (map start (upto x)) (start x) (λ i. ap (λ (k : ℕ). k ∷ x ∷ 0 ∷ 0 ∷ []) (sym e)) r.stored);
        stand = λ y. later y (same? y x);
      }
    where
      one : suc x ≡ x + 1
      one = omega arith

      here : get_or (upto (x + 1)) x 0 ≡ x
      here = get_or_from 0 (x + 1) x (omega arith) ∙ omega arith

      later : (y : ℕ) → (y ≡ x) ⊎ (y ≡ x → ⊥) → get_or (set present x x) y 0 ≡ get_or (upto (x + 1)) y 0
      later y (inl z) = rw z (get_or-set_same present x x 0 (omega (arith, r.wide)) ∙ sym here)
      later y (inr z) = get_or-set_other present x y x 0 z ∙ r.stand y ∙ from_next 0 x y z ∙ ap (λ (k : ℕ). get_or (upto k) y 0) one

  pub started_all : (x n : ℕ) → Started s x quads present n → variables s ≤ x → Held s (starts (variables s)) quads present n
  started_all x n r h =
      let e : x ≡ variables s = omega (arith, r.inside) in
      record {
        stored = subst (λ (k : ℕ). Stored s (map start (upto k)) quads n) e r.stored;
        wide = r.wide;
        stand = λ few. subst (λ (k : ℕ). StandsFor (upto k) present) e r.stand;
      }
