-- The two loops that put waits, over a gate's arguments and over the conditions that its set rests on: each walks a list.
use Rattle.std.specs.Prelude.{ℕ, ◌+◌, ◌*◌, ◌≤◌, ◌<◌, ◌≡◌, refl, List, [], ◌∷◌, ◌++◌, map, length, get_or, take}
use Rattle.std.proofs.Common.{sym, ap, ◌∙◌, add-one, arith, length-set, take-suc, take_all}
use Rattle.std.proofs.lemmas.List.{map-append, length-map}
use Rattle.base.specs.MemberLaws.{get_or_in}
use Rattle.base.specs.SettingLists.{conditions_in, Lists}
use Rattle.base.specs.SettingListsLaws.{list_at}
use Rattle.base.specs.declared.ConditionList.{ConditionList}
use Rattle.circuit.specs.FigureLaws.{map_at}
use Rattle.circuit_needed.specs.Held.{code_at}
use Rattle.base.specs.BitWords.{put_bit, put_each}
use Rattle.plan_waits.specs.Reads.{arity_of, arguments_at, Into}
use Rattle.base.specs.BitWordLaws.{puts_more}
use Rattle.plan_waits.specs.ReadLaws.{arity_most, arguments_length, argument_at_lem}

put_length : (base q : ℕ) (w new : List ℕ) → new ≡ put_bit base q w → length new ≡ length w
unfolding put_bit
put_length base q w new e = ap length e ∙ length-set w _ _

puts_none : (base : ℕ) (w : List ℕ) → w ≡ put_each base [] w
unfolding put_each
puts_none base w = refl

-- what the gates of a list wait for, one more put
one_more : (base a q : ℕ) (group l m w₀ w new : List ℕ) → m ≡ l ++ (a ∷ []) → w ≡ put_each base (map (λ x. get_or group x 0) l) w₀ → q ≡ get_or group a 0
    → new ≡ put_bit base q w → new ≡ put_each base (map (λ x. get_or group x 0) m) w₀
one_more base a q group l m w₀ w new e h f k =
    k ∙ ap (put_bit base q) h ∙ puts_more base (map (λ x. get_or group x 0) l) w₀ q
    ∙ ap (λ (r : List ℕ). put_each base r w₀)
    (ap (λ (b : ℕ). map (λ x. get_or group x 0) l ++ (b ∷ [])) f ∙ sym (map-append (λ x. get_or group x 0) l (a ∷ [])) ∙ ap (map (λ x. get_or group x 0)) (sym e))

-- The gates of a list: group p waits for the groups of the first k.
pub record Putting (group l waits₀ : List ℕ) (base : ℕ) (waits : List ℕ) (k : ℕ) : Type 0 where
  pub room : base + 4 ≤ length waits
  pub size : length waits ≡ length waits₀
  pub into : Into group l
  pub below : k ≤ length l
  pub made : waits ≡ put_each base (map (λ a. get_or group a 0) (take k l)) waits₀

module _ (group l waits₀ : List ℕ) (base : ℕ) where
  pub putting_start : base + 4 ≤ length waits₀ → Into group l → Putting group l waits₀ base waits₀ 0
  putting_start r m = record { room = r; size = refl; into = m; below = omega arith; made = puts_none base waits₀ }

  pub putting_into : (waits : List ℕ) (k a : ℕ) → Putting group l waits₀ base waits k → k < length l → a ≡ get_or l k 0 → (a < 256) × (get_or group a 0 < 256)
  putting_into waits k a g h e = g.into a (rw e (get_or_in l k h))

  pub putting_step : (waits new : List ℕ) (k a q : ℕ) → Putting group l waits₀ base waits k → k < length l → a ≡ get_or l k 0 → q ≡ get_or group a 0
      → new ≡ put_bit base q waits → Putting group l waits₀ base new (k + 1)
  putting_step waits new k a q g h e f p =
      let m : take (k + 1) l ≡ take k l ++ (a ∷ []) = rw (add-one k, e) (take-suc l k 0 h) in
      record {
        room = rw (put_length base q waits new p) g.room;
        size = put_length base q waits new p ∙ g.size;
        into = g.into;
        below = omega arith;
        made = one_more base a q group (take k l) (take (k + 1) l) waits₀ waits new m g.made f p;
      }

  pub putting_end : (waits : List ℕ) (k : ℕ) → Putting group l waits₀ base waits k → length l ≤ k → waits ≡ put_each base (map (λ a. get_or group a 0) l) waits₀
  putting_end waits k g h = g.made ∙ ap (λ (r : List ℕ). put_each base (map (λ a. get_or group a 0) r) waits₀) (take_all k l h)

-- argument k of gate i, of n
pub argument_of : (quads : List ℕ) (i k n : ℕ) → n ≡ arity_of (code_at quads i) → k < n
    → (k < 3) × ((k < length (arguments_at quads i)) × (get_or quads (4 * i + 1 + k) 0 ≡ get_or (arguments_at quads i) k 0))
argument_of quads i k n e h = (
  omega (arith, arity_most (code_at quads i)),
  (omega (arith, arguments_length quads i), sym (argument_at_lem quads i k (omega arith))),
)

-- the gate of condition i of a list in hand
pub listed_gate : (conds : List ℕ) (r : ConditionList) → Lists r → (i : ℕ) → i < r.count
    → (i < length (map (λ t. get_or conds t 0) (conditions_in r))) × (get_or conds (get_or r.at i 0) 0 ≡ get_or (map (λ t. get_or conds t 0) (conditions_in r)) i 0)
listed_gate conds r z i h =
    let n : i < length (conditions_in r) = omega (arith, h, z.counted) in (
      rw (length-map (conditions_in r) (λ t. get_or conds t 0)) n,
      ap (λ (t : ℕ). get_or conds t 0) (list_at r z i h).0 ∙ sym (map_at (λ t. get_or conds t 0) (conditions_in r) i n),
    )
