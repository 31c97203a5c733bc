-- A list of conditions in hand: the list of what a set rests on, and its conditions one by one.
use Rattle.std.specs.Prelude.{◌≡◌, List, ℕ, ◌<◌, ◌-◌, take, get_or, replicate}
use Rattle.std.proofs.Common.{sym, ◌∙◌, arith}
use Rattle.std.proofs.Math.Path.{ap}
use Rattle.std.proofs.Math.ListN.{length}
use Rattle.std.proofs.Math.Seq.{take_at}
use Rattle.base.specs.Buffers.{padded}
use Rattle.base.specs.BufferLaws.{padded_at}
use Rattle.base.specs.MemberLaws.{inside_at}
use Rattle.base.specs.Sets.{rests}
use Rattle.base.specs.PlaceLaws.{few_rests, rests_inside}
use Rattle.base.specs.SetLimits.{set_conditions}
use Rattle.base.specs.SettingLists.{conditions_in, Lists}
use Rattle.base.specs.declared.ConditionList.{ConditionList}

-- what `rested` gives of a set
module _ (s : ℕ) (r : ConditionList) (counted : r.count ≡ length (rests set_conditions s)) (listed : r.at ≡ padded set_conditions (rests set_conditions s)) where
  pub rested_are : conditions_in r ≡ rests set_conditions s
  unfolding conditions_in
  rested_are = ap (take r.count) listed ∙ take_at (rests set_conditions s) (replicate (set_conditions - length (rests set_conditions s)) 0) r.count (sym counted)

  pub rested_lists : Lists r
  rested_lists =
      record {
        counted = rw rested_are counted;
        listed = rw rested_are listed;
        few = omega (arith, counted, few_rests set_conditions s);
        below = rw rested_are (rests_inside set_conditions s);
      }

-- condition i of a list
pub list_at : (r : ConditionList) → Lists r → (i : ℕ) → i < r.count → (get_or r.at i 0 ≡ get_or (conditions_in r) i 0) × (get_or r.at i 0 < set_conditions)
list_at r z i h =
    let e : get_or r.at i 0 ≡ get_or (conditions_in r) i 0 = ap (λ (l : List ℕ). get_or l i 0) z.listed ∙ padded_at set_conditions (conditions_in r) i in
    (e, rw e (inside_at set_conditions (conditions_in r) i z.below (omega (arith, h, z.counted))))
