-- A joined group in a plan: what its writers ask follows from what the caller shows, and its records are those of the decision.
use Rattle.std.specs.Prelude.{ℕ, ◌<◌, ◌≡◌, refl, cond, List, [], ◌∷◌, length, get_or}
use Rattle.std.proofs.Common.{ap, ◌∙◌, inl, inr, arith, length-append}
use Rattle.std.proofs.lemmas.List.{length-map}
use Rattle.circuit.specs.Limits.{most_gates}
use Rattle.circuit_needed.specs.Held.{Applies, code_at}
use Rattle.plan.specs.PlanFile.{group_at}
use Rattle.plan.specs.NumberLaws.{length_group, member_in}
use Rattle.file.specs.Records.{Record, pick}
use Rattle.fused_group.specs.Joined.{emit_in, guard_in, guards_in, argument_at, pairs_in, Joinable, Fusing, JoinWritable}
use Rattle.fused_group.specs.Decisions.{Decided, has_pick, count_in, kept_in, place_in, picks_in, operation_in, fused_in, joined_in}
use Rattle.fused_group.specs.PartLaws.{cond_map}
use Rattle.fused_group.specs.JoinLaws.{two_applies, two_arguments, emit_joined}
use Rattle.fused_group.specs.declared.Picks.{Picks}

-- What the caller shows is what the writers ask.

module _ (quads p group : List ℕ) (at : ℕ) (j : Joinable quads p group at) where
  pub fusing : Fusing quads p group at
  fusing =
      record {
        zero_paired = record { lies = j.lies; few = omega arith; placed = λ m i. j.placed m (argument_at quads m 0) i (rw (two_arguments quads m (j.two m i)) (inl refl)) };
        one_paired = record { lies = j.lies; few = omega arith; placed = λ m i. j.placed m (argument_at quads m 1) i (rw (two_arguments quads m (j.two m i)) (inr (inl refl))) };
        some = omega (arith, j.many);
        coded = two_applies quads (get_or (group_at p at) 0 0) (j.two (get_or (group_at p at) 0 0) (member_in p at 0 (omega (arith, j.many))));
      }

-- The first member of a group that fuses.

pub first_member : (quads p group : List ℕ) (at g : ℕ) → Fusing quads p group at → g ≡ get_or (group_at p at) 0 0 → (g < most_gates) × Applies (code_at quads g)
first_member quads p group at g f e = rw e (f.zero_paired.lies.inside (get_or (group_at p at) 0 0) (member_in p at 0 f.some), f.coded)

-- How many records it has.

pub joined_count : (quads sets conds : List ℕ) (wire : ℕ → ℕ) (n : ℕ) (p : List ℕ) (at : ℕ) (picks : Picks)
    → length (joined_in quads sets conds wire n (group_at p at) picks) ≡ count_in (get_or p at 0) picks
joined_count quads sets conds wire n p at picks =
    let many : length (guards_in conds wire sets (group_at p at)) ≡ get_or p at 0 = length-map (group_at p at) (λ m. guard_in conds wire (get_or sets m 0)) ∙ length_group p at in
    length-append (kept_in conds wire sets (group_at p at) picks) (fused_in quads wire n (group_at p at) picks)
    ∙ omega (
      arith,
      length-append (picks_in quads wire n (group_at p at) picks) (operation_in quads wire n (group_at p at) picks ∷ []),
      length-append (place_in quads wire n 0 (group_at p at) picks.first) (place_in quads wire n 1 (group_at p at) picks.second),
      cond_map (λ (R : List Record). length R) (has_pick picks) (guards_in conds wire sets (group_at p at)) [] ∙ ap (λ (k : ℕ). cond (has_pick picks) k 0) many,
      cond_map (λ (R : List Record). length R) picks.first (pick (pairs_in quads wire n 0 (group_at p at)) ∷ []) [],
      cond_map (λ (R : List Record). length R) picks.second (pick (pairs_in quads wire n 1 (group_at p at)) ∷ []) [],
    )

-- The whole group.

module _ (quads : List ℕ) (count : ℕ) (sets conds group : List ℕ) (wire : ℕ → ℕ) (n : ℕ) (p : List ℕ) (at : ℕ) (picks : Picks) where
  pub emit_is : JoinWritable quads p conds group count at → Decided quads wire (group_at p at) picks
      → emit_in quads count sets wire n (group_at p at) ≡ joined_in quads sets conds wire n (group_at p at) picks
  emit_is j d =
      emit_joined quads count sets conds wire n (group_at p at) picks d (rw (length_group p at) j.joinable.many) j.below j.joinable.two j.conditioned

  -- how many they are
  pub emit_count : JoinWritable quads p conds group count at → Decided quads wire (group_at p at) picks
      → length (emit_in quads count sets wire n (group_at p at)) ≡ count_in (get_or p at 0) picks
  emit_count j d = ap (λ (R : List Record). length R) (emit_is j d) ∙ joined_count quads sets conds wire n p at picks
