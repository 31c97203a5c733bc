-- Row 62 from a table of kinds: where it holds the kinds of the earlier wires, what stands by the table stands.
use Rattle.std.specs.Prelude.{ℕ, suc, ◌+◌, ◌≤◌, ◌<◌, ◌≡◌, refl, List, [], ◌∷◌, length}
use Rattle.std.proofs.Math.Bool.{and-false}
use Rattle.std.proofs.Common.{inl, inr, arith, ltb-true}
use Rattle.std.proofs.Math.Dec.{ltb}
use Rattle.base.specs.Lists.{◌∈◌, every}
use Rattle.base.specs.MemberLaws.{inside_right, every_same}
use Rattle.base.specs.TestLaws.{split}
use Rattle.base.specs.Codes.{same_kind, entry_of}
use Rattle.base.specs.declared.Kind.{Kind}
use Rattle.base.specs.declared.Kind.TheVariants as kind
use Rattle.file.specs.Records.{Pair, Record, input, word, bit, operation, choice, pick, guard, pair_wires, reads}
use Rattle.file.specs.WireKinds.{guards_of, values_of, record_kind}
use Rattle.file.specs.WireKindLaws.{kind_same}
use Rattle.file.specs.CircuitRows.{input_in_place, kinds_fit, stands, output_stands, outputs_stand}

-- the guards and the values of a pick are among its wires
guards_in_lem : (l : List Pair) (w : ℕ) → w ∈ guards_of l → w ∈ pair_wires l
guards_in_lem [] w m = m
guards_in_lem (p ∷ l) w (inl e) = inl e
guards_in_lem (p ∷ l) w (inr m) = inr (inr (guards_in_lem l w m))

values_in_lem : (l : List Pair) (w : ℕ) → w ∈ values_of l → w ∈ pair_wires l
values_in_lem [] w m = m
values_in_lem (p ∷ l) w (inl e) = inr (inl e)
values_in_lem (p ∷ l) w (inr m) = inr (inr (values_in_lem l w m))

module _ (k j : ℕ → Kind) where
  all_same : (d e : Kind) (l : List ℕ) → d ≡ e → ((w : ℕ) → w ∈ l → k w ≡ j w) → every (λ w. same_kind (k w) d) l ≡ every (λ w. same_kind (j w) e) l
  all_same d e l q h = every_same (λ w. same_kind (k w) d) (λ w. same_kind (j w) e) l (λ w m. rw (h w m, q))

  -- the kinds that a record reads are those of the wires that it names
  kinds_same : (r : Record) → ((w : ℕ) → w ∈ reads r → k w ≡ j w) → kinds_fit k r ≡ kinds_fit j r
  kinds_same (input d x) h = refl
  kinds_same (word n) h = refl
  kinds_same (bit b) h = refl
  kinds_same (operation op l) h = all_same (entry_of op).takes (entry_of op).takes l refl h
  kinds_same (choice c a b) h = rw (h c (inl refl), h a (inr (inl refl)), h b (inr (inr (inl refl))))
  kinds_same (pick l) h =
      rw (
        all_same kind.Bit kind.Bit (guards_of l) refl (λ w m. h w (guards_in_lem l w m)),
        all_same (record_kind k (pick l)) (record_kind j (pick l)) (values_of l) (kind_same k j (pick l) h) (λ w m. h w (values_in_lem l w m)),
      )
  kinds_same (guard cs t) h = all_same kind.Bit kind.Bit cs refl h

  pub stands_same : (v i : ℕ) (r : Record) → ((w : ℕ) → w < i → k w ≡ j w) → stands v k i r ≡ stands v j i r
  unfolding stands
  stands_same v i r h =
      split (every (λ w. ltb w i) (reads r))
      (λ t. rw (kinds_same r (λ w m. h w ((inside_right i (reads r)).0 t w m))))
      (λ t. rw (t, and-false (input_in_place v i r)))

  -- outputs of n wires
  pub outputs_same : (n : ℕ) → ((w : ℕ) → w < n → k w ≡ j w) → (x : ℕ) (l : List ℕ) → x + length l ≤ n → outputs_stand n k x l ≡ outputs_stand n j x l
  outputs_same n h x [] b = refl
  outputs_same n h x (w ∷ l) b =
      rw (one, outputs_same n h (suc x) l (omega arith))
    where
      one : output_stands n k x w ≡ output_stands n j x w
      one = split (ltb w n) (λ t. rw (h w (ltb-true w n t), h x (omega arith))) (λ t. rw t)
