-- The parts of a joined group (document 02, C-18): the guards and picks that are written and what its operation reads; what holds of these holds along the group, and
-- back. F i are its members' wires at place i, for the places i of a list.
use Rattle.std.specs.Prelude.{ℕ, suc, ◌+◌, ◌-◌, ◌≤◌, ◌<◌, ◌≡◌, refl, true, false, List, [], ◌∷◌, ◌++◌, map, ◌⊎◌, get_or}
use Rattle.std.proofs.Common.{sym, ap, ◌∙◌, inl, inr, arith, length-append}
use Rattle.std.proofs.Math.ListN.{length, length-map, get_or-append}
use Rattle.base.specs.Lists.{◌∈◌}
use Rattle.base.specs.TestLaws.{split}
use Rattle.base.specs.declared.Operation.{Operation}
use Rattle.file.specs.Records.{Record, word, operation, pick, record_in}
use Rattle.file.specs.RecordLaws.{Along, along_append, along_left, along_right}
use Rattle.fused.specs.Emission.{pairs, one_wire, picked, guarded, argument_wires, joined}
use Rattle.fused.specs.PlaceLaws.{one_wire_in}

-- the pick of the place whose values these are, the guards being the wires from n on
abbrev pub pick_of : ℕ → List ℕ → Record
pick_of n values = pick (pairs n values)

-- where one place has a pick, all guards are written
pub guards_kept : (F : ℕ → List ℕ) (guards : List Record) (ks : List ℕ) (i : ℕ) → i ∈ ks → one_wire (F i) ≡ false → guarded (picked (map F ks)) guards ≡ guards
guards_kept F guards (k ∷ ks) i (inl e) h = rw (ap (λ (j : ℕ). one_wire (F j)) (sym e) ∙ h)
guards_kept F guards [] i x'' h = elim x'' [ ]
guards_kept F guards (k ∷ ks) i (inr m) h = split (one_wire (F k)) (λ t. rw t (guards_kept F guards ks i m h)) (λ f. rw f)

all_kept : (picks : List (List ℕ)) (guards : List Record) → 0 < length picks → guarded picks guards ≡ guards
all_kept [] guards h = absurd (omega arith)
all_kept (values ∷ picks) guards h = refl

-- as many arguments as places
pub arguments_count : (places : List (List ℕ)) (at : ℕ) → length (argument_wires at places) ≡ length places
arguments_count [] at = refl
arguments_count (values ∷ places) at =
    split (one_wire values) (λ t. rw t (ap suc (arguments_count places at))) (λ f. rw f (ap suc (arguments_count places (suc at))))

-- a is the wire of one of so many picks, the first being at, or a member's wire at a place
abbrev pub Argument : (ℕ → List ℕ) → List ℕ → ℕ → ℕ → ℕ → Type 0
Argument F ks at picks a = ((at ≤ a) × (a < at + picks)) ⊎ ((i : ℕ) × (i ∈ ks) × (a ∈ F i))

-- each argument is that
pub arguments_from : (F : ℕ → List ℕ) (ks : List ℕ) (at a : ℕ) → a ∈ argument_wires at (map F ks) → Argument F ks at (length (picked (map F ks))) a
arguments_from F [] at a m = absurd m
arguments_from F (k ∷ ks) at a m =
    split (one_wire (F k))
    (λ t. rw t (one t (rw t at m) (λ q. arguments_from F ks at a q)))
    (λ f. rw f (other (rw f at m) (λ q. arguments_from F ks (suc at) a q)))
  where
    one : one_wire (F k) ≡ true → a ∈ (get_or (F k) 0 0 ∷ argument_wires at (map F ks))
        → (a ∈ argument_wires at (map F ks) → Argument F ks at (length (picked (map F ks))) a)
        → Argument F (k ∷ ks) at (length (picked (map F ks))) a
    one t (inl e) ih = inr (k, inl refl, rw e (one_wire_in (F k) t))
    one t (inr m) ih = later (ih m)
      where
        later : Argument F ks at (length (picked (map F ks))) a → Argument F (k ∷ ks) at (length (picked (map F ks))) a
        later (inl h) = inl h
        later (inr (i, q, h)) = inr (i, inr q, h)

    other : a ∈ (at ∷ argument_wires (suc at) (map F ks))
        → (a ∈ argument_wires (suc at) (map F ks) → Argument F ks (suc at) (length (picked (map F ks))) a)
        → Argument F (k ∷ ks) at (suc (length (picked (map F ks)))) a
    other (inl e) ih = inl (omega (arith, e), omega (arith, e))
    other (inr m) ih = later (ih m)
      where
        later : Argument F ks (suc at) (length (picked (map F ks))) a → Argument F (k ∷ ks) at (suc (length (picked (map F ks)))) a
        later (inl (l, h)) = inl (omega (arith, l), omega (arith, h))
        later (inr (i, q, h)) = inr (i, inr q, h)

-- what holds of every pick that there is holds along the picks
picks_along : (P : ℕ → Record → Type 0) (n : ℕ) (F : ℕ → List ℕ) (ks : List ℕ) (at : ℕ)
    → ((i : ℕ) → i ∈ ks → one_wire (F i) ≡ false → (j : ℕ) → at ≤ j → P j (pick_of n (F i)))
    → Along P at (map (pick_of n) (picked (map F ks)))
picks_along P n F [] at h = tt
picks_along P n F (k ∷ ks) at h =
    split (one_wire (F k))
    (λ t. rw t (picks_along P n F ks at (λ i m f j b. h i (inr m) f j b)))
    (λ f. rw f (h k (inl refl) f at (omega arith), picks_along P n F ks (suc at) (λ i m g j b. h i (inr m) g j (omega (arith, b)))))

-- Along a joined group.

module _ (n : ℕ) (guards : List Record) (places : List (List ℕ)) where
  -- the first wire behind the guards that are written, the operation's, and the wires that it reads
  abbrev pub behind_guards : ℕ
  behind_guards = n + length (guarded (picked places) guards)

  abbrev pub operation_wire : ℕ
  operation_wire = n + length (guarded (picked places) guards) + length (picked places)

  abbrev pub operation_reads : List ℕ
  operation_reads = argument_wires (n + length (guarded (picked places) guards)) places

-- how many records it has
pub joined_count : (n : ℕ) (op : Operation) (guards : List Record) (places : List (List ℕ))
    → length (joined n op guards places) ≡ length (guarded (picked places) guards) + length (picked places) + 1
unfolding joined
joined_count n op guards places =
    rw (length-append (guarded (picked places) guards) _, length-append (map (pick_of n) (picked places)) _, length-map (picked places) (pick_of n)) (omega arith)

-- where it has a pick, its guards stand before all else
pub guards_first : (n : ℕ) (op : Operation) (guards : List Record) (places : List (List ℕ)) → 0 < length (picked places) → (i : ℕ) → i < length guards
    → record_in (joined n op guards places) i ≡ record_in guards i
unfolding joined
guards_first n op guards places some i l = rw (all_kept (picked places) guards some) (get_or-append guards _ (word 0) i l)

-- what holds of a joined group's guards, of its picks and of its operation holds along the group
pub joined_along : (P : ℕ → Record → Type 0) (n : ℕ) (op : Operation) (guards : List Record) (F : ℕ → List ℕ) (ks : List ℕ) → Along P n guards
    → ((i : ℕ) → i ∈ ks → one_wire (F i) ≡ false → (j : ℕ) → n + length guards ≤ j → P j (pick_of n (F i)))
    → P (operation_wire n guards (map F ks)) (operation op (operation_reads n guards (map F ks)))
    → Along P n (joined n op guards (map F ks))
unfolding joined
joined_along P n op guards F ks g h o =
    along_append P (guarded (picked (map F ks)) guards) _ n (some (picked (map F ks)))
    (along_append P (map (pick_of n) (picked (map F ks))) _ (behind_guards n guards (map F ks)) (behind (picked (map F ks)) (picks_along P n F ks (n + length guards) h))
    (rw (length-map (picked (map F ks)) (pick_of n)) (o, tt)))
  where
    some : (picks : List (List ℕ)) → Along P n (guarded picks guards)
    some [] = tt
    some (values ∷ picks) = g

    behind : (picks : List (List ℕ)) → Along P (n + length guards) (map (pick_of n) picks) → Along P (n + length (guarded picks guards)) (map (pick_of n) picks)
    behind [] a = tt
    behind (values ∷ picks) a = a

-- And back.

module _ (P : ℕ → Record → Type 0) (n : ℕ) (op : Operation) (guards : List Record) (F : ℕ → List ℕ) (ks : List ℕ) (h : Along P n (joined n op guards (map F ks))) where
  abbrev kept : List Record
  kept = guarded (picked (map F ks)) guards

  abbrev picks : List Record
  picks = map (pick_of n) (picked (map F ks))

  abbrev last : List Record
  last = operation op (operation_reads n guards (map F ks)) ∷ []

  -- along all guards where a place has a pick
  pub joined_guards : (i : ℕ) → i ∈ ks → one_wire (F i) ≡ false → Along P n guards
  unfolding joined
  joined_guards i m f = rw (guards_kept F guards ks i m f) at (along_left P kept (picks ++ last) n h)

  pub joined_picks : Along P (behind_guards n guards (map F ks)) (map (pick_of n) (picked (map F ks)))
  unfolding joined
  joined_picks = along_left P picks last (n + length kept) (along_right P kept (picks ++ last) n h)

  -- its last wire is the operation's
  pub joined_last : P (n + length (joined n op guards (map F ks)) - 1) (operation op (operation_reads n guards (map F ks)))
  unfolding joined
  joined_last =
      let e : n + length (joined n op guards (map F ks)) - 1 ≡ n + length kept + length picks =
      rw (joined_count n op guards (map F ks), length-map (picked (map F ks)) (pick_of n)) (omega arith) in
      rw e (along_right P picks last (n + length kept) (along_right P kept (picks ++ last) n h)).0

-- what each pick and each wire that all members have gives, the operation's arguments give, place by place
pub arguments_hold : {A : Type 0} (f g : ℕ → A) (P : ℕ → Record → Type 0) (n : ℕ) (F : ℕ → List ℕ) (ks : List ℕ) (at : ℕ)
    → ((i : ℕ) → i ∈ ks → one_wire (F i) ≡ true → f (get_or (F i) 0 0) ≡ g i)
    → ((i j : ℕ) → i ∈ ks → one_wire (F i) ≡ false → P j (pick_of n (F i)) → f j ≡ g i)
    → Along P at (map (pick_of n) (picked (map F ks))) → map f (argument_wires at (map F ks)) ≡ map g ks
arguments_hold f g P n F [] at one other h = refl
arguments_hold f g P n F (k ∷ ks) at one other h =
    split (one_wire (F k))
    (λ t. rw t (cc (one k (inl refl) t, arguments_hold f g P n F ks at (λ i m. one i (inr m)) (λ i j m. other i j (inr m)) (rw t at h))))
    (λ e. let r = rw e at h in
    rw e (cc (other k at (inl refl) e r.0, arguments_hold f g P n F ks (suc at) (λ i m. one i (inr m)) (λ i j m. other i j (inr m)) r.1)))
