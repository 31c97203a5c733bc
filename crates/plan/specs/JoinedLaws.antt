-- Accepted plans: what they say of the members of any group of two or more, listed or not,
-- as the order of writing and the fused circuit name them.
use Rattle.std.specs.Prelude.{◌≡◌, refl, false, List, [], ◌∷◌, ◌⊎◌, ℕ, ◌≤◌, eqb, length}
use Rattle.std.proofs.Common.{sym, ◌∙◌, true≢false, inl, inr, arith}
use Rattle.base.specs.Lists.{◌∈◌, elem, upto}
use Rattle.base.specs.MemberLaws.{elem→∈, ∈→elem}
use Rattle.base.specs.TestLaws.{split, same?}
use Rattle.base.specs.Settings.{Once}
use Rattle.base.specs.SettingListLaws.{from_once, keep_once}
use Rattle.circuit.specs.PlainCircuit.{gates_of, gate_count}
use Rattle.circuit_needed.specs.Needed.{wanted_of}
use Rattle.plan.specs.PlanFile.{Plan, groups_in, EachGroup, Listed, Apart}
use Rattle.plan.specs.Groups.{smallest, group_of, members}
use Rattle.plan.specs.Accepted.{OneCostly, NoTwoNeeded, Acceptable}
use Rattle.plan.specs.GroupLaws.{smallest_in, group_of_kind, of_member}

-- the name of a listed group is the name of no gate outside it
pub foreign : (G : List ℕ) (Gs : Plan) → 2 ≤ length G → ((g : ℕ) → g ∈ G → Listed Gs g → ⊥) → EachGroup (λ H. 2 ≤ length H) Gs → (b : ℕ) → elem b G ≡ false
    → group_of Gs b ≡ smallest G → ⊥
foreign G Gs s d o b t e = go (group_of_kind Gs o b)
  where
    go : (group_of Gs b ≡ b) ⊎ Listed Gs (group_of Gs b) → ⊥
    go (inl q) = true≢false (sym (∈→elem b G (rw (sym e ∙ q) at (smallest_in G s))) ∙ t)
    go (inr h) = d (smallest G) (smallest_in G s) (rw e at h)

-- the gates of group q lie in one listed group, or are q alone
pub group_lies : (P : List ℕ → Type 0) (Gs : Plan) → EachGroup (λ G. 2 ≤ length G) Gs → Apart Gs → EachGroup P Gs → (q : ℕ)
    → ((g : ℕ) → group_of Gs g ≡ q → g ≡ q) ⊎ ((G : List ℕ) × P G × ((g : ℕ) → group_of Gs g ≡ q → g ∈ G))
group_lies P [] s a e q = inl (λ g h. h)
group_lies P (G ∷ Gs) (s, u) (d, a) (e, f) q = go (same? (smallest G) q) (group_lies P Gs u a f q)
  where
    here : smallest G ≡ q → (g : ℕ) → group_of (G ∷ Gs) g ≡ q → g ∈ G
    here y g h = split (elem g G) (elem→∈ g G) (λ t. absurd (foreign G Gs s d u g t (rw t at h ∙ sym y)))

    later : (smallest G ≡ q → ⊥) → (g : ℕ) → group_of (G ∷ Gs) g ≡ q → group_of Gs g ≡ q
    later n g h = split (elem g G) (λ t. absurd (n (rw t at h))) (λ t. rw t at h)

    go : (smallest G ≡ q) ⊎ (smallest G ≡ q → ⊥)
        → ((g : ℕ) → group_of Gs g ≡ q → g ≡ q) ⊎ ((H : List ℕ) × P H × ((g : ℕ) → group_of Gs g ≡ q → g ∈ H))
        → ((g : ℕ) → group_of (G ∷ Gs) g ≡ q → g ≡ q) ⊎ ((H : List ℕ) × P H × ((g : ℕ) → group_of (G ∷ Gs) g ≡ q → g ∈ H))
    go (inl y) r = inr (G, e, here y)
    go (inr n) (inl r) = inl (λ g h. r g (later n g h))
    go (inr n) (inr (H, x, r)) = inr (H, x, λ g h. r g (later n g h))

-- two distinct gates are not both q
two_apart : (q : ℕ) (l : List ℕ) → Once l → 2 ≤ length l → ((g : ℕ) → g ∈ l → g ≡ q) → ⊥
two_apart q [] o h f = omega arith
two_apart q (m ∷ []) o h f = omega arith
two_apart q (m ∷ k ∷ l) (n, o) h f = n (inl (f m (inl refl) ∙ sym (f k (inr (inl refl)))))

module _ (s p : List ℕ) (a : Acceptable s p) (q : ℕ) (many : 2 ≤ length (members (gate_count s) (group_of (groups_in p)) q)) where
  abbrev ms : List ℕ
  ms = members (gate_count s) (group_of (groups_in p)) q

  within : (P : List ℕ → Type 0) → EachGroup P (groups_in p) → (G : List ℕ) × P G × ((g : ℕ) → g ∈ ms → g ∈ G)
  within P e = go (group_lies P (groups_in p) a.laid_out.joins a.once e q)
    where
      names : (g : ℕ) → g ∈ ms → group_of (groups_in p) g ≡ q
      names g m = (of_member (gate_count s) (group_of (groups_in p)) g q m).1

      go : ((g : ℕ) → group_of (groups_in p) g ≡ q → g ≡ q) ⊎ ((G : List ℕ) × P G × ((g : ℕ) → group_of (groups_in p) g ≡ q → g ∈ G))
          → (G : List ℕ) × P G × ((g : ℕ) → g ∈ ms → g ∈ G)
      go (inl r) =
          absurd (two_apart q ms (keep_once (λ g. eqb (group_of (groups_in p) g) q) (upto (gate_count s)) (from_once 0 (gate_count s))) many (λ g m. r g (names g m)))
      go (inr (G, x, r)) = (G, x, λ g m. r g (names g m))

  -- they are one costly operation
  pub members_costly : OneCostly (gates_of s) (members (gate_count s) (group_of (groups_in p)) q)
  members_costly =
      let (G, (op, c, f), r) = within (OneCostly (gates_of s)) a.one_costly in
      (op, c, λ g m. f g (r g m))

  -- and no setting needs two of them
  pub members_exclude : NoTwoNeeded (gates_of s) (wanted_of s) (members (gate_count s) (group_of (groups_in p)) q)
  members_exclude g h m k =
      let w = within (NoTwoNeeded (gates_of s) (wanted_of s)) a.exclude in
      w.1 g h (w.2 g m) (w.2 h k)
