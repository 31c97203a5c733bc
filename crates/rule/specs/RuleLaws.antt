-- Reading a header and a whole rule, as steps: size, mark, V, kind bytes, block, end, and the first that fails decides; what the bytes of a header that was read are.
use Prim.Native.Nat.{ℕ, zero, suc, ◌+◌, ◌-◌, ◌<◌, ◌≤◌}
use Rattle.std.proofs.Common.{add-zero, arith, sym, ap, ◌∙◌, get_or-take}
use Rattle.std.proofs.Math.Numerals.{sub-one}
use Rattle.std.specs.Prelude.{◌≡◌, refl, List, ◌++◌, length, get_or, take, drop, ltb, leb}
use borrow.Author.Tests.{le-ltb, lt-ltb, le-leb, lt-leb, ltb-true, leb-true}
use Rattle.base.specs.Parsing.{Parsed, parsed, refused, step_of, ◌>>=◌, read_mark}
use Rattle.base.specs.ParsingLaws.{past_then, refused_then, read_past, mark_past, Finds, found, finds_read, finds_map, finds_unless, finds_then, mark_found}
use Rattle.base.specs.Parsing.{Step}
use Rattle.base.specs.Parsing.{Past, Refused}
use Rattle.rule.specs.Limits.{most_variables, last_kind, nested}
use Rattle.rule.specs.Header.{mark, variables, HasKinds, read_count, read_kinds, read_header}
use Rattle.rule.specs.Blocks.{read_block}
use Rattle.rule.specs.Rule.{nothing_after, read_rule}

-- kind bytes
pub kinds_none : (n : ℕ) (s : List ℕ) (at : ℕ) → n ≤ 0 → read_kinds n s at ≡ parsed tt at
unfolding read_kinds
kinds_none zero s at z = refl
kinds_none (suc n) s at z = absurd (omega arith)

module _ (s : List ℕ) (at : ℕ) where
  pub kinds_short : (n : ℕ) → 0 < n → length s ≤ at → read_kinds n s at ≡ refused 4 (length s)
  unfolding read_kinds
  kinds_short zero z h = absurd (omega arith)
  kinds_short (suc n) z h = rw (le-ltb _ _ h)

  pub kinds_wrong : (n : ℕ) → 0 < n → at < length s → last_kind < get_or s at 0 → read_kinds n s at ≡ refused 3 at
  unfolding read_kinds
  kinds_wrong zero z h k = absurd (omega arith)
  kinds_wrong (suc n) z h k = rw (lt-ltb _ _ h, lt-leb _ _ k)

  pub kinds_more : (n : ℕ) → 0 < n → at < length s → get_or s at 0 ≤ last_kind → read_kinds n s at ≡ read_kinds (n - 1) s (at + 1)
  unfolding read_kinds
  kinds_more zero z h k = absurd (omega arith)
  kinds_more (suc n) z h k = rw (lt-ltb _ _ h, le-leb _ _ k, sub-one (suc n))

-- kind bytes that stand there and are in range are passed over
pub kinds_passed : (x n : ℕ) (s : List ℕ) (at : ℕ) → x ≤ n → at + x ≤ length s → ((y : ℕ) → y < x → get_or s (at + y) 0 ≤ last_kind)
    → read_kinds n s at ≡ read_kinds (n - x) s (at + x)
kinds_passed zero n s at few inside known = let a : n - 0 ≡ n = omega arith in let b : at + 0 ≡ at = omega arith in rw (a, b)
kinds_passed (suc x) n s at few inside known =
    let a : n - x - 1 ≡ n - suc x = omega arith in
    let b : at + x + 1 ≡ at + suc x = omega arith in
    kinds_passed x n s at (omega arith) (omega arith) (λ y l. known y (omega arith))
    ∙ rw (a, b) at (kinds_more s (at + x) (n - x) (omega arith) (omega arith) (known x (omega arith)))

-- kind bytes that were read lie in the file, and each is a kind's
pub record KindsFound (n : ℕ) (s : List ℕ) (at next : ℕ) : Type 0 where
  pub after : next ≡ at + n
  pub inside : next ≤ length s
  pub known : (x : ℕ) → x < n → get_or s (at + x) 0 ≤ last_kind

first_known : (n : ℕ) (s : List ℕ) (at next : ℕ) → get_or s at 0 ≤ last_kind → KindsFound n s (at + 1) next → (x : ℕ) → x < suc n → get_or s (at + x) 0 ≤ last_kind
first_known n s at next h r zero l = rw (add-zero at) h
first_known n s at next h r (suc x) l =
    let q : at + 1 + x ≡ at + suc x = omega arith in rw q at (r.known x (omega arith))

kinds_found : (n : ℕ) (s : List ℕ) (at : ℕ) → at ≤ length s → Finds (λ u next. KindsFound n s at next) (read_kinds n s at)
unfolding read_kinds
kinds_found zero s at l = found {n = at} (record { after = omega arith; inside = l; known = λ x h. absurd (omega arith) })
kinds_found (suc n) s at l =
    finds_unless (ltb at (length s)) 4 (length s) _
    (λ i. finds_unless (leb (get_or s at 0) last_kind) 3 at _
    (λ k. let inside : at < length s = ltb-true _ _ i in
    finds_map (λ u next r. record { after = omega (arith, r.after); inside = r.inside; known = first_known n s at next (leb-true _ _ k) r })
    (kinds_found n s (at + 1) (omega arith))))

-- the header
module _ (s : List ℕ) where
  after_mark : Unit {0} → ℕ → Parsed (Unit {0})
  after_mark u at = read_count s at >>= λ v at. read_kinds v s at

  pub header_mark : {k p : ℕ} → Refused k p ≡ step_of (read_mark 2 mark s 0) → Refused k p ≡ step_of (read_header s)
  unfolding read_header
  header_mark h = refused_then (read_mark 2 mark s 0) _ h

  module _ {n : ℕ} (m : Past n ≡ step_of (read_mark 2 mark s 0)) where
    -- what follows the five bytes decides
    header_open : {r : Step} → r ≡ step_of (after_mark tt 5) → r ≡ step_of (read_header s)
    unfolding read_header after_mark
    header_open {r} h = past_then (read_mark 2 mark s 0) _ m (λ u. rw (mark_past 2 mark s 0 m) h)

    pub header_none : variables s ≡ 0 → Refused 3 5 ≡ step_of (read_header s)
    unfolding after_mark read_count
    header_none z = header_open (rw (le-ltb 0 (variables s) (omega arith)))

    pub header_many : most_variables < variables s → Refused 3 5 ≡ step_of (read_header s)
    unfolding after_mark read_count
    header_many h = header_open (rw (lt-ltb 0 (variables s) (omega arith), lt-leb _ _ h))

    pub header_kinds : (variables s ≡ 0 → ⊥) → variables s ≤ most_variables → {r : Step} → r ≡ step_of (read_kinds (variables s) s 6) → r ≡ step_of (read_header s)
    unfolding after_mark read_count
    header_kinds z h q = header_open (rw (lt-ltb 0 (variables s) (omega arith), le-leb _ _ h) q)

-- a file with its mark and version and V in range
module _ (s : List ℕ) (marked : take 5 s ≡ mark) (some : 1 ≤ variables s) (few : variables s ≤ most_variables) where
  byte_is : (i : ℕ) → i < 5 → get_or s i 0 ≡ get_or mark i 0
  byte_is i l = sym (get_or-take 5 s i 0 l) ∙ ap (λ (m : List ℕ). get_or m i 0) marked

  pub header_is : read_header s ≡ read_kinds (variables s) s 6
  unfolding read_header read_mark read_count
  header_is =
      rw (
        byte_is 0 (omega arith),
        byte_is 1 (omega arith),
        byte_is 2 (omega arith),
        byte_is 3 (omega arith),
        byte_is 4 (omega arith),
        lt-ltb 0 (variables s) (omega arith),
        le-leb _ _ few,
      )

  -- past all its kind bytes
  pub header_right : HasKinds s → ((x : ℕ) → x < variables s → get_or s (6 + x) 0 ≤ last_kind) → read_header s ≡ parsed tt (6 + variables s)
  header_right has known =
      header_is ∙ kinds_passed (variables s) (variables s) s 6 (omega arith) has known ∙ kinds_none (variables s - variables s) s (6 + variables s) (omega arith)

-- a header that was read: the mark stands there, V is in range, and a kind byte for every variable stands before the block
pub record Headed (s : List ℕ) (body : ℕ) : Type 0 where
  pub marked : s ≡ mark ++ drop 5 s
  pub some : 0 < variables s
  pub few : variables s ≤ most_variables
  pub kinds : HasKinds s
  pub known : (x : ℕ) → x < variables s → get_or s (6 + x) 0 ≤ last_kind
  pub after : body ≡ 6 + variables s

count_found : (s : List ℕ) → Finds (λ v n. (0 < variables s) × (variables s ≤ most_variables) × (v ≡ variables s) × (n ≡ 6)) (read_count s 5)
unfolding read_count
count_found s =
    finds_unless (ltb 0 (variables s)) 3 5 _
    (λ some. finds_unless (leb (variables s) most_variables) 3 5 _ (λ few. found (ltb-true _ _ some, leb-true _ _ few, refl, refl)))

header_found : (s : List ℕ) → 6 ≤ length s → Finds (λ u body. Headed s body) (read_header s)
unfolding read_header
header_found s six =
    finds_then (read_mark 2 mark s 0) _ (mark_found 2 mark s 0 (omega arith))
    (λ u at m. let five : at ≡ 5 = omega (arith, m.0) in
    rw five (finds_then (read_count s 5) _ (count_found s)
    (λ v at' c. rw (c.2, c.3)
    (finds_map (λ w body r. record {
      marked = rw five at m.1;
      some = c.0;
      few = c.1;
      kinds = omega (arith, r.after, r.inside);
      known = r.known;
      after = r.after;
    }) (kinds_found (variables s) s 6 six)))))

pub header_past : (s : List ℕ) {body : ℕ} → 6 ≤ length s → Past body ≡ step_of (read_header s) → Headed s body
header_past s six h = finds_read (read_header s) (header_found s six) (read_past (read_header s) h).1

-- the whole, its size in range
module _ (s : List ℕ) (lo : 6 ≤ length s) (hi : length s ≤ 4096) where
  pub rule_is : read_rule s ≡ (read_header s >>= λ _ at. read_block s nested at >>= λ b at. nothing_after s b at)
  unfolding read_rule
  rule_is = rw (le-leb _ _ lo, le-leb _ _ hi)

  pub rule_header : {k p : ℕ} → Refused k p ≡ step_of (read_header s) → Refused k p ≡ step_of (read_rule s)
  rule_header h = rw rule_is (refused_then (read_header s) _ h)

  pub rule_block : {n k p : ℕ} → Past n ≡ step_of (read_header s) → Refused k p ≡ step_of (read_block s nested n) → Refused k p ≡ step_of (read_rule s)
  rule_block {n} h g = rw rule_is (past_then (read_header s) _ h (λ u. refused_then (read_block s nested n) _ g))

  pub rule_after : {n m : ℕ} → Past n ≡ step_of (read_header s) → Past m ≡ step_of (read_block s nested n) → m < length s → Refused 9 m ≡ step_of (read_rule s)
  rule_after {n} {m} h g l =
      rw rule_is (past_then (read_header s) _ h (λ u. past_then (read_block s nested n) _ g (λ b. rw (lt-leb (length s) m l))))

  pub rule_whole : {n m : ℕ} → Past n ≡ step_of (read_header s) → Past m ≡ step_of (read_block s nested n) → length s ≤ m → Past m ≡ step_of (read_rule s)
  rule_whole {n} {m} h g l =
      rw rule_is (past_then (read_header s) _ h (λ u. past_then (read_block s nested n) _ g (λ b. rw (le-leb (length s) m l))))

-- a size out of range
pub rule_small : (s : List ℕ) → length s < 6 → read_rule s ≡ refused 1 0
unfolding read_rule
rule_small s h = rw (lt-leb _ _ h)

pub rule_large : (s : List ℕ) → 4096 < length s → read_rule s ≡ refused 1 0
unfolding read_rule
rule_large s h = rw (le-leb 6 (length s) (omega arith), lt-leb _ _ h)
