-- Any bytes as a batch: each is one of the five sorts, and its report is what is printed of that sort; the sums are those of the accepted entries.
use Rattle.std.specs.Prelude.{true, false, ◌⊎◌, ◌≡◌, refl, ℕ, zero, suc, ◌+◌, ◌-◌, ◌≤◌, ◌<◌, leb, length, take, drop}
use Rattle.std.proofs.Common.{true≢false, inl, inr, ⊎_elim, subst, ◌∙◌, zero-add, add-zero, arith, length-drop, take-append-drop, drop-drop, length-take-le, leb-true, leb-false, eqb-true}
use mathlib.Core.List.{List, [], ◌∷◌, ◌++◌, append_assoc, append-nil, map, flat_map}
use Rattle.std.proofs.Math.Path.{sym, ap}
use Rattle.std.proofs.lemmas.Bool.{eqb-false}
use Rattle.base.specs.TestLaws.{split}
use Rattle.base.specs.Lists.{same}
use Rattle.base.specs.MemberLaws.{same_right}
use Rattle.base.specs.Numbers.{bytes_of, number_at, Bytes}
use Rattle.base.specs.NumberLaws.{number_small, number_back}
use Rattle.base.specs.ByteLaws.{bytes_drop, bytes_behind}
use Rattle.base.specs.declared.Answer.{Answer}
use Rattle.report.specs.declared.Sums.{Sums}
use Rattle.report.specs.Batch.{batch_mark, head_bytes, entries_counted, part_size, has_part, part_of, past_part, has_entry, entry_size, past_entry, no_sums, plus, total_of, report_of}
use Rattle.report.specs.Packed.{Entry, Fits, AllFit, part_bytes, entry_bytes, head_of, batch_of, answer_to, lines_of, accepts, refuses}
use Rattle.report.specs.Packed.{among, cost_of, total_in, NoEntry, Found, whole, left, missing, short, other, printed_for}
use Rattle.report.specs.PartLaws.{part_fits, entry_parts, past_both}
use Rattle.report.specs.BoundLaws.{plus_accepted, plus_refused}
use Rattle.report.specs.PackedLaws.{entry_there, entry_cut, sums_from, whole_batch, bytes_left, entries_missing, head_cut, head_other}

-- a part that is whole, and what comes after it, are the bytes that it stands in
module _ (s : List ℕ) (b : Bytes s) (h : has_part s ≡ true) where
  length_part : length (part_of s) ≡ number_at 2 s 0
  length_part = length-take-le (number_at 2 s 0) (drop 2 s) (omega (arith, part_fits s h, length-drop 2 s))

  pub part_small : length (part_of s) < 65536
  part_small = omega (arith, length_part, number_small 2 s 0 b (part_fits s h).0)

  pub part_back : s ≡ part_bytes (part_of s) ++ past_part s
  part_back =
      number_back 2 s 0 b (part_fits s h).0
      ∙ ap (λ (x : List ℕ). bytes_of 2 (number_at 2 s 0) ++ x)
      (sym (take-append-drop (number_at 2 s 0) (drop 2 s)) ∙ ap (λ (x : List ℕ). part_of s ++ x) (drop-drop (number_at 2 s 0) 2 s))
      ∙ ap (λ (n : ℕ). bytes_of 2 n ++ (part_of s ++ past_part s)) (sym length_part)
      ∙ sym (append_assoc (bytes_of 2 (length (part_of s))) (part_of s) (past_part s))

-- so are an entry's
abbrev pub entry_of : List ℕ → Entry
entry_of s = record { rule = part_of s; plan = part_of (past_part s) }

module _ (s : List ℕ) (b : Bytes s) (h : has_entry s ≡ true) where
  pub entry_small : Fits (entry_of s)
  entry_small =
      let (r, p) = entry_parts s h in
      (part_small s b r, part_small (past_part s) (bytes_drop s (part_size s) b) p)

  pub entry_back : s ≡ entry_bytes (entry_of s) ++ past_entry s
  unfolding entry_bytes
  entry_back =
      let (r, p) = entry_parts s h in
      part_back s b r
      ∙ ap (λ (x : List ℕ). part_bytes (part_of s) ++ x) (part_back (past_part s) (bytes_drop s (part_size s) b) p ∙ ap (λ (x : List ℕ). part_bytes (part_of (past_part s)) ++ x) (sym (past_both s)))
      ∙ sym (append_assoc (part_bytes (part_of s)) (part_bytes (part_of (past_part s))) (past_entry s))

-- no entry is whole exactly where none is found
pub none_found : (x : List ℕ) → has_entry x ≡ false → NoEntry x
none_found x h e y f q = true≢false (sym (entry_there e y f) ∙ ap has_entry (sym q) ∙ h)

pub none_there : (x : List ℕ) → Bytes x → NoEntry x → has_entry x ≡ false
none_there x b none = split (has_entry x) (λ t. absurd (none (entry_of x) (past_entry x) (entry_small x b t) (entry_back x b t))) (λ t. t)

-- so none is where an entry is cut
pub cut_entry : (e : Entry) → Fits e → (k : ℕ) → k < length (entry_bytes e) → NoEntry (take k (entry_bytes e))
cut_entry e f k l = none_found (take k (entry_bytes e)) (entry_cut e k f l)

-- of n entries to come, those that are whole, and what comes behind them
pub record Leading (n : ℕ) (s : List ℕ) : Type 0 where
  pub entries : List Entry
  pub rest : List ℕ
  pub fit : AllFit entries
  pub are : s ≡ flat_map entry_bytes entries ++ rest
  pub all : (length entries ≡ n) ⊎ ((length entries < n) × NoEntry rest)

pub entries_found : (n : ℕ) (s : List ℕ) → Bytes s → Leading n s
unfolding flat_map
entries_found zero s b = record { entries = []; rest = s; fit = tt; are = refl; all = inl refl }
entries_found (suc n) s b =
    split (has_entry s)
    (λ h.
    let more = entries_found n (past_entry s) (bytes_drop s (entry_size s) b) in
    record {
      entries = entry_of s ∷ more.entries;
      rest = more.rest;
      fit = (entry_small s b h, more.fit);
      are = entry_back s b h ∙ ap (λ (x : List ℕ). entry_bytes (entry_of s) ++ x) more.are ∙ sym (append_assoc (entry_bytes (entry_of s)) (flat_map entry_bytes more.entries) more.rest);
      all = ⊎_elim (λ e. inl (ap suc e)) (λ l. inr (omega (arith, l.0), l.1)) more.all;
    })
    (λ h. record { entries = []; rest = s; fit = tt; are = refl; all = inr (omega arith, none_found s h) })

-- the head, and what comes behind it
head_back : (b : List ℕ) → Bytes b → head_bytes ≤ length b → take 5 b ≡ batch_mark → b ≡ head_of (entries_counted b) ++ drop head_bytes b
head_back b bytes h m =
    sym (take-append-drop 5 b) ∙ ap (λ (x : List ℕ). x ++ drop 5 b) m
    ∙ ap (λ (x : List ℕ). batch_mark ++ x) (number_back 2 b 5 bytes h)
    ∙ sym (append_assoc batch_mark (bytes_of 2 (entries_counted b)) (drop head_bytes b))

-- a head that counts n entries, and the entries behind it
counted_found : (n : ℕ) (s : List ℕ) → n < 65536 → Leading n s → Found (head_of n ++ s)
unfolding batch_of
counted_found n s small found =
    ⊎_elim
    (λ e. subst Found (ap (λ (x : List ℕ). head_of n ++ x) (sym found.are))
    (subst (λ (k : ℕ). Found (head_of k ++ (flat_map entry_bytes found.entries ++ found.rest))) e
    (ended found.entries found.fit (omega (arith, e, small)) found.rest)))
    (λ l.
    let k = n - suc (length found.entries) in
    let e : length found.entries + suc k ≡ n = omega (arith, l.0) in
    subst Found (ap (λ (x : List ℕ). head_of n ++ x) (sym found.are))
    (subst (λ (j : ℕ). Found (head_of j ++ (flat_map entry_bytes found.entries ++ found.rest))) e
    (missing found.entries found.fit k (omega (arith, e, small)) found.rest l.1)))
    found.all
  where
    ended : (es : List Entry) → AllFit es → length es < 65536 → (x : List ℕ) → Found (head_of (length es) ++ (flat_map entry_bytes es ++ x))
    ended es f h [] = subst (λ (t : List ℕ). Found (head_of (length es) ++ t)) (sym (append-nil (flat_map entry_bytes es))) (whole es f h)
    ended es f h (b ∷ x) = subst Found (append_assoc (head_of (length es)) (flat_map entry_bytes es) (b ∷ x)) (left es f h b x)

-- all bytes are one of the five
pub every_found : (b : List ℕ) → Bytes b → Found b
every_found b bytes =
    split (leb head_bytes (length b))
    (λ h.
    let l = leb-true head_bytes (length b) h in
    split (same (take 5 b) batch_mark)
    (λ m.
    let n = entries_counted b in
    subst Found (sym (head_back b bytes l ((same_right (take 5 b) batch_mark).0 m)))
    (counted_found n (drop head_bytes b) (number_small 2 b 5 bytes l) (entries_found n (drop head_bytes b) (bytes_drop b head_bytes bytes))))
    (λ m. other b (λ e. true≢false (sym ((same_right (take 5 b) batch_mark).1 e) ∙ m))))
    (λ h. short b (leb-false head_bytes (length b) h))

-- the sums u are those of t and of the answers on top
pub record Summed (t u : Sums) (l : List Answer) : Type 0 where
  pub accepted_is : u.accepted ≡ t.accepted + length (among accepts l)
  pub refused_is : u.refused ≡ t.refused + length (among refuses l)
  pub before_is : u.before ≡ t.before + cost_of (λ a. a.before) (among accepts l)
  pub after_is : u.after ≡ t.after + cost_of (λ a. a.after) (among accepts l)

-- one answer more
one_more : (t u : Sums) (a : Answer) (l : List Answer) → Summed (plus t a) u l → Summed t u (a ∷ l)
unfolding accepts among cost_of
one_more t u a l s =
    split (accepts a)
    (λ z.
    let p = plus_accepted t a (eqb-true a.number 0 z) in
    record {
      accepted_is = s.accepted_is ∙ rw (p, z) (omega arith);
      refused_is = s.refused_is ∙ rw (p, z) refl;
      before_is = s.before_is ∙ rw (p, z) (omega arith);
      after_is = s.after_is ∙ rw (p, z) (omega arith);
    })
    (λ z.
    let p = plus_refused t a (eqb-false a.number 0 z) in
    record {
      accepted_is = s.accepted_is ∙ rw (p, z) refl;
      refused_is = s.refused_is ∙ rw (p, z) (omega arith);
      before_is = s.before_is ∙ rw (p, z) refl;
      after_is = s.after_is ∙ rw (p, z) refl;
    })

pub sums_are : (es : List Entry) (t : Sums) → Summed t (sums_from t es) (map answer_to es)
unfolding among cost_of
sums_are [] t = record { accepted_is = sym (add-zero _); refused_is = sym (add-zero _); before_is = sym (add-zero _); after_is = sym (add-zero _) }
sums_are (e ∷ es) t = one_more t (sums_from t (e ∷ es)) (answer_to e) (map answer_to es) (sums_are es (plus t (answer_to e)))

-- so the last line is that of the accepted entries
total_is : (es : List Entry) → total_of (sums_from no_sums es) ≡ total_in es
unfolding total_in
total_is es = let s = sums_are es no_sums in rw (s.accepted_is ∙ zero-add _, s.refused_is ∙ zero-add _, s.before_is ∙ zero-add _, s.after_is ∙ zero-add _)

-- what is printed of each sort is the report
pub whole_report : (es : List Entry) → AllFit es → length es < 65536 → report_of (batch_of es) ≡ lines_of es ++ total_in es
whole_report es f h = whole_batch es f h ∙ ap (λ (x : List ℕ). lines_of es ++ x) (total_is es)

pub found_report : (b : List ℕ) → Bytes b → (f : Found b) → report_of b ≡ printed_for f
unfolding lines_of printed_for
found_report b bytes (whole es f h) = whole_report es f h
found_report b bytes (left es f h c x) = bytes_left es f h c x
found_report b bytes (missing es f n h x none) =
    entries_missing es f n x h (none_there x (bytes_behind (flat_map entry_bytes es) x (bytes_behind (head_of (length es + suc n)) (flat_map entry_bytes es ++ x) bytes)) none)
found_report b bytes (short c h) = head_cut b h
found_report b bytes (other c h) = head_other b h
