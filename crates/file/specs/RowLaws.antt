-- Rows 60 and 61: their tests reflect a head with its mark and limits, and a file that is laid out; the mark is that of one of the two versions.
use Rattle.std.specs.Prelude.{ℕ, zero, suc, ◌+◌, ◌*◌, ◌≤◌, ◌<◌, ◌≡◌, refl, List, true, ◌⊎◌, ◌↔◌, leb, length, take, get_or}
use Rattle.std.proofs.Common.{sym, ap, ◌∙◌, inl, inr, ⊎_elim, arith, get_or-take, eqb-true, eq-eqb, leb-true, le-leb}
use Rattle.base.specs.Lists.{elem}
use Rattle.base.specs.MemberLaws.{elem→∈, ∈→elem, same_right}
use Rattle.base.specs.TestLaws.{both, and, either, or_left, or_right}
use Rattle.file.specs.Records.{Record, input, word, bit, operation, choice, pick, guard}
use Rattle.file.specs.declared.Version.TheVariants.{One, Two}
use Rattle.file.specs.Versions.{Version, one, two, version_of, most_guard_wires}
use Rattle.file.specs.CircuitFile.{mark}
use Rattle.file.specs.FileFigures.{version_in, record_at, size_at, place_after, first_record, file_variables, wire_count}
use Rattle.file.specs.Limits.{most_file_bytes, most_file_variables, most_wires}
use Rattle.file.specs.LaidOut.{record_codes, Bounded, WholeAt, LaidOut}
use Rattle.file.specs.CircuitRows.{marked_as, marked, headed, bounded, whole_at, laid_from, laid}

-- 60: the limits of a file's head
pub record Headed (f : List ℕ) : Type 0 where
  pub long : first_record ≤ length f
  pub short : length f ≤ most_file_bytes
  pub marked : take (length (mark (version_in f))) f ≡ mark (version_in f)
  pub some : 1 ≤ file_variables f
  pub few : file_variables f ≤ most_file_variables
  pub wires : wire_count f ≤ most_wires

-- the mark is that of a version exactly when it is that of the version which its last byte names
marked_as_lem : (ver : Version) (f : List ℕ) → version_of (get_or (mark ver) 4 0) ≡ ver → marked_as ver f ≡ true → take 5 f ≡ mark (version_in f)
marked_as_lem ver f e h =
    let q : take 5 f ≡ mark ver = (same_right (take 5 f) (mark ver)).0 h in
    let n : version_in f ≡ ver = ap version_of (sym (get_or-take 5 f 4 0 (omega arith)) ∙ ap (λ (l : List ℕ). get_or l 4 0) q) ∙ e in
    q ∙ ap mark (sym n)

-- "another mark or version" is neither of the two
pub mark_either : (f : List ℕ) → (take 5 f ≡ mark (version_in f)) ↔ ((take 5 f ≡ mark one) ⊎ (take 5 f ≡ mark two))
mark_either f = (go (version_in f), ⊎_elim (λ e. named one refl e) (λ e. named two refl e))
  where
    go : (ver : Version) → take 5 f ≡ mark ver → (take 5 f ≡ mark one) ⊎ (take 5 f ≡ mark two)
    go One e = inl e
    go Two e = inr e

    named : (ver : Version) → version_of (get_or (mark ver) 4 0) ≡ ver → take 5 f ≡ mark ver → take 5 f ≡ mark (version_in f)
    named ver n e = marked_as_lem ver f n ((same_right (take 5 f) (mark ver)).1 e)

marked_to : (f : List ℕ) → marked f ≡ true → take 5 f ≡ mark (version_in f)
marked_to f h = ⊎_elim (marked_as_lem one f refl) (marked_as_lem two f refl) (either (marked_as one f) (marked_as two f) h)

marked_back : (f : List ℕ) → take 5 f ≡ mark (version_in f) → marked f ≡ true
marked_back f h = go (version_in f) h
  where
    go : (ver : Version) → take 5 f ≡ mark ver → marked f ≡ true
    go One e = or_left (marked_as one f) (marked_as two f) ((same_right (take 5 f) (mark one)).1 e)
    go Two e = or_right (marked_as one f) (marked_as two f) ((same_right (take 5 f) (mark two)).1 e)

headed_to : (f : List ℕ) → headed f ≡ true → Headed f
unfolding headed
headed_to f h =
    let (h4, w) = both _ (leb (wire_count f) most_wires) h in
    let (h3, e) = both _ (leb (file_variables f) most_file_variables) h4 in
    let (h2, d) = both _ (leb 1 (file_variables f)) h3 in
    let (h1, c) = both _ (marked f) h2 in
    let (a, b) = both (leb first_record (length f)) (leb (length f) most_file_bytes) h1 in
    record {
      long = leb-true _ _ a;
      short = leb-true _ _ b;
      marked = marked_to f c;
      some = leb-true _ _ d;
      few = leb-true _ _ e;
      wires = leb-true _ _ w;
    }

headed_back : (f : List ℕ) → Headed f → headed f ≡ true
unfolding headed
headed_back f h =
    and (and (and (and (and (le-leb _ _ h.long) (le-leb _ _ h.short)) (marked_back f h.marked))
    (le-leb _ _ h.some)) (le-leb _ _ h.few)) (le-leb _ _ h.wires)

pub headed_right : (f : List ℕ) → (headed f ≡ true) ↔ Headed f
headed_right f = (headed_to f, headed_back f)

-- 61: what a record may have, a whole record, all of them and the outputs
bounded_right : (ver : Version) (r : Record) → (bounded ver r ≡ true) ↔ Bounded ver r
bounded_right ver (input k x) = (λ h. tt, λ h. refl)
bounded_right ver (word n) = (λ h. tt, λ h. refl)
bounded_right ver (bit b) = (leb-true b 1, le-leb b 1)
bounded_right ver (operation op l) = (λ h. tt, λ h. refl)
bounded_right ver (choice c a b) = (λ h. tt, λ h. refl)
bounded_right ver (pick l) = (leb-true 1 (length l), le-leb 1 (length l))
bounded_right ver (guard cs t) = (leb-true (length cs) (most_guard_wires ver), le-leb (length cs) (most_guard_wires ver))

whole_to : (f : List ℕ) (at : ℕ) → whole_at f at ≡ true → WholeAt f at
unfolding whole_at
whole_to f at h =
    let (g, c) = both _ (bounded (version_in f) (record_at f at)) h in
    let (a, b) = both (elem (get_or f at 0) record_codes) (leb (at + size_at f at) (length f)) g in
    record { known = elem→∈ (get_or f at 0) record_codes a; inside = leb-true _ _ b; bounded = (bounded_right (version_in f) (record_at f at)).0 c }

whole_back : (f : List ℕ) (at : ℕ) → WholeAt f at → whole_at f at ≡ true
unfolding whole_at
whole_back f at w = and (and (∈→elem (get_or f at 0) record_codes w.known) (le-leb _ _ w.inside)) ((bounded_right (version_in f) (record_at f at)).1 w.bounded)

pub whole_right : (f : List ℕ) (at : ℕ) → (whole_at f at ≡ true) ↔ WholeAt f at
whole_right f at = (whole_to f at, whole_back f at)

laid_each : (n : ℕ) (f : List ℕ) (at : ℕ) → laid_from n f at ≡ true
    → ((i : ℕ) → i < n → WholeAt f (place_after i f at)) × (place_after n f at + 2 * file_variables f ≡ length f)
laid_each zero f at h = (λ i l. absurd (omega arith), eqb-true _ _ h)
laid_each (suc n) f at h =
    let (w, r) = both (whole_at f at) _ h in
    let (e, d) = laid_each n f (at + size_at f at) r in
    (go (whole_to f at w) e, d)
  where
    go : WholeAt f at → ((i : ℕ) → i < n → WholeAt f (place_after i f (at + size_at f at))) → (i : ℕ) → i < suc n → WholeAt f (place_after i f at)
    go w e zero l = w
    go w e (suc i) l = e i (omega arith)

each_laid : (n : ℕ) (f : List ℕ) (at : ℕ) → ((i : ℕ) → i < n → WholeAt f (place_after i f at)) → place_after n f at + 2 * file_variables f ≡ length f → laid_from n f at ≡ true
each_laid zero f at w e = eq-eqb _ _ e
each_laid (suc n) f at w e = and (whole_back f at (w 0 (omega arith))) (each_laid n f (at + size_at f at) (λ i l. w (suc i) (omega arith)) e)

laid_to : (f : List ℕ) → Headed f → laid f ≡ true → LaidOut f
unfolding laid
laid_to f h l = let (w, e) = laid_each (wire_count f) f first_record l in record { headed = h.long; marked = h.marked; whole = w; ended = e }

laid_back : (f : List ℕ) → LaidOut f → laid f ≡ true
unfolding laid
laid_back f l = each_laid (wire_count f) f first_record l.whole l.ended

pub laid_right : (f : List ℕ) → Headed f → (laid f ≡ true) ↔ LaidOut f
laid_right f h = (laid_to f h, laid_back f)
