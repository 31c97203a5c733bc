-- Rows 60 and 61: the mark byte by byte; how many bytes a record says it has, by its first byte, and whether they are there; the walk over the records, to the outputs and the file's end.
use Rattle.std.specs.Prelude.{ℕ, zero, suc, ◌+◌, ◌*◌, ◌-◌, ◌≤◌, ◌<◌, ◌≡◌, Bool, ◌&&◌, ◌||◌, Option, Some, None, List, [], ◌∷◌, eqb, get_or}
use Rattle.std.proofs.Math.Path.{refl}
use Rattle.std.proofs.Common.{sym, ◌∙◌, arith, eqb-true, eq-eqb, leb-true, leb-false, le-leb}
use Rattle.std.proofs.Math.Bool.{true, false, cond, and-true}
use Rattle.std.proofs.Math.Dec.{leb}
use Rattle.std.proofs.Math.ListN.{length}
use Rattle.std.proofs.lemmas.Bool.{lt-leb}
use Rattle.std.specs.Bool.{then_some}
use Rattle.base.specs.Lists.{elem}
use Rattle.base.specs.MemberLaws.{∈→elem, elem→∈}
use Rattle.base.specs.TestLaws.{split, same_test}
use Rattle.base.specs.Codes.{entry_of, byte_of, start_code}
use Rattle.base.specs.declared.Kind.{Kind}
use Rattle.base.specs.declared.Kind.TheVariants as kind
use Rattle.base.specs.declared.Operation.{Operation}
use Rattle.base.specs.declared.Operation.TheVariants.{Sum, Difference, Product, LessThan, Equal, And, Or}
use Rattle.file.specs.Records.{Record}
use Rattle.file.specs.Versions.{most_guard_wires, table_bytes}
use Rattle.file.specs.FileFigures.{version_in, record_at, size_at, first_record, file_variables, wire_count}
use Rattle.file.specs.FilePartLaws.{wires_length, pairs_length}
use Rattle.file.specs.RecordBounds.{Coded, is_input, is_word, is_bit_lem, is_operation, is_choice, is_pick, is_guard, operation_code_lem, known_coded}
use Rattle.file.specs.FoundForms.{form_input, form_word, form_bit, form_operation, form_choice, form_pick, form_guard}
use Rattle.file.specs.LaidOut.{record_codes}
use Rattle.file.specs.CircuitRows.{marked, bounded, whole_at, laid_from, laid}
use Rattle.file.specs.RowLaws.{whole_right}
use Rattle.file_layout.specs.Said.{said_size}

-- the first five bytes, each against those of the mark; the last is one version's or the other's
pub marked_by : (f : List ℕ) → first_record ≤ length f
    → marked f
    ≡ (eqb (get_or f 0 0) 0x43 && (eqb (get_or f 1 0) 0x49 && (eqb (get_or f 2 0) 0x52 && (eqb (get_or f 3 0) 0x00 && (eqb (get_or f 4 0) 0x01 || eqb (get_or f 4 0) 0x02)))))
marked_by [] h = absurd (omega arith)
marked_by (a ∷ []) h = absurd (omega arith)
marked_by (a ∷ b ∷ []) h = absurd (omega arith)
marked_by (a ∷ b ∷ c ∷ []) h = absurd (omega arith)
marked_by (a ∷ b ∷ c ∷ d ∷ []) h = absurd (omega arith)
marked_by (a ∷ b ∷ c ∷ d ∷ e ∷ l) h = go (eqb a 0x43) (eqb b 0x49) (eqb c 0x52) (eqb d 0x00) (eqb e 0x01) (eqb e 0x02)
  where
    go : (a b c d x y : Bool) → ((a && (b && (c && (d && (x && true))))) || (a && (b && (c && (d && (y && true)))))) ≡ (a && (b && (c && (d && (x || y)))))
    go false b c d x y = refl
    go true false c d x y = refl
    go true true false d x y = refl
    go true true true false x y = refl
    go true true true true x y = rw (and-true x, and-true y)

-- what a test lets through
if_some : (b : Bool) (n : ℕ) → cond b (Some n) None ≡ then_some b n
if_some true n = refl
if_some false n = refl

module _ (f : List ℕ) (at : ℕ) where
  -- what a record says, by the byte that it begins with
  said_by : (b n : ℕ) (r : Record) → get_or f at 0 ≡ b → elem b record_codes ≡ true → (record_at f at ≡ r) × (size_at f at ≡ n) → said_size f at ≡ cond (bounded (version_in f) r) (Some n) None
  unfolding said_size
  said_by b n r e k (q, s) = rw (e, k, q, s)

  pub said_input : (k : Kind) → get_or f at 0 ≡ start_code k → said_size f at ≡ Some 2
  said_input kind.Word e = said_by 0x00 2 _ e refl (form_input f at kind.Word e)
  said_input kind.Bit e = said_by 0x01 2 _ e refl (form_input f at kind.Bit e)

  pub said_word : get_or f at 0 ≡ 0x11 → said_size f at ≡ Some 5
  said_word e = said_by 0x11 5 _ e refl (form_word f at e)

  pub said_bit : (n : ℕ) → get_or f at 0 ≡ 0x12 → n ≡ get_or f (at + 1) 0 → said_size f at ≡ then_some (leb n 1) 2
  said_bit n e q = said_by 0x12 2 _ e refl (form_bit f at e) ∙ rw q (if_some _ _)

  pub said_operation : (op : Operation) → get_or f at 0 ≡ byte_of op → said_size f at ≡ Some (1 + 2 * (entry_of op).arity)
  said_operation op e = said_by (byte_of op) (1 + 2 * (entry_of op).arity) _ e (∈→elem (byte_of op) record_codes (operation_code_lem op).0) (form_operation f at op e)

  pub said_choice : get_or f at 0 ≡ 0x30 → said_size f at ≡ Some 7
  said_choice e = said_by 0x30 7 _ e refl (form_choice f at e)

  pub said_pick : (n : ℕ) → get_or f at 0 ≡ 0x31 → n ≡ get_or f (at + 1) 0 → said_size f at ≡ then_some (leb 1 n) (2 + 4 * n)
  said_pick n e q = said_by 0x31 (2 + 4 * get_or f (at + 1) 0) _ e refl (form_pick f at e) ∙ rw (pairs_length (get_or f (at + 1) 0) f (at + 2), q) (if_some _ _)

  pub said_guard : (n : ℕ) → get_or f at 0 ≡ 0x32 → n ≡ get_or f (at + 1) 0 → said_size f at ≡ then_some (leb n (most_guard_wires (version_in f))) (2 + 2 * n + table_bytes (version_in f))
  said_guard n e q = said_by 0x32 (2 + 2 * get_or f (at + 1) 0 + table_bytes (version_in f)) _ e refl (form_guard f at e) ∙ rw (wires_length (get_or f (at + 1) 0) f (at + 2), q) (if_some _ _)

  -- of an operation with two wires
  pub said_two : 0x20 ≤ get_or f at 0 → get_or f at 0 ≤ 0x26 → said_size f at ≡ Some 5
  said_two l h = let e : get_or f at 0 ≡ 0x20 + (get_or f at 0 - 0x20) = omega arith in go (get_or f at 0 - 0x20) e (omega arith)
    where
      go : (n : ℕ) → get_or f at 0 ≡ 0x20 + n → n ≤ 6 → said_size f at ≡ Some 5
      go zero e k = said_operation Sum e
      go (suc zero) e k = said_operation Difference e
      go (suc (suc zero)) e k = said_operation Product e
      go (suc (suc (suc zero))) e k = said_operation LessThan e
      go (suc (suc (suc (suc zero)))) e k = said_operation Equal e
      go (suc (suc (suc (suc (suc zero))))) e k = said_operation And e
      go (suc (suc (suc (suc (suc (suc zero)))))) e k = said_operation Or e
      go (suc (suc (suc (suc (suc (suc (suc n))))))) e k = absurd (omega arith)

  -- by any other byte none
  pub said_unknown : 2 ≤ get_or f at 0 → (get_or f at 0 ≡ 0x11 → ⊥) → (get_or f at 0 ≡ 0x12 → ⊥) → (0x20 ≤ get_or f at 0 → 0x28 ≤ get_or f at 0)
      → (get_or f at 0 ≡ 0x30 → ⊥) → (get_or f at 0 ≡ 0x31 → ⊥) → (get_or f at 0 ≡ 0x32 → ⊥) → said_size f at ≡ None
  unfolding said_size
  said_unknown input word constant operation choice pick guard =
      split (elem (get_or f at 0) record_codes) (λ t. absurd (go (known_coded (get_or f at 0) (elem→∈ (get_or f at 0) record_codes t)))) (λ t. rw t)
    where
      go : Coded (get_or f at 0) → ⊥
      go (is_input kind.Word e) = omega arith
      go (is_input kind.Bit e) = omega arith
      go (is_word e) = word e
      go (is_bit_lem e) = constant e
      go (is_operation op e) = let (_, l, h) = operation_code_lem op in omega (arith, l, h)
      go (is_choice e) = choice e
      go (is_pick e) = pick e
      go (is_guard e) = guard e

  -- a record is whole where the bytes that it says it has are there
  pub none_said : said_size f at ≡ None → cond (whole_at f at) (Some (size_at f at)) None ≡ None
  unfolding said_size whole_at
  none_said = go (elem (get_or f at 0) record_codes) (bounded (version_in f) (record_at f at))
    where
      go : (a b : Bool) → cond (a && b) (Some (size_at f at)) None ≡ None → cond (a && leb (at + size_at f at) (length f) && b) (Some (size_at f at)) None ≡ None
      go true true e = cc
      go true false e = split (leb (at + size_at f at) (length f)) (λ t. rw t) (λ t. rw t)
      go false b e = refl

  pub size_said : (n : ℕ) → said_size f at ≡ Some n → at ≤ length f → cond (whole_at f at) (Some (size_at f at)) None ≡ then_some (leb n (length f - at)) n
  unfolding said_size whole_at
  size_said n e l = go (elem (get_or f at 0) record_codes) (bounded (version_in f) (record_at f at)) e
    where
      go : (a b : Bool) → cond (a && b) (Some (size_at f at)) None ≡ Some n → cond (a && leb (at + size_at f at) (length f) && b) (Some (size_at f at)) None ≡ then_some (leb n (length f - at)) n
      go true true e =
          let q : size_at f at ≡ n = cc in
          split (leb n (length f - at))
          (λ t. rw (t, le-leb (at + size_at f at) (length f) (omega (arith, leb-true n (length f - at) t))) e)
          (λ t. rw (t, lt-leb (at + size_at f at) (length f) (omega (arith, leb-false n (length f - at) t))))
      go true false e = cc
      go false b e = cc

  -- the bytes that it says are the record's where they are there, or it says none; where they are not, no whole record begins
  module _ (l : at ≤ length f) where
    pub whole_said : ((n : ℕ) → said_size f at ≡ Some n → n ≤ length f - at) → said_size f at ≡ cond (whole_at f at) (Some (size_at f at)) None
    whole_said h = go (said_size f at) refl
      where
        go : (s : Option ℕ) → said_size f at ≡ s → said_size f at ≡ cond (whole_at f at) (Some (size_at f at)) None
        go None e = e ∙ sym (none_said e)
        go (Some n) e = e ∙ sym (size_said n e l ∙ rw (le-leb n (length f - at) (h n e)) refl)

    pub whole_short : (n : ℕ) → said_size f at ≡ Some n → length f - at < n → None ≡ cond (whole_at f at) (Some (size_at f at)) None
    whole_short n e h = sym (size_said n e l ∙ rw (lt-leb n (length f - at) h) refl)

-- the bytes of a guard of n wires, by the most wires and the table's bytes of the file's version: none where it has more wires
module _ (f : List ℕ) (n most : ℕ) (p : most ≡ most_guard_wires (version_in f)) where
  pub guard_few : (bytes : ℕ) → bytes ≡ table_bytes (version_in f) → n ≤ most
      → Some (2 + 2 * n + bytes) ≡ then_some (leb n (most_guard_wires (version_in f))) (2 + 2 * n + table_bytes (version_in f))
  guard_few bytes q h = rw (← p, le-leb n most h, q) refl

  pub guard_many : most < n → None ≡ then_some (leb n (most_guard_wires (version_in f))) (2 + 2 * n + table_bytes (version_in f))
  guard_many h = rw (← p, lt-leb n most h) refl

-- the walk over the records: it goes on after a whole one, one that is not whole ends it, and the outputs end where the file ends
pub laid_start : (f : List ℕ) → laid f ≡ laid_from (wire_count f) f first_record
unfolding laid
laid_start f = refl

pub laid_next : (f : List ℕ) (at left size : ℕ) → cond (whole_at f at) (Some (size_at f at)) None ≡ Some size → (laid_from (suc left) f at ≡ laid_from left f (at + size)) × (at + size ≤ length f)
laid_next f at left size e =
    split (whole_at f at)
    (λ t. let z : Some (size_at f at) ≡ Some size = rw t at e in let q : size_at f at ≡ size = cc in (rw (t, q), rw (← q) ((whole_right f at).0 t).inside))
    (λ t. let z : None ≡ Some size = rw t at e in absurd cc)

pub laid_broken : (f : List ℕ) (at n : ℕ) (size : Option ℕ) → 0 < n → size ≡ cond (whole_at f at) (Some (size_at f at)) None → size ≡ None → laid_from n f at ≡ false
laid_broken f at zero size l s e = absurd (omega arith)
laid_broken f at (suc n) size l s e =
    split (whole_at f at)
    (λ t. let z : None ≡ Some (size_at f at) = sym e ∙ s ∙ rw t refl in absurd cc)
    (λ t. rw t refl)

pub laid_end : (n : ℕ) (f : List ℕ) (at : ℕ) → n ≤ 0 → at ≤ length f → laid_from n f at ≡ eqb (length f - at) (2 * file_variables f)
laid_end zero f at h l =
    same_test (eqb (at + 2 * file_variables f) (length f)) (eqb (length f - at) (2 * file_variables f))
    (λ t. eq-eqb (length f - at) (2 * file_variables f) (omega (arith, l, eqb-true (at + 2 * file_variables f) (length f) t)))
    (λ t. eq-eqb (at + 2 * file_variables f) (length f) (omega (arith, l, eqb-true (length f - at) (2 * file_variables f) t)))
laid_end (suc n) f at h l = absurd (omega arith)
