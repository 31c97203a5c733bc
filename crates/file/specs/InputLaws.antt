-- The inputs of a circuit file that is read: the first V records, two bytes each, in order.
use Rattle.std.specs.Prelude.{ℕ, zero, suc, ◌+◌, ◌*◌, ◌≤◌, ◌<◌, ◌≡◌, refl, List, length, get_or}
use Rattle.std.proofs.Common.{sym, ap, subst, ◌∙◌, arith}
use Rattle.base.specs.Codes.{start_kind, start_code}
use Rattle.base.specs.CodeLaws.{start_kind_lem}
use Rattle.base.specs.declared.Kind.{Kind}
use Rattle.base.specs.declared.Kind.TheVariants as kind
use Rattle.file.specs.Records.{Record, input, word, bit, operation, choice, pick, guard, NotInput}
use Rattle.file.specs.WireKinds.{record_kind, wire_kind}
use Rattle.file.specs.WireKindLaws.{kinds_right}
use Rattle.file.specs.CircuitFile.{record_bytes}
use Rattle.file.specs.FileFigures.{version_in, record_at, size_at, first_record, file_variables, wire_count, file_records}
use Rattle.file.specs.FilePartLaws.{file_count, record_of}
use Rattle.file.specs.FileLaws.{place_next}
use Rattle.file.specs.FoundForms.{form_input, form_word, form_bit, form_choice, form_pick, form_guard, form_operation}
use Rattle.file.specs.RecordBounds.{Coded, is_input, is_word, is_bit_lem, is_operation, is_choice, is_pick, is_guard, known_coded}
use Rattle.file.specs.InverseLaws.{size_is}
use Rattle.file.specs.LaidOut.{record_place, WholeAt}
use Rattle.file.specs.FormatLaws.{Passed}

-- an input's first byte is its kind's
kind_in : Record → Kind
kind_in (input k x) = k
kind_in (word n) = kind.Word
kind_in (bit b) = kind.Word
kind_in (operation op l) = kind.Word
kind_in (choice c a b) = kind.Word
kind_in (pick l) = kind.Word
kind_in (guard cs t) = kind.Word

input_code : (f : List ℕ) (at : ℕ) → WholeAt f at → (k : Kind) (x : ℕ) → record_at f at ≡ input k x → get_or f at 0 ≡ start_code k
unfolding kind_in
input_code f at w k x q = go (known_coded (get_or f at 0) w.known)
  where
    none : (r : Record) → NotInput r → record_at f at ≡ r → ⊥
    none r n e = subst NotInput (sym e ∙ q) n

    go : Coded (get_or f at 0) → get_or f at 0 ≡ start_code k
    go (is_input j e) = e ∙ ap (λ (r : Record). start_code (kind_in r)) (sym (form_input f at j e).0 ∙ q)
    go (is_word e) = absurd (none _ tt (form_word f at e).0)
    go (is_bit_lem e) = absurd (none _ tt (form_bit f at e).0)
    go (is_operation op e) = absurd (none _ tt (form_operation f at op e).0)
    go (is_choice e) = absurd (none _ tt (form_choice f at e).0)
    go (is_pick e) = absurd (none _ tt (form_pick f at e).0)
    go (is_guard e) = absurd (none _ tt (form_guard f at e).0)

module _ (f : List ℕ) (p : Passed f) where
  -- record x of the first V
  module _ (x : ℕ) (l : x < file_variables f) where
    below : x < wire_count f
    below = omega (arith, (p.stand.first x l).0, file_count f)

    here : (k : Kind) × (record_at f (record_place f x) ≡ input k x)
    here = let (k, e) = (p.stand.first x l).1 in (k, sym (record_of f x below) ∙ e)

    size : size_at f (record_place f x) ≡ 2
    size = size_is f (record_place f x) ∙ ap (λ (r : Record). length (record_bytes (version_in f) r)) here.1

  -- two bytes each
  input_place : (x : ℕ) → x ≤ file_variables f → record_place f x ≡ 8 + 2 * x
  input_place zero l = refl
  input_place (suc x) l = place_next x f first_record ∙ rw (size x l, input_place x (omega arith)) (omega arith)

  pub input_inside : (x : ℕ) → x < file_variables f → 8 + 2 * x < length f
  input_inside x l =
      let w = (p.layout.whole x (below x l)).inside in
      let at : record_place f x ≡ 8 + 2 * x = input_place x (omega arith) in
      omega (arith, w, size x l, at)

  -- the first of them says the variable's kind
  pub input_kind : (x : ℕ) → x < file_variables f → wire_kind (file_records f) x ≡ start_kind (get_or f (8 + 2 * x) 0)
  input_kind x l =
      let (k, e) = here x l in
      kinds_right (file_records f) p.stand.earlier x (p.stand.first x l).0
      ∙ ap (record_kind (wire_kind (file_records f))) (record_of f x (below x l) ∙ e)
      ∙ sym (start_kind_lem k)
      ∙ ap start_kind (sym (input_code f (record_place f x) (p.layout.whole x (below x l)) k x e))
      ∙ ap (λ (n : ℕ). start_kind (get_or f n 0)) (input_place x (omega arith))
