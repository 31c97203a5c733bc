-- Laws for document 01, "The fused circuit file": a record put together and taken apart again is the same, and so are records one after another.
use Rattle.std.specs.Prelude.{◌≡◌, List, [], ◌∷◌, ◌++◌, ℕ, ◌+◌, ◌*◌, length, get_or}
use Rattle.std.proofs.Common.{sym, ap, ap₂, ◌∙◌, append_assoc, arith, length-append}
use Rattle.base.specs.Numbers.{bytes_of, number_at}
use Rattle.base.specs.Codes.{byte_of, start_code}
use Rattle.file.specs.Records.{Record, input, word, bit, operation, choice, pick, guard, pair_wires}
use Rattle.file.specs.Versions.{Version, table_bytes}
use Rattle.file.specs.CircuitFile.{wires_bytes, record_bytes}
use Rattle.file.specs.FileFigures.{version_in, wires_at, pairs_at, record_at, size_at}
use Rattle.file.specs.FitRecords.{ReadsBack}
use Rattle.file.specs.SizeLaws.{wires_size, word_size, operation_size, choice_size, pick_size, guard_size}
use Rattle.file.specs.FoundWires.{byte_at, number_at_lem, wires_found, pairs_found}
use Rattle.file.specs.FoundForms.{form_input, form_word, form_bit, form_operation, form_choice, form_pick, form_guard}

-- a record r at the place at of a file x of a version: before it a, behind it b
module _ (ver : Version) (x : List ℕ) (is : version_in x ≡ ver) (at : ℕ) (a b : List ℕ) (place : at ≡ length a) where
  -- one byte further, and two
  next : (k : ℕ) → at + 1 ≡ length (a ++ (k ∷ []))
  next k = rw (length-append, place)

  next_is : (k : ℕ) (r : List ℕ) → x ≡ a ++ (k ∷ r) → x ≡ (a ++ (k ∷ [])) ++ r
  next_is k r e = e ∙ sym (append_assoc a (k ∷ []) r)

  past : (k n : ℕ) → at + 2 ≡ length (a ++ (k ∷ n ∷ []))
  past k n = rw (length-append, place)

  past_is : (k n : ℕ) (r : List ℕ) → x ≡ a ++ (k ∷ n ∷ r) → x ≡ (a ++ (k ∷ n ∷ [])) ++ r
  past_is k n r e = e ∙ sym (append_assoc a (k ∷ n ∷ []) r)

  -- the second byte of a record
  second : (k n : ℕ) (r : List ℕ) → x ≡ a ++ (k ∷ n ∷ r) → get_or x (at + 1) 0 ≡ n
  second k n r e = byte_at x (at + 1) (a ++ (k ∷ [])) (next k) n r (next_is k (n ∷ r) e)

  pub record_found : (r : Record) → ReadsBack ver r → x ≡ a ++ (record_bytes ver r ++ b) → (record_at x at ≡ r) × (size_at x at ≡ length (record_bytes ver r))
  record_found (input k y) h e =
      let f = form_input x at k (byte_at x at a place (start_code k) (y ∷ b) e) in
      (f.0 ∙ ap (input k) (second (start_code k) y b e), f.1)
  record_found (word n) h e =
      let f = form_word x at (byte_at x at a place 0x11 (bytes_of 4 n ++ b) e) in
      (f.0 ∙ ap word (number_at_lem x (at + 1) (a ++ (0x11 ∷ [])) (next 0x11) 4 n b h (next_is 0x11 (bytes_of 4 n ++ b) e)), f.1 ∙ sym (word_size ver n))
  record_found (bit n) h e =
      let f = form_bit x at (byte_at x at a place 0x12 (n ∷ b) e) in
      (f.0 ∙ ap bit (second 0x12 n b e), f.1)
  record_found (operation op l) (k, h) e =
      let f = form_operation x at op (byte_at x at a place (byte_of op) (wires_bytes l ++ b) e) in (
        f.0 ∙ ap (λ (n : ℕ). operation op (wires_at n x (at + 1))) (sym k)
            ∙ ap (operation op) (wires_found l x (at + 1) (a ++ (byte_of op ∷ [])) b h (next (byte_of op)) (next_is (byte_of op) (wires_bytes l ++ b) e)),
        f.1 ∙ ap (λ (n : ℕ). 1 + 2 * n) (sym k) ∙ sym (operation_size ver op l),
      )
  record_found (choice c y z) h e =
      let f = form_choice x at (byte_at x at a place 0x30 (wires_bytes (c ∷ y ∷ z ∷ []) ++ b) e) in
      let w : wires_at 3 x (at + 1) ≡ c ∷ y ∷ z ∷ [] =
      wires_found (c ∷ y ∷ z ∷ []) x (at + 1) (a ++ (0x30 ∷ [])) b h (next 0x30) (next_is 0x30 (wires_bytes (c ∷ y ∷ z ∷ []) ++ b) e) in
      let p : at + 3 ≡ at + 1 + 2 = omega arith in
      let q : at + 5 ≡ at + 1 + 2 + 2 = omega arith in (
        f.0 ∙ ap₂ (λ (i j : ℕ). choice (number_at 2 x (at + 1)) (number_at 2 x i) (number_at 2 x j)) p q
            ∙ ap (λ (l : List ℕ). choice (get_or l 0 0) (get_or l 1 0) (get_or l 2 0)) w,
        f.1 ∙ sym (choice_size ver c y z),
      )
  record_found (pick l) (k, h) e =
      let f = form_pick x at (byte_at x at a place 0x31 (length l ∷ (wires_bytes (pair_wires l) ++ b)) e) in
      let n : get_or x (at + 1) 0 ≡ length l = second 0x31 (length l) (wires_bytes (pair_wires l) ++ b) e in (
        f.0 ∙ ap (λ (i : ℕ). pick (pairs_at i x (at + 2))) n
            ∙ ap pick (pairs_found l x (at + 2) (a ++ (0x31 ∷ length l ∷ [])) b h (past 0x31 (length l)) (past_is 0x31 (length l) (wires_bytes (pair_wires l) ++ b) e)),
        f.1 ∙ ap (λ (i : ℕ). 2 + 4 * i) n ∙ sym (pick_size ver l),
      )
  record_found (guard cs t) (k, h, u) e =
      let T = table_bytes ver in
      let g : x ≡ a ++ (0x32 ∷ length cs ∷ (wires_bytes cs ++ (bytes_of T t ++ b))) =
      e ∙ ap (λ (r : List ℕ). a ++ (0x32 ∷ length cs ∷ r)) (append_assoc (wires_bytes cs) (bytes_of T t) b) in
      let f = rw is at (form_guard x at (byte_at x at a place 0x32 (length cs ∷ (wires_bytes cs ++ (bytes_of T t ++ b))) g)) in
      let n : get_or x (at + 1) 0 ≡ length cs = second 0x32 (length cs) (wires_bytes cs ++ (bytes_of T t ++ b)) g in
      let d = a ++ (0x32 ∷ length cs ∷ []) in
      let i : x ≡ d ++ (wires_bytes cs ++ (bytes_of T t ++ b)) = past_is 0x32 (length cs) (wires_bytes cs ++ (bytes_of T t ++ b)) g in
      let w : wires_at (length cs) x (at + 2) ≡ cs = wires_found cs x (at + 2) d (bytes_of T t ++ b) h (past 0x32 (length cs)) i in
      let p : at + 2 + 2 * length cs ≡ length (d ++ wires_bytes cs) = rw (length-append d (wires_bytes cs), wires_size cs, ← past 0x32 (length cs)) in
      let j : number_at T x (at + 2 + 2 * length cs) ≡ t =
      number_at_lem x (at + 2 + 2 * length cs) (d ++ wires_bytes cs) p T t b u (i ∙ sym (append_assoc d (wires_bytes cs) (bytes_of T t ++ b))) in (
        f.0 ∙ ap (λ (m : ℕ). guard (wires_at m x (at + 2)) (number_at T x (at + 2 + 2 * m))) n ∙ ap₂ guard w j,
        f.1 ∙ ap (λ (m : ℕ). 2 + 2 * m + T) n ∙ sym (guard_size ver cs t),
      )
