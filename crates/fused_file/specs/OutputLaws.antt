-- The outputs, the head and the whole file: room, and what is written.
use Rattle.std.specs.Prelude.{ℕ, zero, suc, ◌+◌, ◌-◌, ◌*◌, ◌≤◌, ◌<◌, ◌≡◌, refl, List, [], ◌∷◌, ◌++◌, map, Bool, true, false, length, get_or, take, drop}
use Rattle.std.proofs.Common.{sym, ap, ◌∙◌, append_assoc, append-nil, arith, length-append}
use Rattle.std.proofs.lemmas.List.{map-append, length-map}
use borrow.Rule.Slice.PartMut.{put_mid}
use Rattle.base.specs.Lists.{upto}
use Rattle.base.specs.ListLaws.{length_from, upto_more}
use Rattle.base.specs.Numbers.{bytes_of}
use Rattle.base.specs.NumberLaws.{length_bytes}
use Rattle.base.specs.Buffers.{over}
use Rattle.base.specs.BufferLaws.{length_over, room_rest}
use Rattle.file.specs.Versions.{written_version}
use Rattle.file.specs.Records.{Record}
use Rattle.file.specs.CircuitFile.{mark, wires_bytes, records_bytes, file_bytes, no_wire}
use Rattle.file.specs.SizeLaws.{wires_size, wires_append, file_size}
use Rattle.base.specs.FillLaws.{pieces, pieces_none, pieces_next, Filling, filling_start, filling_room, filling_fits, filling_step, filling_end}
use Rattle.fused_gate.specs.ByteLaws.{behind}
use Rattle.fused_gate.specs.Emitted.{wire_in}
use Rattle.rule.specs.Header.{variables, working_at}
use Rattle.fused_file.specs.Turns.{output_in}

-- One output, by what reading says of its variable.

module _ (s outputs group wires : List ℕ) (x : ℕ) (b : Bool) (e : b ≡ working_at s x) where
  pub output_none : b ≡ true → no_wire ≡ output_in s outputs group wires x
  output_none h = rw (sym e ∙ h)

  pub output_wire_lem : b ≡ false → (w : ℕ) → w ≡ wire_in group wires (get_or outputs x 0) → w ≡ output_in s outputs group wires x
  output_wire_lem h w q = rw (sym e ∙ h) q

-- The outputs: piece x is that of variable x.

module _ (wire : ℕ → ℕ) where
  abbrev pub output_piece : ℕ → List ℕ
  output_piece x = bytes_of 2 (wire x)

  output_pieces : (v : ℕ) → pieces output_piece v ≡ wires_bytes (map wire (upto v))
  output_pieces zero = pieces_none output_piece
  output_pieces (suc v) =
      pieces_next output_piece v
      ∙ ap (λ (b : List ℕ). b ++ output_piece v) (output_pieces v)
      ∙ sym
      (ap (λ (l : List ℕ). wires_bytes (map wire l)) (upto_more v) ∙ ap wires_bytes (map-append wire (upto v) (v ∷ []))
      ∙ wires_append (map wire (upto v)) (wire v ∷ []) ∙ ap (λ (b : List ℕ). wires_bytes (map wire (upto v)) ++ b) (append-nil (output_piece v)))

  -- one for each variable
  pub outputs_count : (v : ℕ) → length (map wire (upto v)) ≡ v
  outputs_count v = length-map (upto v) wire ∙ length_from 0 v

  pub outputs_start : (out : List ℕ) (v : ℕ) → 2 * v ≤ length out → Filling output_piece out out v 0 0
  outputs_start out v room = filling_start output_piece out v (rw (output_pieces v, wires_size (map wire (upto v)), outputs_count v) room)

  module _ (out out₀ : List ℕ) (v x : ℕ) (l : Filling output_piece out out₀ v (2 * x) x) where
    -- i: x as an index
    module _ (h : x < v) (i : ℕ) (e : i ≡ x) where
      size : length (output_piece x) ≡ 2
      size = length_bytes 2 (wire x)

      pub outputs_fits : 2 * i + 2 ≤ length out
      outputs_fits = omega (arith, e, filling_fits output_piece out out₀ v (2 * x) x l h, size)

      pub outputs_room : 2 ≤ length (take (length out - 2 * i) (drop (2 * i) out))
      outputs_room = rw e (omega (arith, filling_room output_piece out out₀ v (2 * x) x l h, size))

      pub outputs_step : (w : ℕ) (ys : List ℕ) → w ≡ wire x → ys ≡ over (bytes_of 2 w) (take (length out - 2 * i) (drop (2 * i) out))
          → Filling output_piece (put_mid (2 * i) (length out - 2 * i) out ys) out₀ v (2 * (x + 1)) (x + 1)
      outputs_step w ys q r =
          let n : 2 * (x + 1) ≡ 2 * x + 2 = omega arith in
          rw (n, e) (filling_step output_piece out out₀ v (2 * x) x l h 2 ys (sym size) (rw (e, q) at r))

    pub outputs_end : v ≤ x → out ≡ over (wires_bytes (map wire (upto v))) out₀
    outputs_end e = (filling_end output_piece out out₀ v (2 * x) x l e).1 ∙ ap (λ (b : List ℕ). over b out₀) (output_pieces v)

-- those of a rule
abbrev pub outputs_in : List ℕ → List ℕ → List ℕ → List ℕ → List ℕ
outputs_in s outputs group wires = map (output_in s outputs group wires) (upto (variables s))

-- The head.

abbrev pub head_bytes : ℕ → ℕ → List ℕ
head_bytes v count = mark written_version ++ (v ∷ bytes_of 2 count)

head_long : (v count : ℕ) → length (head_bytes v count) ≡ 8
head_long v count = omega (arith, length_bytes 2 count)

-- its first six bytes b, and the wire count behind them
module _ (d : List ℕ) (v : ℕ) (h : 8 ≤ length d) (b : List ℕ) (is : b ≡ mark written_version ++ (v ∷ [])) where
  stored : b ++ drop 6 d ≡ over (mark written_version ++ (v ∷ [])) d
  unfolding over
  stored = ap (λ (l : List ℕ). l ++ drop 6 d) is

  pub head_put : (count : ℕ) (ys : List ℕ) → ys ≡ over (bytes_of 2 count) (take (length (b ++ drop 6 d) - 6) (drop 6 (b ++ drop 6 d)))
      → put_mid 6 (length (b ++ drop 6 d) - 6) (b ++ drop 6 d) ys ≡ over (head_bytes v count) d
  head_put count ys r =
      behind (mark written_version ++ (v ∷ [])) (bytes_of 2 count) (head_bytes v count) d (b ++ drop 6 d) ys 6 refl refl (rw (head_long v count) h) stored r

-- The file: its head, behind it the records, behind them the outputs.

module _ (v : ℕ) (R : List Record) (outs d : List ℕ) (room : length (file_bytes written_version v R outs) ≤ length d) where
  fits : 8 + length (records_bytes written_version R) + 2 * length outs ≤ length d
  fits = rw (file_size written_version v R outs) at room

  pub file_start : 8 ≤ length d
  file_start = omega (arith, fits)

  module _ (wired : ℕ) (ew : wired ≡ length R) (e : List ℕ) (w : e ≡ over (head_bytes v wired) d) where
    same : length e ≡ length d
    same = ap (λ (k : List ℕ). length k) w ∙ length_over (head_bytes v wired) d (omega (arith, head_long v wired, fits))

    pub records_room : (8 ≤ length e) × (length (records_bytes written_version R) ≤ length (take (length e - 8) (drop 8 e)))
    records_room = (omega (arith, same, fits), rw (room_rest e 8) (omega (arith, same, fits)))

    module _ (n : ℕ) (ys : List ℕ) (en : n ≡ length (records_bytes written_version R)) (r : ys ≡ over (records_bytes written_version R) (take (length e - 8) (drop 8 e))) where
      front : length (head_bytes v wired ++ records_bytes written_version R) ≡ 8 + n
      front = length-append (head_bytes v wired) (records_bytes written_version R) ∙ omega (arith, head_long v wired, en)

      records_put : put_mid 8 (length e - 8) e ys ≡ over (head_bytes v wired ++ records_bytes written_version R) d
      records_put = behind (head_bytes v wired) (records_bytes written_version R) (head_bytes v wired ++ records_bytes written_version R) d e ys 8 (sym (head_long v wired)) refl
          (omega (arith, front, en, fits)) w r

      records_length : length (put_mid 8 (length e - 8) e ys) ≡ length d
      records_length = ap (λ (k : List ℕ). length k) records_put ∙ length_over (head_bytes v wired ++ records_bytes written_version R) d (omega (arith, front, en, fits))

      pub ends_room : length outs ≡ v → (8 + n ≤ length d) × (8 + n ≤ length (put_mid 8 (length e - 8) e ys))
          × (2 * v ≤ length (take (length (put_mid 8 (length e - 8) e ys) - (8 + n)) (drop (8 + n) (put_mid 8 (length e - 8) e ys))))
      ends_room eo = (
        omega (arith, en, fits),
        omega (arith, records_length, en, fits),
        rw (room_rest (put_mid 8 (length e - 8) e ys) (8 + n)) (omega (arith, records_length, en, fits, eo)),
      )

      whole : file_bytes written_version v R outs ≡ (head_bytes v wired ++ records_bytes written_version R) ++ wires_bytes outs
      whole = rw ew (sym (append_assoc (head_bytes v (length R)) (records_bytes written_version R) (wires_bytes outs) ∙ append_assoc (mark written_version ++ (v ∷ [])) (bytes_of 2 (length R))
          (records_bytes written_version R ++ wires_bytes outs)))

      pub file_put : (os zs : List ℕ) → os ≡ outs → zs ≡ over (wires_bytes os)
          (take (length (put_mid 8 (length e - 8) e ys) - (8 + n)) (drop (8 + n) (put_mid 8 (length e - 8) e ys)))
          → put_mid (8 + n) (length (put_mid 8 (length e - 8) e ys) - (8 + n)) (put_mid 8 (length e - 8) e ys) zs ≡ over (file_bytes written_version v R outs) d
      file_put os zs eo z =
          behind (head_bytes v wired ++ records_bytes written_version R) (wires_bytes outs) (file_bytes written_version v R outs) d (put_mid 8 (length e - 8) e ys) zs (8 + n)
          (sym front) whole room records_put (rw eo at z)
