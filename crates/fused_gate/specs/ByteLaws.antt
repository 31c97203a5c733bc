-- Bytes written one behind another: wires, pairs of wires, a word constant.
use Rattle.std.specs.Prelude.{ℕ, suc, ◌+◌, ◌-◌, ◌*◌, ◌≤◌, ◌≡◌, refl, List, [], ◌∷◌, ◌++◌, length, take, drop}
use Rattle.std.proofs.Common.{sym, ap, ◌∙◌, append_assoc, append-nil, arith, length-append}
use borrow.Rule.Slice.PartMut.{put_mid}
use Rattle.base.specs.Numbers.{bytes_of}
use Rattle.base.specs.NumberLaws.{length_bytes}
use Rattle.base.specs.Buffers.{over}
use Rattle.base.specs.BufferLaws.{over_rest}
use Rattle.file.specs.CircuitFile.{wires_bytes}
use Rattle.file.specs.SizeLaws.{wires_size, wires_append}

-- a, and behind it b, are the bytes r
pub behind : (a b r d e ys : List ℕ) (n : ℕ) → n ≡ length a → r ≡ a ++ b → length r ≤ length d → e ≡ over a d → ys ≡ over b (take (length e - n) (drop n e))
    → put_mid n (length e - n) e ys ≡ over r d
behind a b r d e ys n q j h p w =
    let l : length r ≡ length a + length b = ap (λ (k : List ℕ). length k) j ∙ length-append a b in
    over_rest a b d e ys n q (omega (arith, l, h)) p w ∙ ap (λ (k : List ℕ). over k d) (sym j)

-- one wire more
pub wires_more : (l : List ℕ) (w : ℕ) → wires_bytes (l ++ (w ∷ [])) ≡ wires_bytes l ++ bytes_of 2 w
wires_more l w = wires_append l (w ∷ []) ∙ ap (λ (k : List ℕ). wires_bytes l ++ k) (append-nil (bytes_of 2 w))

-- one wire more behind a head h and the wires l
pub wire_behind : (h l : List ℕ) (w n : ℕ) (d e ys : List ℕ) → n ≡ length h + 2 * length l → n + 2 ≤ length d → e ≡ over (h ++ wires_bytes l) d
    → ys ≡ over (bytes_of 2 w) (take (length e - n) (drop n e)) → put_mid n (length e - n) e ys ≡ over (h ++ wires_bytes (l ++ (w ∷ []))) d
wire_behind h l w n d e ys q room p r =
    let a : length (h ++ wires_bytes l) ≡ n = length-append h (wires_bytes l) ∙ rw (wires_size l) (sym q) in
    let j : h ++ wires_bytes (l ++ (w ∷ [])) ≡ (h ++ wires_bytes l) ++ bytes_of 2 w =
    ap (λ (k : List ℕ). h ++ k) (wires_more l w) ∙ sym (append_assoc h (wires_bytes l) (bytes_of 2 w)) in
    let z : length (h ++ wires_bytes (l ++ (w ∷ []))) ≡ n + 2 = ap (λ (k : List ℕ). length k) j ∙ length-append (h ++ wires_bytes l) (bytes_of 2 w) ∙ rw
    (a, length_bytes 2 w) in
    behind (h ++ wires_bytes l) (bytes_of 2 w) (h ++ wires_bytes (l ++ (w ∷ []))) d e ys n (sym a) j (rw z room) p r

-- a pair of wires
pub pair_behind : (a b : ℕ) (d e ys : List ℕ) → 4 ≤ length d → e ≡ over (bytes_of 2 a) d → ys ≡ over (bytes_of 2 b) (take (length e - 2) (drop 2 e))
    → put_mid 2 (length e - 2) e ys ≡ over (wires_bytes (a ∷ b ∷ [])) d
pair_behind a b d e ys room p r =
    wire_behind [] (a ∷ []) b 2 d e ys refl room (p ∙ ap (λ (k : List ℕ). over k d) (sym (append-nil (bytes_of 2 a)))) r

-- a word constant
pub word_behind : (n : ℕ) (d e ys : List ℕ) → 5 ≤ length d → e ≡ over (0x11 ∷ []) d → ys ≡ over (bytes_of 4 n) (take (length e - 1) (drop 1 e))
    → put_mid 1 (length e - 1) e ys ≡ over (0x11 ∷ bytes_of 4 n) d
word_behind n d e ys room p r =
    let z : length (0x11 ∷ bytes_of 4 n) ≡ 5 = ap suc (length_bytes 4 n) in
    behind (0x11 ∷ []) (bytes_of 4 n) (0x11 ∷ bytes_of 4 n) d e ys 1 refl refl (rw z room) p r
