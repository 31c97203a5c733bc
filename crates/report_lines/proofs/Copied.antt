-- What a copy leaves of a text in a buffer, and that as the laws of the writers ask for it.
use Rattle.std.specs.Prelude.{◌≡◌, List, ◌++◌, ℕ, ◌-◌, length, take, drop}
use Rattle.std.proofs.Common.{sym, ap, ◌∙◌, arith, take_all, take-append-drop}
use Rattle.base.specs.Buffers.{over}
use Rattle.base.specs.BufferLaws.{take_over, drop_over}

-- what is written, and behind it what was there
over_parts : (a d : List ℕ) → over a d ≡ a ++ drop (length a) d
over_parts a d =
    sym (take-append-drop (length a) (over a d)) ∙ ap (λ (t : List ℕ). t ++ drop (length a) (over a d)) (take_over a d)
    ∙ ap (λ (t : List ℕ). a ++ t) (drop_over a d)

pub copy_held : (text d e : List ℕ) → e ≡ text → e ++ drop (length text - 0) d ≡ over text d
copy_held text d e p =
    let n : length text - 0 ≡ length text = omega arith in
    ap (λ (t : List ℕ). t ++ drop (length text - 0) d) p ∙ ap (λ (k : ℕ). text ++ drop k d) n ∙ sym (over_parts text d)

pub as_copied : (text d e : List ℕ) → e ≡ over text d → e ≡ take (length text) text ++ drop (length text) d
as_copied text d e p = p ∙ over_parts text d ∙ ap (λ (t : List ℕ). t ++ drop (length text) d) (sym (take_all (length text) text (omega arith)))
