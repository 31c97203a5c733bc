-- Reading what the format writes, expressions: the bytes of a well-formed expression are read back to it.
use Prim.Native.Nat.{ℕ, suc, ◌+◌, ◌-◌, ◌≤◌, ◌<◌}
use native.Mathlib.Omega.{arith}
use Rattle.std.proofs.Common.{add-zero, ◌∙◌, length-drop, drop-drop, get_or-drop}
use Rattle.std.specs.Prelude.{◌≡◌, true, get_or}
use Rattle.std.proofs.Math.Path.{refl, sym, ap}
use mathlib.Core.List.{List, ◌∷◌, ◌++◌, append_assoc}
use borrow.Author.Tests.{lt-ltb, le-leb}
use Rattle.std.proofs.Math.ListN.{length, drop, length-append}
use Rattle.std.proofs.Math.Seq.{drop-append_seam, take_at}
use Rattle.base.specs.Numbers.{number_at, bytes_of}
use Rattle.base.specs.NumberLaws.{length_bytes, number_written}
use Rattle.base.specs.Codes.{code_of, entry_of, byte_of, same_kind}
use Rattle.base.specs.CodeLaws.{entry_form, code_back}
use Rattle.base.specs.declared.Kind.{Kind}
use Rattle.base.specs.declared.Kind.TheVariants as kind
use Rattle.base.specs.declared.Operation.{Operation}
use Rattle.base.specs.declared.Form.TheVariants as form
use Rattle.base.specs.Parsing.{parsed}
use Rattle.rule.specs.Header.{variables, kind_at}
use Rattle.rule.specs.Tree.{Expr, variable, word, bit, one, two}
use Rattle.rule.specs.Expressions.{read_variable, read_word, read_bit, arguments_with, read_expr}
use Rattle.rule.specs.ExpressionLaws.{expr_as, expr_arguments}
use Rattle.rule.specs.FirstByte.{arguments_one, arguments_two}
use Rattle.rule.specs.Kinds.{Typed, WordsFit}
use Rattle.rule.specs.Format.{expr_bytes, depth}

-- the bytes that stand at a place
pub record ByteAt (s : List ℕ) (at x : ℕ) (rest : List ℕ) : Type 0 where
  pub inside : at < length s
  pub byte : get_or s at 0 ≡ x
  pub next : drop (at + 1) s ≡ rest

pub byte_at : (s : List ℕ) (at x : ℕ) (rest : List ℕ) → drop at s ≡ x ∷ rest → ByteAt s at x rest
byte_at s at x rest h =
    record {
      inside = omega (arith, sym (length-drop at s) ∙ ap length h);
      byte = let g = get_or-drop at s 0 0 in rw (add-zero, h) at (sym g);
      next = sym (drop-drop 1 at s) ∙ ap (drop 1) h;
    }

pub bytes_after : (s : List ℕ) (at : ℕ) (a rest : List ℕ) → drop at s ≡ a ++ rest → drop (at + length a) s ≡ rest
bytes_after s at a rest h = sym (drop-drop (length a) at s) ∙ ap (drop (length a)) h ∙ drop-append_seam a rest

same_self : (k want : Kind) → k ≡ want → same_kind k want ≡ true
same_self k kind.Word e = rw e
same_self k kind.Bit e = rw e

module _ (s : List ℕ) where
  -- the code at a place
  coded : (at x : ℕ) → get_or s at 0 ≡ x → code_of x ≡ code_of (get_or s at 0)
  coded at x e = ap code_of (sym e)

  variable_back : (x deep : ℕ) (want : Kind) (at : ℕ) (rest : List ℕ) → x < variables s → kind_at s x ≡ want → 1 ≤ deep → drop at s ≡ 0x10 ∷ (x ∷ rest)
      → read_expr deep s want at ≡ parsed (variable x) (at + 2)
  unfolding code_of read_variable
  variable_back x deep want at rest v k d h =
      let c = byte_at s at 0x10 (x ∷ rest) h in
      let y = byte_at s (at + 1) x rest c.next in
      expr_as deep s want at (code_of 0x10) c.inside (coded at 0x10 c.byte) form.Variable refl
      ∙ rw (lt-ltb 0 deep d, lt-ltb _ _ y.inside, y.byte, lt-ltb _ _ v, same_self _ _ k)

  word_back : (n deep : ℕ) (at : ℕ) (rest : List ℕ) → n < 4294967296 → 1 ≤ deep → drop at s ≡ 0x11 ∷ (bytes_of 4 n ++ rest)
      → read_expr deep s kind.Word at ≡ parsed (word n) (at + 5)
  unfolding code_of read_word
  word_back n deep at rest f d h =
      let c = byte_at s at 0x11 (bytes_of 4 n ++ rest) h in
      let e : number_at 4 s (at + 1) ≡ n = rw (c.next, take_at (bytes_of 4 n) rest 4 (length_bytes 4 n)) (number_written 4 n f) in
      let room : 5 ≤ length s - at = omega (arith, sym (length-drop at s) ∙ ap length h, length-append (bytes_of 4 n) rest, length_bytes 4 n) in
      expr_as deep s kind.Word at (code_of 0x11) c.inside (coded at 0x11 c.byte) form.Word refl
      ∙ rw (lt-ltb 0 deep d, le-leb _ _ room, e)

  bit_back : (x deep : ℕ) (at : ℕ) (rest : List ℕ) → x ≤ 1 → 1 ≤ deep → drop at s ≡ 0x12 ∷ (x ∷ rest)
      → read_expr deep s kind.Bit at ≡ parsed (bit x) (at + 2)
  unfolding code_of read_bit
  bit_back x deep at rest v d h =
      let c = byte_at s at 0x12 (x ∷ rest) h in
      let y = byte_at s (at + 1) x rest c.next in
      expr_as deep s kind.Bit at (code_of 0x12) c.inside (coded at 0x12 c.byte) form.Bit refl
      ∙ rw (lt-ltb 0 deep d, lt-ltb _ _ y.inside, y.byte, le-leb _ _ v)

  operation_back : (op : Operation) (deep : ℕ) (want : Kind) (at : ℕ) (rest : List ℕ) → (entry_of op).gives ≡ want → 1 ≤ deep → drop at s ≡ byte_of op ∷ rest
      → read_expr deep s want at ≡ arguments_with (read_expr (deep - 1) s) op (at + 1)
  operation_back op deep want at rest k d h =
      let c = byte_at s at (byte_of op) rest h in
      expr_arguments deep s want at (entry_of op) c.inside (sym (code_back op) ∙ coded at (byte_of op) c.byte) op (entry_form op) (same_self _ _ k) (λ z. omega arith)

  pub expr_back : (e : Expr) (deep : ℕ) (want : Kind) (at : ℕ) (rest : List ℕ) → Typed (variables s) (kind_at s) e want → WordsFit e want → depth e ≤ deep
      → drop at s ≡ expr_bytes e ++ rest → read_expr deep s want at ≡ parsed e (at + length (expr_bytes e))
  unfolding depth expr_bytes
  expr_back (variable x) deep want at rest t w d h = variable_back x deep want at rest t.0 t.1 d h
  expr_back (word n) deep want at rest t w d h =
      let l : at + 5 ≡ at + suc (length (bytes_of 4 n)) = rw (length_bytes 4 n) in
      rw (← t) (word_back n deep at rest w d h ∙ ap (parsed (word n)) l)
  expr_back (bit x) deep want at rest t w d h = rw (← t.1) (bit_back x deep at rest t.0 d h)
  expr_back (one op e) deep want at rest t w d h =
      let q : at + 1 + length (expr_bytes e) ≡ at + suc (length (expr_bytes e)) = omega arith in
      let c = byte_at s at (byte_of op) (expr_bytes e ++ rest) h in
      let r = expr_back e (deep - 1) (entry_of op).takes (at + 1) rest t.2 w (omega arith) c.next in
      operation_back op deep want at (expr_bytes e ++ rest) t.1 (omega arith) h
      ∙ arguments_one (read_expr (deep - 1) s) op (at + 1) e (at + 1 + length (expr_bytes e)) r t.0 ∙ ap (parsed (one op e)) q
  expr_back (two op x y) deep want at rest t w d h =
      let q : at + 1 + length (expr_bytes x) + length (expr_bytes y) ≡ at + suc (length (expr_bytes x ++ expr_bytes y)) = rw length-append (omega arith) in
      let h' : drop at s ≡ byte_of op ∷ (expr_bytes x ++ (expr_bytes y ++ rest)) = h ∙ ap (λ (l : List ℕ). byte_of op ∷ l) (append_assoc (expr_bytes x) (expr_bytes y) rest) in
      let c = byte_at s at (byte_of op) (expr_bytes x ++ (expr_bytes y ++ rest)) h' in
      let r = expr_back x (deep - 1) (entry_of op).takes (at + 1) (expr_bytes y ++ rest) t.2 w.0 (omega arith) c.next in
      let p = expr_back y (deep - 1) (entry_of op).takes (at + 1 + length (expr_bytes x)) rest t.3 w.1 (omega arith)
      (bytes_after s (at + 1) (expr_bytes x) (expr_bytes y ++ rest) c.next) in
      operation_back op deep want at (expr_bytes x ++ (expr_bytes y ++ rest)) t.1 (omega arith) h'
      ∙ arguments_two (read_expr (deep - 1) s) op (at + 1) x (at + 1 + length (expr_bytes x)) r (λ z. omega (arith, z, t.0)) y
      (at + 1 + length (expr_bytes x) + length (expr_bytes y)) p
      ∙ ap (parsed (two op x y)) q
