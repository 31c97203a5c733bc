-- The marks: the gates standing first in a choice gate, gate by gate, and that the marked ones are the conditions.
use Rattle.std.specs.Prelude.{ℕ, zero, suc, ◌+◌, ◌≤◌, ◌<◌, ◌≡◌, refl, List, [], ◌∷◌, ◌++◌, Bool, true, false, not, cond, ◌⊎◌, length, get_or, set, replicate, eqb}
use Rattle.std.proofs.Common.{sym, ap, ◌∙◌, append-nil, inl, inr, arith, length-set, get_or-set_same, get_or-set_other, ext_get_or, eq-eqb, ne_eqb}
use Rattle.base.specs.Lists.{elem, upto}
use Rattle.base.specs.ListLaws.{keep_same, inside_list, get_or_zeros}
use Rattle.base.specs.MemberLaws.{elem_more}
use Rattle.base.specs.TestLaws.{same?}
use Rattle.base.specs.Bits.{bit_of}
use Rattle.base.specs.Codes.{code_of}
use Rattle.base.specs.declared.Form.{Form}
use Rattle.base.specs.declared.Form.TheVariants.{End, Assign, Skip, Branch, Variable, Word, Bit, Apply, Unknown}
use Rattle.circuit.specs.Gates.{Gate, start, word, bit, operation, choice, Gates, Earlier, heads, conditions}
use Rattle.circuit.specs.ConditionLaws.{condition_below}
use Rattle.circuit_needed.specs.Held.{choice_code, of_form, arguments_of, gates_in, code_at, first_at, second_at}
use Rattle.circuit_needed.specs.HeldLaws.{gates_length, earlier_in}
use Rattle.circuit_needed.specs.Ranks.{Marked, rank_in, ranks_of, mark_of, marked_in, NumberedBelow}
use Rattle.circuit_needed.specs.RankLaws.{rank_none, rank_at, ranks_length}
use Rattle.circuit_needed.specs.QuadLaws.{choice_in, other_in}

heads_more : (C : Gates) (k : Gate) → heads (C ++ (k ∷ [])) ≡ heads C ++ heads (k ∷ [])
heads_more [] k = refl
heads_more (start x ∷ C) k = heads_more C k
heads_more (word n ∷ C) k = heads_more C k
heads_more (bit b ∷ C) k = heads_more C k
heads_more (operation op l ∷ C) k = heads_more C k
heads_more (choice c a b ∷ C) k = ap (λ (l : List ℕ). c ∷ l) (heads_more C k)

heads_form : (f : Form) (a : ℕ) (l : List ℕ) → heads (of_form f a l ∷ []) ≡ []
heads_form End a l = refl
heads_form Assign a l = refl
heads_form Skip a l = refl
heads_form Branch a l = refl
heads_form Variable a l = refl
heads_form Word a l = refl
heads_form Bit a l = refl
heads_form (Apply op) a l = refl
heads_form Unknown a l = refl

module _ (quads : List ℕ) (i : ℕ) where
  heads_choice : code_at quads i ≡ choice_code → heads (gates_in quads (suc i)) ≡ heads (gates_in quads i) ++ (first_at quads i ∷ [])
  unfolding gates_in
  heads_choice h = heads_more (gates_in quads i) _ ∙ rw (choice_in quads i h)

  heads_other : (code_at quads i ≡ choice_code → ⊥) → heads (gates_in quads (suc i)) ≡ heads (gates_in quads i)
  unfolding gates_in
  heads_other h =
      heads_more (gates_in quads i) _
      ∙ rw (other_in quads i h, heads_form (code_of (code_at quads i)).form (first_at quads i) (arguments_of (code_of (code_at quads i)) (first_at quads i) (second_at quads i)))
      (append-nil (heads (gates_in quads i)))

-- The loop that marks: the marks of the gates below i are made.

more : (i : ℕ) → i + 1 ≡ suc i
more i = omega arith

-- the condition of a choice comes before it
pub head_before : (quads : List ℕ) (count i c : ℕ) → Earlier (gates_in quads count) → i < count → code_at quads i ≡ choice_code → c ≡ first_at quads i → c < i
head_before quads count i c e l h q = earlier_in quads count e i c l (rw (choice_in quads i h) (inl q))

pub record Marking (quads ranks : List ℕ) (count i : ℕ) : Type 0 where
  pub below : i ≤ count
  pub room : count ≤ 256
  pub earlier : Earlier (gates_in quads count)
  pub marked : Marked (gates_in quads i) ranks

pub marking_start : (quads ranks : List ℕ) (count : ℕ) → (count ≤ 256) × Earlier (gates_in quads count) → ranks ≡ replicate 256 0 → Marking quads ranks count 0
unfolding mark_of gates_in
marking_start quads ranks count p e =
    record {
      below = omega arith;
      room = p.0;
      earlier = p.1;
      marked = record { size = ap length e; marks = λ g. ap (λ (l : List ℕ). get_or l g 0) e ∙ get_or_zeros 256 g };
    }

-- one turn, at a choice: its condition is a place
pub marking_inside : (quads ranks : List ℕ) (count i c : ℕ) → Marking quads ranks count i → i < count → code_at quads i ≡ choice_code → c ≡ first_at quads i → c < 256
marking_inside quads ranks count i c m l h e = omega (arith, head_before quads count i c m.earlier l h e, m.room)

pub marking_choice : (quads ranks new : List ℕ) (count i c : ℕ) → Marking quads ranks count i → i < count → code_at quads i ≡ choice_code → c ≡ first_at quads i
    → new ≡ set ranks c 1 → Marking quads new count (i + 1)
unfolding mark_of
marking_choice quads ranks new count i c m l h e q =
    record {
      below = omega arith;
      room = m.room;
      earlier = m.earlier;
      marked = record {
        size = ap length q ∙ length-set ranks c 1 ∙ m.marked.size;
        marks = λ g. rw (q, more i, heads_choice quads i h, elem_more g (heads (gates_in quads i)) (first_at quads i), ← e) (go g (same? g c));
      };
    }
  where
    inside : c < length ranks
    inside = rw m.marked.size (marking_inside quads ranks count i c m l h e)

    go : (g : ℕ) → (g ≡ c) ⊎ (g ≡ c → ⊥) → get_or (set ranks c 1) g 0 ≡ bit_of (cond (eqb g c) true (elem g (heads (gates_in quads i))))
    go g (inl f) = rw (f, eq-eqb c c refl, get_or-set_same ranks c 1 0 inside)
    go g (inr n) = rw (ne_eqb g c n, get_or-set_other ranks c g 1 0 n) (m.marked.marks g)

-- one turn at another gate
pub marking_other : (quads ranks new : List ℕ) (count i : ℕ) → Marking quads ranks count i → i < count → (code_at quads i ≡ choice_code → ⊥) → new ≡ ranks
    → Marking quads new count (i + 1)
unfolding mark_of
marking_other quads ranks new count i m l h q =
    record {
      below = omega arith;
      room = m.room;
      earlier = m.earlier;
      marked = record { size = ap length q ∙ m.marked.size; marks = λ g. rw (q, more i, heads_other quads i h) (m.marked.marks g) };
    }

pub marking_end : (quads ranks : List ℕ) (count i : ℕ) → Marking quads ranks count i → count ≤ i → Marked (gates_in quads count) ranks
marking_end quads ranks count i m l = let e : count ≡ i = omega (arith, m.below) in rw e m.marked

-- The marked gates are the conditions.

test_mark : (t : Bool) → not (eqb (bit_of t) 0) ≡ t
test_mark true = refl
test_mark false = refl

marked_conditions : (C : Gates) (marks : List ℕ) → Marked C marks → marked_in marks (length C) ≡ conditions C
unfolding marked_in conditions mark_of
marked_conditions C marks m =
    keep_same (λ g. not (eqb (get_or marks g 0) 0)) (λ g. elem g (heads C)) (upto (length C)) (λ g k. rw (m.marks g) (test_mark (elem g (heads C))))

marked_held : (quads marks : List ℕ) (count : ℕ) → Marked (gates_in quads count) marks → marked_in marks count ≡ conditions (gates_in quads count)
marked_held quads marks count m = ap (marked_in marks) (sym (gates_length quads count)) ∙ marked_conditions (gates_in quads count) marks m

-- none of them lies past the gates
marks_above : (quads : List ℕ) (count n : ℕ) → Earlier (gates_in quads count) → n ≤ count → (g : ℕ) → n ≤ g → elem g (heads (gates_in quads n)) ≡ false
unfolding gates_in
marks_above quads count zero e l g h = refl
marks_above quads count (suc n) e l g h = go (same? (code_at quads n) choice_code) (marks_above quads count n e (omega arith) g (omega arith))
  where
    go : (code_at quads n ≡ choice_code) ⊎ (code_at quads n ≡ choice_code → ⊥) → elem g (heads (gates_in quads n)) ≡ false → elem g (heads (gates_in quads (suc n))) ≡ false
    go (inl c) ih =
        rw (
          heads_choice quads n c,
          elem_more g (heads (gates_in quads n)) (first_at quads n),
          ne_eqb g (first_at quads n) (λ f. omega (arith, head_before quads count n (first_at quads n) e l c refl)),
        ) ih
    go (inr c) ih = rw (heads_other quads n c) ih

-- so the numbers are those of the conditions
pub conditions_numbered : (quads marks ranks : List ℕ) (count : ℕ) → (count ≤ 256) × Earlier (gates_in quads count) → Marked (gates_in quads count) marks
    → NumberedBelow marks ranks count → ranks ≡ ranks_of (gates_in quads count) 256
unfolding mark_of
conditions_numbered quads marks ranks count p m n =
    ext_get_or 0 ranks (ranks_of C 256) (n.size ∙ m.size ∙ sym (ranks_length C 256))
    (λ g h. let l : g < 256 = rw (n.size, m.size) at h in go g (inside_list C g) ∙ sym (rank_at C 256 g l))
  where
    C : Gates
    C = gates_in quads count

    same : marked_in marks count ≡ conditions C
    same = marked_held quads marks count m

    go : (g : ℕ) → (g < length C) ⊎ (length C ≤ g) → get_or ranks g 0 ≡ rank_in (conditions C) g
    go g (inl h) = rw same at (n.below g (rw (gates_length quads count) at h))
    go g (inr h) =
        let k : count ≤ g = rw (gates_length quads count) at h in
        n.above g k ∙ m.marks g ∙ ap bit_of (marks_above quads count count p.1 (omega arith) g k)
        ∙ sym (rank_none (conditions C) g (λ i. omega (arith, condition_below C g i)))

pub conditions_counted : (quads marks : List ℕ) (count r : ℕ) → Marked (gates_in quads count) marks → r ≡ length (marked_in marks count) → r ≡ length
    (conditions (gates_in quads count))
conditions_counted quads marks count r m e = e ∙ ap length (marked_held quads marks count m)
