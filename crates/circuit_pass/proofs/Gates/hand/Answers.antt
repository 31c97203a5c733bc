use native.Mathlib.Omega.{arith}
use Rattle.circuit_needed.specs.HandSteps.{choice_known, choice_hands, two_inside, two_hands, one_inside, one_hands, none_hands}
use Rattle.circuit_pass.proofs.Gates.hand.Goals as goal

pub returns-then-code-lt-SUM : goal.returns-then-code-lt-SUM
returns-then-code-lt-SUM c = none_hands _ _ _ c.requires (λ e. omega (arith, (rw c.index-i.ensures at c.if-code-lt-SUM.true), e)) (λ h. omega (
  arith,
  (rw c.index-i.ensures at c.if-code-lt-SUM.true),
  h.0,
)) _

-- an operation of two
pub overflow_cast-x : goal.overflow_cast-x
overflow_cast-x c = rw c.index-i.ensures (record {
  fits = omega (
    arith,
    (two_inside _ _ _ _ c.args.self.now.passable c.requires
        (rw c.index-i.ensures at c.if-code-lt-SUM.false) (rw c.index-i.ensures at c.if-code-lt-NOT.true)).0,
  );
})

pub hand_to-requires : goal.hand_to-requires
hand_to-requires c = rw c.index-i.ensures ((two_inside _ _ _ _ c.args.self.now.passable c.requires (rw c.index-i.ensures at c.if-code-lt-SUM.false)
    (rw c.index-i.ensures at c.if-code-lt-NOT.true)).0)

pub overflow_cast-y : goal.overflow_cast-y
overflow_cast-y c = rw c.index-i.ensures (let two = two_inside _ _ _ _ c.args.self.now.passable c.requires (rw c.index-i.ensures at c.if-code-lt-SUM.false)
    (rw c.index-i.ensures at c.if-code-lt-NOT.true) in
    record { fits = omega (arith, two.1) })

pub hand_to-requires-then-code-lt-NOT : goal.hand_to-requires-then-code-lt-NOT
hand_to-requires-then-code-lt-NOT c = rw c.index-i.ensures ((two_inside _ _ _ _ c.args.self.now.passable c.requires (rw c.index-i.ensures at c.if-code-lt-SUM.false)
    (rw c.index-i.ensures at c.if-code-lt-NOT.true)).1)

-- not
pub overflow_cast-x-then-code-eq-NOT : goal.overflow_cast-x-then-code-eq-NOT
overflow_cast-x-then-code-eq-NOT c = rw c.index-i.ensures (record {
  fits = omega (
    arith,
    one_inside _ _ _ _ c.args.self.now.passable c.requires
        (rw c.index-i.ensures at c.if-code-eq-NOT.true),
  );
})

pub hand_to-requires-then-code-eq-NOT : goal.hand_to-requires-then-code-eq-NOT
hand_to-requires-then-code-eq-NOT c = rw c.index-i.ensures (one_inside _ _ _ _ c.args.self.now.passable c.requires (rw c.index-i.ensures at c.if-code-eq-NOT.true))

-- a choice
pub overflow_cast-x-then-code-eq-CHOICE : goal.overflow_cast-x-then-code-eq-CHOICE
overflow_cast-x-then-code-eq-CHOICE c = rw c.index-i.ensures (record {
  fits = omega (
    arith,
    (choice_known _ _ _ _ c.args.self.now.passable c.requires
        (rw c.index-i.ensures at c.if-code-eq-CHOICE.true)).0.0,
  );
})

pub overflow_cast-y-then-code-eq-CHOICE : goal.overflow_cast-y-then-code-eq-CHOICE
overflow_cast-y-then-code-eq-CHOICE c = rw c.index-i.ensures (record {
  fits = omega (
    arith,
    (choice_known _ _ _ _ c.args.self.now.passable c.requires
        (rw c.index-i.ensures at c.if-code-eq-CHOICE.true)).1.0,
  );
})

pub overflow_cast-z : goal.overflow_cast-z
overflow_cast-z c = rw c.index-i.ensures (record { fits = omega (arith, (choice_known _ _ _ _ c.args.self.now.passable c.requires (rw c.index-i.ensures at c.if-code-eq-CHOICE.true)).1.1) })

pub hand_choice-requires : goal.hand_choice-requires
hand_choice-requires c = rw c.index-i.ensures (choice_known _ _ _ _ c.args.self.now.passable c.requires (rw c.index-i.ensures at c.if-code-eq-CHOICE.true))

pub returns-then-code-lt-NOT : goal.returns-then-code-lt-NOT
returns-then-code-lt-NOT c = let s = c.load-s.ensures in let i = c.index-i.ensures in
    two_hands _ _ _ _ c.args.self.now.passable c.requires (rw c.index-i.ensures at c.if-code-lt-SUM.false) (rw c.index-i.ensures at c.if-code-lt-NOT.true) _ _ _
    (rw (s, i) at c.hand_to.ensures) (rw (s, i) at c.hand_to-then-code-lt-NOT.ensures)

pub returns-then-code-eq-NOT : goal.returns-then-code-eq-NOT
returns-then-code-eq-NOT c = one_hands _ _ _ _ c.args.self.now.passable c.requires (rw c.index-i.ensures at c.if-code-eq-NOT.true) _ _
    (rw (c.load-s.ensures, c.index-i.ensures) at c.hand_to-then-code-eq-NOT.ensures)

pub returns-then-code-eq-CHOICE : goal.returns-then-code-eq-CHOICE
returns-then-code-eq-CHOICE c = choice_hands _ _ _ _ c.args.self.now.passable c.requires (rw c.index-i.ensures at c.if-code-eq-CHOICE.true) _ _
    (rw (c.load-s.ensures, c.index-i.ensures) at c.hand_choice.ensures)

pub returns-else-code-eq-CHOICE : goal.returns-else-code-eq-CHOICE
returns-else-code-eq-CHOICE c = none_hands _ _ _ c.requires (rw c.index-i.ensures at c.if-code-eq-CHOICE.false) (λ h.
    (rw c.index-i.ensures at c.if-code-eq-NOT.false) (omega (arith, (rw c.index-i.ensures at c.if-code-lt-NOT.false), h.1))) _
