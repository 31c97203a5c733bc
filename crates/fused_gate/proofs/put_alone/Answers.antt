use Rattle.std.proofs.Common.{◌<◌, ◌≤◌, refl, ◌⊎◌, inl, inr, arith}
use Rattle.circuit_needed.specs.Held.{code_at}
use Rattle.fused_gate.specs.PutLaws.{choice_room, choice_put, word_room, word_put, short_room, short_put}
use Rattle.fused_gate.specs.AloneLaws.{choice_placed, short_in, first_short, coded_byte}
use Rattle.fused_gate.proofs.put_alone.Goals as goal
use Rattle.fused_gate.proofs.put_alone.Goals.{in_default-via-then-code-lt32, in_default-via-else-code-lt32+else-code-lt40}

-- the place of the gate in the quads is its number's
pub at-c-requires : goal.at-c-requires
at-c-requires c = rw c.index-i.ensures (omega (arith, c.requires.1.coded.inside), (choice_placed _ _ _ c.requires.1 (rw c.index-i.ensures at c.in-48.is)).0)

pub at-a-requires : goal.at-a-requires
at-a-requires c = rw c.index-i.ensures (omega (arith, c.requires.1.coded.inside), (choice_placed _ _ _ c.requires.1 (rw c.index-i.ensures at c.in-48.is)).1.0)

pub at-b-requires : goal.at-b-requires
at-b-requires c = rw c.index-i.ensures (omega (arith, c.requires.1.coded.inside), (choice_placed _ _ _ c.requires.1 (rw c.index-i.ensures at c.in-48.is)).1.1)

pub put_choice-requires : goal.put_choice-requires
put_choice-requires c = choice_room _ _ _ _ (rw c.index-i.ensures at c.in-48.is) c.requires.0

pub returns-in-48 : goal.returns-in-48
returns-in-48 c =
    choice_put _ _ _ _ _ _ _ _ (rw c.index-i.ensures at c.in-48.is) (rw c.index-i.ensures at c.at-c.ensures) (rw c.index-i.ensures at c.at-a.ensures)
    (rw c.index-i.ensures at c.at-b.ensures) c.put_choice.ensures

pub put_word-requires : goal.put_word-requires
put_word-requires c = word_room _ _ _ _ (rw c.index-i.ensures at c.in-17.is) c.requires.0

pub returns-in-17 : goal.returns-in-17
returns-in-17 c = word_put _ _ _ _ _ (rw c.index-i.ensures at c.in-17.is) (rw c.index-i.ensures at c.put_word.ensures)

pub overflow_cast-code : goal.overflow_cast-code
overflow_cast-code c = rw c.index-i.ensures (record { fits = omega (arith, coded_byte _ _ c.requires.1.coded) })

pub overflow_cast-quads : goal.overflow_cast-quads
overflow_cast-quads c =
    let d : (code_at c.args.quads.now c.index-i.result < 0x20) ⊎ (0x28 ≤ code_at c.args.quads.now c.index-i.result) =
    elim c.in_default.branch [ in_default-via-then-code-lt32 w ↦ inl (omega arith) | in_default-via-else-code-lt32+else-code-lt40 w ↦ inr (omega arith) ] in
    rw c.index-i.ensures (record {
      fits = omega (
        arith,
        first_short _ _ c.requires.1.coded (short_in _ _ _ (rw c.index-i.ensures refl) c.requires.1.coded (λ x.
            omega (arith, x)) (λ x. omega (arith, x)) d),
      );
    })

pub put_short-requires : goal.put_short-requires
put_short-requires c =
    let d : (code_at c.args.quads.now c.index-i.result < 0x20) ⊎ (0x28 ≤ code_at c.args.quads.now c.index-i.result) =
    elim c.in_default.branch [ in_default-via-then-code-lt32 w ↦ inl (omega arith) | in_default-via-else-code-lt32+else-code-lt40 w ↦ inr (omega arith) ] in
    short_room _ _ _ _ (short_in _ _ _ (rw c.index-i.ensures refl) c.requires.1.coded (λ x. omega (arith, x)) (λ x. omega (arith, x)) d) c.requires.0

pub returns-in_default : goal.returns-in_default
returns-in_default c =
    let d : (code_at c.args.quads.now c.index-i.result < 0x20) ⊎ (0x28 ≤ code_at c.args.quads.now c.index-i.result) =
    elim c.in_default.branch [ in_default-via-then-code-lt32 w ↦ inl (omega arith) | in_default-via-else-code-lt32+else-code-lt40 w ↦ inr (omega arith) ] in
    short_put _ _ _ _ _ (short_in _ _ _ (rw c.index-i.ensures refl) c.requires.1.coded (λ x. omega (arith, x)) (λ x. omega (arith, x)) d) (rw c.index-i.ensures at
    c.put_short.ensures)
