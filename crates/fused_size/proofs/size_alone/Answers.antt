use Rattle.std.proofs.Common.{◌≡◌, ◌*◌, get_or, arith}
use Rattle.fused_gate.specs.AloneLaws.{coded_byte}
use Rattle.fused_size.specs.SizeLaws.{choice_sized, word_sized, short_sized, applied_sized}
use Rattle.fused_size.proofs.size_alone.Goals as goal

pub returns-in-48 : goal.returns-in-48
returns-in-48 c = rw c.one.ensures (choice_sized _ _ (rw c.index.ensures at c.in-48.is))

pub returns-in-17 : goal.returns-in-17
returns-in-17 c = rw c.one-in-17.ensures (word_sized _ _ (rw c.index.ensures at c.in-17.is))

pub overflow_cast-code : goal.overflow_cast-code
overflow_cast-code c = rw c.index.ensures (record { fits = omega (arith, coded_byte _ _ c.requires) })

pub returns-then-means-eq0 : goal.returns-then-means-eq0
returns-then-means-eq0 c = let n : get_or c.args.quads.now (4 * c.index.result) 0 ≡ 0x30 → ⊥ = λ e. omega (arith, e) in
    let w : get_or c.args.quads.now (4 * c.index.result) 0 ≡ 0x11 → ⊥ = λ e. omega (arith, e) in
    rw c.one-then-means-eq0.ensures (short_sized _ _ c.requires (rw c.index.ensures at n) (rw c.index.ensures at w) _ (rw c.index.ensures at
    c.code_of-means.ensures) c.if-means-eq0.true)

pub returns-else-means-eq0 : goal.returns-else-means-eq0
returns-else-means-eq0 c = let n : get_or c.args.quads.now (4 * c.index.result) 0 ≡ 0x30 → ⊥ = λ e. omega (arith, e) in
    let w : get_or c.args.quads.now (4 * c.index.result) 0 ≡ 0x11 → ⊥ = λ e. omega (arith, e) in
    rw (c.one-else-means-eq0.ensures, c.from.ensures) (applied_sized _ _ c.requires (rw c.index.ensures at n) (rw c.index.ensures at w) _ (rw c.index.ensures at
    c.code_of-means.ensures) c.if-means-eq0.false)
