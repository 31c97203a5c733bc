use mathlib.Core.Path.{sym, ap, ◌∙◌}
use Prim.Native.Nat.{ℕ, ◌^◌}
use native.Mathlib.Omega.{arith}
use Rattle.base.specs.SetsHeldLaws.{sets_one}
use Rattle.base_settings.proofs.Tabling.{rested_few, tabling_start, tabling_low, tabling_in, tabling_out, tabling_end}
use Rattle.base_settings.proofs.table.Goals as goal
use Rattle.base_settings.proofs.table.Goals.{then-has, else-has}

pub size-n-requires : goal.size-n-requires
size-n-requires c = (rested_few _ _ _ _ c.requires.0 c.requires.1).0

pub loop-j-init : goal.loop-j-init
loop-j-init c = let f = rested_few _ _ _ _ c.requires.0 c.requires.1 in
    tabling_start _ _ _ _ _ (rw c.size-n.ensures f.1.0) f.1.1

pub overflow_cast-setting : goal.overflow_cast-setting
overflow_cast-setting c = record { fits = tabling_low _ _ _ _ _ _ _ _ c.loop-j.invariant }

pub has-requires : goal.has-requires
has-requires c = tabling_low _ _ _ _ _ _ _ _ c.loop-j.invariant

pub next_setting-setting-requires : goal.next_setting-setting-requires
next_setting-setting-requires c = let i = c.loop-j.invariant in (i.listed, tabling_low _ _ _ _ _ _ _ _ i)

pub loop-j-preserved : goal.loop-j-preserved
loop-j-preserved c =
    let i = c.loop-j.invariant in
    let t = c.loop-j-test.true in
    let e = sym c.has.ensures in
    let n = c.next_setting-setting.ensures in
    elim c.if-has.branch [
      | then-has w ↦ tabling_in _ _ _ _ _ _ _ _ i (omega arith) _ _ t (e ∙ w.if-has.true) (w.bits-is ∙ w.put.ensures) n
      | else-has w ↦ tabling_out _ _ _ _ _ _ _ _ i _ _ t (e ∙ w.if-has.false) w.bits-is n
    ]

pub returns : goal.returns
returns c = let pre = c.requires in
    let i = c.loop-j.invariant in
    c.load.ensures ∙ sets_one _ i.words.size
    ∙ tabling_end _ _ _ _ _ _ _ _ i c.loop-j-test.false (c.size-n.ensures ∙ ap (λ (k : ℕ). 2 ^ k) pre.0) pre.1
