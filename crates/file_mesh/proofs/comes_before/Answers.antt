-- `file_mesh::comes_before` meets its contract. The invariant: from place i on the words are equal, so the first i numbers decide. Assumes nothing.
use mathlib.Core.Path.{refl, sym, ap, ◌∙◌}
use Prim.Native.Nat.{ℕ}
use Rattle.complex.specs.Cells.{comes_before}
use Rattle.file_mesh.proofs.Tests.{before-yes, before-not, before_same, before-none}
use native.Mathlib.Omega.{arith}
use Rattle.file_mesh.proofs.comes_before.Goals as goal

pub loop-i-init : goal.loop-i-init
loop-i-init c = refl

pub returns-then-v-i : goal.returns-then-v-i
returns-then-v-i c =
    sym (c.loop-i.invariant ∙ before-yes c.loop-i.i c.args.v.now c.args.w.now c.loop-i-test.true c.if-v-i.true)

pub returns-then-w-i : goal.returns-then-w-i
returns-then-w-i c =
    sym (c.loop-i.invariant ∙ before-not c.loop-i.i c.args.v.now c.args.w.now c.loop-i-test.true c.if-w-i.true)

pub loop-i-preserved : goal.loop-i-preserved
loop-i-preserved c = c.loop-i.invariant ∙ before_same c.loop-i.i c.args.v.now c.args.w.now c.loop-i-test.true c.if-v-i.false c.if-w-i.false

pub returns : goal.returns
returns c =
    sym (c.loop-i.invariant ∙ ap (λ (i : ℕ). comes_before i c.args.v.now c.args.w.now) {x = c.loop-i.i} {y = 0} (omega arith) ∙ before-none c.args.v.now c.args.w.now)
