-- `refine_children::jacobians` meets its contract. The loop's invariant: the Jacobians of the first i children are written.
use mathlib.Core.Path.{refl, sym, ap, ◌∙◌, subst}
use mathlib.Core.List.{List}
use Prim.Native.Nat.{ℕ, ◌+◌, ◌*◌, ◌-◌, ◌≤◌, ◌<◌}
use native.Mathlib.Omega.{arith}
use lib.ListN.{length, get_or}
use borrow.Author.Rules.{rules}
use lib.IntN.{ℤ}
use lib.Ieee.{Float}
use Rattle.refusal.specs.Limits.{square_most}
use Rattle.lists.proofs.Rows.{part-size}
use Rattle.refine_children.specs.WorkFamily.{whole_at, float_at, Family}
use Rattle.refine_children.proofs.Laws.{joined-more, joined-kept, joined-full}
use Rattle.refine_children.proofs.jacobians.Goals as goal

pub loop-i-init : goal.loop-i-init
loop-i-init c = (refl, refl)

pub child-requires : goal.child-requires
child-requires c =
    let i = c.loop-i.i in
    let h : i < c.args.m = omega (arith, c.loop-i-test.true) in
    let a : i * square_most + square_most ≤ length c.loop-i.wholes = omega (arith, c.requires.0) in
    let b : i * square_most + square_most ≤ length c.loop-i.floats = omega (arith, c.requires.1) in (
      part-size c.loop-i.wholes (i * square_most) square_most a,
      part-size c.loop-i.floats (i * square_most) square_most b,
      c.requires.2.each i h,
    )

pub loop-i-preserved : goal.loop-i-preserved
loop-i-preserved c =
    let i = c.loop-i.i in
    let f : ℕ → List ℤ = λ k. whole_at c.args.d c.args.size c.args.pattern.now c.args.words.now c.args.sorted.now c.args.along.now c.args.cells.now (get_or c.args.firsts.now k 0) in
    let g : ℕ → List Float = λ k. float_at c.args.d c.args.r c.args.size c.args.pattern.now c.args.words.now c.args.sorted.now c.args.along.now c.args.cells.now (get_or c.args.firsts.now k 0) in
    let a = joined-more square_most f (λ k. refl) c.args.wholes.now i c.loop-i.wholes c.child.new.whole c.loop-i.invariant.0
    c.child.ensures.whole in
    let b = joined-more square_most g (λ k. refl) c.args.floats.now i c.loop-i.floats c.child.new.float c.loop-i.invariant.1
    c.child.ensures.float in
    (a, b)

pub returns : goal.returns
returns c =
    let f : ℕ → List ℤ = λ k. whole_at c.args.d c.args.size c.args.pattern.now c.args.words.now c.args.sorted.now c.args.along.now c.args.cells.now (get_or c.args.firsts.now k 0) in
    let g : ℕ → List Float = λ k. float_at c.args.d c.args.r c.args.size c.args.pattern.now c.args.words.now c.args.sorted.now c.args.along.now c.args.cells.now (get_or c.args.firsts.now k 0) in record { wholes = joined-full square_most f (λ k. refl) c.args.wholes.now c.args.m c.loop-i.i c.loop-i.wholes c.loop-i.invariant.0 (omega arith) c.requires.0; floats = joined-full square_most g (λ k. refl) c.args.floats.now c.args.m c.loop-i.i c.loop-i.floats c.loop-i.invariant.1 (omega arith) c.requires.1 }
