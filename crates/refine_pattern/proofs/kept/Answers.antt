-- What is left to test is the chain from the point reached, along the axes from place i on. Assumes nothing.
use mathlib.Core.Path.{◌≡◌, sym, ◌∙◌}
use mathlib.Core.Bool.{true}
use Prim.Native.Nat.{◌≤◌, ◌<◌}
use native.Mathlib.Omega.{arith}
use lib.ListN.{get_or, take, drop, length-set}
use Rattle.multiindex.specs.Permutation.{order_of}
use Rattle.refine_lattice.specs.Children.{qualifies}
use Rattle.refine_pattern.proofs.Chains.{order_long, order_below, keeps-not, keeps-step, keeps-end, coordinate}
use Rattle.refine_pattern.proofs.kept.Goals as goal

pub returns-then-not-falls : goal.returns-then-not-falls
returns-then-not-falls c =
    sym
    (c.loop-i.invariant.1
    ∙ keeps-not c.args.r (take c.args.d c.loop-i.s) (drop c.loop-i.i (order_of c.args.d c.args.c.order))
    (sym c.falls.ensures ∙ c.if-not-falls.true))

pub offset_bounds-s-j : goal.offset_bounds-s-j
offset_bounds-s-j c =
    let axis-low : c.axis-j.result < c.args.d = omega (arith, c.axis-j.ensures, order_below c.args.d c.args.c.order c.requires.order c.loop-i.i c.loop-i-test.true) in
    omega (arith, axis-low)

pub bounds-s-j : goal.bounds-s-j
bounds-s-j c =
    let axis-low : c.axis-j.result < c.args.d = omega (arith, c.axis-j.ensures, order_below c.args.d c.args.c.order c.requires.order c.loop-i.i c.loop-i-test.true) in
    omega (arith, axis-low, c.requires.axes)

pub overflow_add-s : goal.overflow_add-s
overflow_add-s c =
    let holds : qualifies c.args.r (take c.args.d c.loop-i.s) ≡ true = sym c.falls.ensures ∙ c.if-not-falls.false in
    let axis-low : c.axis-j.result < c.args.d = omega (arith, c.axis-j.ensures, order_below c.args.d c.args.c.order c.requires.order c.loop-i.i c.loop-i-test.true) in
    let step-low : get_or c.loop-i.s c.axis-j.result 0 ≤ c.args.r = coordinate _ _ _ _ c.loop-i.invariant.0 axis-low holds in
    omega (arith, step-low, c.requires.most)

pub bounds-s-j-in-loop-i : goal.bounds-s-j-in-loop-i
bounds-s-j-in-loop-i c =
    let axis-low : c.axis-j.result < c.args.d = omega (arith, c.axis-j.ensures, order_below c.args.d c.args.c.order c.requires.order c.loop-i.i c.loop-i-test.true) in
    omega (arith, axis-low, c.requires.axes)

pub loop-i-preserved : goal.loop-i-preserved
loop-i-preserved c =
    let holds : qualifies c.args.r (take c.args.d c.loop-i.s) ≡ true = sym c.falls.ensures ∙ c.if-not-falls.false in
    let axis-low : c.axis-j.result < c.args.d = omega (arith, c.axis-j.ensures, order_below c.args.d c.args.c.order c.requires.order c.loop-i.i c.loop-i-test.true) in
    let t = c.loop-i-test.true in (
      simp length-set c.loop-i.invariant.0,
      c.loop-i.invariant.1
          ∙ keeps-step c.args.d c.args.r c.loop-i.s (order_of c.args.d c.args.c.order) c.loop-i.i c.axis-j.result
          (omega (arith, order_long c.args.d c.args.c.order c.requires.order)) c.axis-j.ensures (axis-low) (holds),
    )

pub returns : goal.returns
returns c =
    c.falls-2.ensures
    ∙ sym
    (c.loop-i.invariant.1
    ∙ keeps-end c.args.r (take c.args.d c.loop-i.s) (order_of c.args.d c.args.c.order) c.loop-i.i
    (omega (arith, order_long c.args.d c.args.c.order c.requires.order)))
