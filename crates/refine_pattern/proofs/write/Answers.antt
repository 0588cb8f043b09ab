-- After i steps the points before the one reached are written. Assumes nothing.
use mathlib.Core.Path.{◌≡◌, ◌∙◌}
use mathlib.Core.Bool.{true}
use Prim.Native.Nat.{◌+◌, ◌≤◌, ◌<◌, ◌-◌}
use native.Mathlib.Omega.{arith}
use native.Mathlib.Nat.{add-sub_cancel_left}
use lib.ListN.{length, get_or, take, drop, length-drop}
use lib.Seq.{length-take-le}
use Rattle.refine_lattice.specs.Children.{qualifies}
use Rattle.refine_pattern.proofs.Walked.{walked-qualifies, walked-point, walked-room, walked-axis, walked_low, walked_next, walked-left, walked-last}
use Rattle.refine_pattern.proofs.write.Goals as goal

pub slice_bounds-weigh-end-in-loop-i : goal.slice_bounds-weigh-end-in-loop-i
slice_bounds-weigh-end-in-loop-i c =
    let space : c.loop-i.at + (c.args.d + 1) ≤ length c.loop-i.to = walked-room _ _ _ _ c.requires _ _ _ _ c.loop-i.invariant in
    omega (arith, space)

pub weigh-requires : goal.weigh-requires
weigh-requires c =
    let space : c.loop-i.at + (c.args.d + 1) ≤ length c.loop-i.to = walked-room _ _ _ _ c.requires _ _ _ _ c.loop-i.invariant in
    let qualified : qualifies c.args.r (take c.args.d c.loop-i.s) ≡ true = walked-qualifies _ _ _ _ c.requires _ _ _ _ c.loop-i.invariant in
    let pointed : length (take c.args.d c.loop-i.s) ≡ c.args.d = walked-point _ _ _ _ c.requires _ _ _ _ c.loop-i.invariant in (
      qualified,
      rw add-sub_cancel_left (length-take-le (c.args.d + 1) (drop c.loop-i.at c.loop-i.to) (rw length-drop (omega (arith, space))) ∙ omega (arith, pointed)),
    )

pub offset_bounds-s-j : goal.offset_bounds-s-j
offset_bounds-s-j c =
    let axis-low : c.axis-j.result < c.args.d = walked-axis _ _ _ _ c.requires _ _ _ _ c.loop-i.invariant c.loop-i-test.true c.axis-j.result c.axis-j.ensures in
    omega (arith, axis-low)

pub bounds-s-j : goal.bounds-s-j
bounds-s-j c =
    let axis-low : c.axis-j.result < c.args.d = walked-axis _ _ _ _ c.requires _ _ _ _ c.loop-i.invariant c.loop-i-test.true c.axis-j.result c.axis-j.ensures in
    omega (arith, axis-low, c.requires.stands.axes)

pub overflow_add-s : goal.overflow_add-s
overflow_add-s c =
    let step-low : get_or c.loop-i.s c.axis-j.result 0 ≤ c.args.r = walked_low _ _ _ _ c.requires _ _ _ _ c.loop-i.invariant c.loop-i-test.true c.axis-j.result c.axis-j.ensures in
    omega (arith, step-low, c.requires.stands.most)

pub bounds-s-j-in-loop-i : goal.bounds-s-j-in-loop-i
bounds-s-j-in-loop-i c =
    let axis-low : c.axis-j.result < c.args.d = walked-axis _ _ _ _ c.requires _ _ _ _ c.loop-i.invariant c.loop-i-test.true c.axis-j.result c.axis-j.ensures in
    omega (arith, axis-low, c.requires.stands.axes)

pub loop-i-preserved : goal.loop-i-preserved
loop-i-preserved c =
    let f = c.weigh in
    walked_next _ _ _ _ c.requires _ _ _ _ c.loop-i.invariant c.loop-i-test.true c.axis-j.result c.axis-j.ensures
    (c.loop-i.at + (c.args.d + 1) - c.loop-i.at) c.weigh.new.to (add-sub_cancel_left _ _) c.weigh.ensures

pub weigh-requires-2 : goal.weigh-requires-2
weigh-requires-2 c =
    let space : c.loop-i.at + (c.args.d + 1) ≤ length c.loop-i.to = walked-room _ _ _ _ c.requires _ _ _ _ c.loop-i.invariant in
    let qualified : qualifies c.args.r (take c.args.d c.loop-i.s) ≡ true = walked-qualifies _ _ _ _ c.requires _ _ _ _ c.loop-i.invariant in
    let pointed : length (take c.args.d c.loop-i.s) ≡ c.args.d = walked-point _ _ _ _ c.requires _ _ _ _ c.loop-i.invariant in
    let left : c.args.d ≤ c.loop-i.i → length c.loop-i.to - c.loop-i.at ≡ c.args.d + 1 = λ h. walked-left _ _ _ _ c.requires _ _ _ _ c.loop-i.invariant h in
    let n = left (omega (arith, c.loop-i-test.false)) in (
      qualified,
      rw n (length-take-le (c.args.d + 1) (drop c.loop-i.at c.loop-i.to) (rw length-drop (omega (arith, space))) ∙ omega (arith, pointed)),
    )

pub returns : goal.returns
returns c =
    let left : c.args.d ≤ c.loop-i.i → length c.loop-i.to - c.loop-i.at ≡ c.args.d + 1 = λ h. walked-left _ _ _ _ c.requires _ _ _ _ c.loop-i.invariant h in
    let d : c.args.d ≤ c.loop-i.i = omega (arith, c.loop-i-test.false) in
    walked-last _ _ _ _ c.requires _ _ _ _ c.loop-i.invariant d _ _ (left d) c.weigh-2.ensures
