-- `grid_words::origin` meets its contract. The invariant: s is the product of the points below k, x the number that the coordinates below k make, and rest what is
-- left of b. Assumes nothing.
use mathlib.Core.Path.{◌≡◌, refl, sym, ap}
use Prim.Native.Nat.{◌+◌, ◌*◌, ◌%◌, ◌≤◌, ◌<◌}
use native.Mathlib.Omega.{arith}
use Rattle.quotient.specs.declared.Axis.{Axis}
use Rattle.quotient.specs.Fold.{product}
use Rattle.quotient.specs.Shape.{points_on}
use Rattle.quotient.specs.Points.{from_digits}
use native.Mathlib.Nat.{div-one}
use Rattle.grid_words.proofs.Corners.{some-cell, stride-turn, origin-more, origin-room}
use Rattle.grid_words.proofs.origin.Goals as goal

pub loop-k-init : goal.loop-k-init
unfolding product from_digits
loop-k-init c = (refl, refl, sym (div-one c.args.b), omega arith)

pub nonzero_rem-x : goal.nonzero_rem-x
nonzero_rem-x c =
    let some : 1 ≤ c.axis-a.result.count = omega (arith, some-cell c.args.grid c.requires c.loop-k.k c.loop-k-test.true, ap (λ (a : Axis). a.count) c.axis-a.ensures) in
    omega (arith, some)

pub overflow_mul-x : goal.overflow_mul-x
overflow_mul-x c =
    let room : (c.loop-k.x + c.loop-k.s * (c.loop-k.rest % c.axis-a.result.count) < c.loop-k.s * points_on c.args.grid c.loop-k.k) × (c.loop-k.s * points_on c.args.grid c.loop-k.k ≤ 32768) = origin-room c.args.grid c.requires c.loop-k.k c.loop-k.s c.loop-k.x c.loop-k.rest _ _ c.loop-k-test.true c.loop-k.invariant.0 c.loop-k.invariant.3 (ap (λ (a : Axis). a.count) c.axis-a.ensures) refl in
    let h = room in omega arith

pub overflow_add-x : goal.overflow_add-x
overflow_add-x c =
    let room : (c.loop-k.x + c.loop-k.s * (c.loop-k.rest % c.axis-a.result.count) < c.loop-k.s * points_on c.args.grid c.loop-k.k) × (c.loop-k.s * points_on c.args.grid c.loop-k.k ≤ 32768) = origin-room c.args.grid c.requires c.loop-k.k c.loop-k.s c.loop-k.x c.loop-k.rest _ _ c.loop-k-test.true c.loop-k.invariant.0 c.loop-k.invariant.3 (ap (λ (a : Axis). a.count) c.axis-a.ensures) refl in
    let h = room in omega arith

pub nonzero_div-rest : goal.nonzero_div-rest
nonzero_div-rest c =
    let some : 1 ≤ c.axis-a.result.count = omega (arith, some-cell c.args.grid c.requires c.loop-k.k c.loop-k-test.true, ap (λ (a : Axis). a.count) c.axis-a.ensures) in
    omega (arith, some)

pub returns : goal.returns
returns c = let e : c.loop-k.k ≡ c.args.grid.d = omega arith in rw e at c.loop-k.invariant.1

pub overflow_mul-s : goal.overflow_mul-s
overflow_mul-s c =
    let t = stride-turn c.args.grid c.requires _ _ _ c.loop-k-test.true c.loop-k.invariant.0 c.points_on-s.ensures in
    omega (arith, t.1)

pub loop-k-preserved : goal.loop-k-preserved
loop-k-preserved c =
    let g = c.args.grid in
    let n = ap (λ (a : Axis). a.count) c.axis-a.ensures in
    let t = stride-turn g c.requires _ _ _ c.loop-k-test.true c.loop-k.invariant.0 c.points_on-s.ensures in
    let m = origin-more g c.requires c.args.b c.loop-k.k _ _ _ _ c.loop-k.invariant.0 c.loop-k.invariant.1 c.loop-k.invariant.2 n in
    let r = origin-room g c.requires c.loop-k.k c.loop-k.s c.loop-k.x c.loop-k.rest _ _ c.loop-k-test.true c.loop-k.invariant.0 c.loop-k.invariant.3 n c.points_on-s.ensures in
    (t.0, m.0, m.1, r.0)
