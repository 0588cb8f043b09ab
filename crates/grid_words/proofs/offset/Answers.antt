-- `grid_words::offset` meets its contract. The invariant: s is the product of the points below k, x the number that the steps below k make, and rest what is left of m. Assumes nothing.
use mathlib.Core.Path.{◌≡◌, refl, sym}
use native.Mathlib.Omega.{arith}
use native.Mathlib.Nat.{div-one}
use Rattle.quotient.specs.Fold.{product}
use Rattle.quotient.specs.Points.{from_digits}
use Rattle.grid_words.proofs.Corners.{stride-turn}
use Rattle.grid_words.proofs.Touched.{offset-more, offset-room}
use Rattle.grid_words.proofs.offset.Goals as goal

pub loop-k-init : goal.loop-k-init
unfolding product from_digits
loop-k-init c = (refl, refl, sym (div-one c.args.m), omega arith)

pub overflow_mul-x : goal.overflow_mul-x
overflow_mul-x c = let h = offset-room c.args.grid c.requires c.loop-k.k c.loop-k.s c.loop-k.x c.loop-k.rest _ c.loop-k-test.true c.loop-k.invariant.0 c.loop-k.invariant.3 refl in omega arith

pub overflow_add-x : goal.overflow_add-x
overflow_add-x c = let h = offset-room c.args.grid c.requires c.loop-k.k c.loop-k.s c.loop-k.x c.loop-k.rest _ c.loop-k-test.true c.loop-k.invariant.0 c.loop-k.invariant.3 refl in omega arith

pub returns : goal.returns
returns c = let e : c.loop-k.k ≡ c.args.grid.d = omega arith in rw e at c.loop-k.invariant.1

pub overflow_mul-s : goal.overflow_mul-s
overflow_mul-s c =
    let t = stride-turn c.args.grid c.requires _ _ _ c.loop-k-test.true c.loop-k.invariant.0 c.points_on-s.ensures in
    omega (arith, t.1)

pub loop-k-preserved : goal.loop-k-preserved
loop-k-preserved c =
    let g = c.args.grid in
    let l = c.loop-k in
    let t = stride-turn g c.requires _ _ _ c.loop-k-test.true l.invariant.0 c.points_on-s.ensures in
    let m = offset-more g c.requires c.args.m l.k _ _ _ l.invariant.0 l.invariant.1 l.invariant.2 in
    let r = offset-room g c.requires l.k l.s l.x l.rest _ c.loop-k-test.true l.invariant.0 l.invariant.3 c.points_on-s.ensures in
    (t.0, m.0, m.1, r.0)
