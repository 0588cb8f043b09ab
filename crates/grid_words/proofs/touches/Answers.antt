-- `grid_words::touches` meets its contract. The invariant: none of the first m corners is the vertex. Assumes nothing.
use mathlib.Core.Path.{◌≡◌, refl, sym}
use native.Mathlib.Omega.{arith}
use native.Mathlib.Nat.{le_refl}
use Rattle.quotient.specs.Fold.{some}
use Rattle.quotient.proofs.Laws.{some-true, some-none}
use Rattle.quotient.proofs.Crossings.{crossing-vertex}
use Rattle.grid_words.proofs.Corners.{points-few}
use Rattle.grid_words.proofs.Touched.{box-corner-lt, corner-is, corner-not}
use Rattle.grid_words.proofs.touches.Goals as goal

pub loop-m-init : goal.loop-m-init
unfolding some
loop-m-init c = refl

pub offset-requires : goal.offset-requires
offset-requires c = c.requires

pub overflow_add-from : goal.overflow_add-from
overflow_add-from c = let g = c.args.grid in omega (arith, c.origin-from.ensures, c.offset.ensures, box-corner-lt g c.requires c.args.b c.loop-m.m, points-few g c.requires g.d (le_refl g.d))

pub overflow_cast-from : goal.overflow_cast-from
overflow_cast-from c = let g = c.args.grid in omega (arith, c.origin-from.ensures, c.offset.ensures, box-corner-lt g c.requires c.args.b c.loop-m.m, points-few g c.requires g.d (le_refl g.d))

pub crossed-c-requires : goal.crossed-c-requires
crossed-c-requires c = c.requires

pub returns-then-p-v : goal.returns-then-p-v
returns-then-p-v c =
    let g = c.args.grid in
    sym (some-true _ _ c.loop-m.m (omega (arith, c.loop-m-test.true, c.box_corners-n.ensures)) (corner-is g c.args.b c.args.v.0 c.loop-m.m _ _ _ c.origin-from.ensures c.offset.ensures (crossing-vertex _ _ _ c.crossed-c.ensures) c.if-p-v.true))

pub loop-m-preserved : goal.loop-m-preserved
loop-m-preserved c =
    let g = c.args.grid in
    some-none _ _ c.loop-m.invariant (corner-not g c.args.b c.args.v.0 c.loop-m.m _ _ _ c.origin-from.ensures c.offset.ensures (crossing-vertex _ _ _ c.crossed-c.ensures) c.if-p-v.false)

pub returns : goal.returns
returns c = let e : c.loop-m.m ≡ c.box_corners-n.result = omega arith in sym (rw (e, c.box_corners-n.ensures) at c.loop-m.invariant)
