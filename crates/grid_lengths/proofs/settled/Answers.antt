-- `grid_lengths::settled` meets its contract. The invariant: known is what the visits of the first x boxes come to (proofs/Skipped). Assumes nothing.
use mathlib.Core.Path.{◌≡◌}
use Prim.Native.Nat.{◌<◌}
use native.Mathlib.Omega.{arith}
use Rattle.grid_words.specs.Cells.{boxes_of}
use Rattle.grid_lengths.proofs.Measuring.{visits-few}
use Rattle.grid_lengths.proofs.Skipped.{settled-none, box-visits, settling, settled-box, skipped-box, settled-done}
use Rattle.grid_lengths.proofs.settled.Goals as goal

pub boxes-boxes-requires : goal.boxes-boxes-requires
boxes-boxes-requires c = c.requires

pub visits_each-each-requires : goal.visits_each-each-requires
visits_each-each-requires c = c.requires

pub loop-x-init : goal.loop-x-init
loop-x-init c = settled-none c.args.grid c.requires c.args.a c.args.b

pub touches-requires : goal.touches-requires
touches-requires c = c.requires

pub overflow_mul-x : goal.overflow_mul-x
overflow_mul-x c =
    let g = c.args.grid in
    let h : c.loop-x.x < boxes_of g = omega (arith, c.loop-x-test.true, c.boxes-boxes.ensures) in
    omega (arith, box-visits g c.requires c.args.a c.args.b c.loop-x.x h _ c.visits_each-each.ensures, visits-few g c.requires)

pub overflow_mul-x-in-loop-x : goal.overflow_mul-x-in-loop-x
overflow_mul-x-in-loop-x c =
    let g = c.args.grid in
    let h : c.loop-x.x < boxes_of g = omega (arith, c.loop-x-test.true, c.boxes-boxes.ensures) in
    omega (arith, box-visits g c.requires c.args.a c.args.b c.loop-x.x h _ c.visits_each-each.ensures, visits-few g c.requires)

pub overflow_add-x : goal.overflow_add-x
overflow_add-x c =
    let g = c.args.grid in
    let h : c.loop-x.x < boxes_of g = omega (arith, c.loop-x-test.true, c.boxes-boxes.ensures) in
    omega (arith, box-visits g c.requires c.args.a c.args.b c.loop-x.x h _ c.visits_each-each.ensures, visits-few g c.requires)

pub settled_to-known-requires : goal.settled_to-known-requires
settled_to-known-requires c =
    let g = c.args.grid in
    let h : c.loop-x.x < boxes_of g = omega (arith, c.loop-x-test.true, c.boxes-boxes.ensures) in
    settling g c.requires c.args.a c.args.b c.loop-x.x h _ c.visits_each-each.ensures _ c.loop-x.invariant

pub loop-x-preserved : goal.loop-x-preserved
loop-x-preserved c =
    let g = c.args.grid in
    let h : c.loop-x.x < boxes_of g = omega (arith, c.loop-x-test.true, c.boxes-boxes.ensures) in
    settled-box g c.requires c.args.a c.args.b c.loop-x.x h _ c.visits_each-each.ensures _ c.settled_to-known.ensures

pub loop-x-preserved-then-not-touches : goal.loop-x-preserved-then-not-touches
loop-x-preserved-then-not-touches c =
    let g = c.args.grid in
    let h : c.loop-x.x < boxes_of g = omega (arith, c.loop-x-test.true, c.boxes-boxes.ensures) in
    skipped-box g c.requires c.args.a c.args.b c.loop-x.x h _ c.touches.ensures c.if-not-touches.true _ c.loop-x.invariant

pub returns : goal.returns
returns c = let e : c.loop-x.x ≡ c.boxes-boxes.result = omega arith in settled-done c.args.grid c.requires c.args.a c.args.b c.loop-x.x _ e c.boxes-boxes.ensures _ c.loop-x.invariant
