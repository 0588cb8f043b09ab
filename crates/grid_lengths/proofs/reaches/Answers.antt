-- `grid_lengths::reaches` meets its contract. The invariant: the first i ends are written. Assumes nothing.
use mathlib.Core.Path.{refl, sym, ◌∙◌}
use Prim.Native.Nat.{◌*◌, ◌<◌}
use native.Mathlib.Omega.{arith}
use Rattle.lists.proofs.Laws.{store, copied}
use Rattle.lists.proofs.Tables.{get_or-tab}
use Rattle.grid_lengths.specs.Work.{visits_each, end_point, end_reach}
use Rattle.grid_lengths.proofs.Boxed.{reach-long, each-visits-most}
use Rattle.grid_lengths.proofs.reaches.Goals as goal

pub loop-i-init : goal.loop-i-init
loop-i-init c = refl

pub end_point-requires : goal.end_point-requires
end_point-requires c = (c.requires.0, omega (arith, c.loop-i-test.true, c.loop-i.auto.reach, c.requires.1, each-visits-most c.args.grid c.requires.0))

pub loop-i-preserved : goal.loop-i-preserved
loop-i-preserved c = let g = c.args.grid in
    let i = c.loop-i.i in
    let h : i < visits_each g * 2 = omega (arith, c.requires.1, c.loop-i-test.true, c.loop-i.auto.reach) in
    let e = c.end_point.ensures ∙ sym (get_or-tab (visits_each g * 2) (end_point g) i 0 h) in
    rw (c.loop-i.invariant, e) (store (end_reach g) c.args.reach.now i (omega (arith, reach-long g c.requires.0)) (omega (arith, c.requires.1)))

pub returns : goal.returns
returns c = let g = c.args.grid in
    c.loop-i.invariant ∙ copied (end_reach g) c.args.reach.now c.loop-i.i (omega (arith, reach-long g c.requires.0, c.requires.1, c.loop-i.auto.reach, c.loop-i-test.false)) (omega (arith, c.loop-i.auto.reach, c.loop-i-test.false))
