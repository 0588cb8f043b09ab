-- `complex_mates::facet_rows` meets its contract. The loop's invariant: the first x facet rows are written. Assumes nothing.
use Rattle.complex_mates.proofs.Laws.{Turn, wrote, wrote-length, writing-turn, put-before, put-here, written-more}
use native.Mathlib.Nat.{add-sub_cancel_left}
use mathlib.Core.Path.{◌∙◌}
use mathlib.Core.List.{◌++◌}
use Prim.Native.Nat.{◌*◌}
use lib.ListN.{take, drop}
use Rattle.complex_mates.proofs.facet_rows.Goals.{In-loop-x}
use Rattle.complex_mates.proofs.facet_rows.Goals as goal

-- what a turn of the loop may do
turn : (c : In-loop-x) → Turn c.args.d c.args.k c.args.m c.args.cells.now c.loop-x.keys c.loop-x.x
turn c =
    writing-turn c.args.d c.args.k c.args.m c.args.cells.now c.args.keys.now c.loop-x.keys c.loop-x.x c.requires c.loop-x.auto.keys c.loop-x-test.true

pub slice_bounds-facet-end : goal.slice_bounds-facet-end
slice_bounds-facet-end c = (turn (goal.at.slice_bounds-facet-end c).In-loop-x).cell

pub loop-x-preserved : goal.loop-x-preserved
loop-x-preserved c =
    let t = turn (goal.at.loop-x-preserved c).In-loop-x in
    let x = c.loop-x.x in
    let d = c.args.d in
    let w = c.loop-x.keys in
    let ys = c.facet.new.to in
    let e = wrote d c.args.k c.args.m c.args.cells.now w x t ys c.facet.ensures in
    let l = wrote-length d c.args.k c.args.m c.args.cells.now w x t ys c.facet.ensures in
    rw (add-sub_cancel_left (x * d) d) (written-more d c.args.k c.args.cells.now w (take (x * d) w ++ (ys ++ drop d (drop (x * d) w))) x c.loop-x.invariant (put-before d x w ys t.fits l) (put-here d x w ys t.fits l ∙ e))
