-- `complex_edges::pair_rows` meets its contract. The loop's invariant: the first x pairs are written. Assumes nothing.
use native.Mathlib.Omega.{arith}
use Rattle.complex_edges.proofs.Turns.{Turn, turn, pair-more}
use Rattle.complex_edges.proofs.pair_rows.Goals.{In-loop-x}
use Rattle.complex_edges.proofs.pair_rows.Goals as goal

-- what a turn of the loop may do
turned : (c : In-loop-x) → Turn c.args.d c.args.cells.now c.loop-x.keys c.loop-x.x
turned c = turn c.args.d c.args.m c.args.cells.now c.args.keys.now c.loop-x.keys c.loop-x.x c.requires c.loop-x.auto.keys c.loop-x-test.true

pub bounds-cells-from : goal.bounds-cells-from
bounds-cells-from c =
    let t = turned (goal.at.bounds-cells-from c).In-loop-x in omega (arith, t.cell, t.slot)

pub bounds-cells-from-in-loop-x : goal.bounds-cells-from-in-loop-x
bounds-cells-from-in-loop-x c =
    let t = turned (goal.at.bounds-cells-from-in-loop-x c).In-loop-x in omega (arith, t.cell, t.slot)

pub loop-x-preserved : goal.loop-x-preserved
loop-x-preserved c =
    let t = turned (goal.at.loop-x-preserved c).In-loop-x in
    pair-more c.args.d c.args.cells.now c.loop-x.keys c.loop-x.x _ t.fits (omega arith) c.loop-x.invariant
