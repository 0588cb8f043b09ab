-- `grid_order::hand_out` meets its contract, by its four ways out (proofs/Steps). Assumes nothing.
use mathlib.Core.Path.{sym, ◌∙◌}
use Prim.Native.Nat.{◌-◌}
use lib.Seq.{length-take-le}
use Rattle.grid_order.proofs.Steps.{part-long, front_fits, out-short, out-short-order, out-unordered, out-ordered}
use Rattle.grid_order.proofs.hand_out.Goals as goal

pub returns-then-cells-size : goal.returns-then-cells-size
returns-then-cells-size c = out-short c.args.size c.args.m c.args.list.now c.requires c.args.cells.now c.args.order.now c.args.ordered c.if-cells-size.true

pub slice_bounds-copy-end-then-not-ordered-2 : goal.slice_bounds-copy-end-then-not-ordered-2
slice_bounds-copy-end-then-not-ordered-2 c = sym (length-take-le _ _ c.if-cells-size.false)

pub copy-requires : goal.copy-requires
copy-requires c = length-take-le _ _ c.if-cells-size.false ∙ sym (part-long c.args.size c.args.m c.args.list.now c.requires c.args.cells.now c.args.order.now)

pub returns-then-not-ordered : goal.returns-then-not-ordered
returns-then-not-ordered c = out-unordered c.args.size c.args.m c.args.list.now c.requires c.args.cells.now c.args.order.now c.args.ordered (c.if-not-ordered.true) c.if-cells-size.false c.copy.new.dst c.copy.ensures

pub returns-then-order-size : goal.returns-then-order-size
returns-then-order-size c = out-short-order c.args.size c.args.m c.args.list.now c.requires c.args.cells.now c.args.order.now c.args.ordered (c.if-not-ordered.false) c.if-order-size.true

pub slice_bounds-copy-end-4 : goal.slice_bounds-copy-end-4
slice_bounds-copy-end-4 c = sym (length-take-le _ _ c.if-cells-size.false)

pub copy-requires-2 : goal.copy-requires-2
copy-requires-2 c = length-take-le _ _ c.if-cells-size.false ∙ sym (part-long c.args.size c.args.m c.args.list.now c.requires c.args.cells.now c.args.order.now)

pub slice_bounds-copy-end-5 : goal.slice_bounds-copy-end-5
slice_bounds-copy-end-5 c = sym (length-take-le _ _ (front_fits c.args.size c.args.m c.args.list.now c.requires c.args.cells.now c.args.order.now))

pub slice_bounds-copy-end-7 : goal.slice_bounds-copy-end-7
slice_bounds-copy-end-7 c = sym (length-take-le _ _ c.if-order-size.false)

pub copy-requires-3 : goal.copy-requires-3
copy-requires-3 c = length-take-le _ _ c.if-order-size.false ∙ sym (length-take-le _ _ (front_fits c.args.size c.args.m c.args.list.now c.requires c.args.cells.now c.args.order.now))

pub returns : goal.returns
returns c = out-ordered c.args.size c.args.m c.args.list.now c.requires c.args.cells.now c.args.order.now c.args.ordered (c.if-not-ordered.false) c.if-cells-size.false c.if-order-size.false c.copy-2.new.dst c.copy-3.new.dst c.copy-2.ensures c.copy-3.ensures
