-- `replay_towers::line` meets its contract: the lists are as long as was read. Assumes nothing.
use mathlib.Core.Path.{sym}
use lib.Seq.{length-take-le}
use Rattle.replay_towers.proofs.line.Goals as goal

pub slice_bounds-sizes-end : goal.slice_bounds-sizes-end
slice_bounds-sizes-end c = sym (length-take-le c.list-one.result.count c.list-one.new.to c.list-one.ensures.count_in_bounds)

pub slice_bounds-sizes-end-2 : goal.slice_bounds-sizes-end-2
slice_bounds-sizes-end-2 c = sym (length-take-le c.list-two.result.count c.list-two.new.to c.list-two.ensures.count_in_bounds)

pub slice_bounds-begin-end : goal.slice_bounds-begin-end
slice_bounds-begin-end c = sym (length-take-le c.place-colon.result c.args.text.now c.place-colon.ensures)

pub slice_bounds-complex-end : goal.slice_bounds-complex-end
slice_bounds-complex-end c = sym (length-take-le c.list-one.result.count c.list-one.new.to c.list-one.ensures.count_in_bounds)

pub slice_bounds-complex-end-2 : goal.slice_bounds-complex-end-2
slice_bounds-complex-end-2 c = sym (length-take-le c.list-two.result.count c.list-two.new.to c.list-two.ensures.count_in_bounds)
