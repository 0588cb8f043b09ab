-- `bandsum_sums::told` meets its contract: one number after the other. Assumes nothing.
use mathlib.Core.Path.{sym}
use lib.Seq.{length-take-le}
use Rattle.bandsum_sums.proofs.Ends.{told-all}
use Rattle.bandsum_sums.proofs.told.Goals as goal

pub slice_bounds-edges-end : goal.slice_bounds-edges-end
slice_bounds-edges-end c = sym (length-take-le _ _ c.write_words-len.ensures.many)

pub slice_bounds-border-end : goal.slice_bounds-border-end
slice_bounds-border-end c = sym (length-take-le _ _ c.write_words-len.ensures.many)

pub slice_bounds-sides-end : goal.slice_bounds-sides-end
slice_bounds-sides-end c = sym (length-take-le _ _ c.write_words-len.ensures.many)

pub returns : goal.returns
returns c =
    told-all c.args.grid c.args.ordered c.requires.same c.vertices.ensures c.edges-edges.ensures c.border-border.ensures c.sides-sides.ensures
