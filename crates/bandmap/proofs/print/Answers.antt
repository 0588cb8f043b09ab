-- `bandmap::print` meets its contract. Assumes nothing.
use lib.Seq.{length-take-le}
use mathlib.Core.Path.{sym}
use Rattle.bandmap.proofs.print.Goals as goal

pub slice_bounds-write_all-end : goal.slice_bounds-write_all-end
slice_bounds-write_all-end c = sym (length-take-le _ _ c.if-n-bytes.true)
