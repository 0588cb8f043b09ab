-- `bandsum::main` is safe and ends: what is printed has as many bytes as it says. Assumes nothing.
use mathlib.Core.Path.{sym}
use lib.Seq.{length-take-le}
use Rattle.bandsum_sums.proofs.Fits.{printed-fits}
use Rattle.bandsum.proofs.main.Goals as goal

pub slice_bounds-bytes-end : goal.slice_bounds-bytes-end
slice_bounds-bytes-end c = printed-fits _ _ c.printed-printed.ensures

pub slice_bounds-write_all-end : goal.slice_bounds-write_all-end
slice_bounds-write_all-end c = sym (length-take-le _ _ (printed-fits _ _ c.printed-printed.ensures))
