-- `bandmap_line::north` meets its contract: degrees as they are. Assumes nothing.
use Rattle.bandmap_line.proofs.Parts.{degrees-small, north-some}
use Rattle.bandmap_line.proofs.Integers.{whole_is}
use lib.ListN.{drop}
use Rattle.bandmap_line.proofs.north.Goals as goal

pub returns : goal.returns
returns c = north-some (drop c.args.at c.args.bytes.now) _ _ c.in_ok-degrees.ensures _ (whole_is _ (degrees-small (drop c.args.at c.args.bytes.now) _ _ c.in_ok-degrees.ensures))
