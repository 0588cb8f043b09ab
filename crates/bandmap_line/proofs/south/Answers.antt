-- `bandmap_line::south` meets its contract: degrees that are not 0, below zero. Assumes nothing.
use Rattle.bandmap_line.proofs.Parts.{degrees-small, south-some}
use Rattle.bandmap_line.proofs.Integers.{below-is}
use lib.ListN.{drop}
use Rattle.bandmap_line.proofs.south.Goals as goal

pub returns : goal.returns
returns c =
    let q = below-is _ (degrees-small (drop c.args.at c.args.bytes.now) _ _ c.in_ok-degrees.ensures) c.if-degrees-eq0.false in
    south-some (drop c.args.at c.args.bytes.now) _ _ c.in_ok-degrees.ensures _ q.0 q.1 q.2
