-- `complex_dropped::rename` meets its contract. The loop's invariant: the first i corners are renamed. Assumes nothing.
use mathlib.Core.Path.{◌∙◌}
use mathlib.Core.List.{append-nil}
use native.Mathlib.Omega.{arith}
use lib.ListN.{get_or, drop_of_length-le}
use lib.Seq.{take_all}
use Rattle.complex_dropped.proofs.Loops.{rename-turn}
use Rattle.complex_dropped.proofs.rename.Goals as goal

pub bounds-numbers-corner : goal.bounds-numbers-corner
bounds-numbers-corner c = c.requires.1 c.loop-i.i c.loop-i-test.true

pub loop-i-preserved : goal.loop-i-preserved
loop-i-preserved c =
    rename-turn (λ v. get_or c.args.numbers.now v 0) c.args.corners.now c.args.to.now c.loop-i.to c.loop-i.i c.loop-i-test.true (omega (arith, c.requires.0, c.loop-i-test.true)) c.loop-i.invariant

pub returns : goal.returns
returns c =
    c.loop-i.invariant
    ∙ simp (take_all c.loop-i.i c.args.corners.now c.loop-i-test.false, drop_of_length-le c.args.to.now {i = c.loop-i.i} (omega (arith, c.requires.0, c.loop-i-test.false)), append-nil)
