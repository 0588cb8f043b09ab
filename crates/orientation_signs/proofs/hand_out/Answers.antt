-- `orientation_signs::hand_out` meets its contract. The loop's invariant: the first c signs are handed out. Assumes nothing.
use mir.Val.{to_z, of_z}
use mir.Syntax.{w32}
use lib.IntN.{ℤ}
use Rattle.orientation_signs.proofs.Handing.{stored, hand-more}
use Rattle.orientation_signs.specs.WorkFound.{mark_number}
use mathlib.Core.Path.{◌≡◌, ap, ◌∙◌}
use native.Mathlib.Omega.{arith}
use lib.ListN.{get_or}
use Rattle.orientation_signs.proofs.hand_out.Goals as goal

pub loop-c-preserved : goal.loop-c-preserved
loop-c-preserved c =
    let e : to_z w32 (of_z w32 c.sign_of.result) ≡ mark_number (get_or c.args.marks.now c.loop-c.c 0) = ap (λ (z : ℤ). to_z w32 (of_z w32 z)) c.sign_of.ensures ∙ stored (get_or c.args.marks.now c.loop-c.c 0) in
    rw (c.loop-c.invariant, e) (hand-more c.args.marks.now c.args.signs.now c.loop-c.c (omega (arith, c.requires)) (omega arith))
