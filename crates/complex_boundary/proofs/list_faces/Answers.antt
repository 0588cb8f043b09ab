-- `complex_boundary::list_faces` meets its contract: what stands in rows are the faces. Assumes nothing.
use mathlib.Core.Path.{sym}
use lib.Seq.{length-take-le}
use Rattle.complex_boundary.proofs.Steps.{reached-flat}
use Rattle.complex_boundary.proofs.list_faces.Goals as goal

pub slice_bounds-hand_out-end-2 : goal.slice_bounds-hand_out-end-2
slice_bounds-hand_out-end-2 c = sym (length-take-le _ _ c.reach-f.ensures.fits)

pub returns : goal.returns
returns c =
    let q = c.reach-f in
    c.hand_out.ensures _ (reached-flat c.args.d c.args.k c.args.words.now c.reach-f.result c.reach-f.new.keys c.reach-f.new.rows c.reach-f.new.spare c.reach-f.new.counts c.reach-f.ensures) c.reach-f.ensures.many
