-- `orientation_signs::coherent` meets its contract: the walk's links are the cells' mates, and its looks are those of the defined walk (proofs/Finding). Assumes nothing.
use Rattle.orientation_signs.proofs.Linking.{searching-few, searching-links}
use Rattle.orientation_signs.proofs.Finding.{searching-found}
use native.Mathlib.Omega.{arith}
use Rattle.orientation_signs.proofs.coherent.Goals as goal

pub walk-walked-requires : goal.walk-walked-requires
walk-walked-requires c =
    let k = c.slots-k in
    (searching-links c.args.d c.args.m c.args.other.now c.args.flip.now c.args.marks.now c.args.stack.now c.requires c.slots-k.result c.slots-k.ensures, c.requires.marks_long, c.requires.stack_long)

-- the looks are at most the slots
pub overflow_cast-looks : goal.overflow_cast-looks
overflow_cast-looks c =
    let k = c.slots-k in
    record { fits = omega (arith, c.walk-walked.ensures.most, searching-few c.args.d c.args.m c.args.other.now c.args.flip.now c.args.marks.now c.args.stack.now c.requires c.slots-k.result c.slots-k.ensures) }

pub returns : goal.returns
returns c =
    let k = c.slots-k in
    let w = c.walk-walked in
    searching-found c.args.d c.args.m c.args.other.now c.args.flip.now c.args.marks.now c.args.stack.now c.requires c.slots-k.result c.slots-k.ensures c.walk-walked.result.ok _ _ _ c.walk-walked.ensures
