-- `orientation_by::coherent_over` meets its contract: each slot agrees exactly where the signs are coherent (proofs/Slots). Assumes nothing.
use Rattle.orientation_signs.proofs.Linking.{searching-few}
use Rattle.orientation_by.proofs.Slots.{looking, tested, tested-point}
use native.Mathlib.Omega.{arith}
use Rattle.orientation_by.proofs.coherent_over.Goals as goal

pub returns-then-d-eq0 : goal.returns-then-d-eq0
returns-then-d-eq0 c = λ cs e t. tested-point c.args.d cs _ c.if-d-eq0.true

pub slots-k-requires : goal.slots-k-requires
slots-k-requires c = omega (arith, c.requires.searching.small)

pub overflow_mul-m : goal.overflow_mul-m
overflow_mul-m c =
    record { fits = omega (arith, searching-few c.args.d c.args.m c.args.other.now c.args.flip.now c.args.marks.now c.args.marks.now c.requires.searching c.slots-k.result c.slots-k.ensures) }

pub all_agree-requires : goal.all_agree-requires
all_agree-requires c = looking c.args.d c.args.m c.args.other.now c.args.flip.now c.args.marks.now c.requires c.slots-k.result c.slots-k.ensures

pub returns : goal.returns
returns c =
    tested c.args.d c.args.m c.args.other.now c.args.flip.now c.args.marks.now c.requires (omega (arith, c.if-d-eq0.false)) c.slots-k.result c.slots-k.ensures c.all_agree.result c.all_agree.ensures.all c.all_agree.ensures.clash
