-- `orientation_by::coherent_as` meets its contract: the table of mates has the cell across each slot (proofs/Slots). Assumes nothing.
use Rattle.orientation_signs.proofs.Linking.{finding-few, finding-crossing}
use Rattle.orientation_by.proofs.Slots.{weighing, tested-mates}
use native.Mathlib.Omega.{arith}
use Rattle.orientation_by.proofs.coherent_as.Goals as goal

pub slots-k-requires : goal.slots-k-requires
slots-k-requires c = omega (arith, c.requires.finding.small)

pub overflow_mul-m : goal.overflow_mul-m
overflow_mul-m c =
    record { fits = omega (arith, finding-few c.args.d c.args.m c.args.rows.now c.args.keys.now c.args.spare.now c.args.marks.now c.requires.finding c.slots-k.result c.slots-k.ensures) }

pub across-requires : goal.across-requires
across-requires c =
    finding-crossing c.args.d c.args.m c.args.rows.now c.args.keys.now c.args.spare.now c.args.marks.now c.requires.finding c.slots-k.result c.slots-k.ensures

pub coherent_over-requires : goal.coherent_over-requires
coherent_over-requires c =
    weighing c.args.d c.args.m c.args.rows.now c.args.keys.now c.args.spare.now c.args.marks.now c.requires c.slots-k.result c.slots-k.ensures c.across.new.other c.across.new.flip c.across.auto.other c.across.auto.flip c.across.ensures

pub returns : goal.returns
returns c =
    tested-mates c.args.d c.args.m c.args.rows.now c.args.keys.now c.args.spare.now c.args.marks.now c.requires c.slots-k.result c.slots-k.ensures c.across.new.other c.across.new.flip c.across.auto.other c.across.auto.flip c.across.ensures c.coherent_over.result c.coherent_over.ensures
