-- `complex_facets::records` meets its contract: the mates of the facets' lowest rows stand beside these when the records are written over the facet rows (proofs/Joining). Assumes nothing.
use Rattle.complex_facets.proofs.Joining.{turning-keys, recording, recorded}
use Rattle.complex_facets.proofs.records.Goals as goal

pub others-requires : goal.others-requires
others-requires c =
    turning-keys c.args.d c.args.m c.args.b c.args.keys.now c.args.rows.now c.args.spare.now c.args.counts.now c.requires c.in-Some.f c.classes.new.keys c.classes.new.spare c.classes.new.counts c.classes.new.rows c.classes.auto.keys c.classes.auto.spare c.classes.auto.rows (c.classes.ensures.all _ c.in-Some.is)

pub write_records-requires : goal.write_records-requires
write_records-requires c =
    recording c.args.d c.args.m c.args.b c.args.keys.now c.args.rows.now c.args.spare.now c.args.counts.now c.requires c.in-Some.f c.classes.new.keys c.classes.new.spare c.classes.new.counts c.classes.new.rows c.classes.auto.keys c.classes.auto.spare c.classes.auto.rows (c.classes.ensures.all _ c.in-Some.is) c.others.new.to c.others.auto.to c.others.ensures c.copy.new.dst c.copy.ensures c.slots.result c.slots.ensures

pub returns-clause-all : goal.returns-clause-all
returns-clause-all c r =
    recorded c.args.d c.args.m c.args.b c.args.keys.now c.args.rows.now c.args.spare.now c.args.counts.now c.requires c.in-Some.f c.classes.new.keys c.classes.new.spare c.classes.new.counts c.classes.new.rows c.classes.auto.keys c.classes.auto.spare c.classes.auto.rows (c.classes.ensures.all _ c.in-Some.is) c.others.new.to c.others.auto.to c.others.ensures c.copy.new.dst c.copy.ensures c.slots.result c.slots.ensures c.write_records.new.records c.write_records.ensures
