-- `complex_dropped::work` meets its contract. 7, 23, or what keeping the others says. Assumes nothing.
use mathlib.Core.Path.{◌∙◌}
use Rattle.complex_dropped.proofs.Outcome.{making-cells, meeting, worked-crowded, worked-missing, gathering}
use Rattle.complex_dropped.proofs.work.Goals as goal

pub cells-m-requires : goal.cells-m-requires
cells-m-requires c =
    making-cells c.args.d c.args.words.now c.args.gone.now c.args.keys.now c.args.rows.now c.args.spare.now c.args.counts.now c.requires

pub mates-requires : goal.mates-requires
mates-requires c =
    meeting c.args.d c.args.words.now c.args.gone.now c.args.keys.now c.args.rows.now c.args.spare.now c.args.counts.now c.requires c.cells-m.result c.cells-m.new.keys c.cells-m.new.rows c.cells-m.new.spare c.cells-m.new.counts c.cells-m.auto.keys c.cells-m.auto.rows c.cells-m.auto.spare c.cells-m.auto.counts c.cells-m.ensures

pub returns-then-not-mates : goal.returns-then-not-mates
returns-then-not-mates c =
    worked-crowded c.args.d c.args.words.now c.args.gone.now c.args.keys.now c.args.rows.now c.args.spare.now c.args.counts.now c.requires c.cells-m.result c.cells-m.new.keys c.cells-m.new.rows c.cells-m.new.spare c.cells-m.new.counts c.cells-m.auto.keys c.cells-m.auto.rows c.cells-m.auto.spare c.cells-m.auto.counts c.cells-m.ensures c.args.kept.now c.args.old.now (c.mates.ensures.crowd (c.if-not-mates.true))

pub returns-then-names_missing : goal.returns-then-names_missing
returns-then-names_missing c =
    worked-missing c.args.d c.args.words.now c.args.gone.now c.args.keys.now c.args.rows.now c.args.spare.now c.args.counts.now c.requires c.cells-m.result c.cells-m.new.keys c.cells-m.new.rows c.cells-m.new.spare c.cells-m.new.counts c.cells-m.auto.keys c.cells-m.auto.rows c.cells-m.auto.spare c.cells-m.auto.counts c.cells-m.ensures c.mates.new.rows (c.mates.ensures.all (c.if-not-mates.false)) c.names_missing.result c.names_missing.ensures c.if-names_missing.true c.args.kept.now c.args.old.now

pub keep_others-requires : goal.keep_others-requires
keep_others-requires c =
    gathering c.args.d c.args.words.now c.args.gone.now c.args.keys.now c.args.rows.now c.args.spare.now c.args.counts.now c.requires c.cells-m.result c.cells-m.new.keys c.cells-m.new.rows c.cells-m.new.spare c.cells-m.new.counts c.cells-m.auto.keys c.cells-m.auto.rows c.cells-m.auto.spare c.cells-m.auto.counts c.cells-m.ensures c.mates.new.rows (c.mates.ensures.all (c.if-not-mates.false)) c.names_missing.result c.names_missing.ensures c.if-names_missing.false c.mates.new.keys c.mates.new.rows c.mates.new.spare c.mates.new.counts c.mates.auto.keys c.mates.auto.rows c.mates.auto.spare c.mates.auto.counts

pub shape_of-keys : goal.shape_of-keys
shape_of-keys c =
    c.keep_others.auto.keys ∙ c.mates.auto.keys ∙ c.cells-m.auto.keys

pub shape_of-rows : goal.shape_of-rows
shape_of-rows c =
    c.keep_others.auto.rows ∙ c.mates.auto.rows ∙ c.cells-m.auto.rows

pub shape_of-spare : goal.shape_of-spare
shape_of-spare c =
    c.keep_others.auto.spare ∙ c.mates.auto.spare ∙ c.cells-m.auto.spare

pub returns : goal.returns
returns c = c.keep_others.ensures
