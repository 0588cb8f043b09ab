-- `orientation_by::work` meets its contract: each call asks what the calls before it gave (proofs/Steps). Assumes nothing.
use mathlib.Core.Path.{◌∙◌}
use native.Mathlib.Omega.{arith}
use Rattle.orientation.proofs.Steps.{making, keeping}
use Rattle.orientation_by.proofs.Steps.{ended-crowded, marks-fit, ended-unfit, weighing, ended-tested}
use Rattle.orientation_by.proofs.work.Goals as goal

pub cells-m-requires : goal.cells-m-requires
cells-m-requires c = making c.args.d c.args.words.now c.args.keys.now c.args.rows.now c.args.spare.now c.args.counts.now c.requires

pub links-requires : goal.links-requires
links-requires c = keeping c.args.d c.args.words.now c.args.keys.now c.args.rows.now c.args.spare.now c.args.counts.now c.requires
    c.cells-m.result c.cells-m.new.keys c.cells-m.new.rows c.cells-m.new.spare c.cells-m.new.counts c.cells-m.auto.keys c.cells-m.auto.rows c.cells-m.auto.spare c.cells-m.auto.counts c.cells-m.ensures

pub returns-then-not-links : goal.returns-then-not-links
returns-then-not-links c = ended-crowded c.args.d c.args.words.now c.args.keys.now c.args.rows.now c.args.spare.now c.args.counts.now c.requires
    c.cells-m.result c.cells-m.new.keys c.cells-m.new.rows c.cells-m.new.spare c.cells-m.new.counts c.cells-m.auto.keys c.cells-m.auto.rows c.cells-m.auto.spare c.cells-m.auto.counts c.cells-m.ensures c.args.signs.now (c.links.ensures.crowd (c.if-not-links.true))

pub take_over-requires : goal.take_over-requires
take_over-requires c = omega (
  arith,
  marks-fit c.args.d c.args.words.now c.args.keys.now c.args.rows.now c.args.spare.now c.args.counts.now c.requires
      c.cells-m.result c.cells-m.new.keys c.cells-m.new.rows c.cells-m.new.spare c.cells-m.new.counts c.cells-m.auto.keys c.cells-m.auto.rows c.cells-m.auto.spare c.cells-m.auto.counts c.cells-m.ensures c.args.signs.now,
  c.links.auto.counts,
)

pub returns-then-not-take_over : goal.returns-then-not-take_over
returns-then-not-take_over c = ended-unfit c.args.d c.args.words.now c.args.keys.now c.args.rows.now c.args.spare.now c.args.counts.now c.requires
    c.cells-m.result c.cells-m.new.keys c.cells-m.new.rows c.cells-m.new.spare c.cells-m.new.counts c.cells-m.auto.keys c.cells-m.auto.rows c.cells-m.auto.spare c.cells-m.auto.counts c.cells-m.ensures c.args.signs.now
    c.links.new.keys c.links.new.rows c.links.new.spare c.links.new.counts c.links.auto.keys c.links.auto.rows c.links.auto.spare c.links.auto.counts (c.links.ensures.all (c.if-not-links.false)) (c.take_over.ensures.unfit (c.if-not-take_over.true))

pub coherent_over-requires : goal.coherent_over-requires
coherent_over-requires c = weighing c.args.d c.args.words.now c.args.keys.now c.args.rows.now c.args.spare.now c.args.counts.now c.requires
    c.cells-m.result c.cells-m.new.keys c.cells-m.new.rows c.cells-m.new.spare c.cells-m.new.counts c.cells-m.auto.keys c.cells-m.auto.rows c.cells-m.auto.spare c.cells-m.auto.counts c.cells-m.ensures c.args.signs.now
    c.links.new.keys c.links.new.rows c.links.new.spare c.take_over.new.marks c.links.auto.keys c.links.auto.rows c.links.auto.spare (c.take_over.auto.marks ∙ c.links.auto.counts) (c.links.ensures.all (c.if-not-links.false)) (c.take_over.ensures.fit (c.if-not-take_over.false))

pub returns : goal.returns
returns c = ended-tested c.args.d c.args.words.now c.args.keys.now c.args.rows.now c.args.spare.now c.args.counts.now c.requires
    c.cells-m.result c.cells-m.new.keys c.cells-m.new.rows c.cells-m.new.spare c.cells-m.new.counts c.cells-m.auto.keys c.cells-m.auto.rows c.cells-m.auto.spare c.cells-m.auto.counts c.cells-m.ensures c.args.signs.now
    c.links.new.keys c.links.new.rows c.links.new.spare c.take_over.new.marks c.links.auto.keys c.links.auto.rows c.links.auto.spare (c.take_over.auto.marks ∙ c.links.auto.counts) (c.links.ensures.all (c.if-not-links.false)) (c.take_over.ensures.fit (c.if-not-take_over.false))
    c.coherent_over.result c.coherent_over.ensures
