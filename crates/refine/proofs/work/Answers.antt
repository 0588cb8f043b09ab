-- `refine::work` meets its contract: each call asks what the calls before it gave (proofs/Steps). Assumes nothing.
use mathlib.Core.Path.{◌∙◌}
use Rattle.refusal.proofs.Chain.{passed_on}
use Rattle.refine.specs.WorkReading.{OrderedBy, words_along}
use Rattle.refine.proofs.Steps.{making, readied, worked-unread, worked-finished}
use Rattle.refine.proofs.work.Goals as goal

pub read-requires : goal.read-requires
read-requires c =
    making c.args.d c.args.given.now c.requires.passed c.args.r c.args.cells.now c.args.along.now c.args.pattern.now c.args.keys.now c.args.rows.now c.args.spare.now c.args.counts.now c.args.sorted.now c.args.firsts.now c.args.buckets.now c.requires

pub vertices-n-requires : goal.vertices-n-requires
vertices-n-requires c = c.requires.passed.low

pub refined-requires : goal.refined-requires
refined-requires c =
    readied c.args.d c.args.r c.args.given.now (OrderedBy c.args.with_order c.args.d c.args.given.now c.args.order.now) (words_along c.args.with_order c.args.d c.args.given.now c.args.order.now) c.args.cells.now c.args.along.now c.args.pattern.now c.args.keys.now c.args.rows.now c.args.spare.now c.args.counts.now c.args.sorted.now c.args.firsts.now c.args.buckets.now c.requires c.read.new.cells c.read.new.along c.read.new.keys c.read.new.rows c.read.new.spare c.read.new.counts c.in_ok-m.m c.in_ok-m.ensures c.vertices-n.result c.vertices-n.ensures c.read.auto.keys c.read.auto.rows c.read.auto.spare c.read.auto.counts

pub returns-in_err-m : goal.returns-in_err-m
returns-in_err-m c =
    rw (passed_on c.from_residual.ensures.1)
    (worked-unread c.args.d c.args.r c.args.given.now (OrderedBy c.args.with_order c.args.d c.args.given.now c.args.order.now) (words_along c.args.with_order c.args.d c.args.given.now c.args.order.now) c.args.cells.now c.args.along.now c.args.pattern.now c.args.keys.now c.args.rows.now c.args.spare.now c.args.counts.now c.args.sorted.now c.args.firsts.now c.args.buckets.now c.requires c.read.new.cells c.read.new.along c.read.new.keys c.read.new.rows c.read.new.spare c.read.new.counts _ c.in_err-m.ensures c.args.out_cells.now c.args.out_words.now c.args.parents.now c.args.jacobians.now c.args.wholes.now c.args.birth_vertices.now c.args.birth_weights.now c.args.birth_shares.now)

pub shape_of-out_cells : goal.shape_of-out_cells
shape_of-out_cells c = c.refined.auto.out_cells

pub shape_of-out_words : goal.shape_of-out_words
shape_of-out_words c = c.refined.auto.out_words

pub shape_of-parents : goal.shape_of-parents
shape_of-parents c = c.refined.auto.parents

pub shape_of-jacobians : goal.shape_of-jacobians
shape_of-jacobians c = c.refined.auto.jacobians

pub shape_of-wholes : goal.shape_of-wholes
shape_of-wholes c = c.refined.auto.wholes

pub shape_of-birth_vertices : goal.shape_of-birth_vertices
shape_of-birth_vertices c = c.refined.auto.birth_vertices

pub shape_of-birth_weights : goal.shape_of-birth_weights
shape_of-birth_weights c = c.refined.auto.birth_weights

pub shape_of-birth_shares : goal.shape_of-birth_shares
shape_of-birth_shares c = c.refined.auto.birth_shares

pub shape_of-cells : goal.shape_of-cells
shape_of-cells c = c.read.auto.cells

pub shape_of-along : goal.shape_of-along
shape_of-along c = c.read.auto.along

pub shape_of-pattern : goal.shape_of-pattern
shape_of-pattern c = c.refined.auto.pattern

pub shape_of-keys : goal.shape_of-keys
shape_of-keys c = c.refined.auto.keys ∙ c.read.auto.keys

pub shape_of-rows : goal.shape_of-rows
shape_of-rows c = c.refined.auto.rows ∙ c.read.auto.rows

pub shape_of-spare : goal.shape_of-spare
shape_of-spare c = c.refined.auto.spare ∙ c.read.auto.spare

pub shape_of-counts : goal.shape_of-counts
shape_of-counts c = c.refined.auto.counts ∙ c.read.auto.counts

pub shape_of-sorted : goal.shape_of-sorted
shape_of-sorted c = c.refined.auto.sorted

pub shape_of-firsts : goal.shape_of-firsts
shape_of-firsts c = c.refined.auto.firsts

pub shape_of-buckets : goal.shape_of-buckets
shape_of-buckets c = c.refined.auto.buckets

pub returns : goal.returns
returns c =
    worked-finished c.args.d c.args.r c.args.given.now (OrderedBy c.args.with_order c.args.d c.args.given.now c.args.order.now) (words_along c.args.with_order c.args.d c.args.given.now c.args.order.now) c.args.cells.now c.args.along.now c.args.pattern.now c.args.keys.now c.args.rows.now c.args.spare.now c.args.counts.now c.args.sorted.now c.args.firsts.now c.args.buckets.now c.requires c.read.new.cells c.read.new.along c.read.new.keys c.read.new.rows c.read.new.spare c.read.new.counts c.in_ok-m.m c.in_ok-m.ensures c.vertices-n.result c.vertices-n.ensures c.refined.result c.args.out_cells.now c.args.out_words.now c.args.parents.now c.args.jacobians.now c.args.wholes.now c.args.birth_vertices.now c.args.birth_weights.now c.args.birth_shares.now c.refined.new.out_cells c.refined.new.out_words c.refined.new.parents c.refined.new.jacobians c.refined.new.wholes c.refined.new.birth_vertices c.refined.new.birth_weights c.refined.new.birth_shares c.refined.ensures
