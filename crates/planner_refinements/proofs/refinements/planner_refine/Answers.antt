-- `planner_refinements::refinements::planner_refine` meets its contract: the answer is the call's. Assumes nothing.
use Rattle.planner_refinements.proofs.refinements.planner_refine.Goals as goal

pub shape_of-out_cells : goal.shape_of-out_cells
shape_of-out_cells c = c.refine-made.auto.out_cells

pub shape_of-out_words : goal.shape_of-out_words
shape_of-out_words c = c.refine-made.auto.out_words

pub shape_of-parents : goal.shape_of-parents
shape_of-parents c = c.refine-made.auto.parents

pub shape_of-jacobians : goal.shape_of-jacobians
shape_of-jacobians c = c.refine-made.auto.jacobians

pub shape_of-wholes : goal.shape_of-wholes
shape_of-wholes c = c.refine-made.auto.wholes

pub shape_of-birth_vertices : goal.shape_of-birth_vertices
shape_of-birth_vertices c = c.refine-made.auto.birth_vertices

pub shape_of-birth_weights : goal.shape_of-birth_weights
shape_of-birth_weights c = c.refine-made.auto.birth_weights

pub shape_of-birth_shares : goal.shape_of-birth_shares
shape_of-birth_shares c = c.refine-made.auto.birth_shares

pub shape_of-cells : goal.shape_of-cells
shape_of-cells c = c.refine-made.auto.cells

pub shape_of-along : goal.shape_of-along
shape_of-along c = c.refine-made.auto.along

pub shape_of-pattern : goal.shape_of-pattern
shape_of-pattern c = c.refine-made.auto.pattern

pub shape_of-keys : goal.shape_of-keys
shape_of-keys c = c.refine-made.auto.keys

pub shape_of-rows : goal.shape_of-rows
shape_of-rows c = c.refine-made.auto.rows

pub shape_of-spare : goal.shape_of-spare
shape_of-spare c = c.refine-made.auto.spare

pub shape_of-counts : goal.shape_of-counts
shape_of-counts c = c.refine-made.auto.counts

pub shape_of-sorted : goal.shape_of-sorted
shape_of-sorted c = c.refine-made.auto.sorted

pub shape_of-firsts : goal.shape_of-firsts
shape_of-firsts c = c.refine-made.auto.firsts

pub shape_of-buckets : goal.shape_of-buckets
shape_of-buckets c = c.refine-made.auto.buckets

pub returns : goal.returns
returns c = record { answer = c.refine-made.result; coded = c.refined.ensures.value; meets = (c.refine-made.ensures, c.refined.ensures.vertices_after) }
