-- `refine::refine_with` meets its contract: it is one of the two calls of `refinement`. Assumes nothing.
use Rattle.refine.proofs.refine_with_by_steps.Goals as goal

pub shape_of-out_cells : goal.shape_of-out_cells
shape_of-out_cells c = c.refinement.auto.out_cells

pub shape_of-out_words : goal.shape_of-out_words
shape_of-out_words c = c.refinement.auto.out_words

pub shape_of-parents : goal.shape_of-parents
shape_of-parents c = c.refinement.auto.parents

pub shape_of-jacobians : goal.shape_of-jacobians
shape_of-jacobians c = c.refinement.auto.jacobians

pub shape_of-wholes : goal.shape_of-wholes
shape_of-wholes c = c.refinement.auto.wholes

pub shape_of-birth_vertices : goal.shape_of-birth_vertices
shape_of-birth_vertices c = c.refinement.auto.birth_vertices

pub shape_of-birth_weights : goal.shape_of-birth_weights
shape_of-birth_weights c = c.refinement.auto.birth_weights

pub shape_of-birth_shares : goal.shape_of-birth_shares
shape_of-birth_shares c = c.refinement.auto.birth_shares

pub shape_of-cells : goal.shape_of-cells
shape_of-cells c = c.refinement.auto.cells

pub shape_of-along : goal.shape_of-along
shape_of-along c = c.refinement.auto.along

pub shape_of-pattern : goal.shape_of-pattern
shape_of-pattern c = c.refinement.auto.pattern

pub shape_of-keys : goal.shape_of-keys
shape_of-keys c = c.refinement.auto.keys

pub shape_of-rows : goal.shape_of-rows
shape_of-rows c = c.refinement.auto.rows

pub shape_of-spare : goal.shape_of-spare
shape_of-spare c = c.refinement.auto.spare

pub shape_of-counts : goal.shape_of-counts
shape_of-counts c = c.refinement.auto.counts

pub shape_of-sorted : goal.shape_of-sorted
shape_of-sorted c = c.refinement.auto.sorted

pub shape_of-firsts : goal.shape_of-firsts
shape_of-firsts c = c.refinement.auto.firsts

pub shape_of-buckets : goal.shape_of-buckets
shape_of-buckets c = c.refinement.auto.buckets
