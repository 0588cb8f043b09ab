-- `refine::cleared` meets its contract: the work's end stands, and the lists keep their lengths until they are cleared. Assumes nothing.
use mathlib.Core.Path.{◌∙◌}
use Rattle.refine.proofs.Entry.{ten-along}
use Rattle.refine.proofs.cleared.Goals as goal

pub shape_of-out_cells : goal.shape_of-out_cells
shape_of-out_cells c = c.work-said.auto.out_cells

pub shape_of-out_words : goal.shape_of-out_words
shape_of-out_words c = c.work-said.auto.out_words

pub shape_of-parents : goal.shape_of-parents
shape_of-parents c = c.work-said.auto.parents

pub shape_of-jacobians : goal.shape_of-jacobians
shape_of-jacobians c = c.work-said.auto.jacobians

pub shape_of-wholes : goal.shape_of-wholes
shape_of-wholes c = c.work-said.auto.wholes

pub shape_of-birth_vertices : goal.shape_of-birth_vertices
shape_of-birth_vertices c = c.work-said.auto.birth_vertices

pub shape_of-birth_weights : goal.shape_of-birth_weights
shape_of-birth_weights c = c.work-said.auto.birth_weights

pub shape_of-birth_shares : goal.shape_of-birth_shares
shape_of-birth_shares c = c.work-said.auto.birth_shares

pub shape_of-cells : goal.shape_of-cells
shape_of-cells c = c.clear_ten.auto.cells ∙ c.work-said.auto.cells

pub shape_of-along : goal.shape_of-along
shape_of-along c = c.clear_ten.auto.along ∙ c.work-said.auto.along

pub shape_of-pattern : goal.shape_of-pattern
shape_of-pattern c = c.clear_ten.auto.pattern ∙ c.work-said.auto.pattern

pub shape_of-keys : goal.shape_of-keys
shape_of-keys c = c.clear_ten.auto.keys ∙ c.work-said.auto.keys

pub shape_of-rows : goal.shape_of-rows
shape_of-rows c = c.clear_ten.auto.rows ∙ c.work-said.auto.rows

pub shape_of-spare : goal.shape_of-spare
shape_of-spare c = c.clear_ten.auto.spare ∙ c.work-said.auto.spare

pub shape_of-counts : goal.shape_of-counts
shape_of-counts c = c.clear_ten.auto.counts ∙ c.work-said.auto.counts

pub shape_of-sorted : goal.shape_of-sorted
shape_of-sorted c = c.clear_ten.auto.sorted ∙ c.work-said.auto.sorted

pub shape_of-firsts : goal.shape_of-firsts
shape_of-firsts c = c.clear_ten.auto.firsts ∙ c.work-said.auto.firsts

pub shape_of-buckets : goal.shape_of-buckets
shape_of-buckets c = c.clear_ten.auto.buckets ∙ c.work-said.auto.buckets

pub returns : goal.returns
returns c = record { work = c.work-said.ensures; room = ten-along _ _ _ _ _ _ _ _ _ _ _ _ _ _ _ _ _ _ _ _ _ _ _ _ _ _ _ _ _ _ c.work-said.auto.cells c.work-said.auto.along c.work-said.auto.pattern c.work-said.auto.keys c.work-said.auto.rows c.work-said.auto.spare c.work-said.auto.counts c.work-said.auto.sorted c.work-said.auto.firsts c.work-said.auto.buckets c.clear_ten.ensures }
