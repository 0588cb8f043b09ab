-- `replay_towers::calls::by_numbers` meets its contract: the lists have the lengths that are written, and keep them. Assumes nothing.
use Rattle.replay_towers.proofs.calls.by_numbers.Goals as goal

pub shape_of-cells : goal.shape_of-cells
shape_of-cells c = c.refine.auto.out_cells

pub shape_of-words : goal.shape_of-words
shape_of-words c = c.refine.auto.out_words

pub shape_of-vertices : goal.shape_of-vertices
shape_of-vertices c = c.refine.auto.birth_vertices

pub shape_of-weights : goal.shape_of-weights
shape_of-weights c = c.refine.auto.birth_weights
