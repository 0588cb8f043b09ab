-- `grid_chained_mesh::hand_words` meets its contract: a grid has one list of words (proofs/Steps). Assumes nothing.
use Rattle.grid_chained_mesh.proofs.Steps.{points-fit, handed}
use lib.Seq.{length-take-le}
use mathlib.Core.Path.{sym, ◌∙◌}
use Rattle.grid_chained_mesh.proofs.hand_words.Goals as goal

pub slice_bounds-lay_words-end : goal.slice_bounds-lay_words-end
slice_bounds-lay_words-end c = points-fit c.args.grid c.requires.taken _ c.args.room.now c.points-n.ensures c.requires.points

pub slice_bounds-lay_words-end-2 : goal.slice_bounds-lay_words-end-2
slice_bounds-lay_words-end-2 c = sym (length-take-le _ _ (points-fit c.args.grid c.requires.taken _ c.args.room.now c.points-n.ensures c.requires.points))

pub lay_words-requires : goal.lay_words-requires
lay_words-requires c = record { taken = c.requires.taken; long = c.requires.long; each = length-take-le _ _ (points-fit c.args.grid c.requires.taken _ c.args.room.now c.points-n.ensures c.requires.points) ∙ c.points-n.ensures }

pub returns : goal.returns
returns c = handed c.args.grid c.lay_words.result _ c.lay_words.ensures
