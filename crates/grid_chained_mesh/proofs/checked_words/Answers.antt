-- `grid_chained_mesh::checked_words` meets its contract: the check of a cell list can only say 4 of these words (proofs/Steps). Assumes nothing.
use Rattle.grid_chained_mesh.proofs.Steps.{points-fit, said, laid-words}
use Rattle.grid_chained_mesh.specs.Work.{many}
use lib.Seq.{length-take-le}
use native.Mathlib.Omega.{arith}
use mathlib.Core.Path.{sym, ◌∙◌}
use Rattle.grid_chained_mesh.proofs.checked_words.Goals as goal

pub slice_bounds-lay_words-end : goal.slice_bounds-lay_words-end
slice_bounds-lay_words-end c = points-fit c.args.grid c.requires.taken _ c.args.room.now c.points-n.ensures c.requires.points

pub slice_bounds-lay_words-end-2 : goal.slice_bounds-lay_words-end-2
slice_bounds-lay_words-end-2 c = sym (length-take-le _ _ (points-fit c.args.grid c.requires.taken _ c.args.room.now c.points-n.ensures c.requires.points))

pub lay_words-m-requires : goal.lay_words-m-requires
lay_words-m-requires c = record { taken = c.requires.taken; long = c.requires.long; each = length-take-le _ _ (points-fit c.args.grid c.requires.taken _ c.args.room.now c.points-n.ensures c.requires.points) ∙ c.points-n.ensures }

pub returns-then-m-gt-MOST_VERTICES : goal.returns-then-m-gt-MOST_VERTICES
returns-then-m-gt-MOST_VERTICES c = many _ _ c.lay_words-m.ensures.classes c.if-m-gt-MOST_VERTICES.true

pub returns : goal.returns
returns c = said c.args.grid c.requires.taken _ (laid-words _ _ _ c.lay_words-m.ensures (omega (arith, c.if-m-gt-MOST_VERTICES.false))) _ c.check_cells.ensures
