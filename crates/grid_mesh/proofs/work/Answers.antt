-- `grid_mesh::work` meets its contract: each call asks what the calls before it gave (proofs/Steps). Assumes nothing.
use mathlib.Core.Path.{sym, ◌∙◌}
use native.Mathlib.Omega.{arith}
use lib.Seq.{length-take-le}
use Rattle.grid_words.proofs.Moved.{points-corners}
use Rattle.grid_mesh.proofs.Steps.{corners-few, corners-are, count-few, worked-crowded, worked-short, worked-written}
use Rattle.grid_mesh.proofs.work.Goals as goal

pub crowded-requires : goal.crowded-requires
crowded-requires c = c.requires

pub returns-then-crowded : goal.returns-then-crowded
returns-then-crowded c = worked-crowded c.args.grid c.requires.taken _ c.crowded.ensures c.if-crowded.true c.args.words.now

pub cells-count-requires : goal.cells-count-requires
cells-count-requires c = c.requires.taken

pub overflow_mul-len : goal.overflow_mul-len
overflow_mul-len c = omega (arith, corners-few c.args.grid c.requires.taken, corners-are c.args.grid c.requires.taken _ c.cells-count.ensures)

pub returns-then-words-len : goal.returns-then-words-len
returns-then-words-len c = worked-short c.args.grid c.requires.taken _ c.crowded.ensures c.if-crowded.false c.args.words.now _ (corners-are c.args.grid c.requires.taken _ c.cells-count.ensures) c.if-words-len.true

pub slice_bounds-write_words-end-2 : goal.slice_bounds-write_words-end-2
slice_bounds-write_words-end-2 c = sym (length-take-le _ _ c.if-words-len.false)

pub write_words-requires : goal.write_words-requires
write_words-requires c = record { taken = c.requires.taken; words_long = length-take-le _ _ c.if-words-len.false ∙ corners-are c.args.grid c.requires.taken _ c.cells-count.ensures; table_long = omega (arith, points-corners c.args.grid c.requires.taken, c.crowded.auto.rows, c.requires.rows_long) }

pub overflow_cast-result : goal.overflow_cast-result
overflow_cast-result c = omega (arith, count-few c.args.grid c.requires.taken _ c.cells-count.ensures)

pub returns : goal.returns
returns c = worked-written c.args.grid c.requires.taken _ c.crowded.ensures c.if-crowded.false c.args.words.now c.write_words.new.words _ _ c.cells-count.ensures (corners-are c.args.grid c.requires.taken _ c.cells-count.ensures) c.if-words-len.false c.write_words.ensures
