-- `skeleton::list_edges` meets its contract: 7 first, then the rows that are named are the edges of the cells. Assumes nothing.
use Rattle.skeleton.proofs.Steps.{still, as-cells, making, edging, edges-of, worked-crowded, worked-rest}
use Rattle.complex_cells.proofs.Named.{named_flat, named-many}
use mathlib.Core.Path.{◌∙◌}
use Rattle.skeleton.proofs.list_edges.Goals as goal

pub sound-requires : goal.sound-requires
sound-requires c = as-cells c.args.d c.args.words.now c.args.keys.now c.args.rows.now c.args.spare.now c.args.counts.now c.requires

pub returns-then-not-sound : goal.returns-then-not-sound
returns-then-not-sound c = worked-crowded c.args.d c.args.words.now c.sound.result c.sound.ensures _ c.args.out.now (c.if-not-sound.true)

pub cells-m-requires : goal.cells-m-requires
cells-m-requires c = making c.args.d c.args.words.now c.sound.new.keys c.sound.new.rows c.sound.new.spare c.sound.new.counts (as-cells c.args.d c.args.words.now c.sound.new.keys c.sound.new.rows c.sound.new.spare c.sound.new.counts (still _ c.args.d c.args.words.now c.args.keys.now c.args.rows.now c.args.spare.now c.args.counts.now c.sound.new.keys c.sound.new.rows c.sound.new.spare c.sound.new.counts c.sound.auto.keys c.sound.auto.rows c.sound.auto.spare c.sound.auto.counts c.requires))

pub edges-e-requires : goal.edges-e-requires
edges-e-requires c = edging c.args.d c.args.words.now c.sound.new.keys c.sound.new.rows c.sound.new.spare c.sound.new.counts (still _ c.args.d c.args.words.now c.args.keys.now c.args.rows.now c.args.spare.now c.args.counts.now c.sound.new.keys c.sound.new.rows c.sound.new.spare c.sound.new.counts c.sound.auto.keys c.sound.auto.rows c.sound.auto.spare c.sound.auto.counts c.requires) c.cells-m.result c.cells-m.new.keys c.cells-m.new.rows c.cells-m.new.spare c.cells-m.new.counts c.cells-m.auto.keys c.cells-m.auto.rows c.cells-m.auto.spare c.cells-m.auto.counts c.cells-m.ensures

pub hand_rows-requires : goal.hand_rows-requires
hand_rows-requires c = (edges-of c.args.d c.args.words.now c.sound.new.keys c.sound.new.rows c.sound.new.spare c.sound.new.counts (still _ c.args.d c.args.words.now c.args.keys.now c.args.rows.now c.args.spare.now c.args.counts.now c.sound.new.keys c.sound.new.rows c.sound.new.spare c.sound.new.counts c.sound.auto.keys c.sound.auto.rows c.sound.auto.spare c.sound.auto.counts c.requires) c.cells-m.result c.edges-e.result c.cells-m.new.rows c.edges-e.new.keys c.edges-e.new.spare c.cells-m.ensures c.edges-e.ensures).rows

pub shape_of-keys : goal.shape_of-keys
shape_of-keys c = c.edges-e.auto.keys ∙ (c.cells-m.auto.keys ∙ c.sound.auto.keys)

pub shape_of-rows : goal.shape_of-rows
shape_of-rows c = c.edges-e.auto.rows ∙ (c.cells-m.auto.rows ∙ c.sound.auto.rows)

pub shape_of-spare : goal.shape_of-spare
shape_of-spare c = c.edges-e.auto.spare ∙ (c.cells-m.auto.spare ∙ c.sound.auto.spare)

pub returns : goal.returns
returns c = let n = edges-of c.args.d c.args.words.now c.sound.new.keys c.sound.new.rows c.sound.new.spare c.sound.new.counts (still _ c.args.d c.args.words.now c.args.keys.now c.args.rows.now c.args.spare.now c.args.counts.now c.sound.new.keys c.sound.new.rows c.sound.new.spare c.sound.new.counts c.sound.auto.keys c.sound.auto.rows c.sound.auto.spare c.sound.auto.counts c.requires) c.cells-m.result c.edges-e.result c.cells-m.new.rows c.edges-e.new.keys c.edges-e.new.spare c.cells-m.ensures c.edges-e.ensures in worked-rest c.args.d c.args.words.now c.sound.result c.sound.ensures _ c.hand_rows.result c.args.out.now _ (c.if-not-sound.false) (c.hand_rows.ensures _ (named_flat _ _ _ _ _ n) (named-many _ _ _ _ _ n))
