-- `skeleton::list_border` meets its contract: the facets with no other row are the border. Assumes nothing.
use borrow.Author.Rules.{rules}
use Rattle.skeleton.proofs.Steps.{making, passing, border-crowded, loning, border-of, border-done}
use Rattle.complex_cells.proofs.Named.{named_flat, named-many}
use Rattle.skeleton.proofs.list_border.Goals as goal

pub cells-m-requires : goal.cells-m-requires
cells-m-requires c = making c.args.d c.args.words.now c.args.keys.now c.args.rows.now c.args.spare.now c.args.counts.now c.requires

pub facets-requires : goal.facets-requires
facets-requires c = passing c.args.d c.args.words.now c.args.keys.now c.args.rows.now c.args.spare.now c.args.counts.now c.requires c.cells-m.result c.cells-m.new.keys c.cells-m.new.rows c.cells-m.new.spare c.cells-m.new.counts c.cells-m.auto.keys c.cells-m.auto.rows c.cells-m.auto.spare c.cells-m.auto.counts c.cells-m.ensures

pub returns-in_default : goal.returns-in_default
returns-in_default c = border-crowded c.args.d c.args.words.now c.args.keys.now c.args.rows.now c.args.spare.now c.args.counts.now c.requires c.cells-m.result c.cells-m.new.keys c.cells-m.new.rows c.cells-m.new.spare c.cells-m.new.counts c.cells-m.auto.keys c.cells-m.auto.rows c.cells-m.auto.spare c.cells-m.auto.counts c.cells-m.ensures c.facets.result 0 c.facets.new.keys c.facets.new.rows c.facets.new.spare c.facets.new.counts c.facets.auto.rows c.facets.ensures c.args.out.now (search rules)

pub lone-j-requires : goal.lone-j-requires
lone-j-requires c = loning c.args.d c.args.words.now c.args.keys.now c.args.rows.now c.args.spare.now c.args.counts.now c.requires c.cells-m.result c.cells-m.new.keys c.cells-m.new.rows c.cells-m.new.spare c.cells-m.new.counts c.cells-m.auto.keys c.cells-m.auto.rows c.cells-m.auto.spare c.cells-m.auto.counts c.cells-m.ensures c.facets.result c.in-Some.f c.facets.new.keys c.facets.new.rows c.facets.new.spare c.facets.new.counts c.facets.auto.rows c.facets.ensures c.in-Some.is

pub hand_rows-requires : goal.hand_rows-requires
hand_rows-requires c = (border-of c.args.d c.args.words.now c.args.keys.now c.args.rows.now c.args.spare.now c.args.counts.now c.requires c.cells-m.result c.cells-m.new.keys c.cells-m.new.rows c.cells-m.new.spare c.cells-m.new.counts c.cells-m.auto.keys c.cells-m.auto.rows c.cells-m.auto.spare c.cells-m.auto.counts c.cells-m.ensures c.facets.result c.in-Some.f c.facets.new.keys c.facets.new.rows c.facets.new.spare c.facets.new.counts c.facets.auto.rows c.facets.ensures c.in-Some.is c.lone-j.result c.lone-j.new.to c.lone-j.ensures.0 c.lone-j.ensures.1).rows

pub returns : goal.returns
returns c = let n = border-of c.args.d c.args.words.now c.args.keys.now c.args.rows.now c.args.spare.now c.args.counts.now c.requires c.cells-m.result c.cells-m.new.keys c.cells-m.new.rows c.cells-m.new.spare c.cells-m.new.counts c.cells-m.auto.keys c.cells-m.auto.rows c.cells-m.auto.spare c.cells-m.auto.counts c.cells-m.ensures c.facets.result c.in-Some.f c.facets.new.keys c.facets.new.rows c.facets.new.spare c.facets.new.counts c.facets.auto.rows c.facets.ensures c.in-Some.is c.lone-j.result c.lone-j.new.to c.lone-j.ensures.0 c.lone-j.ensures.1 in border-done c.args.d c.args.words.now c.args.keys.now c.args.rows.now c.args.spare.now c.args.counts.now c.requires c.cells-m.result c.cells-m.new.keys c.cells-m.new.rows c.cells-m.new.spare c.cells-m.new.counts c.cells-m.auto.keys c.cells-m.auto.rows c.cells-m.auto.spare c.cells-m.auto.counts c.cells-m.ensures c.facets.result c.in-Some.f c.facets.new.keys c.facets.new.rows c.facets.new.spare c.facets.new.counts c.facets.auto.rows c.facets.ensures c.in-Some.is c.hand_rows.result c.args.out.now _ (c.hand_rows.ensures _ (named_flat _ _ _ _ _ n) (named-many _ _ _ _ _ n))
