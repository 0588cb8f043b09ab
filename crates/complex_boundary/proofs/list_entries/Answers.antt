-- `complex_boundary::list_entries` meets its contract: the faces, the classes of their facets, and then the entries (proofs/Entries). Assumes nothing.
use Rattle.complex_boundary.proofs.Entries.{entry-lists}
use Rattle.complex_boundary.proofs.list_entries.Goals as goal

pub returns : goal.returns
returns c =
    let r = c.reach-f in
    let q = c.classes-g in
    c.hand_entries.ensures _ (entry-lists c.args.d c.args.k c.args.words.now c.reach-f.result c.reach-f.new.keys c.reach-f.new.rows c.reach-f.new.spare c.reach-f.new.counts c.reach-f.ensures c.requires.1 c.requires.0.high c.classes-g.result c.classes-g.new.keys c.classes-g.new.spare c.classes-g.new.counts c.classes-g.ensures)
