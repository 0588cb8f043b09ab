-- `skeleton::work` meets its contract: the part asked for. Assumes nothing.
use Rattle.skeleton.specs.Work.{Working, Worked}
use Rattle.skeleton.specs.Parts.{need_for, words_for}
use Rattle.skeleton.specs.declared.Part.{Part}
use Rattle.complex.specs.Cells.{cells_of}
use lib.ListN.{length}
use mathlib.Core.Path.{sym, subst}
use Rattle.skeleton.proofs.work.Goals as goal

pub list_cells-requires : goal.list_cells-requires
list_cells-requires c = subst (λ (p : Part). Working (need_for p c.args.d (length c.args.words.now)) c.args.d c.args.words.now c.args.keys.now c.args.rows.now c.args.spare.now c.args.counts.now) c.in-Cells.is c.requires

pub list_edges-requires : goal.list_edges-requires
list_edges-requires c = subst (λ (p : Part). Working (need_for p c.args.d (length c.args.words.now)) c.args.d c.args.words.now c.args.keys.now c.args.rows.now c.args.spare.now c.args.counts.now) c.in-Edges.is c.requires

pub list_border-requires : goal.list_border-requires
list_border-requires c = subst (λ (p : Part). Working (need_for p c.args.d (length c.args.words.now)) c.args.d c.args.words.now c.args.keys.now c.args.rows.now c.args.spare.now c.args.counts.now) c.in-Border.is c.requires

pub returns-in-Cells : goal.returns-in-Cells
returns-in-Cells c = subst (λ (p : Part). Worked c.args.d c.args.words.now (words_for p c.args.d (cells_of c.args.d c.args.words.now)) c.list_cells.result c.args.out.now c.list_cells.new.out) (sym c.in-Cells.is) c.list_cells.ensures

pub returns-in-Edges : goal.returns-in-Edges
returns-in-Edges c = subst (λ (p : Part). Worked c.args.d c.args.words.now (words_for p c.args.d (cells_of c.args.d c.args.words.now)) c.list_edges.result c.args.out.now c.list_edges.new.out) (sym c.in-Edges.is) c.list_edges.ensures

pub returns-in-Border : goal.returns-in-Border
returns-in-Border c = subst (λ (p : Part). Worked c.args.d c.args.words.now (words_for p c.args.d (cells_of c.args.d c.args.words.now)) c.list_border.result c.args.out.now c.list_border.new.out) (sym c.in-Border.is) c.list_border.ensures
