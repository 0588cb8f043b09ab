-- `ordering_records::agree_at` meets its contract: by its tests. Assumes nothing.
use Rattle.ordering_records.proofs.Tags.{agree-none, agree-yes, agree-no, asked-at}
use mathlib.Core.Path.{refl}
use Rattle.ordering_records.proofs.agree_at.Goals as goal

pub returns-then-y-eq-NONE : goal.returns-then-y-eq-NONE
returns-then-y-eq-NONE c = agree-none c.args.d c.args.k c.args.m c.args.list.now c.args.x c.args.y c.if-y-eq-NONE.true

pub row_agrees-requires : goal.row_agrees-requires
row_agrees-requires c = asked-at c.args.d c.args.k c.args.m c.args.list.now c.args.x c.args.y c.args.x c.args.y refl refl c.if-y-eq-NONE.false c.requires

pub returns-then-row_agrees : goal.returns-then-row_agrees
returns-then-row_agrees c = agree-yes c.args.d c.args.k c.args.m c.args.list.now c.args.x c.args.y c.if-y-eq-NONE.false c.args.x c.args.y refl refl c.row_agrees.result c.row_agrees.ensures c.if-row_agrees.true

pub returns : goal.returns
returns c = agree-no c.args.d c.args.k c.args.m c.args.list.now c.args.x c.args.y c.if-y-eq-NONE.false c.args.x c.args.y refl refl c.row_agrees.result c.row_agrees.ensures c.if-row_agrees.false
