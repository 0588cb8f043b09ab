-- `word_of` meets its contract: the part of the list that counts. Assumes nothing.
use Rattle.refine_values.proofs.Laws.{word-order, word_cell}
use Rattle.refine_values.proofs.word_of.Goals as goal

pub returns-then-given : goal.returns-then-given
returns-then-given c = word-order c.args.given c.if-given.true c.args.d c.args.number c.args.cells.now c.args.order.now _ c.word_in.ensures

pub returns : goal.returns
returns c = word_cell c.args.given c.if-given.false c.args.d c.args.number c.args.cells.now c.args.order.now _ c.word_in-2.ensures
