-- `grid_lengths::told` meets its contract. Assumes nothing.
use Rattle.grid_lengths.proofs.Notes.{told-some}
use Rattle.grid_lengths.proofs.told.Goals as goal

pub returns-then-note-eq0 : goal.returns-then-note-eq0
returns-then-note-eq0 c = rw c.if-note-eq0.true

pub returns-else-note-eq0 : goal.returns-else-note-eq0
returns-else-note-eq0 c = told-some c.args.grid c.args.note _ c.if-note-eq0.false c.value.ensures
