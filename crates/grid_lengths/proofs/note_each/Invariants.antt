-- `grid_lengths::note_each` meets its contract. The invariant: the notes tell what the first r visits come to (proofs/Notes). Assumes nothing.
use Rattle.grid_lengths.proofs.Notes.{Noticed}
use Rattle.grid_lengths.proofs.note_each.Given as goal

abbrev pub invariant-loop-r : goal.invariant-loop-r
invariant-loop-r l = Noticed l.grid l.ids l.last l.r
