-- `grid_words::write_boxes` meets its contract (proofs/Moved). The invariant: the first i numbers are written, i is number r of box b, and b is number x of a row of axis 0. Assumes nothing.
use Rattle.grid_words.proofs.Moved.{Walking}
use Rattle.grid_words.proofs.write_boxes.Given as goal

abbrev pub invariant-loop-i : goal.invariant-loop-i
invariant-loop-i l = Walking l.grid l.reach l.initial.to l.to l.origin_at l.b l.x l.r l.i
