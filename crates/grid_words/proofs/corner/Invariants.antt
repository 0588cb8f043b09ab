-- `grid_words::corner` meets its contract. The invariant: v is corner i. Assumes nothing.
use mathlib.Core.Path.{◌≡◌}
use Rattle.grid_words.specs.WorkNumbered.{corner_of}
use Rattle.grid_words.proofs.corner.Given as goal

abbrev pub invariant-loop-i : goal.invariant-loop-i
invariant-loop-i l = l.v ≡ corner_of l.grid l.x l.i
