-- `grid_lengths::hand_each` meets its contract. The invariant: the first i lengths are written. Assumes nothing.
use mathlib.Core.Path.{◌≡◌}
use mathlib.Core.List.{◌++◌}
use Prim.Native.Nat.{◌-◌}
use lib.ListN.{length, get_or, take, drop}
use Rattle.lists.specs.Tables.{tab}
use Rattle.grid_lengths.specs.Edges.{square_at}
use Rattle.grid_lengths.proofs.hand_each.Given as goal

abbrev pub invariant-loop-i : goal.invariant-loop-i
invariant-loop-i l = l.lengths ≡ take l.i (tab (length l.initial.lengths) (λ k. square_at l.grid (get_or l.last k 0 - 1))) ++ drop l.i l.initial.lengths
