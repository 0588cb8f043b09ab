-- `complex_edges::pair_rows` meets its contract. The loop's invariant: the first x pairs are written. Assumes nothing.
use Rattle.complex_edges.specs.WorkPairs.{PairAt}
use Prim.Native.Nat.{ℕ, ◌<◌}
use Rattle.complex_edges.proofs.pair_rows.Given as goal

abbrev pub invariant-loop-x : goal.invariant-loop-x
invariant-loop-x l = (y : ℕ) → y < l.x → PairAt l.d l.cells l.keys y
