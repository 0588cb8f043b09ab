-- `refine_births::write_births` meets its contract. The loop's invariant: the rows of the first b births are written. Assumes nothing.
use mathlib.Core.Path.{◌≡◌}
use mathlib.Core.List.{List}
use Prim.Native.Nat.{ℕ}
use lib.ListN.{length}
use Rattle.refine_births.specs.Promise.{Supports}
use Rattle.refine_births.proofs.Bear.{Borne}
use Rattle.refine_births.proofs.write_births.Given as goal

abbrev pub invariant-loop-b : goal.invariant-loop-b
invariant-loop-b l = (length l.vertices ≡ length l.initial.vertices) × (length l.weights ≡ length l.initial.weights) × ((bs : List (List ℕ)) → Supports l.size l.n l.count bs l.keys l.fresh → Borne l.size l.b bs l.vertices l.weights)
