-- `complex_mates::facet` meets its contract. The loop's invariant: the first j numbers are those of the facet. Assumes nothing.
use Rattle.complex.specs.Facets.{facet_at}
use mathlib.Core.Path.{◌≡◌}
use mathlib.Core.List.{◌++◌}
use Prim.Native.Nat.{◌≤◌}
use lib.ListN.{length, take, drop}
use Rattle.complex_mates.proofs.facet.Given as goal

abbrev pub invariant-loop-j : goal.invariant-loop-j
invariant-loop-j l = (l.j ≤ length l.initial.to) × (l.to ≡ take l.j (facet_at l.w l.skip) ++ drop l.j l.initial.to) × (length l.to ≡ length l.initial.to)
