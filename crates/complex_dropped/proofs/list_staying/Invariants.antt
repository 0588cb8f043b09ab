-- `complex_dropped::list_staying` meets its contract. The loop's invariant: of the first k words those whose cell is not marked are listed. Assumes nothing.
use mathlib.Core.Path.{◌≡◌}
use mathlib.Core.List.{◌++◌}
use lib.Dec.{eqb}
use lib.ListN.{length, get_or, drop}
use Rattle.complex.specs.Skeleton.{numbers}
use Rattle.complex_dropped.proofs.list_staying.Given as goal

abbrev pub invariant-loop-k : goal.invariant-loop-k
invariant-loop-k l = (l.j ≡ length (numbers (λ i. eqb (get_or l.marks (get_or l.ids i 0) 0) 0) l.k)) × (l.list ≡ numbers (λ i. eqb (get_or l.marks (get_or l.ids i 0) 0) 0) l.k ++ drop l.j l.initial.list)
