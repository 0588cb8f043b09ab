-- `refine_births::number` meets its contract. The loop's invariant: the first x visits are numbered, the births among them are counted, and no class is numbered that was not met. Assumes nothing.
use mathlib.Core.List.{List}
use Prim.Native.Nat.{ℕ}
use Rattle.refine_births.specs.WorkNumbers.{Told}
use Rattle.refine_births.proofs.Numbering.{Scanned, Scanning, seen_by}
use Rattle.refine_births.proofs.number.Given as goal

abbrev pub invariant-loop-x : goal.invariant-loop-x
invariant-loop-x l = Scanning l.total l.initial.numbers l.initial.fresh l.initial.corners l.x l.count l.numbers l.fresh l.corners × ((points : List (List ℕ)) → Told l.size l.n l.total points l.keys l.initial.corners → Scanned l.n points l.initial.corners (seen_by points l.x) l.x l.count l.numbers l.fresh l.corners)
