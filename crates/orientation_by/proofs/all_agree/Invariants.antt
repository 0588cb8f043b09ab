-- `orientation_by::all_agree` meets its contract. The loop's invariant: the first x slots agree. Assumes nothing.
use Prim.Native.Nat.{ℕ, ◌<◌}
use Rattle.orientation_by.specs.WorkTest.{AgreesAt}
use Rattle.orientation_by.proofs.all_agree.Given as goal

abbrev pub invariant-loop-x : goal.invariant-loop-x
invariant-loop-x l = (y : ℕ) → y < l.x → AgreesAt l.k l.other l.flip l.marks y
