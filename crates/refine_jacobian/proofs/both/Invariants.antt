-- `refine_jacobian::both` meets its contract. The loop's invariant: the first e entries are written in both lists.
use mathlib.Core.Path.{◌≡◌}
use mathlib.Core.Bool.{cond}
use mathlib.Core.List.{◌++◌}
use Prim.Native.Nat.{◌*◌, ◌-◌, ◌/◌, ◌%◌, ◌≤◌}
use lib.Dec.{ltb}
use lib.IntN.{pos}
use lib.ListN.{length, drop}
use Rattle.refusal.specs.Limits.{square_most}
use Rattle.lists.specs.Tables.{tab}
use Rattle.refine_lattice.specs.Jacobian.{jacobian}
use Rattle.refine_jacobian.specs.Entries.{nought, float_step}
use Rattle.refine_jacobian.specs.WorkWeights.{weight_of}
use Rattle.refine_jacobian.proofs.both.Given as goal

abbrev pub invariant-loop-e : goal.invariant-loop-e
invariant-loop-e l =
    (l.whole ≡ tab l.e (λ k. cond (ltb k (l.d * l.d)) (jacobian (weight_of l.corners l.names l.word) l.parent l.cell (k / l.d) (k % l.d)) (pos 0)) ++ drop l.e l.initial.whole)
    × (l.float ≡ tab l.e (λ k. cond (ltb k (l.d * l.d)) (float_step l.r (weight_of l.corners l.names l.word) l.parent l.cell (k / l.d) (k % l.d)) nought) ++ drop l.e l.initial.float)
