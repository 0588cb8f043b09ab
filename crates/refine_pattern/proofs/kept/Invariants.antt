-- What is left to test is the chain from the point reached, along the axes from place i on. Assumes nothing.
use mathlib.Core.Path.{◌≡◌}
use Prim.Native.Nat.{◌≤◌}
use lib.ListN.{length, take, drop}
use Rattle.multiindex.specs.Permutation.{order_of}
use Rattle.refine_lattice.specs.Lattice.{chain}
use Rattle.refine_pattern.specs.WorkChains.{keeps}
use Rattle.refine_pattern.proofs.kept.Given as goal

abbrev pub invariant-loop-i : goal.invariant-loop-i
invariant-loop-i l = (l.d ≤ length l.s) × (keeps l.r (chain (take l.d l.initial.s) (order_of l.d l.k)) ≡ keeps l.r (chain (take l.d l.s) (drop l.i (order_of l.d l.k))))
