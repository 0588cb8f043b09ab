-- `refine_results::ordered` meets its contract: it is one call of `refine_children::colex`, and no vertex reaches the sum. Assumes nothing.
use mathlib.Core.Path.{◌≡◌, sym, subst}
use Prim.Native.Nat.{ℕ, ◌+◌}
use native.Mathlib.Omega.{arith}
use Rattle.refine_children.specs.WorkColex.{Arranging}
use Rattle.refine_results.proofs.ordered.Goals as goal

pub overflow_add-n : goal.overflow_add-n
overflow_add-n c = omega (arith, c.requires.0)

pub colex-requires : goal.colex-requires
colex-requires c = c.requires.1
