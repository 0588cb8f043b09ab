-- `grid_lengths::visits_each` meets its contract. Assumes nothing.
use Prim.Native.Nat.{ℕ, ◌*◌}
use native.Mathlib.Omega.{arith}
use mathlib.Core.Path.{ap₂}
use Rattle.grid_words.proofs.Corners.{dim}
use Rattle.grid_lengths.proofs.Measuring.{dims}
use Rattle.grid_lengths.proofs.Boxed.{each-visits-few}
use Rattle.grid_lengths.proofs.visits_each.Goals as goal

pub count-requires : goal.count-requires
count-requires c = dim c.args.grid c.requires

pub edges_each-requires : goal.edges_each-requires
edges_each-requires c = dims c.args.grid c.requires

pub overflow_mul-result : goal.overflow_mul-result
overflow_mul-result c = omega (arith, ap₂ (λ (a b : ℕ). a * b) c.count.ensures c.edges_each.ensures, each-visits-few c.args.grid c.requires)

pub returns : goal.returns
returns c = ap₂ (λ (a b : ℕ). a * b) c.count.ensures c.edges_each.ensures
