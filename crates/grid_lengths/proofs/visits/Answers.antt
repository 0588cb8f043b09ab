-- `grid_lengths::visits` meets its contract. Assumes nothing.
use mathlib.Core.Path.{◌≡◌}
use Prim.Native.Nat.{◌*◌}
use native.Mathlib.Omega.{arith}
use Rattle.grid_lengths.proofs.Measuring.{dims, visits-few}
use Rattle.grid_lengths.specs.Edges.{visits_of}
use Rattle.grid_lengths.proofs.visits.Goals as goal

pub edges_each-requires : goal.edges_each-requires
edges_each-requires c = dims c.args.grid c.requires

pub overflow_mul-result : goal.overflow_mul-result
overflow_mul-result c = let e : c.cells.result * c.edges_each.result ≡ visits_of c.args.grid = rw (c.cells.ensures, c.edges_each.ensures) in omega (arith, visits-few c.args.grid c.requires)

pub returns : goal.returns
returns c = rw (c.cells.ensures, c.edges_each.ensures)
