-- What the calls on grids need of their working lists keeps document 01's bound: at most 32 numbers for each corner of the words, plus 16,384. Assumes nothing.
use Rattle.refusal.specs.Says.{fine}
use mathlib.Core.Path.{◌≡◌, refl}
use Prim.Native.Nat.{ℕ, suc, ◌+◌, ◌*◌, ◌≤◌, suc-le-suc}
use native.Mathlib.Nat.{mul_assoc, mul-le-mul_left}
use native.Mathlib.Omega.{arith}
use lib.Dec.{leb}
use borrow.Author.Tests.{leb-true}
use Rattle.multiindex.proofs.Tables.{at-below}
use Rattle.quotient.specs.declared.Grid.{Grid}
use Rattle.quotient.specs.Shape.{check_of, sides_check_of, cell_count}
use Rattle.quotient.proofs.Taken.{sides-taken}
use Rattle.grid_words.proofs.Corners.{dim}
use Rattle.grid_mesh.specs.Words.{corners_of, grid_need}
use Rattle.ordering.specs.Promise.{order_need}
use Rattle.grid_order.specs.Promise.{triangulated_room, order_room}
use Rattle.grid_lengths.specs.Edges.{edges_each}
use Rattle.grid_lengths.specs.Lengths.{lengths_need}
use Rattle.grid_laws.specs.Counts.{KeepsBound}
use Rattle.skeleton.proofs.Steps.{room_most}
use Rattle.skeleton.proofs.Laws.{sum, need-bound}

-- a call on an order of words with n corners
pub order-bound : (n : ℕ) → sum (order_need n) ≤ 32 * n + 16384
order-bound n = omega arith

triangulated-bound : (d n : ℕ) → d ≤ 3 → sum (triangulated_room d n) ≤ 32 * n + 16384
triangulated-bound d n h = omega (arith, room_most d n h)

-- at most three ends of edges for each corner
ends-most : (d : ℕ) → d ≤ 3 → edges_each d * 2 ≤ suc d * 3
ends-most d h = leb-true (edges_each d * 2) (suc d * 3) (at-below 4 (λ d. leb (edges_each d * 2) (suc d * 3)) refl d (suc-le-suc h))

-- the calls `cell_words`, `triangulate_ordered` and `edge_lengths_sq` on a grid that is taken
pub words-bound : (g : Grid) → check_of g ≡ fine → KeepsBound g (grid_need g)
words-bound g taken = need-bound g.d (corners_of g) (dim g taken)

pub ordered-bound : (g : Grid) → check_of g ≡ fine → KeepsBound g (order_room g)
ordered-bound g taken = triangulated-bound g.d (corners_of g) (dim g taken)

pub lengths-bound : (g : Grid) → sides_check_of g ≡ fine → KeepsBound g (lengths_need g)
lengths-bound g taken =
    omega (
      arith,
      mul-le-mul_left (cell_count g) (ends-most g.d (dim g (sides-taken g taken))),
      mul_assoc (cell_count g) (edges_each g.d) 2,
      mul_assoc (cell_count g) (suc g.d) 3,
    )
