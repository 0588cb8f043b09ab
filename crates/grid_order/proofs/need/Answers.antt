-- `grid_order::need` meets its contract. Assumes nothing.
use mathlib.Core.Path.{◌≡◌, ap, ◌∙◌}
use Prim.Native.Nat.{ℕ, ◌+◌, ◌*◌, ◌<◌}
use native.Mathlib.Omega.{arith}
use Rattle.refusal.specs.Limits.{many_corners}
use Rattle.refusal.specs.declared.Room.{Room}
use Rattle.grid_mesh.proofs.Steps.{corners-few, corners-are}
use Rattle.grid_words.proofs.Corners.{dim}
use Rattle.grid_order.specs.Promise.{triangulated_room}
use Rattle.grid_order.proofs.Entry.{need-bound}
use Rattle.grid_order.proofs.need.Goals as goal

pub overflow_mul-len : goal.overflow_mul-len
overflow_mul-len c = let g = c.args.grid in omega (arith, corners-few g c.requires, corners-are g c.requires _ c.cells.ensures)

pub need-base-requires : goal.need-base-requires
need-base-requires c = let g = c.args.grid in (dim g c.requires, omega (arith, corners-few g c.requires, corners-are g c.requires _ c.cells.ensures))

pub overflow_add-result : goal.overflow_add-result
overflow_add-result c =
    let g = c.args.grid in
    let l : c.cells.result * (g.d + 1) < many_corners = omega (arith, corners-few g c.requires, corners-are g c.requires _ c.cells.ensures) in
    omega (arith, l, need-bound g.d (c.cells.result * (g.d + 1)) (dim g c.requires) l, ap (λ (r : Room). r.keys) c.need-base.ensures)

pub overflow_add-result-2 : goal.overflow_add-result-2
overflow_add-result-2 c =
    let g = c.args.grid in
    let l : c.cells.result * (g.d + 1) < many_corners = omega (arith, corners-few g c.requires, corners-are g c.requires _ c.cells.ensures) in
    omega (arith, l, need-bound g.d (c.cells.result * (g.d + 1)) (dim g c.requires) l, ap (λ (r : Room). r.keys) c.need-base.ensures)

pub returns : goal.returns
returns c =
    let g = c.args.grid in
    let len = c.cells.result * (g.d + 1) in
    let e = ap (λ (r : Room). r.keys) c.need-base.ensures in
    let f : ◌≡◌ {A = Room} (record { keys = c.need-base.result.keys + len + len; rows = len; spare = len; counts = len }) (triangulated_room g.d len) = ap (λ (k : ℕ). record { keys = k + len + len; rows = len; spare = len; counts = len }) e in
    f ∙ ap (λ (n : ℕ). triangulated_room g.d n) (corners-are g c.requires _ c.cells.ensures)
