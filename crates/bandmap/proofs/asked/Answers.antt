-- `bandmap::asked` is safe: where 12 is said for the bytes, the grid is a band and the latitudes fit. Assumes nothing.
use Rattle.file_geojson_laws.proofs.Never.{twelve-drawn}
use Rattle.file_geojson.proofs.Ends.{roomy}
use Rattle.grid_mesh.proofs.Steps.{corners-few, corners-are}
use Rattle.grid_words.proofs.Corners.{dim}
use Rattle.complex.specs.Room.{need_of}
use Prim.Native.Nat.{ℕ}
use mathlib.Core.Path.{ap, ◌∙◌}
use native.Mathlib.Omega.{arith}
use Rattle.bandmap.proofs.asked.Goals as goal

pub cells-requires : goal.cells-requires
cells-requires c = c.requires

pub overflow_mul-cells : goal.overflow_mul-cells
overflow_mul-cells c = omega (arith, corners-few c.args.grid c.requires, corners-are c.args.grid c.requires _ c.cells.ensures)

pub need-need-requires : goal.need-need-requires
need-need-requires c = (dim c.args.grid c.requires, omega (arith, corners-few c.args.grid c.requires, corners-are c.args.grid c.requires _ c.cells.ensures))

pub drawn-requires : goal.drawn-requires
drawn-requires c = let t = twelve-drawn c.args.grid _ _ _ _ _ _ _ _ _ _ _ _ _ _ c.geojson.ensures c.in-Err-TooShort.is c.in-Err-TooShort.field-0-is c.requires (roomy c.args.grid c.args.south c.args.north c.args.keys.now c.args.keys.now c.args.rows.now c.args.spare.now c.args.counts.now c.requires c.need-need.result (c.need-need.ensures ∙ ap (λ (n : ℕ). need_of c.args.grid.d n) (corners-are c.args.grid c.requires _ c.cells.ensures)) (c.has_room.ensures.yes (c.if-not-has_room.false))) in (c.requires, t.0, t.1)
