-- `file_geojson::geojson` meets its contract, by its ways out (proofs/Ends): a refusal and too little room touch nothing; 7 is asked of the words; then the band is drawn. Assumes nothing.
use Rattle.refusal.proofs.Chain.{passed_on}
use Rattle.file_geojson.proofs.Ends.{out-refused, out-cramped, roomy, out-crowded, out-drawn}
use Rattle.file_geojson.proofs.Poles.{same-latitudes}
use Rattle.grid_mesh.proofs.Steps.{corners-few, corners-are}
use Rattle.grid_words.proofs.Corners.{dim}
use Rattle.complex.specs.Room.{need_of}
use Prim.Native.Nat.{ℕ}
use mathlib.Core.Path.{sym, ap, ◌∙◌}
use native.Mathlib.Omega.{arith}
use Rattle.file_geojson.proofs.geojson.Goals as goal

pub returns-in_err-check : goal.returns-in_err-check
returns-in_err-check c = rw (passed_on c.from_residual.ensures.1) (out-refused c.args.grid c.args.south c.args.north c.args.bytes.now c.args.keys.now c.args.rows.now c.args.spare.now c.args.counts.now _ (sym c.check.ensures ∙ c.in_err-check.was))

pub cells-requires : goal.cells-requires
cells-requires c = sym c.check.ensures ∙ c.in_ok-check.was

pub overflow_mul-cells : goal.overflow_mul-cells
overflow_mul-cells c = let e = sym c.check.ensures ∙ c.in_ok-check.was in omega (arith, corners-few c.args.grid e, corners-are c.args.grid e _ c.cells.ensures)

pub need-need-requires : goal.need-need-requires
need-need-requires c = let e = sym c.check.ensures ∙ c.in_ok-check.was in (dim c.args.grid e, omega (arith, corners-few c.args.grid e, corners-are c.args.grid e _ c.cells.ensures))

pub returns-then-not-has_room : goal.returns-then-not-has_room
returns-then-not-has_room c = let e = sym c.check.ensures ∙ c.in_ok-check.was in out-cramped c.args.grid c.args.south c.args.north c.args.bytes.now c.args.keys.now c.args.rows.now c.args.spare.now c.args.counts.now e c.need-need.result (c.need-need.ensures ∙ ap (λ (n : ℕ). need_of c.args.grid.d n) (corners-are c.args.grid e _ c.cells.ensures)) (c.has_room.ensures.no (c.if-not-has_room.true))

pub is_crowded-requires : goal.is_crowded-requires
is_crowded-requires c = let e = sym c.check.ensures ∙ c.in_ok-check.was in (e, roomy c.args.grid c.args.south c.args.north c.args.bytes.now c.args.keys.now c.args.rows.now c.args.spare.now c.args.counts.now e c.need-need.result (c.need-need.ensures ∙ ap (λ (n : ℕ). need_of c.args.grid.d n) (corners-are c.args.grid e _ c.cells.ensures)) (c.has_room.ensures.yes (c.if-not-has_room.false)))

pub returns-then-is_crowded : goal.returns-then-is_crowded
returns-then-is_crowded c = let e = sym c.check.ensures ∙ c.in_ok-check.was in out-crowded c.args.grid c.args.south c.args.north c.args.bytes.now c.args.keys.now c.args.rows.now c.args.spare.now c.args.counts.now e c.need-need.result (c.need-need.ensures ∙ ap (λ (n : ℕ). need_of c.args.grid.d n) (corners-are c.args.grid e _ c.cells.ensures)) (c.has_room.ensures.yes (c.if-not-has_room.false)) _ _ _ _ _ c.is_crowded.ensures c.if-is_crowded.true

pub draw-requires : goal.draw-requires
draw-requires c = sym c.check.ensures ∙ c.in_ok-check.was

pub returns : goal.returns
returns c = let e = sym c.check.ensures ∙ c.in_ok-check.was in out-drawn c.args.grid c.args.south c.args.north c.args.bytes.now c.args.keys.now c.args.rows.now c.args.spare.now c.args.counts.now e c.need-need.result (c.need-need.ensures ∙ ap (λ (n : ℕ). need_of c.args.grid.d n) (corners-are c.args.grid e _ c.cells.ensures)) (c.has_room.ensures.yes (c.if-not-has_room.false)) _ _ _ _ _ c.is_crowded.ensures c.if-is_crowded.false _ _ (same-latitudes c.ranges.south c.ranges.north c.draw.ensures)
