-- `file_geojson::draw` meets its contract: the file is measured in no bytes, and then written where it fits. Assumes nothing.
use Rattle.file_geojson.proofs.Ends.{draw-other, draw-beyond, mapped, draw-short, draw-drawn, collection-long}
use Rattle.file_geojson.proofs.Poles.{fit_of, unfit-of, pole-south, pole-north}
use Rattle.file_geojson.specs.Kind.{from_pole}
use Rattle.file_writing.proofs.Laws.{wrote-long}
use mir.Facts.{to_z-of_z}
use mathlib.Core.Path.{sym, ap, ◌∙◌}
use native.Mathlib.Omega.{arith}
use Rattle.file_geojson.proofs.draw.Goals as goal

pub returns-then-not-is_band : goal.returns-then-not-is_band
returns-then-not-is_band c = draw-other c.args.grid c.args.south c.args.north c.args.bytes.now (sym c.is_band.ensures ∙ c.if-not-is_band.true)

pub returns-then-not-latitudes_fit : goal.returns-then-not-latitudes_fit
returns-then-not-latitudes_fit c = draw-beyond c.args.grid c.args.south c.args.north c.args.bytes.now (sym c.is_band.ensures ∙ c.if-not-is_band.false) (unfit-of c.args.south c.args.north c.ranges.south c.ranges.north c.latitudes_fit.ensures (c.if-not-latitudes_fit.true))

pub from_pole-low-requires : goal.from_pole-low-requires
from_pole-low-requires c = pole-south c.args.south c.args.north c.ranges.south (fit_of c.args.south c.args.north c.ranges.south c.ranges.north c.latitudes_fit.ensures (c.if-not-latitudes_fit.false))

pub from_pole-high-requires : goal.from_pole-high-requires
from_pole-high-requires c = pole-north c.args.south c.args.north c.ranges.north (fit_of c.args.south c.args.north c.ranges.south c.ranges.north c.latitudes_fit.ensures (c.if-not-latitudes_fit.false))

pub collection-len-requires : goal.collection-len-requires
collection-len-requires c = mapped c.args.grid c.args.south c.args.north c.args.bytes.now (sym c.is_band.ensures ∙ c.if-not-is_band.false) (fit_of c.args.south c.args.north c.ranges.south c.ranges.north c.latitudes_fit.ensures (c.if-not-latitudes_fit.false)) _ _ (c.from_pole-low.ensures ∙ ap from_pole (to_z-of_z c.ranges.south)) (c.from_pole-high.ensures ∙ ap from_pole (to_z-of_z c.ranges.north)) c.requires

pub returns-then-bytes-len : goal.returns-then-bytes-len
returns-then-bytes-len c = draw-short c.args.grid c.args.south c.args.north c.args.bytes.now (sym c.is_band.ensures ∙ c.if-not-is_band.false) (fit_of c.args.south c.args.north c.ranges.south c.ranges.north c.latitudes_fit.ensures (c.if-not-latitudes_fit.false)) _ _ (c.from_pole-low.ensures ∙ ap from_pole (to_z-of_z c.ranges.south)) (c.from_pole-high.ensures ∙ ap from_pole (to_z-of_z c.ranges.north)) _ _ c.collection-len.ensures c.if-bytes-len.true

pub collection-requires : goal.collection-requires
collection-requires c = mapped c.args.grid c.args.south c.args.north c.args.bytes.now (sym c.is_band.ensures ∙ c.if-not-is_band.false) (fit_of c.args.south c.args.north c.ranges.south c.ranges.north c.latitudes_fit.ensures (c.if-not-latitudes_fit.false)) _ _ (c.from_pole-low.ensures ∙ ap from_pole (to_z-of_z c.ranges.south)) (c.from_pole-high.ensures ∙ ap from_pole (to_z-of_z c.ranges.north)) c.requires

pub overflow_cast-result : goal.overflow_cast-result
overflow_cast-result c = omega (arith, wrote-long c.collection-len.ensures, collection-long c.args.grid _ _ (mapped c.args.grid c.args.south c.args.north c.args.bytes.now (sym c.is_band.ensures ∙ c.if-not-is_band.false) (fit_of c.args.south c.args.north c.ranges.south c.ranges.north c.latitudes_fit.ensures (c.if-not-latitudes_fit.false)) _ _ (c.from_pole-low.ensures ∙ ap from_pole (to_z-of_z c.ranges.south)) (c.from_pole-high.ensures ∙ ap from_pole (to_z-of_z c.ranges.north)) c.requires))

pub returns : goal.returns
returns c = draw-drawn c.args.grid c.args.south c.args.north c.args.bytes.now (sym c.is_band.ensures ∙ c.if-not-is_band.false) (fit_of c.args.south c.args.north c.ranges.south c.ranges.north c.latitudes_fit.ensures (c.if-not-latitudes_fit.false)) _ _ (c.from_pole-low.ensures ∙ ap from_pole (to_z-of_z c.ranges.south)) (c.from_pole-high.ensures ∙ ap from_pole (to_z-of_z c.ranges.north)) _ _ c.collection-len.ensures _ _ c.if-bytes-len.false c.collection.ensures
