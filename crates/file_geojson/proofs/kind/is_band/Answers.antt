-- `file_geojson::kind::is_band` meets its contract, test by test. Assumes nothing.
use Rattle.file_geojson.proofs.Poles.{band-flat, band-open, band-turned, band-told}
use Rattle.file_geojson.proofs.kind.is_band.Goals as goal

pub returns-then-grid-ne2 : goal.returns-then-grid-ne2
returns-then-grid-ne2 c = band-flat c.args.grid c.if-grid-ne2.true

pub returns-then-not-closed : goal.returns-then-not-closed
returns-then-not-closed c = band-open c.args.grid _ c.if-grid-ne2.false c.axis-first.ensures _ c.closed.ensures (c.if-not-closed.true)

pub returns-then-mask-ne0 : goal.returns-then-mask-ne0
returns-then-mask-ne0 c = band-turned c.args.grid _ c.if-grid-ne2.false c.axis-first.ensures _ c.closed.ensures (c.if-not-closed.false) _ c.mask.ensures c.if-mask-ne0.true

pub returns : goal.returns
returns c = band-told c.args.grid _ c.if-grid-ne2.false c.axis-first.ensures _ c.closed.ensures (c.if-not-closed.false) _ c.mask.ensures _ _ c.if-mask-ne0.false c.axis-second.ensures c.closed-2.ensures
