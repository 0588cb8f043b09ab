-- `bandmap::drawn` is safe: latitudes that fit are between the poles, and the band is one that is drawn. Assumes nothing.
use Rattle.file_geojson.specs.Kind.{from_pole}
use Rattle.file_geojson.proofs.Poles.{pole-south, pole-north, poles-apart}
use mir.Facts.{to_z-of_z}
use mathlib.Core.Path.{ap, ◌∙◌}
use native.Mathlib.Omega.{arith}
use Rattle.bandmap.proofs.drawn.Goals as goal

pub from_pole-low-requires : goal.from_pole-low-requires
from_pole-low-requires c = pole-south c.args.south c.args.north c.ranges.south c.requires.2

pub from_pole-high-requires : goal.from_pole-high-requires
from_pole-high-requires c = pole-north c.args.south c.args.north c.ranges.north c.requires.2

pub features-requires : goal.features-requires
features-requires c = let t = poles-apart c.args.south c.args.north c.requires.2 in
    let l = c.from_pole-low.ensures ∙ ap from_pole (to_z-of_z c.ranges.south) in
    let h = c.from_pole-high.ensures ∙ ap from_pole (to_z-of_z c.ranges.north) in
    record { taken = c.requires.0; band = c.requires.1; between = omega (arith, t.0, l, h); most = omega (arith, t.1, h) }
