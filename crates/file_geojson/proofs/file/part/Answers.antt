-- `file_geojson::file::part` meets its contract: what leads the feature, then the feature. Assumes nothing.
use Rattle.file_geojson.proofs.Listing.{part-first, part-later}
use native.Mathlib.Omega.{arith}
use Rattle.file_geojson.proofs.file.part.Goals as goal

pub feature-requires : goal.feature-requires
feature-requires c = (c.requires.0, c.requires.1, omega (arith, c.word-first.ensures.next))

pub returns-then-x-eq0 : goal.returns-then-x-eq0
returns-then-x-eq0 c = part-first c.args.grid c.args.low c.args.high c.args.x c.if-x-eq0.true c.word-first.ensures c.feature.ensures

pub feature-requires-2 : goal.feature-requires-2
feature-requires-2 c = (c.requires.0, c.requires.1, omega (arith, c.byte-first.ensures.next))

pub returns : goal.returns
returns c = part-later c.args.grid c.args.low c.args.high c.args.x c.if-x-eq0.false c.byte-first.ensures c.feature-2.ensures
