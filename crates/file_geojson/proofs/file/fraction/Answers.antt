-- `file_geojson::file::fraction` meets its contract: the nearest number of millionths. Assumes nothing.
use Rattle.file_geojson.proofs.Angles.{nearest-fits}
use Rattle.file_geojson.specs.Degrees.{nearest}
use Rattle.file_geojson.proofs.file.fraction.Goals as goal

pub six_decimals-requires : goal.six_decimals-requires
six_decimals-requires c = (c.requires.0, nearest-fits _ _ c.requires.1 c.requires.3)

pub returns : goal.returns
unfolding nearest
returns c = c.six_decimals.ensures
