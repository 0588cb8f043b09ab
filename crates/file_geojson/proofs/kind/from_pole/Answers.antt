-- `file_geojson::kind::from_pole` meets its contract. Assumes nothing.
use Rattle.file_geojson.proofs.Poles.{pole-fits, pole-cast, pole-is}
use Rattle.file_geojson.proofs.kind.from_pole.Goals as goal

pub overflow_add-result : goal.overflow_add-result
overflow_add-result c = pole-fits _ c.ranges.latitude c.requires.0 c.requires.1

pub overflow_cast-result : goal.overflow_cast-result
overflow_cast-result c = pole-cast _ c.ranges.latitude c.requires.0 c.requires.1

pub returns : goal.returns
returns c = pole-is _ c.ranges.latitude c.requires.0 c.requires.1
