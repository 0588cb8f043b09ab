-- `file_geojson::kind::latitudes_fit` meets its contract, test by test. Assumes nothing.
use Rattle.file_geojson.proofs.Poles.{beyond-south, beyond-north, fit-told}
use Rattle.file_geojson.proofs.kind.latitudes_fit.Goals as goal

pub returns-then-south-ltminus90 : goal.returns-then-south-ltminus90
returns-then-south-ltminus90 c = beyond-south _ _ c.ranges.south c.ranges.north c.if-south-ltminus90.true

pub returns-then-north-gt90 : goal.returns-then-north-gt90
returns-then-north-gt90 c = beyond-north _ _ c.ranges.south c.ranges.north c.if-south-ltminus90.false c.if-north-gt90.true

pub returns : goal.returns
returns c = fit-told _ _ c.ranges.south c.ranges.north c.if-south-ltminus90.false c.if-north-gt90.false
