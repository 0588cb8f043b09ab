-- `file_geojson::file::longitude` meets its contract. Assumes nothing.
use Rattle.file_geojson.proofs.Angles.{longitude-angle, longitude-is}
use Rattle.file_writing.proofs.Laws.{wrote-same}
use Rattle.quotient.specs.declared.Axis.{Axis}
use mathlib.Core.Path.{ap}
use native.Mathlib.Omega.{arith}
use Rattle.file_geojson.proofs.file.longitude.Goals as goal

pub overflow_mul-i : goal.overflow_mul-i
overflow_mul-i c = let t = longitude-angle c.args.grid c.args.low c.args.high c.requires.0 c.args.v _ _ (ap (λ (a : Axis). a.count) c.axis-axis.ensures) c.coordinate-i.ensures in omega (arith, t.0)

pub overflow_mul-n : goal.overflow_mul-n
overflow_mul-n c = let t = longitude-angle c.args.grid c.args.low c.args.high c.requires.0 c.args.v _ _ (ap (λ (a : Axis). a.count) c.axis-axis.ensures) c.coordinate-i.ensures in omega (arith, t.1)

pub degrees-requires : goal.degrees-requires
degrees-requires c = let t = longitude-angle c.args.grid c.args.low c.args.high c.requires.0 c.args.v _ _ (ap (λ (a : Axis). a.count) c.axis-axis.ensures) c.coordinate-i.ensures in (c.requires.1, t.0, t.1, t.2, t.3)

pub returns : goal.returns
returns c = wrote-same (longitude-is c.args.grid c.args.v _ _ (ap (λ (a : Axis). a.count) c.axis-axis.ensures) c.coordinate-i.ensures) c.degrees.ensures
