-- `file_geojson::file::latitude` meets its contract. Assumes nothing.
use Rattle.file_geojson.proofs.Angles.{latitude-angle, latitude-is}
use Rattle.file_writing.proofs.Laws.{wrote-same}
use Rattle.quotient.specs.declared.Axis.{Axis}
use mathlib.Core.Path.{ap}
use native.Mathlib.Omega.{arith}
use Rattle.file_geojson.proofs.file.latitude.Goals as goal

pub overflow_mul-up : goal.overflow_mul-up
overflow_mul-up c = omega (arith, (latitude-angle c.args.grid c.args.low c.args.high c.requires.0 c.args.v _ _ (ap (λ (a : Axis). a.count) c.axis-axis.ensures) c.coordinate-j.ensures).0)

pub overflow_mul-up-2 : goal.overflow_mul-up-2
overflow_mul-up-2 c = omega (arith, (latitude-angle c.args.grid c.args.low c.args.high c.requires.0 c.args.v _ _ (ap (λ (a : Axis). a.count) c.axis-axis.ensures) c.coordinate-j.ensures).1)

pub overflow_add-up : goal.overflow_add-up
overflow_add-up c = let t = latitude-angle c.args.grid c.args.low c.args.high c.requires.0 c.args.v _ _ (ap (λ (a : Axis). a.count) c.axis-axis.ensures) c.coordinate-j.ensures in omega (arith, t.0, t.1)

pub degrees-requires : goal.degrees-requires
degrees-requires c = let t = latitude-angle c.args.grid c.args.low c.args.high c.requires.0 c.args.v _ _ (ap (λ (a : Axis). a.count) c.axis-axis.ensures) c.coordinate-j.ensures in (c.requires.1, omega (arith, t.0, t.1), t.2, t.3, t.4)

pub returns : goal.returns
returns c = wrote-same (latitude-is c.args.grid c.args.low c.args.high c.requires.0 c.args.v _ _ (ap (λ (a : Axis). a.count) c.axis-axis.ensures) c.coordinate-j.ensures) c.degrees.ensures
