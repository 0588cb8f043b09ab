-- `file_geojson::file::cell_ring` meets its contract: the corners as they come where the first step goes east, and else turned round. Assumes nothing.
use Rattle.file_geojson.proofs.Rings.{round-east, round-north}
use Rattle.file_geojson.proofs.Angles.{corner-few}
use Rattle.file_geojson.proofs.Vertices.{band-two}
use Rattle.file_geojson.specs.File.{ring_of}
use Rattle.file_writing.proofs.Laws.{wrote-same}
use Prim.Native.Nat.{ℕ}
use mathlib.Core.List.{List}
use mathlib.Core.Path.{ap}
use native.Mathlib.Omega.{arith}
use Rattle.file_geojson.proofs.file.cell_ring.Goals as goal

pub corner-a-requires : goal.corner-a-requires
corner-a-requires c = (c.requires.0.taken, omega (arith, band-two c.args.grid c.requires.0.band))

pub overflow_cast-a : goal.overflow_cast-a
overflow_cast-a c = omega (arith, corner-few c.args.grid c.args.low c.args.high c.requires.0 c.args.x 0 c.corner-a.result (omega arith) c.corner-a.ensures)

pub corner-b-requires : goal.corner-b-requires
corner-b-requires c = (c.requires.0.taken, omega (arith, band-two c.args.grid c.requires.0.band))

pub overflow_cast-b : goal.overflow_cast-b
overflow_cast-b c = omega (arith, corner-few c.args.grid c.args.low c.args.high c.requires.0 c.args.x 1 c.corner-b.result (omega arith) c.corner-b.ensures)

pub corner-c-requires : goal.corner-c-requires
corner-c-requires c = (c.requires.0.taken, omega (arith, band-two c.args.grid c.requires.0.band))

pub overflow_cast-c : goal.overflow_cast-c
overflow_cast-c c = omega (arith, corner-few c.args.grid c.args.low c.args.high c.requires.0 c.args.x 2 c.corner-c.result (omega arith) c.corner-c.ensures)

pub overflow_add-a : goal.overflow_add-a
overflow_add-a c = omega (arith, corner-few c.args.grid c.args.low c.args.high c.requires.0 c.args.x 0 c.corner-a.result (omega arith) c.corner-a.ensures)

pub returns-then-b-a : goal.returns-then-b-a
returns-then-b-a c = wrote-same (ap (λ (l : List ℕ). ring_of c.args.grid c.args.low c.args.high l) (round-east c.args.grid c.args.x _ _ _ c.corner-a.ensures c.corner-b.ensures c.corner-c.ensures c.if-b-a.true)) c.ring.ensures

pub returns : goal.returns
returns c = wrote-same (ap (λ (l : List ℕ). ring_of c.args.grid c.args.low c.args.high l) (round-north c.args.grid c.args.x _ _ _ c.corner-a.ensures c.corner-b.ensures c.corner-c.ensures c.if-b-a.false)) c.ring-2.ensures
