-- `file_geojson::file::position` meets its contract, part by part. Assumes nothing.
use Rattle.file_geojson.proofs.Sizes.{longitude-end, latitude-end}
use Rattle.file_geojson.specs.File.{position_of}
use Rattle.file_writing.proofs.Laws.{wrote-more}
use native.Mathlib.Omega.{arith}
use Rattle.file_geojson.proofs.file.position.Goals as goal

pub byte-second-requires : goal.byte-second-requires
byte-second-requires c = omega (arith, c.requires.1, c.byte-first.ensures.next, longitude-end c.args.grid c.args.low c.args.high c.args.v c.longitude-comma.ensures)

pub latitude-end-requires : goal.latitude-end-requires
latitude-end-requires c = (c.requires.0, omega (arith, c.requires.1, c.byte-first.ensures.next, c.byte-second.ensures.next, longitude-end c.args.grid c.args.low c.args.high c.args.v c.longitude-comma.ensures))

pub byte-requires : goal.byte-requires
byte-requires c = omega (arith, c.requires.1, c.byte-first.ensures.next, c.byte-second.ensures.next, longitude-end c.args.grid c.args.low c.args.high c.args.v c.longitude-comma.ensures, latitude-end c.args.grid c.args.low c.args.high c.args.v c.latitude-end.ensures)

pub returns : goal.returns
unfolding position_of
returns c = wrote-more c.byte-first.ensures (wrote-more c.longitude-comma.ensures (wrote-more c.byte-second.ensures (wrote-more c.latitude-end.ensures c.byte.ensures)))
