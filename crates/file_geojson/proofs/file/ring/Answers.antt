-- `file_geojson::file::ring` meets its contract, position by position. Assumes nothing.
use Rattle.file_geojson.proofs.Rings.{ring-is}
use Rattle.file_geojson.proofs.Sizes.{position-end, next-end}
use Rattle.file_writing.proofs.Laws.{wrote-more, wrote-same}
use native.Mathlib.Omega.{arith}
use Rattle.file_geojson.proofs.file.ring.Goals as goal

pub next_position-third-requires : goal.next_position-third-requires
next_position-third-requires c = (c.requires.0, omega (arith, c.requires.1, c.byte-first.ensures.next, position-end c.args.grid c.args.low c.args.high c.args.a c.position-second.ensures))

pub next_position-fourth-requires : goal.next_position-fourth-requires
next_position-fourth-requires c = (c.requires.0, omega (arith, c.requires.1, c.byte-first.ensures.next, position-end c.args.grid c.args.low c.args.high c.args.a c.position-second.ensures, next-end c.args.grid c.args.low c.args.high c.args.b c.next_position-third.ensures))

pub next_position-end-requires : goal.next_position-end-requires
next_position-end-requires c = (c.requires.0, omega (arith, c.requires.1, c.byte-first.ensures.next, position-end c.args.grid c.args.low c.args.high c.args.a c.position-second.ensures, next-end c.args.grid c.args.low c.args.high c.args.b c.next_position-third.ensures, next-end c.args.grid c.args.low c.args.high c.args.c c.next_position-fourth.ensures))

pub byte-requires : goal.byte-requires
byte-requires c = omega (arith, c.requires.1, c.byte-first.ensures.next, position-end c.args.grid c.args.low c.args.high c.args.a c.position-second.ensures, next-end c.args.grid c.args.low c.args.high c.args.b c.next_position-third.ensures, next-end c.args.grid c.args.low c.args.high c.args.c c.next_position-fourth.ensures, next-end c.args.grid c.args.low c.args.high c.args.a c.next_position-end.ensures)

pub returns : goal.returns
returns c = wrote-same (ring-is c.args.grid c.args.low c.args.high c.args.a c.args.b c.args.c) (wrote-more c.byte-first.ensures (wrote-more c.position-second.ensures (wrote-more c.next_position-third.ensures (wrote-more c.next_position-fourth.ensures (wrote-more c.next_position-end.ensures c.byte.ensures)))))
