-- `file_geojson::file::feature` meets its contract, part by part. Assumes nothing.
use Rattle.file_geojson.proofs.Sizes.{number-end, cell-ring-end}
use Rattle.file_geojson.proofs.Numbers.{number-below}
use Rattle.grid_words.specs.WorkNumbered.{cell_no}
use Rattle.file_geojson.specs.File.{feature_of}
use Rattle.file_writing.proofs.Laws.{wrote-more, wrote-same}
use Rattle.text.specs.Decimal.{decimal}
use mathlib.Core.Path.{ap}
use native.Mathlib.Omega.{arith}
use Rattle.file_geojson.proofs.file.feature.Goals as goal

pub mesh_number-cell-requires : goal.mesh_number-cell-requires
mesh_number-cell-requires c = (c.requires.0.taken, c.requires.0.band, c.requires.1)

pub overflow_cast-cell : goal.overflow_cast-cell
overflow_cast-cell c = omega (arith, number-below c.args.grid c.requires.0.taken c.requires.0.band c.args.x c.requires.1, c.mesh_number-cell.ensures)

pub word-id-requires : goal.word-id-requires
word-id-requires c = omega (arith, c.requires.2)

pub number-properties-requires : goal.number-properties-requires
number-properties-requires c = omega (arith, c.requires.2, c.word-id.ensures.next)

pub word-again-requires : goal.word-again-requires
word-again-requires c = omega (arith, c.requires.2, c.word-id.ensures.next, number-end c.mesh_number-cell.result c.number-properties.ensures)

pub number-geometry-requires : goal.number-geometry-requires
number-geometry-requires c = omega (arith, c.requires.2, c.word-id.ensures.next, number-end c.mesh_number-cell.result c.number-properties.ensures, c.word-again.ensures.next)

pub word-first-requires : goal.word-first-requires
word-first-requires c = omega (arith, c.requires.2, c.word-id.ensures.next, number-end c.mesh_number-cell.result c.number-properties.ensures, c.word-again.ensures.next, number-end c.mesh_number-cell.result c.number-geometry.ensures)

pub cell_ring-end-requires : goal.cell_ring-end-requires
cell_ring-end-requires c = (c.requires.0, omega (arith, c.requires.2, c.word-id.ensures.next, number-end c.mesh_number-cell.result c.number-properties.ensures, c.word-again.ensures.next, number-end c.mesh_number-cell.result c.number-geometry.ensures, c.word-first.ensures.next))

pub word-requires : goal.word-requires
word-requires c = omega (arith, c.requires.2, c.word-id.ensures.next, number-end c.mesh_number-cell.result c.number-properties.ensures, c.word-again.ensures.next, number-end c.mesh_number-cell.result c.number-geometry.ensures, c.word-first.ensures.next, cell-ring-end c.args.grid c.args.low c.args.high (cell_no c.args.grid c.args.x) c.cell_ring-end.ensures)

pub returns : goal.returns
unfolding feature_of
returns c = wrote-more c.word-id.ensures (wrote-more (wrote-same (ap decimal c.mesh_number-cell.ensures) c.number-properties.ensures) (wrote-more c.word-again.ensures (wrote-more (wrote-same (ap decimal c.mesh_number-cell.ensures) c.number-geometry.ensures) (wrote-more c.word-first.ensures (wrote-more c.cell_ring-end.ensures c.word.ensures)))))
