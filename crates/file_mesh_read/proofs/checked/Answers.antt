-- `file_mesh_read::checked` meets its contract: 1 and 3 before the words are read, and then what `read_lists` says. Assumes nothing.
use Rattle.refusal.specs.declared.Refusal.TheVariants.{BadDimension, TooManyCells}
use mathlib.Core.Path.{sym, ◌∙◌}
use Prim.Native.Nat.{◌+◌, ◌*◌}
use native.Mathlib.Omega.{arith}
use lib.Seq.{length-take-le}
use Rattle.file_mesh.specs.Read.{read_file}
use Rattle.file_mesh_read.specs.Promise.{mesh_in}
use Rattle.file_mesh_read.proofs.Given.{scanned-gives, scanned-answer}
use Rattle.file_mesh_read.proofs.Outs.{out-early, high, crowd, few-corners}
use Rattle.file_mesh_read.proofs.checked.Goals as goal

pub returns-then-scanned-gt-MOST_DIMENSION : goal.returns-then-scanned-gt-MOST_DIMENSION
returns-then-scanned-gt-MOST_DIMENSION c = out-early c.args.bytes.now c.args.words.now c.args.births.now c.args.pairs.now c.args.keys.now c.args.rows.now c.args.spare.now c.args.counts.now BadDimension ((scanned-answer c.args.bytes.now c.args.scanned c.requires) ∙ high c.args.bytes.now (mesh_in (read_file c.args.bytes.now)) c.args.scanned.d c.args.scanned.count c.args.scanned.births c.args.scanned.pairs (scanned-gives c.args.bytes.now c.args.scanned c.requires) c.if-scanned-gt-MOST_DIMENSION.true)

pub returns-then-cells-gt-MOST_CELLS : goal.returns-then-cells-gt-MOST_CELLS
returns-then-cells-gt-MOST_CELLS c = out-early c.args.bytes.now c.args.words.now c.args.births.now c.args.pairs.now c.args.keys.now c.args.rows.now c.args.spare.now c.args.counts.now TooManyCells ((scanned-answer c.args.bytes.now c.args.scanned c.requires) ∙ crowd c.args.bytes.now (mesh_in (read_file c.args.bytes.now)) c.args.scanned.d c.args.scanned.count c.args.scanned.births c.args.scanned.pairs (scanned-gives c.args.bytes.now c.args.scanned c.requires) (omega (arith, c.if-scanned-gt-MOST_DIMENSION.false)) c.if-cells-gt-MOST_CELLS.true)

pub overflow_mul-len : goal.overflow_mul-len
overflow_mul-len c = omega (arith, few-corners c.args.scanned.d c.args.scanned.count (omega (arith, c.if-scanned-gt-MOST_DIMENSION.false)) (omega (arith, c.if-cells-gt-MOST_CELLS.false)))

pub slice_bounds-corners-end : goal.slice_bounds-corners-end
slice_bounds-corners-end c = few-corners c.args.scanned.d c.args.scanned.count (omega (arith, c.if-scanned-gt-MOST_DIMENSION.false)) (omega (arith, c.if-cells-gt-MOST_CELLS.false))

pub slice_bounds-read_lists-end : goal.slice_bounds-read_lists-end
slice_bounds-read_lists-end c = sym (length-take-le (c.args.scanned.count * (c.args.scanned.d + 1)) _ (few-corners c.args.scanned.d c.args.scanned.count (omega (arith, c.if-scanned-gt-MOST_DIMENSION.false)) (omega (arith, c.if-cells-gt-MOST_CELLS.false))))

pub read_lists-requires : goal.read_lists-requires
read_lists-requires c = (c.requires, omega (arith, c.if-scanned-gt-MOST_DIMENSION.false), length-take-le (c.args.scanned.count * (c.args.scanned.d + 1)) _ (few-corners c.args.scanned.d c.args.scanned.count (omega (arith, c.if-scanned-gt-MOST_DIMENSION.false)) (omega (arith, c.if-cells-gt-MOST_CELLS.false))))
