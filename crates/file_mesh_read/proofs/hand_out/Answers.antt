-- `file_mesh_read::hand_out` meets its contract, by its four ways out (proofs/Given). Assumes nothing.
use mathlib.Core.Path.{sym}
use Prim.Native.Nat.{◌*◌}
use native.Mathlib.Omega.{arith}
use lib.Seq.{length-take-le}
use lib.ListN.{length}
use Rattle.file_mesh.specs.Read.{read_file}
use Rattle.file_mesh_read.specs.Promise.{mesh_in}
use Rattle.file_mesh_read.proofs.Given.{scanned-gives, counts-small, taking, handing-words, handing-births, handing-pairs, handing-read}
use Rattle.file_mesh_read.proofs.hand_out.Goals as goal

pub overflow_mul-b : goal.overflow_mul-b
overflow_mul-b c = omega (arith, (counts-small c.args.bytes.now (mesh_in (read_file c.args.bytes.now)) c.args.scanned.d c.args.scanned.count c.args.scanned.births c.args.scanned.pairs (scanned-gives c.args.bytes.now c.args.scanned c.requires.0) c.args.corners.now c.requires.1 c.requires.2).0)

pub overflow_mul-p : goal.overflow_mul-p
overflow_mul-p c = omega (arith, (counts-small c.args.bytes.now (mesh_in (read_file c.args.bytes.now)) c.args.scanned.d c.args.scanned.count c.args.scanned.births c.args.scanned.pairs (scanned-gives c.args.bytes.now c.args.scanned c.requires.0) c.args.corners.now c.requires.1 c.requires.2).1)

pub returns-then-words-len : goal.returns-then-words-len
returns-then-words-len c = handing-words c.args.bytes.now (mesh_in (read_file c.args.bytes.now)) c.args.scanned.d c.args.scanned.count c.args.scanned.births c.args.scanned.pairs (scanned-gives c.args.bytes.now c.args.scanned c.requires.0) c.args.corners.now c.requires.1 c.requires.2 c.args.words.now c.args.births.now c.args.pairs.now c.if-words-len.true

pub returns-then-births-b : goal.returns-then-births-b
returns-then-births-b c = handing-births c.args.bytes.now (mesh_in (read_file c.args.bytes.now)) c.args.scanned.d c.args.scanned.count c.args.scanned.births c.args.scanned.pairs (scanned-gives c.args.bytes.now c.args.scanned c.requires.0) c.args.corners.now c.requires.1 c.requires.2 c.args.words.now c.args.births.now c.args.pairs.now c.if-births-b.true

pub returns-then-pairs-p : goal.returns-then-pairs-p
returns-then-pairs-p c = handing-pairs c.args.bytes.now (mesh_in (read_file c.args.bytes.now)) c.args.scanned.d c.args.scanned.count c.args.scanned.births c.args.scanned.pairs (scanned-gives c.args.bytes.now c.args.scanned c.requires.0) c.args.corners.now c.requires.1 c.requires.2 c.args.words.now c.args.births.now c.args.pairs.now c.if-pairs-p.true

pub slice_bounds-copy-end-2 : goal.slice_bounds-copy-end-2
slice_bounds-copy-end-2 c = sym (length-take-le (length c.args.corners.now) c.args.words.now (omega (arith, c.if-words-len.false)))

pub copy-requires : goal.copy-requires
copy-requires c = length-take-le (length c.args.corners.now) c.args.words.now (omega (arith, c.if-words-len.false))

pub overflow_mul-from-2 : goal.overflow_mul-from-2
overflow_mul-from-2 c = let f = (scanned-gives c.args.bytes.now c.args.scanned c.requires.0) in omega (arith, f.words_inside, c.well_formed)

pub overflow_add-from-2 : goal.overflow_add-from-2
overflow_add-from-2 c = let f = (scanned-gives c.args.bytes.now c.args.scanned c.requires.0) in omega (arith, f.words_inside, c.well_formed)

pub slice_bounds-list_births-end-2 : goal.slice_bounds-list_births-end-2
slice_bounds-list_births-end-2 c = sym (length-take-le (c.args.scanned.births * 3) c.args.births.now (omega (arith, c.if-births-b.false)))

pub slice_bounds-list_births-end-4 : goal.slice_bounds-list_births-end-4
slice_bounds-list_births-end-4 c = sym (length-take-le (c.args.scanned.pairs * 2) c.args.pairs.now (omega (arith, c.if-pairs-p.false)))

pub list_births-requires : goal.list_births-requires
list_births-requires c = taking c.args.bytes.now (mesh_in (read_file c.args.bytes.now)) c.args.scanned.d c.args.scanned.count c.args.scanned.births c.args.scanned.pairs (scanned-gives c.args.bytes.now c.args.scanned c.requires.0) c.args.corners.now c.requires.1 c.requires.2 c.args.words.now c.args.births.now c.args.pairs.now (omega (arith, c.if-births-b.false)) (omega (arith, c.if-pairs-p.false))

pub overflow_cast-result : goal.overflow_cast-result
overflow_cast-result c = omega (arith, (counts-small c.args.bytes.now (mesh_in (read_file c.args.bytes.now)) c.args.scanned.d c.args.scanned.count c.args.scanned.births c.args.scanned.pairs (scanned-gives c.args.bytes.now c.args.scanned c.requires.0) c.args.corners.now c.requires.1 c.requires.2).0)

pub overflow_cast-result-2 : goal.overflow_cast-result-2
overflow_cast-result-2 c = omega (arith, (counts-small c.args.bytes.now (mesh_in (read_file c.args.bytes.now)) c.args.scanned.d c.args.scanned.count c.args.scanned.births c.args.scanned.pairs (scanned-gives c.args.bytes.now c.args.scanned c.requires.0) c.args.corners.now c.requires.1 c.requires.2).1)

pub returns : goal.returns
returns c = handing-read c.args.bytes.now (mesh_in (read_file c.args.bytes.now)) c.args.scanned.d c.args.scanned.count c.args.scanned.births c.args.scanned.pairs (scanned-gives c.args.bytes.now c.args.scanned c.requires.0) c.args.corners.now c.requires.1 c.requires.2 c.args.words.now c.args.births.now c.args.pairs.now (omega (arith, c.if-words-len.false)) (omega (arith, c.if-births-b.false)) (omega (arith, c.if-pairs-p.false)) c.copy.new.dst c.list_births.new.births c.list_births.new.pairs c.copy.ensures c.list_births.ensures.of_births c.list_births.ensures.of_pairs
