-- `file_mesh_write::put_file` meets its contract: the header, the words, the births and the end, one after the other (proofs/Ways). Assumes nothing.
use Rattle.file_mesh_write.proofs.Ways.{parts-room, header-room, words-room, at_room, births-room, end-room, last-room, all-written}
use Rattle.file_mesh_write.specs.Promise.{mesh_of}
use Rattle.file_mesh.specs.Mesh.{Mesh}
use native.Mathlib.Omega.{arith}
use Rattle.file_mesh_write.proofs.put_file.Goals as goal

pub put_header-requires : goal.put_header-requires
put_header-requires c =
    let mesh : Mesh = mesh_of c.args.d c.args.words.now c.args.births.now c.args.pairs.now in
    omega (arith, parts-room (mesh) c.args.to.now c.args.to.now c.requires.2)

pub slice_bounds-put_words-count : goal.slice_bounds-put_words-count
slice_bounds-put_words-count c =
    let mesh : Mesh = mesh_of c.args.d c.args.words.now c.args.births.now c.args.pairs.now in
    header-room (mesh) c.args.to.now c.put_header.new.to c.requires.2 c.put_header.ensures

pub slice_bounds-put_words-start : goal.slice_bounds-put_words-start
slice_bounds-put_words-start c =
    let mesh : Mesh = mesh_of c.args.d c.args.words.now c.args.births.now c.args.pairs.now in
    header-room (mesh) c.args.to.now c.put_header.new.to c.requires.2 c.put_header.ensures

pub put_words-requires : goal.put_words-requires
put_words-requires c =
    let mesh : Mesh = mesh_of c.args.d c.args.words.now c.args.births.now c.args.pairs.now in
    (c.requires.0.small, words-room (mesh) c.args.to.now c.put_header.new.to c.requires.2 c.put_header.ensures)

pub overflow_mul-at-2 : goal.overflow_mul-at-2
overflow_mul-at-2 c =
    let mesh : Mesh = mesh_of c.args.d c.args.words.now c.args.births.now c.args.pairs.now in
    omega (arith, parts-room (mesh) c.args.to.now c.args.to.now c.requires.2)

pub overflow_add-at-2 : goal.overflow_add-at-2
overflow_add-at-2 c =
    let mesh : Mesh = mesh_of c.args.d c.args.words.now c.args.births.now c.args.pairs.now in
    omega (arith, parts-room (mesh) c.args.to.now c.args.to.now c.requires.2)

pub slice_bounds-put_births-count : goal.slice_bounds-put_births-count
slice_bounds-put_births-count c =
    let mesh : Mesh = mesh_of c.args.d c.args.words.now c.args.births.now c.args.pairs.now in
    at_room (mesh) c.args.to.now c.put_header.new.to c.requires.2 c.put_header.ensures c.put_words.new.to c.put_words.ensures

pub slice_bounds-put_births-start : goal.slice_bounds-put_births-start
slice_bounds-put_births-start c =
    let mesh : Mesh = mesh_of c.args.d c.args.words.now c.args.births.now c.args.pairs.now in
    at_room (mesh) c.args.to.now c.put_header.new.to c.requires.2 c.put_header.ensures c.put_words.new.to c.put_words.ensures

pub put_births-used-requires : goal.put_births-used-requires
put_births-used-requires c =
    let mesh : Mesh = mesh_of c.args.d c.args.words.now c.args.births.now c.args.pairs.now in
    (c.requires.1, births-room (mesh) c.args.to.now c.put_header.new.to c.requires.2 c.put_header.ensures c.put_words.new.to c.put_words.ensures)

pub overflow_add-end : goal.overflow_add-end
overflow_add-end c =
    let mesh : Mesh = mesh_of c.args.d c.args.words.now c.args.births.now c.args.pairs.now in
    omega (arith, parts-room (mesh) c.args.to.now c.args.to.now c.requires.2, c.put_births-used.ensures.used)

pub slice_bounds-put_opening-count : goal.slice_bounds-put_opening-count
slice_bounds-put_opening-count c =
    let mesh : Mesh = mesh_of c.args.d c.args.words.now c.args.births.now c.args.pairs.now in
    omega (arith, end-room (mesh) c.args.to.now c.put_header.new.to c.requires.2 c.put_header.ensures c.put_words.new.to c.put_words.ensures c.put_births-used.result c.put_births-used.new.to c.put_births-used.ensures.used c.put_births-used.ensures.list)

pub slice_bounds-put_opening-start : goal.slice_bounds-put_opening-start
slice_bounds-put_opening-start c =
    let mesh : Mesh = mesh_of c.args.d c.args.words.now c.args.births.now c.args.pairs.now in
    omega (arith, end-room (mesh) c.args.to.now c.put_header.new.to c.requires.2 c.put_header.ensures c.put_words.new.to c.put_words.ensures c.put_births-used.result c.put_births-used.new.to c.put_births-used.ensures.used c.put_births-used.ensures.list)

pub put_opening-requires : goal.put_opening-requires
put_opening-requires c =
    let mesh : Mesh = mesh_of c.args.d c.args.words.now c.args.births.now c.args.pairs.now in
    last-room (mesh) c.args.to.now c.put_header.new.to c.requires.2 c.put_header.ensures c.put_words.new.to c.put_words.ensures c.put_births-used.result c.put_births-used.new.to c.put_births-used.ensures.used c.put_births-used.ensures.list

pub returns : goal.returns
returns c =
    let mesh : Mesh = mesh_of c.args.d c.args.words.now c.args.births.now c.args.pairs.now in
    all-written (mesh) c.args.to.now c.put_header.new.to c.requires.2 c.put_header.ensures c.put_words.new.to c.put_words.ensures c.put_births-used.result c.put_births-used.new.to c.put_births-used.ensures.used c.put_births-used.ensures.list c.put_opening.new.to c.put_opening.ensures
