-- `file_mesh_write::hand_out` meets its contract, by its three ways out (proofs/Ways). Assumes nothing.
use Rattle.file_mesh_write.proofs.Ways.{handed-broken, handed-short, handed-all, size_is}
use Rattle.file_mesh_write.proofs.Sizes.{kept_whole, file-small}
use Rattle.file_mesh_write.specs.Promise.{mesh_of}
use Rattle.complex_cells.proofs.Making.{few-corners}
use native.Mathlib.Omega.{arith}
use mathlib.Core.Path.{sym, ◌∙◌}
use Rattle.file_mesh_write.proofs.hand_out.Goals as goal

pub returns-then-not-keeps_rules : goal.returns-then-not-keeps_rules
returns-then-not-keeps_rules c = handed-broken _ _ (sym c.keeps_rules.ensures ∙ c.if-not-keeps_rules.true)

pub size-size-requires : goal.size-size-requires
size-size-requires c = (c.requires.small, few-corners c.args.d c.args.words.now c.requires, omega arith, omega arith)

pub returns-then-bytes-size : goal.returns-then-bytes-size
returns-then-bytes-size c =
    handed-short (mesh_of c.args.d c.args.words.now c.args.births.now c.args.pairs.now) c.args.bytes.now c.requires (sym c.keeps_rules.ensures ∙ c.if-not-keeps_rules.false) c.size-size.result c.size-size.ensures c.if-bytes-size.true

pub put_file-requires : goal.put_file-requires
put_file-requires c =
    let m = mesh_of c.args.d c.args.words.now c.args.births.now c.args.pairs.now in
    let k = sym c.keeps_rules.ensures ∙ c.if-not-keeps_rules.false in
    let q = size_is m c.args.bytes.now c.requires k c.size-size.result c.size-size.ensures in
    (c.requires, kept_whole m c.requires k, omega (arith, q, c.if-bytes-size.false))

pub overflow_cast-result : goal.overflow_cast-result
overflow_cast-result c =
    let m = mesh_of c.args.d c.args.words.now c.args.births.now c.args.pairs.now in
    let k = sym c.keeps_rules.ensures ∙ c.if-not-keeps_rules.false in
    let q = size_is m c.args.bytes.now c.requires k c.size-size.result c.size-size.ensures in
    omega (arith, q, file-small m c.requires k)

pub returns : goal.returns
returns c =
    let m = mesh_of c.args.d c.args.words.now c.args.births.now c.args.pairs.now in
    let k = sym c.keeps_rules.ensures ∙ c.if-not-keeps_rules.false in
    handed-all m c.args.bytes.now c.requires k c.size-size.result c.size-size.ensures c.put_file.new.to c.if-bytes-size.false c.put_file.ensures
