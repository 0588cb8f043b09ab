-- `file_mesh_write::write_mesh` meets its contract, by its two ways out (proofs/Ways): refused by the checks, or handed out. Assumes nothing.
use Rattle.refusal.proofs.Chain.{passed_on}
use Rattle.file_mesh_write.proofs.Ways.{out-refused, checks-passed, out-ended}
use Rattle.file_mesh_write.specs.Promise.{mesh_of}
use Rattle.file_mesh_write.proofs.write_mesh.Goals as goal

pub returns-in_err-check : goal.returns-in_err-check
returns-in_err-check c = rw (passed_on c.from_residual.ensures.1) (out-refused (mesh_of c.args.d c.args.words.now c.args.births.now c.args.pairs.now) c.check.result c.args.bytes.now c.args.keys.now _ c.args.rows.now _ c.args.spare.now _ c.args.counts.now _ c.check.ensures _ c.in_err-check.was)

pub hand_out-requires : goal.hand_out-requires
hand_out-requires c =
    checks-passed (mesh_of c.args.d c.args.words.now c.args.births.now c.args.pairs.now) c.check.result c.args.bytes.now c.args.keys.now _ c.args.rows.now _ c.args.spare.now _ c.args.counts.now _ c.check.ensures c.in_ok-check.was

pub returns : goal.returns
returns c =
    out-ended (mesh_of c.args.d c.args.words.now c.args.births.now c.args.pairs.now) c.check.result c.args.bytes.now c.args.keys.now _ c.args.rows.now _ c.args.spare.now _ c.args.counts.now _ c.check.ensures c.in_ok-check.was c.hand_out.result c.hand_out.new.bytes c.hand_out.ensures
