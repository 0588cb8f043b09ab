-- `file_mesh_read::read_mesh` meets its contract: what the scan refuses, or what `checked` says. Assumes nothing.
use Rattle.refusal.proofs.Chain.{passed_on}
use Rattle.file_mesh_read.proofs.Given.{scanned-refused}
use Rattle.file_mesh_read.proofs.Outs.{out-early}
use Rattle.file_mesh_read.proofs.read_mesh.Goals as goal

pub checked-requires : goal.checked-requires
checked-requires c = c.in_ok-scanned.ensures

pub returns-in_err-scanned : goal.returns-in_err-scanned
returns-in_err-scanned c =
    rw (passed_on c.from_residual.ensures.1)
    (out-early c.args.bytes.now c.args.words.now c.args.births.now c.args.pairs.now c.args.keys.now c.args.rows.now c.args.spare.now c.args.counts.now _ (scanned-refused c.args.bytes.now _ c.in_err-scanned.ensures))
