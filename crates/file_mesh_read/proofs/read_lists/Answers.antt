-- `file_mesh_read::read_lists` meets its contract, by its two ways out (proofs/Outs): refused by the checks, or handed out. Assumes nothing.
use Rattle.refusal.proofs.Chain.{passed_on}
use mathlib.Core.List.{[]}
use native.Mathlib.Omega.{arith}
use Rattle.file_mesh.specs.Read.{read_file}
use Rattle.file_mesh_read.specs.Promise.{mesh_in}
use Rattle.file_mesh_read.proofs.Given.{scanned-gives, scanned-answer}
use Rattle.file_mesh_write.specs.Promise.{mesh_of}
use Rattle.file_mesh_write.proofs.Ways.{checks-passed}
use Rattle.file_mesh_read.proofs.Outs.{out-refused, out-handed, words-room, words-here, checked-here}
use Rattle.file_mesh_read.proofs.read_lists.Goals as goal

pub list_words-requires : goal.list_words-requires
list_words-requires c = (omega (arith, c.requires.1), c.requires.2, words-room c.args.bytes.now (mesh_in (read_file c.args.bytes.now)) c.args.scanned.d c.args.scanned.count c.args.scanned.births c.args.scanned.pairs (scanned-gives c.args.bytes.now c.args.scanned c.requires.0))

pub returns-in_err-check : goal.returns-in_err-check
returns-in_err-check c = rw (passed_on c.from_residual.ensures.1) (out-refused c.args.bytes.now c.args.words.now c.args.births.now c.args.pairs.now c.args.keys.now c.args.rows.now c.args.spare.now c.args.counts.now (scanned-answer c.args.bytes.now c.args.scanned c.requires.0) c.check.result _ _ _ _ (checked-here c.args.bytes.now (mesh_in (read_file c.args.bytes.now)) c.args.scanned.d c.args.scanned.count c.args.scanned.births c.args.scanned.pairs (scanned-gives c.args.bytes.now c.args.scanned c.requires.0) c.list_words.new.to c.list_words.ensures c.check.result c.args.keys.now _ c.args.rows.now _ c.args.spare.now _ c.args.counts.now _ c.check.ensures) _ c.in_err-check.was)

pub hand_out-requires : goal.hand_out-requires
hand_out-requires c = (c.requires.0, words-here c.args.bytes.now (mesh_in (read_file c.args.bytes.now)) c.args.scanned.d c.args.scanned.count c.args.scanned.births c.args.scanned.pairs (scanned-gives c.args.bytes.now c.args.scanned c.requires.0) c.list_words.new.to c.list_words.ensures, checks-passed (mesh_of c.args.scanned.d c.list_words.new.to [] []) c.check.result [] c.args.keys.now _ c.args.rows.now _ c.args.spare.now _ c.args.counts.now _ c.check.ensures c.in_ok-check.was)

pub returns : goal.returns
returns c = out-handed c.args.bytes.now c.args.words.now c.args.births.now c.args.pairs.now c.args.keys.now c.args.rows.now c.args.spare.now c.args.counts.now (scanned-answer c.args.bytes.now c.args.scanned c.requires.0) c.check.result _ _ _ _ (checked-here c.args.bytes.now (mesh_in (read_file c.args.bytes.now)) c.args.scanned.d c.args.scanned.count c.args.scanned.births c.args.scanned.pairs (scanned-gives c.args.bytes.now c.args.scanned c.requires.0) c.list_words.new.to c.list_words.ensures c.check.result c.args.keys.now _ c.args.rows.now _ c.args.spare.now _ c.args.counts.now _ c.check.ensures) c.in_ok-check.was c.hand_out.result _ _ _ c.hand_out.ensures
