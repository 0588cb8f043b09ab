-- `file_mesh::run_on` meets its contract. Assumes nothing.
use Rattle.file_mesh.proofs.Tests.{more-first, more-next}
use Rattle.file_mesh.proofs.run_on.Goals as goal

pub returns-then-run-eq0 : goal.returns-then-run-eq0
returns-then-run-eq0 c = more-first c.args.run _ _ c.if-run-eq0.true

pub returns : goal.returns
returns c = more-next c.args.run _ _ c.if-run-eq0.false
