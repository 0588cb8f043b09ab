-- `file_mesh::run_ends` meets its contract. Assumes nothing.
use Rattle.file_mesh.proofs.Tests.{ends-none, ends_some}
use Rattle.file_mesh.proofs.run_ends.Goals as goal

pub returns-then-run-eq0 : goal.returns-then-run-eq0
returns-then-run-eq0 c = ends-none _ c.args.run c.if-run-eq0.true

pub returns : goal.returns
returns c = ends_some _ c.args.run c.if-run-eq0.false
