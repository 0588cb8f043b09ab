-- `file_mesh::number_fits` meets its contract. Assumes nothing.
use Rattle.file_mesh.proofs.Tests.{number-high, number-first, number-next}
use Rattle.file_mesh.proofs.number_fits.Goals as goal

pub returns-then-vertices-v : goal.returns-then-vertices-v
returns-then-vertices-v c = number-high _ c.args.run _ c.if-vertices-v.true

pub returns-then-run-eq0 : goal.returns-then-run-eq0
returns-then-run-eq0 c = number-first _ c.args.run _ c.if-vertices-v.false c.if-run-eq0.true

pub returns : goal.returns
returns c = number-next _ c.args.run _ c.if-vertices-v.false c.if-run-eq0.false
