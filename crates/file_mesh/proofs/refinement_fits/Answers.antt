-- `file_mesh::refinement_fits` meets its contract. Assumes nothing.
use Rattle.file_mesh.proofs.Tests.{refinement-low, refinement-high, refinement-first, refinement-same}
use Rattle.file_mesh.proofs.refinement_fits.Goals as goal

pub returns-then-r-lt2 : goal.returns-then-r-lt2
returns-then-r-lt2 c = refinement-low c.args.run _ c.if-r-lt2.true

pub returns-then-r-gt-MOST_REFINEMENT : goal.returns-then-r-gt-MOST_REFINEMENT
returns-then-r-gt-MOST_REFINEMENT c = refinement-high c.args.run _ c.if-r-lt2.false c.if-r-gt-MOST_REFINEMENT.true

pub returns-then-run-eq0 : goal.returns-then-run-eq0
returns-then-run-eq0 c = refinement-first c.args.run _ c.if-r-lt2.false c.if-r-gt-MOST_REFINEMENT.false c.if-run-eq0.true

pub returns : goal.returns
returns c = refinement-same c.args.run _ c.if-r-lt2.false c.if-r-gt-MOST_REFINEMENT.false c.if-run-eq0.false
