-- `complex_facets::other_cell` meets its contract. Assumes nothing.
use Rattle.complex_facets.proofs.Joining.{other-same, other-else}
use mathlib.Core.Path.{sym}
use Rattle.complex_facets.proofs.other_cell.Goals as goal

pub returns-then-lower-cell : goal.returns-then-lower-cell
returns-then-lower-cell c = sym (other-same c.args.cell c.args.lower c.args.upper c.if-lower-cell.true)

pub returns : goal.returns
returns c = sym (other-else c.args.cell c.args.lower c.args.upper c.if-lower-cell.false)
