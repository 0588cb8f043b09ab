-- `bandsum_lines::refused` meets its contract. Assumes nothing.
use native.Mathlib.Omega.{arith}
use mathlib.Core.List.{[]}
use Rattle.text.proofs.Adding.{adds-held}
use Rattle.bandsum_lines.proofs.Laws.{empty-len}
use Rattle.bandsum_lines.proofs.refused.Goals as goal

pub line-requires : goal.line-requires
line-requires c = omega (arith, empty-len c.empty-a.ensures)

pub returns : goal.returns
returns c = adds-held [] c.empty-a.ensures c.line.ensures
