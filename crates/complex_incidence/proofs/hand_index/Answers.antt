-- `complex_incidence::hand_index` meets its contract: what is written is the index of the cells that the corners are of (proofs/Steps). Assumes nothing.
use native.Mathlib.Omega.{arith}
use Rattle.complex_incidence.proofs.Steps.{cells-short, starts-short, both-handed}
use Rattle.complex_incidence.proofs.hand_index.Goals as goal

pub returns-then-touching-long : goal.returns-then-touching-long
returns-then-touching-long c = λ cs a. cells-short c.args.n c.args.long c.args.vertices c.args.corners.now c.args.order.now c.requires.1 cs a c.args.touching.now c.args.starts.now c.if-touching-long.true

pub returns-then-starts-vertices : goal.returns-then-starts-vertices
returns-then-starts-vertices c = λ cs a. starts-short c.args.n c.args.long c.args.vertices c.args.corners.now c.args.order.now c.requires.1 cs a c.args.touching.now c.args.starts.now c.if-starts-vertices.true

pub returns : goal.returns
returns c =
    λ cs a.
    both-handed c.args.n c.args.long c.args.vertices c.args.corners.now c.args.order.now c.requires.1 cs a c.args.touching.now _ c.args.starts.now _ (omega arith) (omega arith) c.write_cells.ensures c.write_starts.ensures
