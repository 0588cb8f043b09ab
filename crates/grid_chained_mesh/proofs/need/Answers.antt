-- `grid_chained_mesh::need` meets its contract. Assumes nothing.
use Rattle.grid_chained.proofs.Taken.{high, few-corners}
use Rattle.complex.specs.Room.{need_of}
use native.Mathlib.Omega.{arith}
use Prim.Native.Nat.{ℕ}
use mathlib.Core.Path.{ap, ◌∙◌}
use Rattle.grid_chained_mesh.proofs.need.Goals as goal

pub need-requires-2 : goal.need-requires-2
need-requires-2 c = (high c.args.grid c.requires, omega (arith, few-corners c.args.grid c.requires, c.need.ensures))

pub returns : goal.returns
returns c = c.need-2.ensures ∙ ap (λ (n : ℕ). need_of c.args.grid.d n) c.need.ensures
