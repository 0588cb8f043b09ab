-- `complex_incidence::write_cells` meets its contract. The invariant: the first i cells are written. Assumes nothing.
use mathlib.Core.Path.{◌≡◌, refl, ap, ◌∙◌}
use mathlib.Core.List.{List}
use Prim.Native.Nat.{ℕ, ◌/◌}
use native.Mathlib.Omega.{arith}
use lib.ListN.{get_or, set}
use Rattle.complex_incidence.proofs.Corners.{tab-put}
use Rattle.complex_incidence.proofs.write_cells.Goals as goal

pub loop-i-init : goal.loop-i-init
loop-i-init c = refl

pub loop-i-preserved : goal.loop-i-preserved
loop-i-preserved c =
    ap (λ (z : List ℕ). set z c.loop-i.i c.cell_of.result) c.loop-i.invariant ∙ tab-put (λ j. get_or c.args.order.now j 0 / c.args.n) c.args.to.now c.loop-i.i c.cell_of.result c.cell_of.ensures (omega (arith, c.requires.2))

pub returns : goal.returns
returns c = let e : c.loop-i.i ≡ c.args.long = omega arith in rw e at c.loop-i.invariant
