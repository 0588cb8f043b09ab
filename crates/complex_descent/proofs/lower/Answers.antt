-- `complex_descent::lower` meets its contract: the facets' rows are gathered (proofs/Steps). Assumes nothing.
use mathlib.Core.Path.{ap}
use Prim.Native.Nat.{ℕ, ◌*◌}
use native.Mathlib.Omega.{arith}
use Rattle.complex_cells.proofs.Named.{named-many}
use Rattle.complex_descent.proofs.Steps.{gathered}
use Rattle.complex_descent.proofs.lower.Goals as goal

pub gather-requires : goal.gather-requires
gather-requires c =
    let q = c.classes-f in
    let n = c.classes-f.ensures.named in record { by_index = n.rows.inside; m_in_bounds = (n.rows.long, omega (arith, c.requires.2, c.classes-f.auto.rows, ap (λ (z : ℕ). z * c.args.e) (named-many _ _ _ _ _ n))) }

pub returns : goal.returns
returns c =
    let q = c.classes-f in
    gathered c.args.e c.classes-f.result _ c.classes-f.new.keys c.classes-f.new.spare c.classes-f.new.rows _ c.classes-f.ensures.named c.gather.ensures
