-- `complex_boundary::write_cofaces` meets its contract. The invariant: the first x cofaces are written. Assumes nothing.
use mathlib.Core.Path.{◌≡◌, refl, ap, ◌∙◌}
use mathlib.Core.List.{List}
use Prim.Native.Nat.{ℕ, ◌/◌}
use native.Mathlib.Nat.{div-le_self}
use native.Mathlib.Omega.{arith}
use lib.ListN.{set}
use Rattle.complex_boundary.proofs.Entries.{tab-put}
use Rattle.complex_boundary.proofs.write_cofaces.Goals as goal

pub loop-x-init : goal.loop-x-init
loop-x-init c = refl

pub overflow_cast-cofaces : goal.overflow_cast-cofaces
overflow_cast-cofaces c = omega (arith, div-le_self c.loop-x.x c.args.n, c.requires.1)

pub loop-x-preserved : goal.loop-x-preserved
loop-x-preserved c =
    ap (λ (z : List ℕ). set z c.loop-x.x (c.loop-x.x / c.args.n)) c.loop-x.invariant ∙ tab-put 0 (λ y. y / c.args.n) c.args.cofaces.now c.loop-x.x (c.loop-x.x / c.args.n) refl (omega (arith, c.requires.2))

pub returns : goal.returns
returns c = let e : c.loop-x.x ≡ c.args.total = omega arith in rw e at c.loop-x.invariant
