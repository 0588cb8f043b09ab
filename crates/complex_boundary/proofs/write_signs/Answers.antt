-- `complex_boundary::write_signs` meets its contract. The invariant: the first x signs are written. Assumes nothing.
use mathlib.Core.Path.{◌≡◌, refl, ap, ◌∙◌}
use mathlib.Core.List.{List}
use Prim.Native.Nat.{◌%◌}
use native.Mathlib.Omega.{arith}
use lib.ListN.{set}
use lib.IntN.{ℤ, pos}
use mir.Val.{to_z, of_z}
use mir.Syntax.{w32}
use Rattle.multiindex.specs.Sign.{Sign, plus, minus, induced, sign_number}
use Rattle.complex_boundary.proofs.Entries.{tab-put}
use Rattle.complex_boundary.proofs.write_signs.Goals as goal

-- a sign is stored as it is
stored : (s : Sign) → to_z w32 (of_z w32 (sign_number s)) ≡ sign_number s
stored plus = refl
stored minus = refl

pub loop-x-init : goal.loop-x-init
loop-x-init c = refl

pub loop-x-preserved : goal.loop-x-preserved
loop-x-preserved c =
    ap (λ (z : List ℤ). set z c.loop-x.x (to_z w32 (of_z w32 c.sign_of.result))) c.loop-x.invariant ∙ tab-put (pos 0) (λ y. sign_number (induced (y % c.args.n))) c.args.signs.now c.loop-x.x (to_z w32 (of_z w32 c.sign_of.result)) (ap (λ (z : ℤ). to_z w32 (of_z w32 z)) c.sign_of.ensures ∙ stored (induced (c.loop-x.x % c.args.n))) (omega (arith, c.requires.1))

pub returns : goal.returns
returns c = let e : c.loop-x.x ≡ c.args.total = omega arith in rw e at c.loop-x.invariant
