-- The two truth values differ. Assumes nothing.
use mathlib.Core.Bool.{Bool, true, false}
use mathlib.Core.Path.{◌≡◌}
use Prim.Native.Nat.{ℕ}
use native.Mathlib.Omega.{arith}

pub never : ◌≡◌ {A = Bool} false true → ⊥
never e = let z : ◌≡◌ {A = ℕ} 0 1 = cc in omega arith
