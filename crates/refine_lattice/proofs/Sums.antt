-- The sum of the products, entry by entry, as a sum over places. Assumes nothing.
use mathlib.Core.Path.{◌≡◌, refl}
use mathlib.Core.List.{List, [], ◌∷◌}
use Prim.Native.Nat.{ℕ, zero, suc, ◌*◌}
use native.Mathlib.Nat.{suc_inj}
use native.Mathlib.Omega.{arith}
use lib.ListN.{length, get_or}
use Rattle.lists.specs.Tables.{sum}
use Rattle.lists.proofs.Sums.{sum-front}
use Rattle.refine_lattice.specs.Lattice.{dot}

pub dot-sum : (n : ℕ) (xs ys : List ℕ) → length xs ≡ n → length ys ≡ n → dot xs ys ≡ sum n (λ i. get_or xs i 0 * get_or ys i 0)
dot-sum zero [] ys h l = refl
dot-sum zero (x ∷ xs) ys h l = omega arith
dot-sum (suc n) [] ys h l = omega arith
dot-sum (suc n) (x ∷ xs) [] h l = omega arith
dot-sum (suc n) (x ∷ xs) (y ∷ ys) h l =
    omega (arith, dot-sum n xs ys (suc_inj h) (suc_inj l), sum-front n (λ i. get_or (x ∷ xs) i 0 * get_or (y ∷ ys) i 0))
