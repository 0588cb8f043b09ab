-- Laws on the coordinates of a grid point. Assumes nothing.
use mathlib.Core.Path.{◌≡◌, refl, sym}
use mathlib.Core.Bool.{Bool, true, false, cond, ◌&&◌, false≢true}
use mathlib.Core.Logic.{⊎_elim}
use Prim.Native.Nat.{ℕ, ◌+◌, ◌-◌, ◌/◌, ◌%◌, ◌≤◌, ◌<◌}
use native.Mathlib.Nat.{mod-lt, mod_self, mod-eq_of_lt}
use native.Mathlib.Numerals.{add-one}
use native.Mathlib.Omega.{arith}
use lib.Dec.{eqb}
use borrow.Author.Tests.{eqb-true, eqb-false}
use Rattle.quotient.specs.declared.Axis.{Axis}
use Rattle.quotient.specs.declared.Grid.{Grid}
use Rattle.quotient.specs.Shape.{axis_of, cells_on, closed_at, points_on}
use Rattle.quotient.specs.Reduce.{rest_at, coord_at}
use Rattle.quotient.specs.Work.{ends_at}
use Rattle.quotient.proofs.Laws.{lt-or-ge}

module _ (g : Grid) (v : ℕ) where
  -- one coordinate more is taken off
  pub rest_more : (j x p r : ℕ) → x ≡ rest_at g v j → p ≡ points_on g j → r ≡ x / p → r ≡ rest_at g v (j + 1)
  unfolding rest_at
  rest_more j x p r hx hp hr = rw (hr, hx, hp, add-one j)

  pub coord-of : (k x p : ℕ) → x ≡ rest_at g v k → p ≡ points_on g k → x % p ≡ coord_at g v k
  coord-of k x p hx hp = rw (hx, hp)

  -- a coordinate is at most the number of cells
  pub coord-le : (k : ℕ) → coord_at g v k ≤ cells_on g k
  coord-le k = let h : coord_at g v k < cells_on g k + 1 = mod-lt (rest_at g v k) (omega arith) in omega arith

cond-le : (b : Bool) (n c : ℕ) → c ≤ n → cond b (n - c) c ≤ n
cond-le true n c h = omega arith
cond-le false n c h = h

pub turn-le : (b : Bool) (n c r : ℕ) → c ≤ n → r ≡ cond b (n - c) c → r ≤ n
turn-le b n c r h e = rw e (cond-le b n c h)

-- ---- a closed coordinate modulo n: it is at most n, so only n itself changes
end-folds : (b : Bool) (c n : ℕ) → b && eqb c n ≡ true → 0 ≡ cond b (c % n) c
end-folds true c n e = let q : c ≡ n = eqb-true c n e in rw q (sym (mod_self n))
end-folds false c n e = absurd (false≢true e)

other-stays : (b : Bool) (c n : ℕ) → b && eqb c n ≡ false → c ≤ n → c ≡ cond b (c % n) c
other-stays true c n e l =
    ⊎_elim
    (λ (m : c < n). sym (mod-eq_of_lt m))
    (λ (m : n ≤ c). absurd (eqb-false c n e (omega arith)))
    (lt-or-ge c n)
other-stays false c n e l = refl

-- t, which the code has as c
module _ (g : Grid) (k c t : ℕ) (x : Axis) (hx : x ≡ axis_of g k) (ht : c ≡ t) where
  pub fold_end : ends_at x c ≡ true → 0 ≡ cond (closed_at g k) (t % cells_on g k) t
  fold_end z = rw (← ht) (end-folds (closed_at g k) c (cells_on g k) (rw hx at z))

  pub fold-other : ends_at x c ≡ false → c ≤ cells_on g k → c ≡ cond (closed_at g k) (t % cells_on g k) t
  fold-other z l = rw (← ht) (other-stays (closed_at g k) c (cells_on g k) (rw hx at z) l)
