-- Words cut off a flat list, by number; and rows of k places: place x is of row x / k, at x % k in it. Assumes nothing.
use mathlib.Core.List.{List, []}
use mathlib.Core.Path.{◌≡◌, refl, ap, ◌∙◌}
use Prim.Native.Nat.{ℕ, zero, suc, ◌+◌, ◌-◌, ◌*◌, ◌/◌, ◌%◌, ◌<◌, ◌≤◌}
use native.Mathlib.Nat.{suc-mul, zero-mul, add-zero, add-sub_cancel_left, mul-le-mul_right, mul-add-div_right, div-eq_of_lt, mul-add-mod_self_right, mod-eq_of_lt, mod-lt, div-add-mod', div-lt_iff_lt-mul}
use native.Mathlib.Omega.{arith}
use lib.ListN.{length, get_or, take, drop, length-drop}
use lib.Seq.{drop-drop, length-take-le}
use Rattle.lists.specs.Rows.{cut, row}

pub cut-length : (n count : ℕ) (ws : List ℕ) → length (cut n count ws) ≡ count
unfolding cut
cut-length n zero ws = refl
cut-length n (suc count) ws = ap suc (cut-length n count (drop n ws))

pub cut_at : (n count : ℕ) (ws : List ℕ) (c : ℕ) → c < count → get_or (cut n count ws) c [] ≡ take n (drop (c * n) ws)
unfolding cut
cut_at n zero ws c h = absurd (omega arith)
cut_at n (suc count) ws zero h = rw (zero-mul n)
cut_at n (suc count) ws (suc c) h =
    let e : n + c * n ≡ suc c * n = omega (arith, suc-mul c n) in
    cut_at n count (drop n ws) c (omega arith) ∙ ap (take n) (drop-drop (c * n) n ws) ∙ ap (λ (i : ℕ). take n (drop i ws)) e

-- ---- rows of k places
pub row_in : (c s m k : ℕ) → c < m → s < k → c * k + s < m * k
row_in c s m k hc hs = omega (arith, suc-mul c k, mul-le-mul_right k hc)

pub row-div : (c s k : ℕ) → s < k → (c * k + s) / k ≡ c
row-div c s k h = mul-add-div_right (omega arith) c s ∙ ap (λ (x : ℕ). c + x) (div-eq_of_lt h) ∙ add-zero c

pub row-mod : (c s k : ℕ) → s < k → (c * k + s) % k ≡ s
row-mod c s k h = mul-add-mod_self_right c k s ∙ mod-eq_of_lt h

-- row x is in its place
pub row_fits : (x n d len : ℕ) → x < n → n * d ≤ len → x * d + d ≤ len
row_fits x n d len h l = omega (arith, suc-mul x d, mul-le-mul_right d h)

-- the row and the place in it
module _ (x m k : ℕ) (h : x < m * k) where
  pub slots-some : 0 < k
  slots-some = elim-zero k h
    where
      elim-zero : (k : ℕ) → x < m * k → 0 < k
      elim-zero zero l = absurd (omega (arith, l))
      elim-zero (suc k) l = omega arith

  pub row-cell-below : x / k < m
  row-cell-below = (div-lt_iff_lt-mul slots-some).1 h

  pub row-slot-below : x % k < k
  row-slot-below = mod-lt x slots-some

  pub row_is : x / k * k + x % k ≡ x
  row_is = div-add-mod' x k

-- ---- a part of a list, from its start to its end
-- n numbers from a on
pub part-size : {A : Type 0} (l : List A) (a n : ℕ) → a + n ≤ length l → length (take (a + n - a) (drop a l)) ≡ n
part-size l a n h = ap (λ (i : ℕ). length (take i (drop a l))) (add-sub_cancel_left a n) ∙ length-take-le n (drop a l) (rw length-drop (omega arith))

-- row k
pub part-row : {A : Type 0} (l : List A) (n k : ℕ) → take (k * n + n - k * n) (drop (k * n) l) ≡ row l n k
part-row l n k = ap (λ (i : ℕ). take i (drop (k * n) l)) (add-sub_cancel_left (k * n) n)
