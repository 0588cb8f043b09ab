-- The corners that a call works on, and the keys of its rows. Assumes nothing.
use mathlib.Core.Bool.{Bool, cond}
use mathlib.Core.Path.{◌≡◌, refl, sym, ap, ◌∙◌}
use Prim.Native.Nat.{ℕ, zero, suc, ◌+◌, ◌*◌, ◌<◌, ◌≤◌}
use native.Mathlib.Nat.{mul-zero, mul-le-mul_right, mul-le-mul_left, le_trans}
use native.Mathlib.Decide.{dec_lt}
use native.Mathlib.Omega.{arith}
use lib.Dec.{ltb}
use borrow.Author.Tests.{lt-ltb, le-ltb}
use Rattle.refusal.specs.Limits.{most_cells, most_dimension}
use Rattle.complex.specs.Room.{key_room}
use Rattle.needs.specs.Needs.{worked, Worked}

pub worked-high : (d n : ℕ) → most_dimension < d → worked d n ≡ 0
unfolding worked
worked-high d n h = ap (λ (t : Bool). cond t 0 (cond (ltb (most_cells * suc d) n) 0 n)) (lt-ltb most_dimension d h)

low : (d n : ℕ) → d ≤ most_dimension → worked d n ≡ cond (ltb (most_cells * suc d) n) 0 n
unfolding worked
low d n h = ap (λ (t : Bool). cond t 0 (cond (ltb (most_cells * suc d) n) 0 n)) (le-ltb most_dimension d h)

pub worked-many : (d n : ℕ) → d ≤ most_dimension → most_cells * suc d < n → worked d n ≡ 0
worked-many d n h k = low d n h ∙ ap (λ (t : Bool). cond t 0 n) (lt-ltb (most_cells * suc d) n k)

pub worked-taken : (d n : ℕ) → d ≤ most_dimension → n ≤ most_cells * suc d → worked d n ≡ n
worked-taken d n h k = low d n h ∙ ap (λ (t : Bool). cond t 0 n) (le-ltb (most_cells * suc d) n k)

none : (d n : ℕ) → worked d n ≡ 0 → Worked d n 0
none d n e = record { is = sym e; most = omega arith; keys = omega (arith, mul-zero d) }

pub high : (d n : ℕ) → most_dimension < d → Worked d n 0
high d n h = none d n (worked-high d n h)

pub many : (d n : ℕ) → d ≤ most_dimension → most_cells * (d + 1) < n → Worked d n 0
many d n h k = none d n (worked-many d n h (omega arith))

pub taken : (d n : ℕ) → d ≤ most_dimension → n ≤ most_cells * (d + 1) → Worked d n n
taken d n h k =
    let most : n ≤ most_cells * suc most_dimension = omega arith in
    record { is = sym (worked-taken d n h (omega arith)); most = most; keys = le_trans (mul-le-mul_right n h) (mul-le-mul_left most_dimension most) }

pub key-most : (d n m k : ℕ) → Worked d n m → k ≡ key_room d m → k ≤ 4 * (most_cells * suc most_dimension)
key-most zero n m k w e = omega (arith, w.most)
key-most (suc d) n m k w e = omega (arith, w.keys)

pub some-room : (d n : ℕ) → (d ≡ 0 → ⊥) → d * n ≡ key_room d n
some-room zero n h = absurd (h refl)
some-room (suc d) n h = refl

-- where there are any, none of the limits is passed
pub some-low : (d n m : ℕ) → Worked d n m → (m ≡ 0 → ⊥) → d ≤ most_dimension
some-low d n m w h = elim (dec_lt most_dimension d) [ yes l ↦ absurd (h (w.is ∙ worked-high d n l)) | no l ↦ omega arith ]

pub some-few : (d n m : ℕ) → Worked d n m → (m ≡ 0 → ⊥) → m ≤ most_cells * suc d
some-few d n m w h =
    let l = some-low d n m w h in
    elim (dec_lt (most_cells * suc d) n) [ yes k ↦ absurd (h (w.is ∙ worked-many d n l k)) | no k ↦ omega (arith, w.is, worked-taken d n l (omega arith)) ]
