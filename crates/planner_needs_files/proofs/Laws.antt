-- The lists as the functions write them down. Assumes nothing.
use mathlib.Core.Bool.{Bool, cond}
use mathlib.Core.List.{List, [], ◌∷◌}
use mathlib.Core.Path.{◌≡◌, sym, ap, ◌∙◌}
use Prim.Native.Nat.{ℕ, suc, ◌+◌, ◌*◌, ◌/◌, ◌<◌, ◌≤◌}
use native.Mathlib.Nat.{mul-le-mul_right, div-le_self}
use native.Mathlib.Decide.{dec_lt}
use native.Mathlib.Numerals.{add-one}
use native.Mathlib.Omega.{arith}
use borrow.Author.Tests.{lt-ltb, le-ltb}
use Rattle.refusal.specs.Limits.{most_cells, most_dimension}
use Rattle.complex.specs.Room.{key_room}
use Rattle.needs.specs.Needs.{worked, Worked}
use Rattle.planner_needs_files.specs.Needs.{most_birth_bytes, within, written_need}

pub within_none : (n : ℕ) → most_birth_bytes < n → 0 ≡ within n
unfolding within
within_none n h = sym (ap (λ (t : Bool). cond t 0 n) (lt-ltb most_birth_bytes n h))

pub within-taken : (n : ℕ) → n ≤ most_birth_bytes → n ≡ within n
unfolding within
within-taken n h = sym (ap (λ (t : Bool). cond t 0 n) (le-ltb most_birth_bytes n h))

pub within-most : (n : ℕ) → within n ≤ most_birth_bytes
within-most n = elim (dec_lt most_birth_bytes n) [ yes h ↦ omega (arith, within_none n h) | no h ↦ omega (arith, within-taken n (omega arith)) ]

pub written-made : (d n births pairs m k b p : ℕ) → Worked d n m → k ≡ key_room d m → b ≡ within births → p ≡ within pairs →
    ◌≡◌ {A = List ℕ} ((16 + m / (d + 1) * (10 + 4 * d) + b / 3 * 14 + p / 2 * 6) ∷ k ∷ m ∷ m ∷ m ∷ []) (written_need d (worked d n) births pairs)
written-made d n births pairs m k b p w e f g =
    ap (λ (x : ℕ). (16 + m / x * (10 + 4 * d) + b / 3 * 14 + p / 2 * 6) ∷ k ∷ m ∷ m ∷ m ∷ []) (add-one d)
    ∙ ap (λ (x : ℕ). (16 + m / suc d * (10 + 4 * d) + x / 3 * 14 + p / 2 * 6) ∷ k ∷ m ∷ m ∷ m ∷ []) f
    ∙ ap (λ (x : ℕ). (16 + m / suc d * (10 + 4 * d) + within births / 3 * 14 + x / 2 * 6) ∷ k ∷ m ∷ m ∷ m ∷ []) g
    ∙ ap (λ (x : ℕ). (16 + m / suc d * (10 + 4 * d) + within births / 3 * 14 + within pairs / 2 * 6) ∷ x ∷ m ∷ m ∷ m ∷ []) e
    ∙ ap (λ (x : ℕ). written_need d x births pairs) w.is

-- the parts of a file's size are no large numbers, whatever the dimension
pub size_small : (d n m b p births pairs : ℕ) → Worked d n m → b ≡ within births → p ≡ within pairs →
    (m / (d + 1) * (10 + 4 * d) ≤ most_cells * suc most_dimension * (10 + 4 * d)) × (b ≤ most_birth_bytes) × (p ≤ most_birth_bytes)
size_small d n m b p births pairs w e f =
    let c : m / (d + 1) ≤ most_cells * suc most_dimension = omega (arith, div-le_self m (d + 1), w.most) in
    (mul-le-mul_right (10 + 4 * d) c, omega (arith, within-most births), omega (arith, within-most pairs))
