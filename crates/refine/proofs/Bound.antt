-- Document 01: the need is at most 32 numbers for each corner of the words and of their children, up to the limit, plus 16,384. Assumes nothing.
use Prim.Native.Nat.{ℕ, suc, ◌+◌, ◌*◌, ◌/◌, ◌≤◌}
use native.Mathlib.Nat.{mul-le-mul_left, mul-suc}
use native.Mathlib.Omega.{arith}
use Rattle.refusal.specs.Limits.{most_dimension, most_refinement, row_most}
use Rattle.refine.specs.declared.Space.{Space}
use Rattle.refine.specs.Space.{children_room, space_for, space_of}

-- the ten needs together
abbrev pub total : Space → ℕ
total s = s.cells + s.along + s.pattern + s.keys + s.rows + s.spare + s.counts + s.sorted + s.firsts + s.buckets

-- ten numbers for each corner of the words, and for each corner of the children six more than three rows have
for-bound : (d n c : ℕ) → d ≤ most_dimension → total (space_for d n c) ≤ 10 * n + 3 * row_most * (c * suc d) + 6 * (c * suc d) + suc most_refinement
for-bound d n c h = omega (arith, mul-le-mul_left (c * suc d) (row-most d h), mul-suc c d)
  where
    row-most : (d : ℕ) → d ≤ most_dimension → suc d ≤ row_most
    row-most d h = omega arith

pub space-bound : (d n R : ℕ) → d ≤ most_dimension → total (space_of d n R) ≤ 32 * (n + children_room d (n / suc d) R * suc d) + 16384
space-bound d n R h = omega (arith, for-bound d n (children_room d (n / suc d) R) h)
