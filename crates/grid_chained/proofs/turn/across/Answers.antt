-- `grid_chained::turn::across` meets its contract. The invariant: s is the product of the points on the axes below k, and x the number that the turned coordinates
-- below k make, which is below s. Assumes nothing.
use mathlib.Core.Path.{◌≡◌, refl}
use Prim.Native.Nat.{ℕ, ◌+◌, ◌*◌, ◌≤◌, ◌<◌}
use native.Mathlib.Omega.{arith}
use Rattle.refusal.specs.Says.{fine}
use Rattle.refusal.specs.Limits.{most_corners}
use Rattle.quotient.specs.declared.Grid.{Grid}
use Rattle.quotient.specs.Fold.{product}
use Rattle.quotient.specs.Shape.{points_on, cells_on}
use Rattle.quotient.specs.Points.{from_digits}
use Rattle.quotient.specs.Reduce.{coord_at}
use Rattle.quotient.proofs.Points.{coord-le}
use Rattle.grid_chained.specs.Shape.{shape_of}
use Rattle.grid_chained.specs.WorkTurn.{turns_at, turn, across_of}
use Rattle.grid_chained.proofs.Taken.{digit-turn, points-turn, few-points}
use Rattle.grid_chained.proofs.Turns.{turn-le, across_lt}
use Rattle.grid_chained.proofs.turn.across.Goals as goal

pub loop-k-init : goal.loop-k-init
unfolding product from_digits
loop-k-init c = record { points = refl; number = refl; below = omega arith }

-- the turned coordinates
abbrev turned : Grid → ℕ → ℕ → ℕ → ℕ
turned g v a k = turn (turns_at g a k) (cells_on g k) (coord_at g v k)

-- a turn of the loop
round : (g : Grid) (v a k s x t p : ℕ) → shape_of g ≡ fine → k < g.d → s ≡ product (points_on g) k → x ≡ from_digits (points_on g) (turned g v a) k → x < s → t ≡ turned g v a k → p ≡ points_on g k →
    (x + s * t ≡ from_digits (points_on g) (turned g v a) (k + 1)) × (x + s * t < s * p) × (s * p ≤ most_corners) × (s * t ≤ most_corners)
round g v a k s x t p fine h hs hx l ht hp = digit-turn g fine (turned g v a) k s x t p h hs hx l ht (rw ht (turn-le (turns_at g a k) (cells_on g k) (coord_at g v k) (coord-le g v k))) hp

pub overflow_mul-x : goal.overflow_mul-x
overflow_mul-x c =
    let i = c.loop-k.invariant in
    let t = round _ _ _ _ _ _ _ _ c.requires c.loop-k-test.true i.points i.number i.below c.turned.ensures refl in
    omega (arith, t.3)

pub overflow_add-x : goal.overflow_add-x
overflow_add-x c =
    let i = c.loop-k.invariant in
    let t = round _ _ _ _ _ _ _ _ c.requires c.loop-k-test.true i.points i.number i.below c.turned.ensures refl in
    omega (arith, t.1, t.2)

pub overflow_mul-s : goal.overflow_mul-s
overflow_mul-s c =
    let t = points-turn c.args.grid c.requires _ _ _ c.loop-k-test.true c.loop-k.invariant.points c.points_on-s.ensures in
    omega (arith, t.1)

pub loop-k-preserved : goal.loop-k-preserved
loop-k-preserved c =
    let i = c.loop-k.invariant in
    let t = round _ _ _ _ _ _ _ _ c.requires c.loop-k-test.true i.points i.number i.below c.turned.ensures c.points_on-s.ensures in
    let p = points-turn c.args.grid c.requires _ _ _ c.loop-k-test.true i.points c.points_on-s.ensures in
    record { points = p.0; number = t.0; below = t.1 }

-- all coordinates are added when the loop ends
whole : (c : goal.After-loop-k) → c.loop-k.x ≡ across_of c.args.grid c.args.v c.args.a
whole c = let e : c.loop-k.k ≡ c.args.grid.d = omega arith in rw e at c.loop-k.invariant.number

pub overflow_cast-result : goal.overflow_cast-result
overflow_cast-result c = omega (arith, whole c, across_lt c.args.grid c.args.v c.args.a, few-points c.args.grid c.requires)

pub returns : goal.returns
returns c = (whole c, omega (arith, whole c, across_lt c.args.grid c.args.v c.args.a))
