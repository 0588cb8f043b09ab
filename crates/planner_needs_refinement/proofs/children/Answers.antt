-- `planner_needs_refinement::children` meets its contract: the product is small, and the limit cuts it as the definition does. Assumes nothing.
use mathlib.Core.Path.{◌≡◌, sym, ap, ◌∙◌, subst}
use Prim.Native.Nat.{ℕ, ◌*◌, ◌^◌, ◌≤◌, ◌<◌}
use native.Mathlib.Nat.{mul-le-mul_left}
use native.Mathlib.Omega.{arith}
use Rattle.refusal.specs.Limits.{most_cells, many_corners}
use Rattle.refine.specs.Space.{counted}
use Rattle.refine.proofs.Needed.{counted-most, power_small, children-over, children-in}
use Rattle.planner_needs_refinement.proofs.children.Goals as goal

-- the count, as a power of what the need counts
size_is : (d r k s : ℕ) → k ≡ counted r → s ≡ k ^ d → s ≡ counted r ^ d
size_is d r k s e f = f ∙ ap (λ (x : ℕ). x ^ d) e

pub count-requires : goal.count-requires
count-requires c = (c.requires.0, omega (arith, c.counted.ensures, counted-most c.args.r))

pub overflow_mul-many : goal.overflow_mul-many
overflow_mul-many c =
    let e = size_is c.args.d c.args.r c.counted.result c.count.result c.counted.ensures c.count.ensures in
    let p = power_small c.args.d (counted c.args.r) c.requires.0 (counted-most c.args.r) in
    let f : c.count.result ≤ many_corners = subst (λ (x : ℕ). x ≤ many_corners) (sym e) p in
    omega (arith, mul-le-mul_left c.args.m f, c.requires.1)

pub returns-then-many-gt-MOST_CELLS : goal.returns-then-many-gt-MOST_CELLS
returns-then-many-gt-MOST_CELLS c =
    let e = size_is c.args.d c.args.r c.counted.result c.count.result c.counted.ensures c.count.ensures in
    children-over c.args.d c.args.m c.args.r (subst (λ (x : ℕ). most_cells < c.args.m * x) e c.if-many-gt-MOST_CELLS.true)

pub returns : goal.returns
returns c =
    let e = size_is c.args.d c.args.r c.counted.result c.count.result c.counted.ensures c.count.ensures in
    ap (λ (x : ℕ). c.args.m * x) e ∙ children-in c.args.d c.args.m c.args.r (subst (λ (x : ℕ). c.args.m * x ≤ most_cells) e (omega (arith, c.if-many-gt-MOST_CELLS.false)))
