-- `check` meets its contract: it goes through the tests of the answer in their order. Assumes nothing.
use mathlib.Core.Path.{◌≡◌, sym, ap, ◌∙◌}
use mathlib.Core.Bool.{false}
use Prim.Native.Nat.{ℕ, suc, ◌+◌, ◌*◌, ◌^◌, ◌≤◌}
use native.Mathlib.Numerals.{add-one}
use native.Mathlib.Nat.{mul-le-mul}
use native.Mathlib.Omega.{arith}
use borrow.Author.Tests.{not-true, not-false}
use Rattle.refusal.specs.Limits.{most_cells}
use Rattle.refine_pattern.specs.Promise.{outside}
use Rattle.refine_pattern.proofs.Checks.{outside-no, says-dimension, says-refinement, says-cells, says-short, says-fine}
use Rattle.refine_pattern.proofs.check.Goals as goal

pub returns-then-d-gt-MOST_DIMENSION : goal.returns-then-d-gt-MOST_DIMENSION
returns-then-d-gt-MOST_DIMENSION c = says-dimension c.args.d c.args.r c.args.len c.if-d-gt-MOST_DIMENSION.true

pub returns-then-not-inside : goal.returns-then-not-inside
returns-then-not-inside c =
    says-refinement c.args.d c.args.r c.args.len c.if-d-gt-MOST_DIMENSION.false (not-false _ (sym c.inside.ensures ∙ c.if-not-inside.true))

pub count-children-requires : goal.count-children-requires
count-children-requires c =
    let inside-yes : outside c.args.r ≡ false = not-true _ (sym c.inside.ensures ∙ c.if-not-inside.false) in
    (c.if-d-gt-MOST_DIMENSION.false, omega (arith, outside-no c.args.r (inside-yes)))

pub returns-then-children-gt-MOST_CELLS : goal.returns-then-children-gt-MOST_CELLS
returns-then-children-gt-MOST_CELLS c =
    let inside-yes : outside c.args.r ≡ false = not-true _ (sym c.inside.ensures ∙ c.if-not-inside.false) in
    says-cells c.args.d c.args.r c.args.len c.if-d-gt-MOST_DIMENSION.false (inside-yes) (omega (arith, c.if-children-gt-MOST_CELLS.true, c.count-children.ensures))

pub overflow_mul-axes : goal.overflow_mul-axes
overflow_mul-axes c =
    let h : c.args.d + 1 ≤ 4 = omega (arith, c.if-d-gt-MOST_DIMENSION.false) in
    omega (arith, mul-le-mul h h)

pub overflow_mul-children : goal.overflow_mul-children
overflow_mul-children c =
    let h : c.args.d + 1 ≤ 4 = omega (arith, c.if-d-gt-MOST_DIMENSION.false) in
    let k : (c.args.d + 1) * (c.args.d + 1) ≤ 16 = mul-le-mul h h in
    let n : c.count-children.result ≤ 4096 = c.if-children-gt-MOST_CELLS.false in
    omega (arith, mul-le-mul n k)

pub returns-then-len-children : goal.returns-then-len-children
returns-then-len-children c =
    let inside-yes : outside c.args.r ≡ false = not-true _ (sym c.inside.ensures ∙ c.if-not-inside.false) in
    let few_cells : c.args.r ^ c.args.d ≤ most_cells = omega (arith, c.if-children-gt-MOST_CELLS.false, c.count-children.ensures) in
    let size : c.count-children.result * ((c.args.d + 1) * (c.args.d + 1))
    ≡ c.args.r ^ c.args.d * (suc c.args.d * suc c.args.d) = ap (λ (x : ℕ). x * ((c.args.d + 1) * (c.args.d + 1))) c.count-children.ensures
    ∙ ap (λ (x : ℕ). c.args.r ^ c.args.d * (x * x)) (add-one c.args.d) in
    says-short c.args.d c.args.r c.args.len c.if-d-gt-MOST_DIMENSION.false (inside-yes) (few_cells) (omega (arith, c.if-len-children.true, size))

pub returns : goal.returns
returns c =
    let inside-yes : outside c.args.r ≡ false = not-true _ (sym c.inside.ensures ∙ c.if-not-inside.false) in
    let few_cells : c.args.r ^ c.args.d ≤ most_cells = omega (arith, c.if-children-gt-MOST_CELLS.false, c.count-children.ensures) in
    let size : c.count-children.result * ((c.args.d + 1) * (c.args.d + 1))
    ≡ c.args.r ^ c.args.d * (suc c.args.d * suc c.args.d) = ap (λ (x : ℕ). x * ((c.args.d + 1) * (c.args.d + 1))) c.count-children.ensures
    ∙ ap (λ (x : ℕ). c.args.r ^ c.args.d * (x * x)) (add-one c.args.d) in
    says-fine c.args.d c.args.r c.args.len c.if-d-gt-MOST_DIMENSION.false (inside-yes) (few_cells) (omega (arith, c.if-len-children.false, size))
