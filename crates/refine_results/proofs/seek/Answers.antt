-- `refine_results::seek` meets its contract: what each call asks, and how it ends, is told by proofs/Found. Assumes nothing.
use mathlib.Core.Path.{refl, ◌≡◌, sym, ap, ◌∙◌, subst}
use Prim.Native.Nat.{ℕ, suc, ◌+◌, ◌*◌, ◌^◌, ◌≤◌, ◌<◌}
use native.Mathlib.Omega.{arith}
use native.Mathlib.Numerals.{add-one}
use Rattle.refusal.specs.Limits.{most_cells}
use Rattle.refine_results.specs.WorkSteps.{outside, many_cells}
use Rattle.refine_results.proofs.Found.{children-fit, to-pattern, corners-fit, to-births, born-few, sought-many, sought-found}
use Rattle.refine_results.proofs.seek.Goals as goal

pub returns-then-not-inside : goal.returns-then-not-inside
returns-then-not-inside c = outside (c.inside.ensures.no (c.if-not-inside.true))

pub count-size-requires : goal.count-size-requires
count-size-requires c = (c.requires.ready.dim, omega (arith, (c.inside.ensures.yes (c.if-not-inside.false)).most))

pub overflow_mul-children : goal.overflow_mul-children
overflow_mul-children c =
    let sz : c.count-size.result ≡ c.args.r ^ c.args.d = c.count-size.ensures in
    let w = c.inside.ensures.yes (c.if-not-inside.false) in
    record { fits = subst (λ (x : ℕ). c.args.m * x < 2 ^ 64) (sym sz) (children-fit c.args.d c.args.r c.args.m c.requires.ready.dim w.most c.requires.ready.few) }

pub returns-then-children-gt-MOST_CELLS : goal.returns-then-children-gt-MOST_CELLS
returns-then-children-gt-MOST_CELLS c =
    let sz : c.count-size.result ≡ c.args.r ^ c.args.d = c.count-size.ensures in
    let w = c.inside.ensures.yes (c.if-not-inside.false) in
    many_cells w (omega (arith, c.if-children-gt-MOST_CELLS.true, ap (λ (x : ℕ). c.args.m * x) sz))

pub pattern-requires : goal.pattern-requires
pattern-requires c =
    let sz : c.count-size.result ≡ c.args.r ^ c.args.d = c.count-size.ensures in
    let w = c.inside.ensures.yes (c.if-not-inside.false) in
    let f : c.args.m * c.args.r ^ c.args.d ≤ most_cells = omega (arith, c.if-children-gt-MOST_CELLS.false, ap (λ (x : ℕ). c.args.m * x) sz) in
    to-pattern c.args.d c.args.r c.args.n c.args.m c.args.along.now c.args.pattern.now c.args.keys.now c.args.rows.now c.args.spare.now c.args.counts.now c.requires w f

pub overflow_mul-corners : goal.overflow_mul-corners
overflow_mul-corners c =
    let sz : c.count-size.result ≡ c.args.r ^ c.args.d = c.count-size.ensures in
    let w = c.inside.ensures.yes (c.if-not-inside.false) in
    let f : c.args.m * c.args.r ^ c.args.d ≤ most_cells = omega (arith, c.if-children-gt-MOST_CELLS.false, ap (λ (x : ℕ). c.args.m * x) sz) in
    record { fits = corners-fit c.args.d c.args.r c.args.n c.args.m c.args.along.now c.args.pattern.now c.args.keys.now c.args.rows.now c.args.spare.now c.args.counts.now c.requires w f c.count-size.result sz (c.args.d + 1) (add-one c.args.d) }

pub resolve-born-requires : goal.resolve-born-requires
resolve-born-requires c =
    let sz : c.count-size.result ≡ c.args.r ^ c.args.d = c.count-size.ensures in
    let w = c.inside.ensures.yes (c.if-not-inside.false) in
    let f : c.args.m * c.args.r ^ c.args.d ≤ most_cells = omega (arith, c.if-children-gt-MOST_CELLS.false, ap (λ (x : ℕ). c.args.m * x) sz) in
    let g : c.count-size.result * (c.args.d + 1) ≡ c.args.r ^ c.args.d * suc c.args.d = ap (λ (x : ℕ). x * (c.args.d + 1)) sz ∙ ap (λ (x : ℕ). c.args.r ^ c.args.d * x) (add-one c.args.d) in
    to-births c.args.d c.args.r c.args.n c.args.m c.args.along.now c.args.pattern.now c.args.keys.now c.args.rows.now c.args.spare.now c.args.counts.now c.requires w f c.pattern.new.to c.pattern.ensures (c.count-size.result * (c.args.d + 1)) g

pub overflow_add-n : goal.overflow_add-n
overflow_add-n c =
    let sz : c.count-size.result ≡ c.args.r ^ c.args.d = c.count-size.ensures in
    let w = c.inside.ensures.yes (c.if-not-inside.false) in
    let f : c.args.m * c.args.r ^ c.args.d ≤ most_cells = omega (arith, c.if-children-gt-MOST_CELLS.false, ap (λ (x : ℕ). c.args.m * x) sz) in
    let g : c.count-size.result * (c.args.d + 1) ≡ c.args.r ^ c.args.d * suc c.args.d = ap (λ (x : ℕ). x * (c.args.d + 1)) sz ∙ ap (λ (x : ℕ). c.args.r ^ c.args.d * x) (add-one c.args.d) in
    omega (arith, c.requires.ready.low, born-few c.args.d c.args.r c.args.n c.args.m c.args.along.now c.args.pattern.now c.args.keys.now c.args.rows.now c.args.spare.now c.args.counts.now c.requires w f c.pattern.new.to c.pattern.ensures (c.count-size.result * (c.args.d + 1)) g c.resolve-born.result c.resolve-born.new.keys c.resolve-born.new.spare c.resolve-born.new.counts c.resolve-born.ensures)

pub returns-then-n-born-gt-MOST_VERTICES : goal.returns-then-n-born-gt-MOST_VERTICES
returns-then-n-born-gt-MOST_VERTICES c =
    let sz : c.count-size.result ≡ c.args.r ^ c.args.d = c.count-size.ensures in
    let w = c.inside.ensures.yes (c.if-not-inside.false) in
    let f : c.args.m * c.args.r ^ c.args.d ≤ most_cells = omega (arith, c.if-children-gt-MOST_CELLS.false, ap (λ (x : ℕ). c.args.m * x) sz) in
    let g : c.count-size.result * (c.args.d + 1) ≡ c.args.r ^ c.args.d * suc c.args.d = ap (λ (x : ℕ). x * (c.args.d + 1)) sz ∙ ap (λ (x : ℕ). c.args.r ^ c.args.d * x) (add-one c.args.d) in
    sought-many c.args.d c.args.r c.args.n c.args.m c.args.along.now c.args.pattern.now c.args.keys.now c.args.rows.now c.args.spare.now c.args.counts.now c.requires w f c.pattern.new.to c.pattern.ensures (c.count-size.result * (c.args.d + 1)) g c.resolve-born.result c.resolve-born.new.keys c.resolve-born.new.spare c.resolve-born.new.counts c.resolve-born.ensures c.args.n refl c.if-n-born-gt-MOST_VERTICES.true

pub returns : goal.returns
returns c =
    let sz : c.count-size.result ≡ c.args.r ^ c.args.d = c.count-size.ensures in
    let w = c.inside.ensures.yes (c.if-not-inside.false) in
    let f : c.args.m * c.args.r ^ c.args.d ≤ most_cells = omega (arith, c.if-children-gt-MOST_CELLS.false, ap (λ (x : ℕ). c.args.m * x) sz) in
    let g : c.count-size.result * (c.args.d + 1) ≡ c.args.r ^ c.args.d * suc c.args.d = ap (λ (x : ℕ). x * (c.args.d + 1)) sz ∙ ap (λ (x : ℕ). c.args.r ^ c.args.d * x) (add-one c.args.d) in
    sought-found c.args.d c.args.r c.args.n c.args.m c.args.along.now c.args.pattern.now c.args.keys.now c.args.rows.now c.args.spare.now c.args.counts.now c.requires w f c.pattern.new.to c.pattern.ensures (c.count-size.result * (c.args.d + 1)) g c.resolve-born.result c.resolve-born.new.keys c.resolve-born.new.spare c.resolve-born.new.counts c.resolve-born.ensures c.count-size.result sz c.args.n refl (omega (arith, c.if-n-born-gt-MOST_VERTICES.false))
