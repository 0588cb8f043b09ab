-- `refine_results::finish` meets its contract: what each call asks, and how it ends, is told by proofs/Handing. Assumes nothing.
use mathlib.Core.Path.{refl, ◌≡◌, sym, ap, ◌∙◌, subst}
use Prim.Native.Nat.{ℕ, suc, ◌+◌, ◌*◌, ◌^◌}
use native.Mathlib.Omega.{arith}
use native.Mathlib.Numerals.{add-one}
use Rattle.refine_births.specs.Promise.{Supports}
use Rattle.refine_results.specs.Results.{lengths_of}
use Rattle.refine_results.specs.WorkSteps.{Fits, Bears}
use Rattle.refine_results.proofs.Handing.{arranged, arranging, few, handed-short, to-children, to-births, handed-made}
use Rattle.refine_results.proofs.finish.Goals as goal

pub count-size-requires : goal.count-size-requires
count-size-requires c = (c.requires.refining.dim, omega (arith, c.requires.refining.most))

pub overflow_mul-m : goal.overflow_mul-m
overflow_mul-m c =
    let sz : c.count-size.result ≡ c.args.r ^ c.args.d = c.count-size.ensures in
    record { fits = omega (arith, c.requires.few_cells, ap (λ (x : ℕ). c.args.m * x) sz) }

pub ordered-kinds-requires : goal.ordered-kinds-requires
ordered-kinds-requires c =
    let sz : c.count-size.result ≡ c.args.r ^ c.args.d = c.count-size.ensures in
    (c.requires.few_vertices, arranging c.args.d c.args.r c.args.n c.args.m c.args.born c.args.coarse.now c.args.along.now c.args.pattern.now c.args.keys.now c.args.rows.now c.args.spare.now c.args.names.now c.args.sorted.now c.args.firsts.now c.args.buckets.now c.requires (c.args.d + 1) (add-one c.args.d) c.count-size.result sz)

pub fits-requires : goal.fits-requires
fits-requires c =
    let sz : c.count-size.result ≡ c.args.r ^ c.args.d = c.count-size.ensures in
    let a = arranged c.args.d c.args.m c.args.r (c.args.d + 1) c.count-size.result c.args.names.now c.ordered-kinds.new.sorted c.ordered-kinds.new.firsts c.ordered-kinds.result (add-one c.args.d) sz c.ordered-kinds.ensures in
    (c.requires.refining.dim, omega (arith, few c.args.d c.args.r c.args.n c.args.m c.args.born c.args.coarse.now c.args.along.now c.args.pattern.now c.args.keys.now c.args.rows.now c.args.spare.now c.args.names.now c.args.sorted.now c.args.firsts.now c.args.buckets.now c.requires c.ordered-kinds.result c.ordered-kinds.new.sorted c.ordered-kinds.new.firsts a c.ordered-kinds.auto.firsts, c.requires.few_cells), omega (arith, c.requires.few_vertices))

pub overflow_cast-result : goal.overflow_cast-result
overflow_cast-result c =
    let sz : c.count-size.result ≡ c.args.r ^ c.args.d = c.count-size.ensures in
    let a = arranged c.args.d c.args.m c.args.r (c.args.d + 1) c.count-size.result c.args.names.now c.ordered-kinds.new.sorted c.ordered-kinds.new.firsts c.ordered-kinds.result (add-one c.args.d) sz c.ordered-kinds.ensures in
    omega (arith, few c.args.d c.args.r c.args.n c.args.m c.args.born c.args.coarse.now c.args.along.now c.args.pattern.now c.args.keys.now c.args.rows.now c.args.spare.now c.args.names.now c.args.sorted.now c.args.firsts.now c.args.buckets.now c.requires c.ordered-kinds.result c.ordered-kinds.new.sorted c.ordered-kinds.new.firsts a c.ordered-kinds.auto.firsts, c.requires.few_cells)

pub overflow_add-result : goal.overflow_add-result
overflow_add-result c = omega (arith, c.requires.few_vertices)

pub shape_of-rows : goal.shape_of-rows
shape_of-rows c = c.ordered-kinds.auto.rows

pub shape_of-sorted : goal.shape_of-sorted
shape_of-sorted c = c.ordered-kinds.auto.sorted

pub shape_of-firsts : goal.shape_of-firsts
shape_of-firsts c = c.ordered-kinds.auto.firsts

pub shape_of-buckets : goal.shape_of-buckets
shape_of-buckets c = c.ordered-kinds.auto.buckets

pub returns-then-not-fits : goal.returns-then-not-fits
returns-then-not-fits c =
    let sz : c.count-size.result ≡ c.args.r ^ c.args.d = c.count-size.ensures in
    let a = arranged c.args.d c.args.m c.args.r (c.args.d + 1) c.count-size.result c.args.names.now c.ordered-kinds.new.sorted c.ordered-kinds.new.firsts c.ordered-kinds.result (add-one c.args.d) sz c.ordered-kinds.ensures in
    let t = c.fits.ensures in
    handed-short c.args.d c.args.r c.args.n c.args.m c.args.born c.args.coarse.now c.args.along.now c.args.pattern.now c.args.keys.now c.args.rows.now c.args.spare.now c.args.names.now c.args.sorted.now c.args.firsts.now c.args.buckets.now c.requires c.ordered-kinds.result c.ordered-kinds.new.sorted c.ordered-kinds.new.firsts a c.ordered-kinds.auto.firsts c.args.out_cells.now c.args.out_words.now c.args.parents.now c.args.jacobians.now c.args.wholes.now c.args.birth_vertices.now c.args.birth_weights.now c.args.birth_shares.now c.fits.result (c.if-not-fits.true) t

pub write_children-requires : goal.write_children-requires
write_children-requires c =
    let sz : c.count-size.result ≡ c.args.r ^ c.args.d = c.count-size.ensures in
    let a = arranged c.args.d c.args.m c.args.r (c.args.d + 1) c.count-size.result c.args.names.now c.ordered-kinds.new.sorted c.ordered-kinds.new.firsts c.ordered-kinds.result (add-one c.args.d) sz c.ordered-kinds.ensures in
    let t = c.fits.ensures in
    to-children c.args.d c.args.r c.args.n c.args.m c.args.born c.args.coarse.now c.args.along.now c.args.pattern.now c.args.keys.now c.args.rows.now c.args.spare.now c.args.names.now c.args.sorted.now c.args.firsts.now c.args.buckets.now c.requires c.ordered-kinds.result c.ordered-kinds.new.sorted c.ordered-kinds.new.firsts a c.ordered-kinds.auto.firsts c.args.out_cells.now c.args.out_words.now c.args.parents.now c.args.jacobians.now c.args.wholes.now c.args.birth_vertices.now c.args.birth_weights.now c.args.birth_shares.now c.fits.result (c.if-not-fits.false) t c.count-size.result sz

pub write_births-requires : goal.write_births-requires
write_births-requires c =
    let sz : c.count-size.result ≡ c.args.r ^ c.args.d = c.count-size.ensures in
    let a = arranged c.args.d c.args.m c.args.r (c.args.d + 1) c.count-size.result c.args.names.now c.ordered-kinds.new.sorted c.ordered-kinds.new.firsts c.ordered-kinds.result (add-one c.args.d) sz c.ordered-kinds.ensures in
    let t = c.fits.ensures in
    to-births c.args.d c.args.r c.args.n c.args.m c.args.born c.args.coarse.now c.args.along.now c.args.pattern.now c.args.keys.now c.args.rows.now c.args.spare.now c.args.names.now c.args.sorted.now c.args.firsts.now c.args.buckets.now c.requires c.ordered-kinds.result c.ordered-kinds.new.sorted c.ordered-kinds.new.firsts a c.ordered-kinds.auto.firsts c.args.out_cells.now c.args.out_words.now c.args.parents.now c.args.jacobians.now c.args.wholes.now c.args.birth_vertices.now c.args.birth_weights.now c.args.birth_shares.now c.fits.result (c.if-not-fits.false) t

pub returns : goal.returns
returns c =
    let sz : c.count-size.result ≡ c.args.r ^ c.args.d = c.count-size.ensures in
    let a = arranged c.args.d c.args.m c.args.r (c.args.d + 1) c.count-size.result c.args.names.now c.ordered-kinds.new.sorted c.ordered-kinds.new.firsts c.ordered-kinds.result (add-one c.args.d) sz c.ordered-kinds.ensures in
    let t = c.fits.ensures in
    handed-made c.args.d c.args.r c.args.n c.args.m c.args.born c.args.coarse.now c.args.along.now c.args.pattern.now c.args.keys.now c.args.rows.now c.args.spare.now c.args.names.now c.args.sorted.now c.args.firsts.now c.args.buckets.now c.requires c.ordered-kinds.result c.ordered-kinds.new.sorted c.ordered-kinds.new.firsts a c.ordered-kinds.auto.firsts c.args.out_cells.now c.args.out_words.now c.args.parents.now c.args.jacobians.now c.args.wholes.now c.args.birth_vertices.now c.args.birth_weights.now c.args.birth_shares.now c.fits.result (c.if-not-fits.false) t c.write_children.new.cells c.write_children.new.words c.write_children.new.parents c.write_children.new.jacobians c.write_children.new.wholes c.write_births.new.vertices c.write_births.new.weights c.write_births.new.shares c.count-size.result sz c.write_children.ensures
    (λ bs u. c.write_births.ensures bs u)
