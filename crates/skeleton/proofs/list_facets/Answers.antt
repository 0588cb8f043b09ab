-- `skeleton::list_facets` meets its contract: the distinct rows are the facets, and their rows the cells they lie in. Assumes nothing.
use borrow.Author.Rules.{rules}
use Rattle.skeleton.proofs.Steps.{making, passing, pass_of, width-most, besides, both-crowded, both-words-short, both-list-short, both-handed}
use lib.ListN.{length}
use native.Mathlib.Nat.{mul-le-mul_left}
use native.Mathlib.Omega.{arith}
use Prim.Native.Nat.{ℕ, ◌*◌, ◌<◌, ◌≤◌}
use mathlib.Core.Path.{ap, ◌∙◌, subst}
use Rattle.skeleton.proofs.list_facets.Goals as goal

pub cells-m-requires : goal.cells-m-requires
cells-m-requires c = making c.args.d c.args.words.now c.args.keys.now c.args.rows.now c.args.spare.now c.args.counts.now c.requires

pub facets-requires : goal.facets-requires
facets-requires c = passing c.args.d c.args.words.now c.args.keys.now c.args.rows.now c.args.spare.now c.args.counts.now c.requires c.cells-m.result c.cells-m.new.keys c.cells-m.new.rows c.cells-m.new.spare c.cells-m.new.counts c.cells-m.auto.keys c.cells-m.auto.rows c.cells-m.auto.spare c.cells-m.auto.counts c.cells-m.ensures

pub returns-in_default : goal.returns-in_default
returns-in_default c = both-crowded c.args.d c.args.words.now c.args.keys.now c.args.rows.now c.args.spare.now c.args.counts.now c.requires c.cells-m.result c.cells-m.new.keys c.cells-m.new.rows c.cells-m.new.spare c.cells-m.new.counts c.cells-m.auto.keys c.cells-m.auto.rows c.cells-m.auto.spare c.cells-m.auto.counts c.cells-m.ensures c.facets.result 0 c.facets.new.keys c.facets.new.rows c.facets.new.spare c.facets.new.counts c.facets.auto.rows c.facets.ensures _ c.args.out.now c.args.list.now (search rules)

pub overflow_mul-f : goal.overflow_mul-f
overflow_mul-f c = let p = pass_of c.args.d c.args.words.now c.args.keys.now c.args.rows.now c.args.spare.now c.args.counts.now c.requires c.cells-m.result c.cells-m.new.keys c.cells-m.new.rows c.cells-m.new.spare c.cells-m.new.counts c.cells-m.auto.keys c.cells-m.auto.rows c.cells-m.auto.spare c.cells-m.auto.counts c.cells-m.ensures c.facets.result c.in-Some.f c.facets.new.keys c.facets.new.rows c.facets.new.spare c.facets.new.counts c.facets.auto.rows c.facets.ensures c.in-Some.is in record { fits = omega (arith, p.classes.named.rows.fits) }

pub returns-then-out-f : goal.returns-then-out-f
returns-then-out-f c = both-words-short c.args.d c.args.words.now c.args.keys.now c.args.rows.now c.args.spare.now c.args.counts.now c.requires c.cells-m.result c.cells-m.new.keys c.cells-m.new.rows c.cells-m.new.spare c.cells-m.new.counts c.cells-m.auto.keys c.cells-m.auto.rows c.cells-m.auto.spare c.cells-m.auto.counts c.cells-m.ensures c.facets.result c.in-Some.f c.facets.new.keys c.facets.new.rows c.facets.new.spare c.facets.new.counts c.facets.auto.rows c.facets.ensures c.in-Some.is c.args.beside c.args.out.now c.args.list.now c.if-out-f.true

pub overflow_mul-f-2 : goal.overflow_mul-f-2
overflow_mul-f-2 c = let p = pass_of c.args.d c.args.words.now c.args.keys.now c.args.rows.now c.args.spare.now c.args.counts.now c.requires c.cells-m.result c.cells-m.new.keys c.cells-m.new.rows c.cells-m.new.spare c.cells-m.new.counts c.cells-m.auto.keys c.cells-m.auto.rows c.cells-m.auto.spare c.cells-m.auto.counts c.cells-m.ensures c.facets.result c.in-Some.f c.facets.new.keys c.facets.new.rows c.facets.new.spare c.facets.new.counts c.facets.auto.rows c.facets.ensures c.in-Some.is in record { fits = omega (arith, ap (λ (x : ℕ). c.in-Some.f * x) c.width.ensures, mul-le-mul_left c.in-Some.f (width-most c.args.beside), p.classes.named.rows.few) }

pub returns-then-list-f : goal.returns-then-list-f
returns-then-list-f c = both-list-short c.args.d c.args.words.now c.args.keys.now c.args.rows.now c.args.spare.now c.args.counts.now c.requires c.cells-m.result c.cells-m.new.keys c.cells-m.new.rows c.cells-m.new.spare c.cells-m.new.counts c.cells-m.auto.keys c.cells-m.auto.rows c.cells-m.auto.spare c.cells-m.auto.counts c.cells-m.ensures c.facets.result c.in-Some.f c.facets.new.keys c.facets.new.rows c.facets.new.spare c.facets.new.counts c.facets.auto.rows c.facets.ensures c.in-Some.is c.args.beside c.args.out.now c.args.list.now (subst (λ (x : ℕ). length c.args.list.now < c.in-Some.f * x) c.width.ensures c.if-list-f.true)

pub gather-requires : goal.gather-requires
gather-requires c = let p = pass_of c.args.d c.args.words.now c.args.keys.now c.args.rows.now c.args.spare.now c.args.counts.now c.requires c.cells-m.result c.cells-m.new.keys c.cells-m.new.rows c.cells-m.new.spare c.cells-m.new.counts c.cells-m.auto.keys c.cells-m.auto.rows c.cells-m.auto.spare c.cells-m.auto.counts c.cells-m.ensures c.facets.result c.in-Some.f c.facets.new.keys c.facets.new.rows c.facets.new.spare c.facets.new.counts c.facets.auto.rows c.facets.ensures c.in-Some.is in record { by_index = p.classes.named.rows.inside; m_in_bounds = (p.classes.named.rows.long, omega (arith, c.if-out-f.false)) }

pub slots-requires : goal.slots-requires
slots-requires c = omega (arith, c.requires.passed.small)

pub write_beside-requires : goal.write_beside-requires
write_beside-requires c = besides c.args.d c.args.words.now c.args.keys.now c.args.rows.now c.args.spare.now c.args.counts.now c.requires c.cells-m.result c.cells-m.new.keys c.cells-m.new.rows c.cells-m.new.spare c.cells-m.new.counts c.cells-m.auto.keys c.cells-m.auto.rows c.cells-m.auto.spare c.cells-m.auto.counts c.cells-m.ensures c.facets.result c.in-Some.f c.facets.new.keys c.facets.new.rows c.facets.new.spare c.facets.new.counts c.facets.auto.rows c.facets.ensures c.in-Some.is c.args.beside c.slots.result c.args.list.now c.slots.ensures (subst (λ (x : ℕ). c.in-Some.f * x ≤ length c.args.list.now) c.width.ensures c.if-list-f.false)

pub overflow_cast-result : goal.overflow_cast-result
overflow_cast-result c = let p = pass_of c.args.d c.args.words.now c.args.keys.now c.args.rows.now c.args.spare.now c.args.counts.now c.requires c.cells-m.result c.cells-m.new.keys c.cells-m.new.rows c.cells-m.new.spare c.cells-m.new.counts c.cells-m.auto.keys c.cells-m.auto.rows c.cells-m.auto.spare c.cells-m.auto.counts c.cells-m.ensures c.facets.result c.in-Some.f c.facets.new.keys c.facets.new.rows c.facets.new.spare c.facets.new.counts c.facets.auto.rows c.facets.ensures c.in-Some.is in omega (arith, p.classes.named.rows.few)

pub shape_of-keys : goal.shape_of-keys
shape_of-keys c = c.facets.auto.keys ∙ c.cells-m.auto.keys

pub shape_of-rows : goal.shape_of-rows
shape_of-rows c = c.facets.auto.rows ∙ c.cells-m.auto.rows

pub shape_of-spare : goal.shape_of-spare
shape_of-spare c = c.facets.auto.spare ∙ c.cells-m.auto.spare

pub returns : goal.returns
returns c = both-handed c.args.d c.args.words.now c.args.keys.now c.args.rows.now c.args.spare.now c.args.counts.now c.requires c.cells-m.result c.cells-m.new.keys c.cells-m.new.rows c.cells-m.new.spare c.cells-m.new.counts c.cells-m.auto.keys c.cells-m.auto.rows c.cells-m.auto.spare c.cells-m.auto.counts c.cells-m.ensures c.facets.result c.in-Some.f c.facets.new.keys c.facets.new.rows c.facets.new.spare c.facets.new.counts c.facets.auto.rows c.facets.ensures c.in-Some.is c.args.beside c.args.out.now _ c.args.list.now _ c.slots.result c.slots.ensures (omega (arith, c.if-out-f.false)) (subst (λ (x : ℕ). c.in-Some.f * x ≤ length c.args.list.now) c.width.ensures c.if-list-f.false) c.gather.ensures c.write_beside.ensures
