-- `complex_facets::classes` meets its contract: the distinct rows are the facets, and each row's mate is the other row of its class (proofs/Passing). Assumes nothing.
use Rattle.complex_facets.proofs.Passing.{classed-done, classed-crowd}
use Rattle.complex_mates.proofs.Meeting.{grouped, meeting-most, meeting-writing, meeting-table, meeting-free, meeting-room}
use lib.ListN.{length}
use native.Mathlib.Omega.{arith}
use mathlib.Core.Path.{◌≡◌, subst}
use Rattle.complex_facets.specs.WorkClasses.{Classed}
use Prim.Native.Nat.{ℕ, suc, ◌*◌, ◌≤◌}
use Rattle.lists.specs.Words.{none}
use Rattle.complex_facets.proofs.classes.Goals.{After-slots-k}
use Rattle.complex_facets.proofs.classes.Goals as goal

-- there are no more rows than corners
most_rows : (c : After-slots-k) → c.args.m * c.slots-k.result ≤ c.args.m * suc c.args.d
most_rows c = meeting-most c.args.d c.args.m c.args.b c.args.keys.now c.args.rows.now c.args.spare.now c.args.counts.now c.requires c.slots-k.result c.slots-k.ensures

pub facet_rows-requires : goal.facet_rows-requires
facet_rows-requires c = meeting-writing c.args.d c.args.m c.args.b c.args.keys.now c.args.rows.now c.args.spare.now c.args.counts.now c.requires c.slots-k.result c.slots-k.ensures

pub overflow_mul-total : goal.overflow_mul-total
overflow_mul-total c = let z = most_rows (goal.at.overflow_mul-total c).After-slots-k in record { fits = omega (arith, z, c.requires.few) }

pub sort_rows-requires : goal.sort_rows-requires
sort_rows-requires c = let z = most_rows (goal.at.sort_rows-requires c).After-slots-k in record { table = meeting-table c.args.d c.args.m c.args.b c.args.keys.now c.args.rows.now c.args.spare.now c.args.counts.now c.requires c.slots-k.result c.slots-k.ensures c.facet_rows.new.keys c.facet_rows.auto.keys c.facet_rows.ensures; n_in_bounds = (omega (arith, z, c.requires.rows_long), omega (arith, z, c.requires.spare_long), c.requires.buckets) }

pub distinct-count-requires : goal.distinct-count-requires
distinct-count-requires c = let z = most_rows (goal.at.distinct-count-requires c).After-slots-k in let r = meeting-writing c.args.d c.args.m c.args.b c.args.keys.now c.args.rows.now c.args.spare.now c.args.counts.now c.requires c.slots-k.result c.slots-k.ensures in record { sorted = c.sort_rows.ensures.sorted; n_bound = (omega (arith, z, c.requires.few), omega (arith, r.room, c.facet_rows.auto), omega (arith, z, c.requires.rows_long, c.sort_rows.auto), omega (arith, z, c.requires.spare_long, c.sort_rows.auto), omega (arith, z, c.requires.counts_long, c.sort_rows.auto)) }

pub pair_up-requires : goal.pair_up-requires
pair_up-requires c = let z = most_rows (goal.at.pair_up-requires c).After-slots-k in let l : c.args.m * c.slots-k.result ≤ length c.sort_rows.new.order = omega (arith, z, c.requires.rows_long, c.sort_rows.auto) in record { grouped = grouped _ _ _ _ _ _ c.distinct-count.ensures.distinct (omega (arith, z, c.requires.few)) (omega (arith, z, c.requires.spare_long, c.sort_rows.auto, c.distinct-count.auto)) (omega (arith, z, c.requires.counts_long, c.sort_rows.auto, c.distinct-count.auto)); total_in_bounds = (meeting-room (c.args.m * c.slots-k.result) none _ c.fill.new.list l c.fill.ensures, meeting-free c.args.d c.args.m c.args.b c.args.keys.now c.args.rows.now c.args.spare.now c.args.counts.now c.requires c.slots-k.result c.slots-k.ensures c.sort_rows.new.order c.fill.new.list c.sort_rows.auto.order c.fill.ensures) }

pub shape_of-keys : goal.shape_of-keys
shape_of-keys c = c.facet_rows.auto.keys

pub returns-then-not-pair_up-clause-crowd : goal.returns-then-not-pair_up-clause-crowd
returns-then-not-pair_up-clause-crowd c _ =
    classed-crowd c.args.d c.args.m c.args.b c.args.keys.now c.args.rows.now c.args.spare.now c.args.counts.now c.requires c.slots-k.result c.slots-k.ensures c.facet_rows.new.keys c.facet_rows.auto.keys c.distinct-count.result _ _ c.facet_rows.ensures c.distinct-count.ensures.distinct (c.pair_up.ensures.crowd (c.if-not-pair_up.true))

pub returns-clause-all : goal.returns-clause-all
returns-clause-all c f e =
    subst (λ (z : ℕ). Classed c.args.d c.args.m z c.args.rows.now c.facet_rows.new.keys c.distinct-count.new.reps c.distinct-count.new.ids c.pair_up.new.mates) (let g : c.distinct-count.result ≡ f = cc in g)
    (classed-done c.args.d c.args.m c.args.b c.args.keys.now c.args.rows.now c.args.spare.now c.args.counts.now c.requires c.slots-k.result c.slots-k.ensures c.facet_rows.new.keys c.facet_rows.auto.keys c.distinct-count.result _ _ _ c.facet_rows.ensures c.distinct-count.ensures.distinct (c.pair_up.ensures.all (c.if-not-pair_up.false)))
