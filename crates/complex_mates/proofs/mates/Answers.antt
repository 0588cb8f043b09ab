-- `complex_mates::mates` meets its contract: what each call asks follows from the facet rows written, their sort and their classes (proofs/Meeting). Assumes nothing.
use Rattle.complex_mates.proofs.Meeting.{grouped, meeting-most, meeting-writing, meeting-table, meeting-free, meeting-done, meeting-crowd, meeting-room}
use Prim.Native.Nat.{suc, ◌*◌, ◌≤◌}
use native.Mathlib.Omega.{arith}
use lib.ListN.{length}
use Rattle.lists.specs.Words.{none}
use Rattle.complex_mates.proofs.mates.Goals.{After-slots-k}
use Rattle.complex_mates.proofs.mates.Goals as goal

-- there are no more rows than corners
most_rows : (c : After-slots-k) → c.args.m * c.slots-k.result ≤ c.args.m * suc c.args.d
most_rows c = meeting-most c.args.d c.args.m c.args.b c.args.keys.now c.args.rows.now c.args.spare.now c.args.counts.now c.requires c.slots-k.result c.slots-k.ensures

pub facet_rows-requires : goal.facet_rows-requires
facet_rows-requires c = meeting-writing c.args.d c.args.m c.args.b c.args.keys.now c.args.rows.now c.args.spare.now c.args.counts.now c.requires c.slots-k.result c.slots-k.ensures

pub overflow_mul-total : goal.overflow_mul-total
overflow_mul-total c =
    let most = most_rows (goal.at.overflow_mul-total c).After-slots-k in
    record { fits = omega (arith, most, c.requires.few) }

pub sort_rows-requires : goal.sort_rows-requires
sort_rows-requires c =
    let most = most_rows (goal.at.sort_rows-requires c).After-slots-k in
    record { table = meeting-table c.args.d c.args.m c.args.b c.args.keys.now c.args.rows.now c.args.spare.now c.args.counts.now c.requires c.slots-k.result c.slots-k.ensures c.facet_rows.new.keys c.facet_rows.auto.keys c.facet_rows.ensures; n_in_bounds = (omega (arith, most, c.requires.rows_long), omega (arith, most, c.requires.spare_long), c.requires.buckets) }

pub distinct-requires : goal.distinct-requires
distinct-requires c =
    let most = most_rows (goal.at.distinct-requires c).After-slots-k in
    let k = c.sort_rows.auto in
    let w = meeting-writing c.args.d c.args.m c.args.b c.args.keys.now c.args.rows.now c.args.spare.now c.args.counts.now c.requires c.slots-k.result c.slots-k.ensures in record { sorted = c.sort_rows.ensures.sorted; n_bound = (omega (arith, most, c.requires.few), omega (arith, w.room, c.facet_rows.auto), omega (arith, most, c.requires.rows_long, k), omega (arith, most, c.requires.spare_long, k), omega (arith, most, c.requires.counts_long, k)) }

pub pair_up-requires-clause-grouped : goal.pair_up-requires-clause-grouped
pair_up-requires-clause-grouped c =
    let most = most_rows (goal.at.pair_up-requires-clause-grouped c).After-slots-k in
    let k = c.sort_rows.auto in
    let h = c.distinct.auto in
    grouped _ _ _ _ _ _ c.distinct.ensures.distinct (omega (arith, most, c.requires.few)) (omega (arith, most, c.requires.spare_long, k, h)) (omega (arith, most, c.requires.counts_long, k, h))

pub pair_up-requires-clause-total_in_bounds : goal.pair_up-requires-clause-total_in_bounds
pair_up-requires-clause-total_in_bounds c =
    let most = most_rows (goal.at.pair_up-requires-clause-total_in_bounds c).After-slots-k in
    let k = c.sort_rows.auto in
    let l : c.args.m * c.slots-k.result ≤ length c.sort_rows.new.order = omega (arith, most, c.requires.rows_long, k) in
    (meeting-room (c.args.m * c.slots-k.result) none _ c.fill.new.list l c.fill.ensures, meeting-free c.args.d c.args.m c.args.b c.args.keys.now c.args.rows.now c.args.spare.now c.args.counts.now c.requires c.slots-k.result c.slots-k.ensures c.sort_rows.new.order c.fill.new.list k.order c.fill.ensures)

pub returns : goal.returns
returns c =
    let f = c.facet_rows in
    record { all = λ r. meeting-done c.args.d c.args.m c.args.b c.args.keys.now c.args.rows.now c.args.spare.now c.args.counts.now c.requires c.slots-k.result c.slots-k.ensures f.new.keys _ _ _ _ f.auto.keys f.ensures c.distinct.ensures.distinct (c.pair_up.ensures.all r); crowd = λ r. meeting-crowd c.args.d c.args.m c.args.b c.args.keys.now c.args.rows.now c.args.spare.now c.args.counts.now c.requires c.slots-k.result c.slots-k.ensures f.new.keys _ _ _ f.auto.keys f.ensures c.distinct.ensures.distinct (c.pair_up.ensures.crowd r) }
