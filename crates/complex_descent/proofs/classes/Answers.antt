-- `complex_descent::classes` meets its contract: the distinct rows are the facets, and a row's class is its facet's number (proofs/Numbering). Assumes nothing.
use native.Mathlib.Omega.{arith}
use Rattle.complex_mates.proofs.Meeting.{meeting-most, meeting-writing, meeting-table}
use Rattle.complex_descent.proofs.Numbering.{classed-done}
use Rattle.complex_descent.proofs.classes.Goals as goal

pub facet_rows-requires : goal.facet_rows-requires
facet_rows-requires c =
    let k = c.slots-k in
    meeting-writing c.args.e c.args.m c.args.b c.args.keys.now c.args.rows.now c.args.spare.now c.args.counts.now c.requires.0 c.slots-k.result c.slots-k.ensures

pub overflow_mul-total : goal.overflow_mul-total
overflow_mul-total c =
    let k = c.slots-k in
    let z = meeting-most c.args.e c.args.m c.args.b c.args.keys.now c.args.rows.now c.args.spare.now c.args.counts.now c.requires.0 c.slots-k.result c.slots-k.ensures in
    record { fits = omega (arith, z, c.requires.0.few) }

pub sort_rows-requires : goal.sort_rows-requires
sort_rows-requires c =
    let k = c.slots-k in
    let z = meeting-most c.args.e c.args.m c.args.b c.args.keys.now c.args.rows.now c.args.spare.now c.args.counts.now c.requires.0 c.slots-k.result c.slots-k.ensures in
    let w = c.facet_rows in record { table = meeting-table c.args.e c.args.m c.args.b c.args.keys.now c.args.rows.now c.args.spare.now c.args.counts.now c.requires.0 c.slots-k.result c.slots-k.ensures c.facet_rows.new.keys c.facet_rows.auto.keys c.facet_rows.ensures; n_in_bounds = (omega (arith, z, c.requires.0.rows_long), omega (arith, z, c.requires.0.spare_long), c.requires.0.buckets) }

pub distinct-requires : goal.distinct-requires
distinct-requires c =
    let k = c.slots-k in
    let z = meeting-most c.args.e c.args.m c.args.b c.args.keys.now c.args.rows.now c.args.spare.now c.args.counts.now c.requires.0 c.slots-k.result c.slots-k.ensures in
    let w = c.facet_rows in
    let o = c.sort_rows in
    let r = meeting-writing c.args.e c.args.m c.args.b c.args.keys.now c.args.rows.now c.args.spare.now c.args.counts.now c.requires.0 c.slots-k.result c.slots-k.ensures in record { sorted = c.sort_rows.ensures.sorted; n_bound = (omega (arith, z, c.requires.0.few), omega (arith, r.room, c.facet_rows.auto), omega (arith, z, c.requires.0.rows_long, c.sort_rows.auto), omega (arith, z, c.requires.0.spare_long, c.sort_rows.auto), omega (arith, z, c.requires.0.counts_long, c.sort_rows.auto)) }

pub returns : goal.returns
returns c =
    let k = c.slots-k in
    let z = meeting-most c.args.e c.args.m c.args.b c.args.keys.now c.args.rows.now c.args.spare.now c.args.counts.now c.requires.0 c.slots-k.result c.slots-k.ensures in
    let w = c.facet_rows in
    let o = c.sort_rows in
    let q = c.distinct in
    classed-done c.args.e c.args.m c.args.b c.args.keys.now c.args.rows.now c.args.spare.now c.args.counts.now c.requires.0 c.requires.1 c.slots-k.result c.slots-k.ensures c.facet_rows.new.keys c.facet_rows.auto.keys c.distinct.result _ _
    c.facet_rows.ensures c.distinct.ensures.distinct (omega (arith, z, c.requires.0.spare_long, c.sort_rows.auto, c.distinct.auto)) (omega (arith, z, c.requires.0.counts_long, c.sort_rows.auto, c.distinct.auto))
