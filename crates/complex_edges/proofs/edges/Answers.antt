-- `complex_edges::edges` meets its contract: the rows are the pairs of the cells, and the distinct ones, in order, are the edges (proofs/Members). Assumes nothing.
use Rattle.complex_edges.proofs.Members.{edging-writing, pairs-table, edges-named}
use Rattle.complex_edges.proofs.Turns.{few-blocks}
use native.Mathlib.Omega.{arith}
use Rattle.complex_edges.proofs.edges.Goals as goal

pub pair_rows-requires : goal.pair_rows-requires
pair_rows-requires c =
    edging-writing c.args.d c.args.m c.args.b c.args.keys.now c.args.rows.now c.args.spare.now c.args.counts.now c.requires

pub overflow_mul-total : goal.overflow_mul-total
overflow_mul-total c =
    record { fits = omega (arith, few-blocks _ _ _ _ (edging-writing c.args.d c.args.m c.args.b c.args.keys.now c.args.rows.now c.args.spare.now c.args.counts.now c.requires)) }

pub overflow_mul-total-2 : goal.overflow_mul-total-2
overflow_mul-total-2 c =
    record { fits = omega (arith, c.requires.few) }

pub distinct-requires : goal.distinct-requires
distinct-requires c =
    let w = c.pair_rows in
    let k = c.sort_rows.auto in record { sorted = c.sort_rows.ensures.sorted; n_bound = (omega (arith, c.requires.few), omega (arith, c.requires.keys_long, w.auto), omega (arith, c.requires.order_long, k), omega (arith, c.requires.spare_long, k), omega (arith, c.requires.counts_long, k)) }

pub sort_rows-requires : goal.sort_rows-requires
sort_rows-requires c =
    let w = c.pair_rows in record { table = pairs-table c.args.d c.args.m c.args.b c.args.keys.now c.args.rows.now c.args.spare.now c.args.counts.now c.requires w.new.keys w.auto.keys w.ensures; n_in_bounds = (c.requires.order_long, c.requires.spare_long, c.requires.buckets) }

pub returns : goal.returns
returns c =
    let w = c.pair_rows in
    let k = c.sort_rows.auto in
    let q = c.distinct in
    edges-named c.args.d c.args.m c.args.b c.args.keys.now c.args.rows.now c.args.spare.now c.args.counts.now c.requires w.new.keys w.auto.keys w.ensures q.result q.new.reps q.new.ids q.ensures.distinct (omega (arith, c.requires.spare_long, k, q.auto))
