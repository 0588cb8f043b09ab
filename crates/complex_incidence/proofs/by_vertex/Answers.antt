-- `complex_incidence::by_vertex` meets its contract: the corners are copied, and the sort of one column is one stable pass by vertex (proofs/Steps). Assumes nothing.
use mathlib.Core.Path.{sym, ◌∙◌}
use lib.Seq.{length-take-le}
use Rattle.complex_incidence.proofs.Steps.{sort-table, sorted-by, front_length, front_same}
use Rattle.complex_incidence.proofs.by_vertex.Goals as goal

pub slice_bounds-copy-end-2 : goal.slice_bounds-copy-end-2
slice_bounds-copy-end-2 c = sym (length-take-le _ _ c.requires.in_rows)

pub slice_bounds-copy-end-4 : goal.slice_bounds-copy-end-4
slice_bounds-copy-end-4 c = sym (length-take-le _ _ c.requires.in_keys)

pub copy-requires : goal.copy-requires
copy-requires c = length-take-le _ _ c.requires.in_keys ∙ sym (length-take-le _ _ c.requires.in_rows)

pub sort_rows-requires : goal.sort_rows-requires
sort_rows-requires c =
    let q = c.copy in record { table = sort-table c.args.long c.args.vertices c.args.keys.now c.args.rows.now c.args.spare.now c.args.counts.now _ c.requires (front_length c.args.long c.args.keys.now c.args.rows.now c.copy.new.dst c.requires.in_keys c.requires.in_rows c.copy.ensures) (front_same c.args.long c.args.keys.now c.args.rows.now c.copy.new.dst c.requires.in_rows c.copy.ensures); n_in_bounds = (c.requires.in_rows, c.requires.in_spare, c.requires.buckets) }

pub returns : goal.returns
returns c =
    let q = c.copy in
    let o = c.sort_rows in
    let f = front_same c.args.long c.args.keys.now c.args.rows.now c.copy.new.dst c.requires.in_rows c.copy.ensures in
    (sorted-by c.args.long c.args.vertices c.args.keys.now c.args.rows.now c.args.spare.now c.args.counts.now _ c.sort_rows.new.order c.requires (front_length c.args.long c.args.keys.now c.args.rows.now c.copy.new.dst c.requires.in_keys c.requires.in_rows c.copy.ensures) c.sort_rows.auto.order f c.sort_rows.ensures.exact c.sort_rows.ensures.sorted, f)
