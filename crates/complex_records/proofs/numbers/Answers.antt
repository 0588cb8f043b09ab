-- `complex_records::numbers` meets its contract: what is lent on of the flat list has room for as many facets as there are records (proofs/Holding). Assumes nothing.
use Rattle.complex_records.proofs.Holding.{numbers_of}
use lib.Seq.{length-take-le}
use mathlib.Core.Path.{sym}
use Rattle.complex_records.proofs.numbers.Goals as goal

pub slice_bounds-facet_records-end-2 : goal.slice_bounds-facet_records-end-2
slice_bounds-facet_records-end-2 c = sym (length-take-le _ _ c.shared-long.ensures.within)

pub returns : goal.returns
returns c = numbers_of c.args.d c.args.words.now c.args.room c.shared-long.result c.facet_records.result c.args.facets.now _ c.args.flat.now _ c.args.keys.now _ c.args.rows.now _ c.args.spare.now _ c.args.counts.now _ c.shared-long.ensures c.facet_records.ensures
