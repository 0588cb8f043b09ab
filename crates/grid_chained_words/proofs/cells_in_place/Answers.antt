-- `grid_chained_words::cells_in_place` meets its contract: the keys are sorted, and the distinct rows of them, in order, are the cells (proofs/InPlace). Assumes nothing.
use native.Mathlib.Omega.{arith}
use lib.ListN.{get_or}
use Rattle.grid_chained_words.proofs.InPlace.{few, whole, fewer, table, keys-hold, row_fits, in_place, most-rows}
use Rattle.grid_chained_words.proofs.cells_in_place.Goals as goal

pub sort_words-requires : goal.sort_words-requires
sort_words-requires c = omega (arith, whole c.args.d c.args.len _ _ _ _ c.requires, c.requires.front)

pub sort_rows-requires : goal.sort_rows-requires
sort_rows-requires c = let v = fewer c.args.d c.args.len _ _ _ _ c.requires in record { table = table c.args.d c.args.len _ _ _ _ c.requires _ c.sort_words.ensures; n_in_bounds = (omega (arith, c.requires.rows_long), omega (arith, c.requires.spare_long), c.requires.counts_long) }

pub distinct-m-requires : goal.distinct-m-requires
distinct-m-requires c = let v = fewer c.args.d c.args.len _ _ _ _ c.requires in let k = c.sort_rows.auto in record { sorted = c.sort_rows.ensures.sorted; n_bound = (omega (arith, few c.args.d c.args.len _ _ _ _ c.requires), omega (arith, keys-hold c.args.d c.args.len _ _ _ _ c.requires _ c.sort_words.ensures, whole c.args.d c.args.len _ _ _ _ c.requires), omega (arith, c.requires.rows_long, k), omega (arith, c.requires.spare_long, k), omega (arith, c.requires.counts_long, k)) }

pub gather-requires : goal.gather-requires
gather-requires c = let t = c.distinct-m.ensures.distinct in let v = fewer c.args.d c.args.len _ _ _ _ c.requires in let k = c.sort_rows.auto in record { by_index = λ i h. row_fits c.args.d c.args.len _ _ _ _ c.requires _ c.sort_words.ensures (get_or c.distinct-m.new.reps i 0) (t.below i h); m_in_bounds = (omega (arith, t.few, c.requires.spare_long, k, c.distinct-m.auto), omega (arith, most-rows c.args.d c.args.len _ _ _ _ c.requires _ t.few, c.requires.rows_long, k)) }

pub returns : goal.returns
returns c = let t = c.distinct-m.ensures.distinct in let v = fewer c.args.d c.args.len _ _ _ _ c.requires in let k = c.sort_rows.auto in in_place c.args.d c.args.len _ _ _ _ c.requires _ c.sort_words.ensures c.distinct-m.result c.distinct-m.new.reps c.distinct-m.new.ids c.gather.new.to _ t (omega (arith, t.few, c.requires.spare_long, k, c.distinct-m.auto)) c.gather.ensures (omega (arith, c.requires.rows_long, k, c.gather.auto))
