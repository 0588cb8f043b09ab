-- `grid_lengths::classes` meets its contract: the keys are the ends of the visits sorted, and their distinct rows, in order, are the glued edges (proofs/Gathered). Assumes nothing.
use mathlib.Core.Path.{◌≡◌, ap, ◌∙◌}
use native.Mathlib.Omega.{arith}
use Rattle.multiindex.specs.Sort.{sort_words}
use Rattle.grid_lengths.specs.Noted.{ends_of}
use Rattle.grid_lengths.proofs.Measuring.{visits-few}
use Rattle.grid_lengths.proofs.Gathered.{keys-are, ends-table, classed}
use Rattle.grid_lengths.proofs.Boxed.{points-ends}
use Rattle.grid_lengths.proofs.classes.Goals as goal

pub visits-total-requires : goal.visits-total-requires
visits-total-requires c = c.requires.taken

pub overflow_mul-ends : goal.overflow_mul-ends
overflow_mul-ends c = omega (arith, visits-few c.args.grid c.requires.taken, c.visits-total.ensures)

pub write_ends-requires : goal.write_ends-requires
write_ends-requires c = record { taken = c.requires.taken; keys_long = c.requires.keys_long; table_long = omega (arith, points-ends c.args.grid c.requires.taken, c.requires.rows_long) }

pub sort_words-requires : goal.sort_words-requires
sort_words-requires c = omega (arith, c.write_ends.auto, c.requires.keys_long, c.visits-total.ensures)

pub sort_rows-requires : goal.sort_rows-requires
sort_rows-requires c =
    let key-is : c.sort_words.new.ws ≡ sort_words 2 c.visits-total.result (ends_of c.args.grid) = c.sort_words.ensures ∙ ap (sort_words 2 c.visits-total.result) c.write_ends.ensures in
    let f = c.visits-total.ensures in let w = c.write_ends.auto in record { table = ends-table c.args.grid c.requires.taken _ f _ (key-is); n_in_bounds = (omega (arith, c.requires.rows_long, f, w), omega (arith, c.requires.spare_long, f), omega (arith, c.requires.counts_long, f)) }

pub distinct-requires : goal.distinct-requires
distinct-requires c =
    let key-is : c.sort_words.new.ws ≡ sort_words 2 c.visits-total.result (ends_of c.args.grid) = c.sort_words.ensures ∙ ap (sort_words 2 c.visits-total.result) c.write_ends.ensures in
    let f = c.visits-total.ensures in let w = c.write_ends.auto in let k = c.sort_rows.auto in record { sorted = c.sort_rows.ensures.sorted; n_bound = (omega (arith, visits-few c.args.grid c.requires.taken, f), omega (arith, keys-are c.args.grid c.requires.taken _ f _ (key-is), f), omega (arith, c.requires.rows_long, k, w, f), omega (arith, c.requires.spare_long, k, f), omega (arith, c.requires.counts_long, k, f)) }

pub returns : goal.returns
returns c =
    let key-is : c.sort_words.new.ws ≡ sort_words 2 c.visits-total.result (ends_of c.args.grid) = c.sort_words.ensures ∙ ap (sort_words 2 c.visits-total.result) c.write_ends.ensures in
    let f = c.visits-total.ensures in let k = c.sort_rows.auto in let q = c.distinct.ensures.distinct in classed c.args.grid c.requires.taken _ f _ (key-is) c.distinct.result c.distinct.new.reps c.distinct.new.ids q (omega (arith, q.few, c.requires.spare_long, k, c.distinct.auto, f))
