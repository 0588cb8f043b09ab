-- `grid_order::lay_out` meets its contract: the cells are put behind, the words by cell before them, and the cells back (proofs/Steps). Assumes nothing.
use mathlib.Core.Path.{refl, sym, ◌∙◌}
use Prim.Native.Nat.{◌+◌, ◌*◌, ◌-◌}
use native.Mathlib.Omega.{arith}
use lib.Seq.{length-take-le}
use Rattle.lists.proofs.Rows.{part-size}
use Rattle.grid_order.proofs.Steps.{size_fits, rows_in, size_small, size-rows, size-list, list-holds, words-hold, laid}
use Rattle.grid_order.proofs.lay_out.Goals as goal

pub overflow_mul-size : goal.overflow_mul-size
overflow_mul-size c = record { fits = omega (arith, size_small c.args.grid c.args.m c.args.list.now c.args.rows.now c.args.spare.now c.args.table.now c.requires) }

pub overflow_add-end : goal.overflow_add-end
overflow_add-end c = omega (arith, size_small c.args.grid c.args.m c.args.list.now c.args.rows.now c.args.spare.now c.args.table.now c.requires)

pub slice_bounds-copy-end : goal.slice_bounds-copy-end
slice_bounds-copy-end c = size-rows c.args.grid c.args.m c.args.list.now c.args.rows.now c.args.spare.now c.args.table.now c.requires

pub slice_bounds-copy-end-2 : goal.slice_bounds-copy-end-2
slice_bounds-copy-end-2 c = sym (length-take-le _ _ (size-rows c.args.grid c.args.m c.args.list.now c.args.rows.now c.args.spare.now c.args.table.now c.requires))

pub offset_bounds-list-size : goal.offset_bounds-list-size
offset_bounds-list-size c = omega (arith, size_small c.args.grid c.args.m c.args.list.now c.args.rows.now c.args.spare.now c.args.table.now c.requires)

pub slice_bounds-copy-end-3 : goal.slice_bounds-copy-end-3
slice_bounds-copy-end-3 c = size-list c.args.grid c.args.m c.args.list.now c.args.rows.now c.args.spare.now c.args.table.now c.requires

pub copy-requires : goal.copy-requires
copy-requires c = part-size c.args.list.now (c.args.m * (c.args.grid.d + 1)) (c.args.m * (c.args.grid.d + 1)) (size-list c.args.grid c.args.m c.args.list.now c.args.rows.now c.args.spare.now c.args.table.now c.requires) ∙ sym (length-take-le _ _ (size-rows c.args.grid c.args.m c.args.list.now c.args.rows.now c.args.spare.now c.args.table.now c.requires))

pub write_words-requires : goal.write_words-requires
write_words-requires c = record { taken = c.requires.taken; words_long = c.requires.rows_long; table_long = c.requires.table_long }

pub gather-requires : goal.gather-requires
gather-requires c = record { by_index = λ i h. omega (arith, rows_in c.args.grid c.args.m c.args.list.now c.args.rows.now c.args.spare.now c.args.table.now c.requires i h, words-hold c.args.grid c.args.m c.args.list.now c.args.rows.now c.args.spare.now c.args.table.now c.requires c.write_words.new.words c.write_words.ensures); m_in_bounds = (c.requires.reps_long, omega (arith, list-holds c.args.grid c.args.m c.args.list.now c.args.rows.now c.args.spare.now c.args.table.now c.requires c.copy.new.dst c.copy.ensures)) }

pub offset_bounds-list-size-2 : goal.offset_bounds-list-size-2
offset_bounds-list-size-2 c = omega (arith, size_small c.args.grid c.args.m c.args.list.now c.args.rows.now c.args.spare.now c.args.table.now c.requires)

pub slice_bounds-copy-end-4 : goal.slice_bounds-copy-end-4
slice_bounds-copy-end-4 c = omega (arith, list-holds c.args.grid c.args.m c.args.list.now c.args.rows.now c.args.spare.now c.args.table.now c.requires c.copy.new.dst c.copy.ensures, c.gather.auto.to)

pub slice_bounds-copy-end-5 : goal.slice_bounds-copy-end-5
slice_bounds-copy-end-5 c = omega (arith, size_fits c.args.grid c.args.m c.args.list.now c.args.rows.now c.args.spare.now c.args.table.now c.requires, words-hold c.args.grid c.args.m c.args.list.now c.args.rows.now c.args.spare.now c.args.table.now c.requires c.write_words.new.words c.write_words.ensures)

pub slice_bounds-copy-end-6 : goal.slice_bounds-copy-end-6
slice_bounds-copy-end-6 c = sym (length-take-le _ _ (omega (arith, size_fits c.args.grid c.args.m c.args.list.now c.args.rows.now c.args.spare.now c.args.table.now c.requires, words-hold c.args.grid c.args.m c.args.list.now c.args.rows.now c.args.spare.now c.args.table.now c.requires c.write_words.new.words c.write_words.ensures)))

pub copy-requires-2 : goal.copy-requires-2
copy-requires-2 c = length-take-le _ _ (omega (arith, size_fits c.args.grid c.args.m c.args.list.now c.args.rows.now c.args.spare.now c.args.table.now c.requires, words-hold c.args.grid c.args.m c.args.list.now c.args.rows.now c.args.spare.now c.args.table.now c.requires c.write_words.new.words c.write_words.ensures)) ∙ sym (part-size c.gather.new.to (c.args.m * (c.args.grid.d + 1)) (c.args.m * (c.args.grid.d + 1)) (omega (arith, list-holds c.args.grid c.args.m c.args.list.now c.args.rows.now c.args.spare.now c.args.table.now c.requires c.copy.new.dst c.copy.ensures, c.gather.auto.to)))

pub shape_of-table : goal.shape_of-table
shape_of-table c = c.write_words.auto.table

pub returns : goal.returns
returns c = laid c.args.grid c.args.m c.args.list.now c.args.rows.now c.args.spare.now c.args.table.now c.requires c.copy.new.dst _ c.gather.new.to c.write_words.new.words c.copy-2.new.dst c.copy.ensures refl c.write_words.ensures c.gather.ensures c.copy-2.ensures
