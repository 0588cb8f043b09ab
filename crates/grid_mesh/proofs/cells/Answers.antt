-- `grid_mesh::cells` meets its contract: the keys are the words sorted, and the distinct rows of them, in order, are the cells (proofs/Steps). Assumes nothing.
use mathlib.Core.Path.{◌≡◌, sym, ap, ◌∙◌}
use mathlib.Core.List.{List, ◌++◌}
use Prim.Native.Nat.{ℕ, ◌+◌, ◌*◌}
use native.Mathlib.Omega.{arith}
use lib.ListN.{length, get_or, drop, length-append}
use lib.Seq.{length-take-le}
use Rattle.lists.proofs.Laws.{back-length}
use Rattle.multiindex.specs.Sort.{sort_words}
use Rattle.grid_words.specs.Cells.{flat_words}
use Rattle.grid_words.proofs.Listed.{words_long}
use Rattle.grid_words.proofs.Moved.{points-corners}
use Rattle.grid_mesh.proofs.Steps.{corners-few, corners-are, grid-table, count_fits_lem, rows_fit, row_fits, found, most-rows}
use Rattle.grid_mesh.proofs.cells.Goals as goal

pub overflow_mul-len : goal.overflow_mul-len
overflow_mul-len c = let g = c.args.grid in let t = c.requires.taken in omega (arith, corners-few g t, corners-are g t _ c.cells-count.ensures)

pub slice_bounds-write_words-end : goal.slice_bounds-write_words-end
slice_bounds-write_words-end c = let g = c.args.grid in let t = c.requires.taken in omega (arith, corners-are g t _ c.cells-count.ensures, c.requires.keys_long)

pub slice_bounds-write_words-end-2 : goal.slice_bounds-write_words-end-2
slice_bounds-write_words-end-2 c = let g = c.args.grid in let t = c.requires.taken in sym (length-take-le _ _ (omega (arith, corners-are g t _ c.cells-count.ensures, c.requires.keys_long)))

pub write_words-requires : goal.write_words-requires
write_words-requires c =
    let g = c.args.grid in
    let t = c.requires.taken in
    record {
      taken = t;
      words_long = length-take-le _ _ (omega (arith, corners-are g t _ c.cells-count.ensures, c.requires.keys_long)) ∙ corners-are g t _ c.cells-count.ensures;
      table_long = omega (arith, points-corners g t, c.requires.rows_long);
    }

pub sort_words-requires : goal.sort_words-requires
sort_words-requires c = let g = c.args.grid in let t = c.requires.taken in omega (arith, ap length c.write_words.ensures, length-append c.write_words.new.words (drop (c.cells-count.result * (g.d + 1)) c.args.keys.now), words_long g t, corners-are g t _ c.cells-count.ensures)

pub sort_rows-requires : goal.sort_rows-requires
sort_rows-requires c =
    let key-is : c.sort_words.new.ws ≡ sort_words (c.args.grid.d + 1) c.cells-count.result (flat_words c.args.grid ++ drop (c.cells-count.result * (c.args.grid.d + 1)) c.args.keys.now) = c.sort_words.ensures ∙ ap (λ (p : List ℕ). sort_words (c.args.grid.d + 1) c.cells-count.result (p ++ drop (c.cells-count.result * (c.args.grid.d + 1)) c.args.keys.now)) c.write_words.ensures in
    let g = c.args.grid in let t = c.requires.taken in let f = c.cells-count.ensures in let n = count_fits_lem g t _ f _ _ (key-is) in record { table = grid-table g t _ f _ _ (key-is); n_in_bounds = (omega (arith, c.requires.rows_long, c.write_words.auto), omega (arith, c.requires.spare_long), omega (arith, c.requires.counts_long, corners-are g t _ f)) }

pub distinct-m-requires : goal.distinct-m-requires
distinct-m-requires c =
    let key-is : c.sort_words.new.ws ≡ sort_words (c.args.grid.d + 1) c.cells-count.result (flat_words c.args.grid ++ drop (c.cells-count.result * (c.args.grid.d + 1)) c.args.keys.now) = c.sort_words.ensures ∙ ap (λ (p : List ℕ). sort_words (c.args.grid.d + 1) c.cells-count.result (p ++ drop (c.cells-count.result * (c.args.grid.d + 1)) c.args.keys.now)) c.write_words.ensures in
    let g = c.args.grid in let t = c.requires.taken in let f = c.cells-count.ensures in let n = count_fits_lem g t _ f _ _ (key-is) in let k = c.sort_rows.auto in let w = c.write_words.auto in record { sorted = c.sort_rows.ensures.sorted; n_bound = (omega (arith, corners-few g t), rows_fit g t _ f _ _ (key-is), omega (arith, c.requires.rows_long, w, k), omega (arith, c.requires.spare_long, k), omega (arith, c.requires.counts_long, k)) }

pub gather-requires : goal.gather-requires
gather-requires c =
    let key-is : c.sort_words.new.ws ≡ sort_words (c.args.grid.d + 1) c.cells-count.result (flat_words c.args.grid ++ drop (c.cells-count.result * (c.args.grid.d + 1)) c.args.keys.now) = c.sort_words.ensures ∙ ap (λ (p : List ℕ). sort_words (c.args.grid.d + 1) c.cells-count.result (p ++ drop (c.cells-count.result * (c.args.grid.d + 1)) c.args.keys.now)) c.write_words.ensures in
    let g = c.args.grid in let t = c.requires.taken in let f = c.cells-count.ensures in let n = count_fits_lem g t _ f _ _ (key-is) in let k = c.sort_rows.auto in let w = c.write_words.auto in let q = c.distinct-m.ensures.distinct in record { by_index = λ i h. row_fits g t _ f _ _ (key-is) (get_or c.distinct-m.new.reps i 0) (q.below i h); m_in_bounds = (omega (arith, q.few, c.requires.spare_long, k, c.distinct-m.auto), omega (arith, most-rows g t _ f _ _ (key-is) _ q.few, c.requires.rows_long, w, k)) }

pub shape_of-keys : goal.shape_of-keys
shape_of-keys c = omega (arith, c.sort_words.auto, back-length (c.cells-count.result * (c.args.grid.d + 1)) c.args.keys.now c.write_words.new.words c.write_words.auto.words)

pub returns : goal.returns
returns c =
    let key-is : c.sort_words.new.ws ≡ sort_words (c.args.grid.d + 1) c.cells-count.result (flat_words c.args.grid ++ drop (c.cells-count.result * (c.args.grid.d + 1)) c.args.keys.now) = c.sort_words.ensures ∙ ap (λ (p : List ℕ). sort_words (c.args.grid.d + 1) c.cells-count.result (p ++ drop (c.cells-count.result * (c.args.grid.d + 1)) c.args.keys.now)) c.write_words.ensures in
    let g = c.args.grid in let t = c.requires.taken in let f = c.cells-count.ensures in let n = count_fits_lem g t _ f _ _ (key-is) in let k = c.sort_rows.auto in let w = c.write_words.auto in let q = c.distinct-m.ensures.distinct in found g t _ f _ _ (key-is) c.distinct-m.result c.distinct-m.new.reps c.distinct-m.new.ids c.gather.new.to _ q (omega (arith, q.few, c.requires.spare_long, k, c.distinct-m.auto)) c.gather.ensures (omega (arith, c.requires.rows_long, w, k, c.gather.auto))
