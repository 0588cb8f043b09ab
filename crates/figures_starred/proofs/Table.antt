-- THE TABLE: each of document 01's starred figures holds. All but the signs and the orders are computed from the definitions here; those are in proofs/Bands. Assumes nothing.
use mathlib.Core.Path.{refl}
use Prim.Native.Nat.{◌≤◌}
use native.Mathlib.Omega.{arith}
use Rattle.lists.specs.Rows.{cut}
use Rattle.multiindex.specs.Sort.{insert_by, insert, sort_word}
use Rattle.complex.specs.Cells.{decides, comes_before, placed, place, in_order, cells_of}
use Rattle.quotient.specs.Fold.{product, some}
use Rattle.quotient.specs.Shape.{axis_of, bad_set, check_of}
use Rattle.quotient.specs.Reduce.{rest_at, reflected_by, number_to}
use Rattle.quotient.specs.Points.{from_digits}
use Rattle.grid_words.specs.Cells.{met, grid_cells}
use Rattle.lists.specs.Words.{found_at, first_where}
use Rattle.ordering_words.specs.Order.{word_if, word_of, by_cell}
use Rattle.refine_results.specs.Results.{outside}
use Rattle.figures_starred.specs.Case.{All}
use Rattle.figures_starred.specs.Starred.{starred}
use Rattle.figures_starred.proofs.Bands.{band-oriented, band-ordered, ring-oriented, ring-ordered, ring-prints}

-- 0 is no refinement number
none : 1 ≤ 0 → ⊥
none h = omega arith

pub table : All starred
unfolding check_of first_where found_at bad_set some axis_of product rest_at reflected_by number_to from_digits grid_cells met cells_of cut in_order place placed comes_before decides sort_word insert insert_by word_if word_of by_cell
table =
    (refl, (refl, (band-ordered, ((refl, refl), ((refl, refl), (band-oriented, (refl, (refl, (refl, (ring-oriented, (ring-ordered, (refl, (refl, (refl, (refl, (refl, ((λ given. outside (λ i. none i.least)), (refl, (refl, (refl, (refl, (refl, (refl, (ring-prints, tt))))))))))))))))))))))))
