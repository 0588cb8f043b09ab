-- Figures of the laws. 3×3 with each axis twisted over the other: 18 words and 17 cells, and a facet in three cells; so the premise of the count is needed. 3×1 with axis
-- 0 periodic: 6 cells, 12 edges, a border of 6. Assumes nothing.
use Rattle.refusal.specs.Says.{fine}
use mathlib.Core.Path.{◌≡◌, refl, sym, ◌∙◌}
use mathlib.Core.Logic.{⊎_elim}
use Prim.Native.Nat.{ℕ}
use native.Mathlib.Omega.{arith}
use lib.ListN.{length}
use Rattle.lists.specs.Rows.{cut}
use Rattle.lists.specs.Words.{found_at, first_where}
use Rattle.multiindex.specs.Sort.{insert_by, insert, sort_word}
use Rattle.complex.specs.Cells.{decides, comes_before, placed, place, in_order}
use Rattle.complex.specs.Cells as Complex
use Rattle.complex.specs.Facets.{Crowded}
use Rattle.complex.specs.Skeleton.{in_colex, numbers, keep, border_of}
use Rattle.quotient.specs.declared.Glue.TheVariants.{Open, Periodic}
use Rattle.quotient.specs.declared.Grid.{Grid}
use Rattle.quotient.specs.Fold.{product, some}
use Rattle.quotient.specs.Shape.{axis_of, bad_set, check_of, cell_count}
use Rattle.quotient.specs.Reduce.{rest_at, reflected_by, number_to}
use Rattle.quotient.specs.Points.{from_digits}
use Rattle.grid_words.specs.Cells.{met, grid_cells}
use Rattle.grid_lengths.specs.Edges.{edges_of}
use Rattle.grid_mesh.specs.Words.{glued_cells}
use Rattle.grid_laws.specs.Tangled.{axis, plane, tangled, TangledWords, TangledCells}
use Rattle.grid_laws.proofs.Count.{as-many-or-seven}

tangled-taken : check_of tangled ≡ fine
unfolding check_of bad_set some first_where found_at product axis_of
tangled-taken = refl

pub tangled-words : TangledWords
unfolding product axis_of
tangled-words = refl

pub tangled-cells : TangledCells
unfolding Complex.cells_of cut grid_cells met in_order place placed comes_before decides sort_word insert insert_by from_digits product rest_at reflected_by number_to axis_of
tangled-cells = refl

pub tangled-seven : Crowded 2 (glued_cells tangled)
tangled-seven =
    ⊎_elim (λ (e : length (glued_cells tangled) ≡ cell_count tangled). absurd (let z : ◌≡◌ {A = ℕ} 17 18 = sym tangled-cells ∙ e ∙ tangled-words in let w : ⊥ = omega arith in w)) (λ (c : Crowded 2 (glued_cells tangled)). c)
    (as-many-or-seven tangled tangled-taken)

abbrev band : Grid
band = plane (axis 3 Periodic) (axis 1 Open)

pub band-cells : length (glued_cells band) ≡ 6
unfolding Complex.cells_of cut grid_cells met in_order place placed comes_before decides sort_word insert insert_by from_digits product rest_at reflected_by number_to axis_of
band-cells = refl

pub band-edges : length (edges_of band) ≡ 12
unfolding grid_cells met in_order place placed comes_before decides sort_word insert insert_by from_digits product rest_at reflected_by number_to axis_of
band-edges = refl

pub band-border : length (border_of 2 (glued_cells band)) ≡ 6
unfolding in_colex numbers keep Complex.cells_of cut grid_cells met in_order place placed comes_before decides sort_word insert insert_by from_digits product rest_at reflected_by number_to axis_of
band-border = refl
