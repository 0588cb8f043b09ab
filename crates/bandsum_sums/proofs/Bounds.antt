-- How long the lists of a grid that is taken are: at most d + 1 corners a cell, and d numbers a corner for its edges or its border. Assumes nothing.
use Rattle.refusal.specs.Says.{fine}
use mathlib.Core.Path.{◌≡◌}
use Prim.Native.Nat.{ℕ, suc, ◌*◌, ◌≤◌}
use native.Mathlib.Nat.{mul-le-mul_right, le_trans, mul-suc}
use native.Mathlib.Omega.{arith}
use lib.ListN.{length}
use Rattle.lists.specs.Rows.{flat}
use Rattle.complex.specs.Skeleton.{edges_of, border_of}
use Rattle.skeleton.proofs.Sizes as Sizes
use Rattle.quotient.specs.declared.Grid.{Grid}
use Rattle.quotient.specs.Shape.{check_of}
use Rattle.quotient.proofs.Taken.{taken-cells}
use Rattle.grid_words.specs.Cells.{flat_words}
use Rattle.grid_words.proofs.Corners.{dim}
use Rattle.grid_words.proofs.Listed.{words_long}
use Rattle.grid_words.proofs.Good.{words-pass}
use Rattle.grid_mesh.specs.Words.{glued_cells, corners_of}
use Rattle.bandsum_sums.specs.Work.{band_corners, band_listed}

module _ (g : Grid) (fine : check_of g ≡ fine) where
  pub corners-most : corners_of g ≤ band_corners
  corners-most = omega (arith, mul-le-mul_right (suc g.d) (taken-cells g fine), dim g fine)

  pub words-most : length (flat_words g) ≤ band_corners
  words-most = omega (arith, words_long g fine, corners-most)

  pub size-most : length (glued_cells g) * suc g.d ≤ band_corners
  size-most = le_trans (Sizes.corners-most g.d (flat_words g) (words-pass g fine)) words-most

  pub cells-corners : length (glued_cells g) ≤ band_corners
  cells-corners = omega (arith, size-most, mul-suc (length (glued_cells g)) g.d)

  -- d numbers a corner
  listed-most : (n : ℕ) → n ≤ g.d * length (flat_words g) → n ≤ band_listed
  listed-most n h = omega (arith, mul-le-mul_right (length (flat_words g)) (dim g fine), words-most)

  pub edges_fit : length (flat (edges_of (glued_cells g))) ≤ band_listed
  edges_fit = listed-most _ (Sizes.edges_fit g.d (flat_words g) (words-pass g fine))

  pub border-fits : length (flat (border_of g.d (glued_cells g))) ≤ band_listed
  border-fits = listed-most _ (Sizes.border-fits g.d (flat_words g) (words-pass g fine))
