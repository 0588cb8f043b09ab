-- The band 3×1 between 0 and 60 degrees north, and positions that are rounded. The program `figures_geojson` compares whole files. Assumes nothing.
use mathlib.Core.Path.{◌≡◌, refl}
use mathlib.Core.List.{[], ◌∷◌, map}
use Prim.Native.Nat.{ℕ}
use lib.IntN.{pos, negsuc}
use lib.Ieee.{fin}
use mathlib.Core.Bool.{true, false}
use Rattle.multiindex.specs.Sort.{insert_by, insert, sort_word}
use Rattle.lists.specs.Rows.{cut}
use Rattle.lists.specs.Words.{found_at, first_where}
use Rattle.complex.specs.Cells.{decides, comes_before, placed, place, in_order, cells_of}
use Rattle.text.specs.Decimal.{digits_down, decimal_down}
use Rattle.quotient.specs.declared.Glue.{Glue}
use Rattle.quotient.specs.declared.Glue.TheVariants.{Open, Periodic, Twisted}
use Rattle.quotient.specs.declared.Grid.{Grid}
use Rattle.quotient.specs.Fold.{product}
use Rattle.quotient.specs.Shape.{no_axis, axis_of}
use Rattle.quotient.specs.Reduce.{rest_at, reflected_by, number_to}
use Rattle.quotient.specs.Points.{from_digits}
use Rattle.grid_words.specs.Cells.{met, grid_cells}
use Rattle.file_geojson.specs.Degrees.{nearest, degrees_of}
use Rattle.file_geojson.specs.File.{comma_each, joined, longitude_of, position_of, ring_corners, ring_of, mesh_number, feature_of}
use Rattle.file_geojson.specs.Kind.{band_grid, from_pole, latitudes_fit}

abbrev grid : ℕ → Glue → ℕ → Glue → Grid
grid n around m up =
    record {
      d = 2;
      first = record { count = n; glue = around };
      second = record { count = m; glue = up };
      third = no_axis;
      sides = record { first = fin false 1 (pos 0); second = fin false 1 (pos 0); third = fin false 1 (pos 0) };
    }

-- the cells of 3×1 by their grid points
pub band-cells : grid_cells (grid 3 Periodic 1 Open) ≡
    (0 ∷ 1 ∷ 5 ∷ []) ∷ (0 ∷ 4 ∷ 5 ∷ []) ∷ (1 ∷ 2 ∷ 6 ∷ []) ∷ (1 ∷ 5 ∷ 6 ∷ []) ∷ (2 ∷ 3 ∷ 7 ∷ []) ∷ (2 ∷ 6 ∷ 7 ∷ []) ∷ []
unfolding grid_cells met in_order place placed comes_before decides sort_word insert insert_by from_digits product axis_of
band-cells = refl

-- their numbers in the mesh
pub band-numbers : map (mesh_number (grid 3 Periodic 1 Open)) (grid_cells (grid 3 Periodic 1 Open)) ≡ 1 ∷ 2 ∷ 3 ∷ 5 ∷ 0 ∷ 4 ∷ []
unfolding mesh_number first_where found_at cells_of cut in_order place placed comes_before decides sort_word insert insert_by number_to reflected_by from_digits met grid_cells product axis_of rest_at
band-numbers = refl

-- the first feature between 0 and 60 degrees north, and the ring of the second
pub first-feature : feature_of (grid 3 Periodic 1 Open) (from_pole (pos 0)) (from_pole (pos 60)) (0 ∷ 1 ∷ 5 ∷ []) ≡ 123 ∷ 34 ∷ 116 ∷ 121 ∷ 112 ∷ 101 ∷ 34 ∷ 58 ∷ 34 ∷ 70 ∷ 101 ∷ 97 ∷ 116 ∷ 117 ∷ 114 ∷ 101 ∷ 34 ∷ 44 ∷ 34 ∷ 105 ∷ 100 ∷ 34 ∷ 58 ∷ 49 ∷ 44 ∷ 34 ∷ 112 ∷ 114 ∷ 111 ∷ 112 ∷ 101 ∷ 114 ∷ 116 ∷ 105 ∷ 101 ∷ 115 ∷ 34 ∷ 58 ∷ 123 ∷ 34 ∷ 99 ∷ 101 ∷ 108 ∷ 108 ∷ 34 ∷ 58 ∷ 49 ∷ 125 ∷ 44 ∷ 34 ∷ 103 ∷ 101 ∷ 111 ∷ 109 ∷ 101 ∷ 116 ∷ 114 ∷ 121 ∷ 34 ∷ 58 ∷ 123 ∷ 34 ∷ 116 ∷ 121 ∷ 112 ∷ 101 ∷ 34 ∷ 58 ∷ 34 ∷ 80 ∷ 111 ∷ 108 ∷ 121 ∷ 103 ∷ 111 ∷ 110 ∷ 34 ∷ 44 ∷ 34 ∷ 99 ∷ 111 ∷ 111 ∷ 114 ∷ 100 ∷ 105 ∷ 110 ∷ 97 ∷ 116 ∷ 101 ∷ 115 ∷ 34 ∷ 58 ∷ 91 ∷ 91 ∷ 91 ∷ 45 ∷ 49 ∷ 56 ∷ 48 ∷ 46 ∷ 48 ∷ 48 ∷ 48 ∷ 48 ∷ 48 ∷ 48 ∷ 44 ∷ 48 ∷ 46 ∷ 48 ∷ 48 ∷ 48 ∷ 48 ∷ 48 ∷ 48 ∷ 93 ∷ 44 ∷ 91 ∷ 45 ∷ 54 ∷ 48 ∷ 46 ∷ 48 ∷ 48 ∷ 48 ∷ 48 ∷ 48 ∷ 48 ∷ 44 ∷ 48 ∷ 46 ∷ 48 ∷ 48 ∷ 48 ∷ 48 ∷ 48 ∷ 48 ∷ 93 ∷ 44 ∷ 91 ∷ 45 ∷ 54 ∷ 48 ∷ 46 ∷ 48 ∷ 48 ∷ 48 ∷ 48 ∷ 48 ∷ 48 ∷ 44 ∷ 54 ∷ 48 ∷ 46 ∷ 48 ∷ 48 ∷ 48 ∷ 48 ∷ 48 ∷ 48 ∷ 93 ∷ 44 ∷ 91 ∷ 45 ∷ 49 ∷ 56 ∷ 48 ∷ 46 ∷ 48 ∷ 48 ∷ 48 ∷ 48 ∷ 48 ∷ 48 ∷ 44 ∷ 48 ∷ 46 ∷ 48 ∷ 48 ∷ 48 ∷ 48 ∷ 48 ∷ 48 ∷ 93 ∷ 93 ∷ 93 ∷ 125 ∷ 125 ∷ []
unfolding feature_of ring_of position_of joined comma_each degrees_of nearest digits_down decimal_down mesh_number first_where found_at cells_of cut in_order place placed comes_before decides sort_word insert insert_by number_to reflected_by from_digits met grid_cells product axis_of rest_at
first-feature = refl

pub upper-ring : ring_of (grid 3 Periodic 1 Open) (from_pole (pos 0)) (from_pole (pos 60)) (ring_corners (0 ∷ 4 ∷ 5 ∷ [])) ≡
    91 ∷ 91 ∷ 45 ∷ 49 ∷ 56 ∷ 48 ∷ 46 ∷ 48 ∷ 48 ∷ 48 ∷ 48 ∷ 48 ∷ 48 ∷ 44 ∷ 48 ∷ 46 ∷ 48 ∷ 48 ∷ 48 ∷ 48 ∷ 48 ∷ 48 ∷ 93 ∷ 44 ∷ 91 ∷ 45 ∷ 54 ∷ 48 ∷ 46 ∷ 48 ∷
    48 ∷ 48 ∷ 48 ∷ 48 ∷ 48 ∷ 44 ∷ 54 ∷ 48 ∷ 46 ∷ 48 ∷ 48 ∷ 48 ∷ 48 ∷ 48 ∷ 48 ∷ 93 ∷ 44 ∷ 91 ∷ 45 ∷ 49 ∷ 56 ∷ 48 ∷ 46 ∷ 48 ∷ 48 ∷ 48 ∷ 48 ∷ 48 ∷ 48 ∷ 44 ∷
    54 ∷ 48 ∷ 46 ∷ 48 ∷ 48 ∷ 48 ∷ 48 ∷ 48 ∷ 48 ∷ 93 ∷ 44 ∷ 91 ∷ 45 ∷ 49 ∷ 56 ∷ 48 ∷ 46 ∷ 48 ∷ 48 ∷ 48 ∷ 48 ∷ 48 ∷ 48 ∷ 44 ∷ 48 ∷ 46 ∷ 48 ∷ 48 ∷ 48 ∷ 48 ∷
    48 ∷ 48 ∷ 93 ∷ 93 ∷ []
unfolding ring_of position_of joined comma_each degrees_of nearest digits_down decimal_down rest_at axis_of
upper-ring = refl

-- 7 columns: column 1 at -128.571429; 1024 columns: column 1 at -179.648438, a half away from zero
pub sevenths : longitude_of (grid 7 Periodic 1 Open) 1 ≡ 45 ∷ 49 ∷ 50 ∷ 56 ∷ 46 ∷ 53 ∷ 55 ∷ 49 ∷ 52 ∷ 50 ∷ 57 ∷ []
unfolding degrees_of nearest digits_down decimal_down rest_at axis_of
sevenths = refl

pub halves : longitude_of (grid 1024 Periodic 1 Open) 1 ≡ 45 ∷ 49 ∷ 55 ∷ 57 ∷ 46 ∷ 54 ∷ 52 ∷ 56 ∷ 52 ∷ 51 ∷ 56 ∷ []
unfolding degrees_of nearest digits_down decimal_down rest_at axis_of
halves = refl

-- ---- the kind of grid: a twist that reflects no axis is periodic; the other kinds are refused

pub plain-twist : band_grid (grid 3 (Twisted 0) 1 Open) ≡ true
unfolding axis_of
plain-twist = refl

pub moebius : band_grid (grid 3 (Twisted 2) 1 Open) ≡ false
unfolding axis_of
moebius = refl

pub open-strip : band_grid (grid 3 Open 1 Open) ≡ false
unfolding axis_of
open-strip = refl

pub torus : band_grid (grid 3 Periodic 3 Periodic) ≡ false
unfolding axis_of
torus = refl

-- ---- latitudes: -90 to 90 is taken; 0 to 0, -91 to 0 and 0 to 91 are not

pub whole-map : latitudes_fit (negsuc 89) (pos 90) ≡ true
whole-map = refl

pub no-height : latitudes_fit (pos 0) (pos 0) ≡ false
no-height = refl

pub too-far-south : latitudes_fit (negsuc 90) (pos 0) ≡ false
too-far-south = refl

pub too-far-north : latitudes_fit (pos 0) (pos 91) ≡ false
too-far-north = refl
