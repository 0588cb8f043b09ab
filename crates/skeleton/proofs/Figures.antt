-- Document 01's bands, computed: the edges, facets, border and facet table of 3x1 with axis 0 periodic, and of one triangle. Assumes nothing.
use mathlib.Core.Path.{◌≡◌, refl}
use mathlib.Core.List.{List, [], ◌∷◌}
use Prim.Native.Nat.{ℕ}
use lib.ListN.{length}
use Rattle.complex.specs.Cells.{decides, comes_before, placed, place}
use Rattle.complex.specs.Skeleton.{in_colex, edges_of, facets_of, numbers, keep, border_of}
use Rattle.complex_facets.specs.Sides.{each_sides, table_of}
use Rattle.complex_facets.specs.Records.{record_of, each_record, records_of}

abbrev band : List (List ℕ)
band = (0 ∷ 2 ∷ 3 ∷ []) ∷ (0 ∷ 1 ∷ 4 ∷ []) ∷ (0 ∷ 3 ∷ 4 ∷ []) ∷ (1 ∷ 2 ∷ 5 ∷ []) ∷ (2 ∷ 3 ∷ 5 ∷ []) ∷ (1 ∷ 4 ∷ 5 ∷ []) ∷ []

twelve-edges : length (edges_of band) ≡ 12
unfolding in_colex place placed comes_before decides
twelve-edges = refl

six-border : length (border_of 2 band) ≡ 6
unfolding in_colex place placed comes_before decides numbers keep
six-border = refl

-- a triangle and the one across its edge 1,2
abbrev pair : List (List ℕ)
pair = (0 ∷ 1 ∷ 2 ∷ []) ∷ (1 ∷ 2 ∷ 3 ∷ []) ∷ []

pair-facets : facets_of 2 pair ≡ (0 ∷ 1 ∷ []) ∷ (0 ∷ 2 ∷ []) ∷ (1 ∷ 2 ∷ []) ∷ (1 ∷ 3 ∷ []) ∷ (2 ∷ 3 ∷ []) ∷ []
unfolding in_colex place placed comes_before decides
pair-facets = refl

pair-border : border_of 2 pair ≡ (0 ∷ 1 ∷ []) ∷ (0 ∷ 2 ∷ []) ∷ (1 ∷ 3 ∷ []) ∷ (2 ∷ 3 ∷ []) ∷ []
unfolding in_colex place placed comes_before decides numbers keep
pair-border = refl

pair-table : table_of 2 pair ≡ 0 ∷ 2 ∷ 4294967295 ∷ 4294967295 ∷ 0 ∷ 1 ∷ 4294967295 ∷ 4294967295 ∷ 0 ∷ 0 ∷ 1 ∷ 2 ∷ 1 ∷ 1 ∷ 4294967295 ∷ 4294967295 ∷ 1 ∷ 0 ∷ 4294967295 ∷ 4294967295 ∷ []
unfolding in_colex place placed comes_before decides numbers each_sides
pair-table = refl

-- the same with the induced signs, and every facet agreed on
pair-records : records_of 2 pair pair ≡ 0 ∷ 1 ∷ 4294967295 ∷ 0 ∷ 1 ∷ 0 ∷ 2 ∷ 4294967295 ∷ 0 ∷ 1 ∷ 0 ∷ 1 ∷ 1 ∷ 1 ∷ 1 ∷ 1 ∷ 2 ∷ 4294967295 ∷ 0 ∷ 1 ∷ 1 ∷ 1 ∷ 4294967295 ∷ 0 ∷ 1 ∷ []
unfolding in_colex place placed comes_before decides numbers each_record
pair-records = refl

-- a band whose words disagree on the facet 0,3 alone: 3x1, axis 0 twisted over axis 1, its own words
abbrev twisted : List (List ℕ)
twisted = (0 ∷ 2 ∷ 3 ∷ []) ∷ (0 ∷ 1 ∷ 4 ∷ []) ∷ (0 ∷ 3 ∷ 4 ∷ []) ∷ (0 ∷ 2 ∷ 5 ∷ []) ∷ (1 ∷ 2 ∷ 5 ∷ []) ∷ (1 ∷ 4 ∷ 5 ∷ []) ∷ []

abbrev twisted_words : List (List ℕ)
twisted_words = (2 ∷ 3 ∷ 0 ∷ []) ∷ (0 ∷ 1 ∷ 4 ∷ []) ∷ (0 ∷ 3 ∷ 4 ∷ []) ∷ (2 ∷ 5 ∷ 0 ∷ []) ∷ (1 ∷ 2 ∷ 5 ∷ []) ∷ (1 ∷ 4 ∷ 5 ∷ []) ∷ []

twisted-record : record_of 2 twisted twisted_words (0 ∷ 3 ∷ []) ≡ 0 ∷ 2 ∷ 2 ∷ 1 ∷ 0 ∷ []
unfolding numbers
twisted-record = refl

-- dimension 0 has no edges and no facets
points : edges_of ((0 ∷ []) ∷ (1 ∷ []) ∷ []) ≡ []
unfolding in_colex
points = refl

no-facets : facets_of 0 ((0 ∷ []) ∷ (1 ∷ []) ∷ []) ≡ []
unfolding in_colex
no-facets = refl
