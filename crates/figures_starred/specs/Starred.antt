-- Document 01, "Figures to check by": the starred ones, in its order; after them the two that tell the sequence of the axis orders, and the program's example. Assumes nothing.
use Rattle.refusal.specs.declared.Refusal.TheVariants.{BadRefinement, ShortAxis}
use Rattle.refusal.specs.Says.{fine}
use Rattle.std.specs.Prelude.{Err, Ok}
use Rattle.std.specs.Prelude.{true, List, [], ◌∷◌, ℕ, pos, negsuc}
use Rattle.refusal.specs.Limits.{most_refinement}
use Rattle.orientation.specs.declared.Coherence.TheVariants as Coherence
use Rattle.quotient.specs.declared.Glue.{Glue}
use Rattle.quotient.specs.declared.Glue.TheVariants.{Open, Periodic, Twisted}
use Rattle.quotient.specs.declared.Axis.{Axis}
use Rattle.quotient.specs.declared.Grid.{Grid}
use Rattle.quotient.specs.Shape.{no_axis}
use Rattle.bandsum_line.specs.Grammar.{line_feed, letter_o, letter_p, unit_sides}
use Rattle.grid_order.specs.declared.Triangulated.TheVariants as Triangulated
use Rattle.figures_starred.specs.Case.{Case, checked, reduced, has_words, has_cells, oriented, ordered, reads, births, child_words, child_cells, one_child, refused, prints}

abbrev grid : ℕ → Axis → Axis → Grid
grid d a b = record { d = d; first = a; second = b; third = no_axis; sides = unit_sides }

-- 3×1, axis 0 twisted over 1, axis 1 open
abbrev pub band : Grid
band = grid 2 (record { count = 3; glue = Twisted 2 }) (record { count = 1; glue = Open })

-- 3×1, axis 0 periodic, axis 1 open
abbrev pub ring : Grid
ring = grid 2 (record { count = 3; glue = Periodic }) (record { count = 1; glue = Open })

-- its line for the program: `2 3 P 1 O` and a line feed
abbrev pub ring_line : List ℕ
ring_line = 50 ∷ 32 ∷ 51 ∷ 32 ∷ letter_p ∷ 32 ∷ 49 ∷ 32 ∷ letter_o ∷ line_feed ∷ []

-- one axis
abbrev pub line : ℕ → Glue → Grid
line n g = grid 1 (record { count = n; glue = g }) no_axis

abbrev triangle : List ℕ
triangle = 0 ∷ 1 ∷ 2 ∷ []

abbrev tetrahedron : List ℕ
tetrahedron = 0 ∷ 1 ∷ 2 ∷ 3 ∷ []

abbrev pub starred : List Case
starred =
    reduced band (0 ∷ 1 ∷ 2 ∷ 3 ∷ 3 ∷ 4 ∷ 5 ∷ 0 ∷ [])
    ∷ has_words band ((0 ∷ 1 ∷ 4 ∷ []) ∷ (0 ∷ 3 ∷ 4 ∷ []) ∷ (1 ∷ 2 ∷ 5 ∷ []) ∷ (1 ∷ 4 ∷ 5 ∷ []) ∷ (2 ∷ 3 ∷ 0 ∷ []) ∷ (2 ∷ 5 ∷ 0 ∷ []) ∷ [])
    ∷ ordered band (Ok (Triangulated.Unordered 6)) []
    ∷ reads band 0 1 (0 ∷ 3 ∷ []) (3 ∷ 0 ∷ [])
    ∷ reads band 2 2 (0 ∷ 3 ∷ []) (0 ∷ 3 ∷ [])
    ∷ oriented band (Ok (Coherence.OneSided 15)) []
    ∷ reduced ring (0 ∷ 1 ∷ 2 ∷ 0 ∷ 3 ∷ 4 ∷ 5 ∷ 3 ∷ [])
    ∷ has_words ring ((0 ∷ 1 ∷ 4 ∷ []) ∷ (0 ∷ 3 ∷ 4 ∷ []) ∷ (1 ∷ 2 ∷ 5 ∷ []) ∷ (1 ∷ 4 ∷ 5 ∷ []) ∷ (2 ∷ 0 ∷ 3 ∷ []) ∷ (2 ∷ 5 ∷ 3 ∷ []) ∷ [])
    ∷ has_cells ring ((0 ∷ 2 ∷ 3 ∷ []) ∷ (0 ∷ 1 ∷ 4 ∷ []) ∷ (0 ∷ 3 ∷ 4 ∷ []) ∷ (1 ∷ 2 ∷ 5 ∷ []) ∷ (2 ∷ 3 ∷ 5 ∷ []) ∷ (1 ∷ 4 ∷ 5 ∷ []) ∷ [])
    ∷ oriented ring (Ok (Coherence.Signs 6 18)) (pos 1 ∷ negsuc 0 ∷ pos 1 ∷ negsuc 0 ∷ negsuc 0 ∷ pos 1 ∷ [])
    ∷ ordered ring (Ok (Triangulated.Ordered 6)) ((2 ∷ 0 ∷ 3 ∷ []) ∷ (0 ∷ 1 ∷ 4 ∷ []) ∷ (0 ∷ 3 ∷ 4 ∷ []) ∷ (1 ∷ 2 ∷ 5 ∷ []) ∷ (2 ∷ 5 ∷ 3 ∷ []) ∷ (1 ∷ 4 ∷ 5 ∷ []) ∷ [])
    ∷ births 2 2 triangle ((1 ∷ 1 ∷ 0 ∷ []) ∷ (1 ∷ 0 ∷ 1 ∷ []) ∷ (0 ∷ 1 ∷ 1 ∷ []) ∷ [])
    ∷ child_words 2 2 triangle ((0 ∷ 3 ∷ 4 ∷ []) ∷ (3 ∷ 1 ∷ 5 ∷ []) ∷ (4 ∷ 5 ∷ 2 ∷ []) ∷ (3 ∷ 4 ∷ 5 ∷ []) ∷ [])
    ∷ child_cells 2 2 triangle ((0 ∷ 3 ∷ 4 ∷ []) ∷ (1 ∷ 3 ∷ 5 ∷ []) ∷ (2 ∷ 4 ∷ 5 ∷ []) ∷ (3 ∷ 4 ∷ 5 ∷ []) ∷ [])
    ∷ child_words 2 1 triangle (triangle ∷ [])
    ∷ one_child most_refinement
    ∷ refused 2 0 triangle (Err BadRefinement)
    ∷ checked (line 2 Periodic) (Err (ShortAxis 0))
    ∷ checked (line 3 Periodic) fine
    ∷ checked (line 0 Open) (Err (ShortAxis 0))
    ∷ checked (line 1 Open) fine
    ∷ births 2 3 triangle ((2 ∷ 1 ∷ 0 ∷ []) ∷ (2 ∷ 0 ∷ 1 ∷ []) ∷ (1 ∷ 1 ∷ 1 ∷ []) ∷ (1 ∷ 2 ∷ 0 ∷ []) ∷ (0 ∷ 2 ∷ 1 ∷ []) ∷ (1 ∷ 0 ∷ 2 ∷ []) ∷ (0 ∷ 1 ∷ 2 ∷ []) ∷ [])
    ∷ births 3 2 tetrahedron ((1 ∷ 1 ∷ 0 ∷ 0 ∷ []) ∷ (1 ∷ 0 ∷ 1 ∷ 0 ∷ []) ∷ (1 ∷ 0 ∷ 0 ∷ 1 ∷ []) ∷ (0 ∷ 1 ∷ 0 ∷ 1 ∷ []) ∷ (0 ∷ 1 ∷ 1 ∷ 0 ∷ []) ∷ (0 ∷ 0 ∷ 1 ∷ 1 ∷ []) ∷ [])
    ∷ prints ring_line (record { cells = 6; vertices = 6; edges = 12; border = 6; sides = 2; ordered = true })
    ∷ []
