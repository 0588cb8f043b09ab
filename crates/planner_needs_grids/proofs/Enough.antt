-- With lists of the lengths that are told, a call on a grid never says 12. Assumes nothing.
use Rattle.refusal.specs.declared.Refusal.{Refusal}
use Rattle.refusal.specs.declared.Refusal.TheVariants.{BadDimension, BadReflection, BadSide, ShortAxis, TooManyCells, TooManyVertices, TooShort}
use Rattle.refusal.specs.Says.{Counted, fine}
use Rattle.std.specs.Prelude.{Err, Result}
use mathlib.Core.List.{List, [], ◌∷◌, map}
use mathlib.Core.Path.{◌≡◌, refl, ap, subst}
use Prim.Native.Nat.{ℕ, zero, suc, ◌+◌, ◌*◌, ◌≤◌}
use native.Mathlib.Nat.{mul-le-mul_right, mul_assoc, mul_comm, mul-div_cancel, zero-lt-suc}
use native.Mathlib.Omega.{arith}
use lib.Dec.{ltb}
use lib.Ieee.{Float}
use lib.IntN.{ℤ}
use lib.ListN.{length, length-map}
use Rattle.lists.specs.Tables.{upto}
use Rattle.refusal.specs.Limits.{most_dimension, most_cells, most_vertices}
use Rattle.refusal.specs.Lent.{lengths}
use Rattle.sorting.proofs.Sorts.{length-upto}
use Rattle.grid_sides.specs.Counts.{first_bad}
use Rattle.quotient.specs.declared.Grid.{Grid}
use Rattle.quotient.specs.Shape.{bad_reflection, short_axis, shape_check, check_of, sides_check_of, cell_count, vertices_of}
use Rattle.quotient.specs.Reduce.{vertex_of}
use Rattle.quotient.proofs.Taken.{taken-high, taken-cells, sides-taken}
use Rattle.grid_words.specs.Cells.{flat_words}
use Rattle.grid_words.proofs.Listed.{words_long}
use Rattle.grid_words.proofs.Good.{words-pass}
use Rattle.grid_mesh.specs.Words.{glued_cells, corners_of, grid_need, WordsEnd, CellWords}
use Rattle.grid_mesh.specs.Words as mesh
use Rattle.grid_order.specs.declared.Triangulated.{Triangulated}
use Rattle.grid_order.specs.Promise as order
use Rattle.grid_lengths.specs.Edges.{edges_each, visits_of, from_at, to_at, edges_of}
use Rattle.grid_lengths.specs.Lengths as spans
use Rattle.file_geojson.specs.Kind.{from_pole}
use Rattle.file_geojson.specs.Promise as maps
use Rattle.file_geojson.proofs.Ends.{file-long, mapped}
use Rattle.needs.specs.Needs.{worked}
use Rattle.needs.specs.Enough.{Long}
use Rattle.needs.proofs.Laws.{worked-taken}
use Rattle.skeleton.proofs.Sizes.{corners-most, order-most}
use Rattle.needs.proofs.Enough.{passes_over, fine-never, never-says, roomy_of}
use Rattle.planner_needs_grids.specs.Needs.{words_need, triangulated_need, lengths_need, map_need}

-- ---- the check of a grid never says 12
shape-never : (g : Grid) → shape_check g ≡ Err TooShort → ⊥
shape-never g =
    passes_over (ltb (bad_reflection g) g.d) (BadReflection (bad_reflection g)) _ (λ (e : BadReflection (bad_reflection g) ≡ TooShort). cc)
    (passes_over (ltb (short_axis g) g.d) (ShortAxis (short_axis g)) _ (λ (e : ShortAxis (short_axis g) ≡ TooShort). cc)
    (passes_over (ltb most_cells (cell_count g)) TooManyCells _ (λ (e : TooManyCells ≡ TooShort). cc)
    (passes_over (ltb most_vertices (vertices_of g)) TooManyVertices _ (λ (e : TooManyVertices ≡ TooShort). cc)
    fine-never)))

pub grid-never : (g : Grid) → check_of g ≡ Err TooShort → ⊥
unfolding check_of
grid-never g =
    passes_over (ltb g.d 1) BadDimension _ (λ (e : BadDimension ≡ TooShort). cc)
    (passes_over (ltb most_dimension g.d) BadDimension _ (λ (e : BadDimension ≡ TooShort). cc)
    (shape-never g))

pub sides-never : (g : Grid) → sides_check_of g ≡ Err TooShort → ⊥
unfolding sides_check_of
sides-never g =
    passes_over (ltb g.d 1) BadDimension _ (λ (e : BadDimension ≡ TooShort). cc)
    (passes_over (ltb most_dimension g.d) BadDimension _ (λ (e : BadDimension ≡ TooShort). cc)
    (passes_over (ltb (first_bad g.sides g.d) g.d) (BadSide (first_bad g.sides g.d)) _ (λ (e : BadSide (first_bad g.sides g.d) ≡ TooShort). cc)
    (shape-never g)))

-- ---- how long the lists of a grid that is taken are
each-edges : (d : ℕ) → d ≤ 3 → edges_each d * 2 ≡ d * suc d
each-edges zero h = refl
each-edges (suc zero) h = refl
each-edges (suc (suc zero)) h = refl
each-edges (suc (suc (suc zero))) h = refl
each-edges (suc (suc (suc (suc d)))) h = absurd (let w : ⊥ = omega arith in w)

-- the told lengths are those of the grid's own corners
pub corners-told : (d c : ℕ) → d ≤ most_dimension → c ≤ most_cells → (need : ℕ → List ℕ) (have : List ℕ) → Long (need (worked d (c * suc d))) have → Long (need (c * suc d)) have
corners-told d c h k need have l = subst (λ (n : ℕ). Long (need n) have) (worked-taken d (c * suc d) h (mul-le-mul_right (suc d) k)) l

module _ (g : Grid) (fine : check_of g ≡ fine) where
  told : (need : ℕ → List ℕ) (have : List ℕ) → Long (need (worked g.d (corners_of g))) have → Long (need (corners_of g)) have
  told = corners-told g.d (cell_count g) (taken-high g fine) (taken-cells g fine)

  cells-corners : length (glued_cells g) * suc g.d ≤ corners_of g
  cells-corners = omega (arith, corners-most g.d (flat_words g) (words-pass g fine), words_long g fine)

  ends-room : visits_of g * 2 ≡ g.d * corners_of g
  ends-room =
      omega (
        arith,
        mul_assoc (cell_count g) (edges_each g.d) 2,
        ap (λ (x : ℕ). cell_count g * x) (each-edges g.d (taken-high g fine)),
        ap (λ (x : ℕ). cell_count g * x) (mul_comm g.d (suc g.d)),
        mul_assoc (cell_count g) (suc g.d) g.d,
        mul_comm g.d (corners_of g),
      )

  edges_few : length (edges_of g) ≤ visits_of g
  edges_few = omega (arith, order-most 2 (map (λ r. vertex_of g (from_at g r) ∷ vertex_of g (to_at g r) ∷ []) (upto (visits_of g))), length-map (upto (visits_of g)) (λ r. vertex_of g (from_at g r) ∷ vertex_of g (to_at g r) ∷ []), length-upto (visits_of g))

-- ---- how the calls end
words-end : (g : Grid) (given : ℕ) → length (flat_words g) ≤ given → (r : Counted) (h : List ℕ) → WordsEnd g given r h → r ≡ Err TooShort → ⊥
words-end g given fits r h (mesh.crowded x) t = cc
words-end g given fits r h (mesh.short free less) t = omega (arith, less, fits)
words-end g given fits r h (mesh.written free enough) t = cc

triangulated-end : (g : Grid) (cells listed : ℕ) → order.cells_length g ≤ cells → order.cells_length g ≤ listed → (r : Result Triangulated Refusal) (h : order.Handed) → order.Ends g cells listed r h → r ≡ Err TooShort → ⊥
triangulated-end g cells listed fits also r h (order.crowded x) t = cc
triangulated-end g cells listed fits also r h (order.short free less) t = omega (arith, less, fits)
triangulated-end g cells listed fits also r h (order.short_order free o less) t = omega (arith, less, also)
triangulated-end g cells listed fits also r h (order.ordered free o e f) t = cc
triangulated-end g cells listed fits also r h (order.unordered free non e) t = cc

lengths-end : (g : Grid) (given : ℕ) → length (edges_of g) ≤ given → (r : Counted) (h : List Float) → spans.LengthsEnd g given r h → r ≡ Err TooShort → ⊥
lengths-end g given fits r h (spans.clashing x) t = cc
lengths-end g given fits r h (spans.short free less) t = omega (arith, less, fits)
lengths-end g given fits r h (spans.listed free enough e) t = cc

map-end : (g : Grid) (south north : ℤ) (given : ℕ) → check_of g ≡ fine → 43 + 276 * cell_count g ≤ given → (r : Counted) (h : List ℕ) → maps.GeoEnd g south north given r h → r ≡ Err TooShort → ⊥
map-end g south north given fine fits r h (maps.crowded x) t = cc
map-end g south north given fine fits r h (maps.plain free (maps.other e)) t = cc
map-end g south north given fine fits r h (maps.plain free (maps.beyond e l)) t = cc
map-end g south north given fine fits r h (maps.plain free (maps.short e l less)) t = omega (arith, less, fits, file-long g (from_pole south) (from_pole north) (mapped g south north [] e l (from_pole south) (from_pole north) refl refl fine))
map-end g south north given fine fits r h (maps.plain free (maps.drawn e l enough)) t = cc

-- ---- the calls
module _ (g : Grid) (keys rows spare counts : List ℕ) {keys' rows' spare' counts' : List ℕ} where
  pub words-enough : {out out' : List ℕ} {r : Counted} → CellWords g r out out' keys keys' rows rows' spare spare' counts counts' → Long (words_need g.d (worked g.d (corners_of g))) (length out ∷ length keys ∷ length rows ∷ length spare ∷ length counts ∷ []) → r ≡ Err TooShort → ⊥
  words-enough {out = out} a l t =
      never-says [] (check_of g) (grid-never g) (check_of g ≡ fine) (λ e. e) (grid_need g) (lengths keys rows spare counts) (WordsEnd g (length out))
      (λ f. let k = told g f (words_need g.d) (length out ∷ length keys ∷ length rows ∷ length spare ∷ length counts ∷ []) l in roomy_of (grid_need g) _ _ _ _ k.1)
      (λ f. let k = told g f (words_need g.d) (length out ∷ length keys ∷ length rows ∷ length spare ∷ length counts ∷ []) l in words-end g (length out) (omega (arith, k.0, words_long g f)))
      a.comes t

  pub triangulated-enough : {out out' by by' : List ℕ} {r : Result Triangulated Refusal} → order.TriangulateOrdered g r out out' by by' keys keys' rows rows' spare spare' counts counts' → Long (triangulated_need g.d (worked g.d (corners_of g))) (length out ∷ length by ∷ length keys ∷ length rows ∷ length spare ∷ length counts ∷ []) → r ≡ Err TooShort → ⊥
  triangulated-enough {out = out} {by = by} a l t =
      never-says order.nothing (check_of g) (grid-never g) (check_of g ≡ fine) (λ e. e) (order.order_room g) (lengths keys rows spare counts) (order.Ends g (length out) (length by))
      (λ f. let k = told g f (triangulated_need g.d) (length out ∷ length by ∷ length keys ∷ length rows ∷ length spare ∷ length counts ∷ []) l in roomy_of (order.order_room g) _ _ _ _ k.1.1)
      (λ f. let k = told g f (triangulated_need g.d) (length out ∷ length by ∷ length keys ∷ length rows ∷ length spare ∷ length counts ∷ []) l in triangulated-end g (length out) (length by) (omega (arith, k.0, cells-corners g f)) (omega (arith, k.1.0, cells-corners g f)))
      a.comes t

  pub lengths-enough : {out out' : List Float} {r : Counted} → spans.EdgeLengths g r out out' keys keys' rows rows' spare spare' counts counts' → Long (lengths_need g.d (worked g.d (corners_of g))) (length out ∷ length keys ∷ length rows ∷ length spare ∷ length counts ∷ []) → r ≡ Err TooShort → ⊥
  lengths-enough {out = out} a l t =
      never-says [] (sides_check_of g) (sides-never g) (check_of g ≡ fine) (sides-taken g) (spans.lengths_need g) (lengths keys rows spare counts) (spans.LengthsEnd g (length out))
      (λ f.
      let k = told g f (lengths_need g.d) (length out ∷ length keys ∷ length rows ∷ length spare ∷ length counts ∷ []) l in
      let e = ends-room g f in
      record { in_keys = omega (arith, e, k.1.0); in_rows = omega (arith, e, k.1.1.0); in_spare = omega (arith, e, k.1.1.1.0); in_counts = omega (arith, e, k.1.1.1.1.0) })
      (λ f. let k = told g f (lengths_need g.d) (length out ∷ length keys ∷ length rows ∷ length spare ∷ length counts ∷ []) l in lengths-end g (length out) (omega (arith, k.0, ends-room g f, edges_few g f)))
      a.comes t

  pub map-enough : (south north : ℤ) {out out' : List ℕ} {r : Counted} → maps.GeoJson g south north r out out' keys keys' rows rows' spare spare' counts counts' → Long (map_need g.d (worked g.d (corners_of g))) (length out ∷ length keys ∷ length rows ∷ length spare ∷ length counts ∷ []) → r ≡ Err TooShort → ⊥
  map-enough south north {out = out} a l t =
      never-says [] (check_of g) (grid-never g) (check_of g ≡ fine) (λ e. e) (grid_need g) (lengths keys rows spare counts) (maps.GeoEnd g south north (length out))
      (λ f. let k = told g f (map_need g.d) (length out ∷ length keys ∷ length rows ∷ length spare ∷ length counts ∷ []) l in roomy_of (grid_need g) _ _ _ _ k.1)
      (λ f.
      let k = told g f (map_need g.d) (length out ∷ length keys ∷ length rows ∷ length spare ∷ length counts ∷ []) l in
      map-end g south north (length out) f (omega (arith, k.0, mul-div_cancel (cell_count g) (zero-lt-suc g.d))))
      a.comes t
