-- What stands past d is not looked at, and a twist with the empty set is as periodic, for the grid's other calls too: two grids that are alike below d have the same words,
-- cells and words by cell, and with the same sides below d the same edges and lengths. Assumes nothing.
use Rattle.refusal.specs.Says.{Answer, fine}
use Rattle.std.specs.Prelude.{Err, Ok}
use mathlib.Core.Path.{◌≡◌, refl, sym, ap, ◌∙◌}
use mathlib.Core.List.{List, [], ◌∷◌, ◌++◌, map}
use Prim.Native.Nat.{ℕ, zero, suc, ◌+◌, ◌-◌, ◌*◌, ◌/◌, ◌%◌, ◌≤◌, ◌<◌}
use native.Mathlib.Omega.{arith}
use lib.Ieee.{fin}
use lib.IntN.{pos}
use lib.ListN.{get_or}
use mathlib.Core.Bool.{false}
use Rattle.refusal.specs.Limits.{most_dimension}
use Rattle.lists.specs.Rows.{rows, flat}
use Rattle.lists.specs.Tables.{upto}
use Rattle.lists.proofs.Tables.{get_or-tab}
use Rattle.multiindex.specs.Permutation.{gather, orders}
use Rattle.complex.specs.Cells.{in_order, cells_of}
use Rattle.grid_sides.specs.declared.Sides.{Sides}
use Rattle.grid_sides.specs.declared.Steps.{Steps}
use Rattle.grid_sides.specs.Counts.{side_of}
use Rattle.grid_sides.specs.Lengths.{spacing_of, step_of, squares_to, length_sq}
use Rattle.quotient.specs.declared.Grid.{Grid}
use Rattle.quotient.specs.declared.GluedVertex.{GluedVertex}
use Rattle.quotient.specs.Fold.{product}
use Rattle.quotient.specs.Shape.{cells_on, points_on, sides_check_of}
use Rattle.quotient.specs.Reduce.{coord_at, vertex_of}
use Rattle.quotient.specs.Points.{from_digits, point_of}
use Rattle.quotient.specs.Chain.{Alike, SameBelow}
use Rattle.quotient.proofs.Laws.{product-same}
use Rattle.quotient.proofs.Taken.{sides-taken, taken-low, taken-high}
use Rattle.quotient.proofs.Alike.{cells-alike, coord-alike, vertex-alike}
use Rattle.quotient.proofs.Ignored.{same_alike, sides-alike}
use Rattle.grid_words.specs.Cells.{boxes_of, box_at, step_along, met, chains, grid_cells, words_of}
use Rattle.grid_mesh.specs.Words.{glued_cells}
use Rattle.ordering_words.specs.Order.{by_cell}
use Rattle.grid_order.specs.Promise.{own_words, words_by_cell}
use Rattle.grid_lengths.specs.Edges.{first_end, second_end, edges_each, visits_of, from_at, to_at, spacings_of, steps_of, square_at, same_ends, visits_edge, edges_of}
use Rattle.grid_lengths.specs.Settled.{settle, only_if, values_to, edge_values, edge_after, edge_length_of}
use Rattle.grid_lengths.specs.Lengths.{settled_of}

-- ---- words, cells, words by cell

-- digits and places that agree below k make one number
digits_same : (f f' c c' : ℕ → ℕ) (k : ℕ) → ((j : ℕ) → j < k → f j ≡ f' j) → ((j : ℕ) → j < k → c j ≡ c' j) → from_digits f c k ≡ from_digits f' c' k
unfolding from_digits
digits_same f f' c c' zero hf hc = refl
digits_same f f' c c' (suc k) hf hc =
    let rest = digits_same f f' c c' k (λ j l. hf j (omega arith)) (λ j l. hc j (omega arith)) in
    let places = product-same f f' k (λ j l. hf j (omega arith)) in
    let digit = hc k (omega arith) in
    λ i. rest i + places i * digit i

module _ (g h : Grid) (alike : Alike g h) where
  point-alike : (c c' : ℕ → ℕ) → ((k : ℕ) → k < g.d → c k ≡ c' k) → point_of g c ≡ point_of h c'
  point-alike c c' e =
      digits_same (points_on g) (points_on h) c c' g.d (λ k l. ap (λ (n : ℕ). n + 1) (alike.cells k l)) e
      ∙ ap (from_digits (points_on h) c') alike.dimension

  met-alike : (order : List ℕ) (c c' : ℕ → ℕ) → ((k : ℕ) → k < g.d → c k ≡ c' k) → met g c order ≡ met h c' order
  unfolding met
  met-alike [] c c' e = let p = point-alike c c' e in λ i. p i ∷ []
  met-alike (a ∷ order) c c' e =
      let p = point-alike c c' e in
      let rest = met-alike order (step_along a c) (step_along a c') (λ k l. ap (λ (n : ℕ). step_along a (λ j. n) k) (e k l)) in
      λ i. p i ∷ rest i

  boxes-alike : boxes_of g ≡ boxes_of h
  boxes-alike = product-same (cells_on g) (cells_on h) g.d alike.cells ∙ ap (product (cells_on h)) alike.dimension

  box-alike : (b k : ℕ) → k < g.d → box_at g b k ≡ box_at h b k
  box-alike b k l = let p = product-same (cells_on g) (cells_on h) k (λ j m. alike.cells j (omega arith)) in λ i. b / p i % alike.cells k l i

  chains-alike : chains g ≡ chains h
  chains-alike = λ i. gather (λ b. map (λ o. met-alike o (box_at g b) (box_at h b) (box-alike b) i) (orders (alike.dimension i))) (upto (boxes-alike i))

  pub cells-before : grid_cells g ≡ grid_cells h
  unfolding grid_cells
  cells-before = λ i. in_order (suc (alike.dimension i)) (chains-alike i)

  pub words-alike : words_of g ≡ words_of h
  words-alike = λ i. map (map (λ v. vertex-alike g h alike v i)) (cells-before i)

  pub cells-after : glued_cells g ≡ glued_cells h
  cells-after = λ i. cells_of (alike.dimension i) (flat (words-alike i))

  pub own-alike : own_words g ≡ own_words h
  own-alike = λ i. rows (suc (alike.dimension i)) (flat (words-alike i))

  pub by-cell-alike : words_by_cell g ≡ words_by_cell h
  by-cell-alike = λ i. by_cell (own-alike i) (cells-after i)

  -- ---- edges
  from-alike : (r : ℕ) → from_at g r ≡ from_at h r
  from-alike r = λ i. get_or (get_or (cells-before i) (r / edges_each (alike.dimension i)) []) (first_end (r % edges_each (alike.dimension i))) 0

  to-alike : (r : ℕ) → to_at g r ≡ to_at h r
  to-alike r = λ i. get_or (get_or (cells-before i) (r / edges_each (alike.dimension i)) []) (second_end (r % edges_each (alike.dimension i))) 0

  first_alike : (r : ℕ) → vertex_of g (from_at g r) ≡ vertex_of h (from_at h r)
  first_alike r = vertex-alike g h alike (from_at g r) ∙ ap (vertex_of h) (from-alike r)

  second_alike : (r : ℕ) → vertex_of g (to_at g r) ≡ vertex_of h (to_at h r)
  second_alike r = vertex-alike g h alike (to_at g r) ∙ ap (vertex_of h) (to-alike r)

  visits-alike : visits_of g ≡ visits_of h
  visits-alike = λ i. cells-alike g h alike i * edges_each (alike.dimension i)

  pub edges-alike : edges_of g ≡ edges_of h
  edges-alike = λ i. in_order 2 (map (λ r. first_alike r i ∷ second_alike r i ∷ []) (upto (visits-alike i)))

  edge-alike : (a b r : ℕ) → visits_edge g a b r ≡ visits_edge h a b r
  edge-alike a b r = λ i. same_ends a b (first_alike r i) (second_alike r i)

  -- ---- lengths, in a dimension that is taken and with the same sides
  module _ (low : 1 ≤ g.d) (high : g.d ≤ most_dimension) (sides : (k : ℕ) → k < g.d → side_of g.sides k ≡ side_of h.sides k) where
    spacing-at : (x : Grid) (k : ℕ) → k < most_dimension → side_of (spacings_of x) k ≡ spacing_of (side_of x.sides k) (cells_on x k)
    unfolding side_of
    spacing-at x k l = get_or-tab most_dimension (λ j. spacing_of (side_of x.sides j) (cells_on x j)) k (fin false 0 (pos 0)) l

    step-at : (x : Grid) (p q k : ℕ) → k < most_dimension → step_of (steps_of x p q) k ≡ coord_at x q k - coord_at x p k
    unfolding step_of
    step-at x p q k l = get_or-tab most_dimension (λ j. coord_at x q j - coord_at x p j) k 0 l

    spacing-alike : (k : ℕ) → k < g.d → side_of (spacings_of g) k ≡ side_of (spacings_of h) k
    spacing-alike k l =
        spacing-at g k (omega arith)
        ∙ (λ i. spacing_of (sides k l i) (alike.cells k l i))
        ∙ sym (spacing-at h k (omega arith))

    step-alike : (p q k : ℕ) → k < g.d → step_of (steps_of g p q) k ≡ step_of (steps_of h p q) k
    step-alike p q k l =
        step-at g p q k (omega arith)
        ∙ (λ i. coord-alike g h alike q k l i - coord-alike g h alike p k l i)
        ∙ sym (step-at h p q k (omega arith))

    squares-same : (s s' : Sides) (t t' : Steps) (k : ℕ) → ((j : ℕ) → j ≤ k → side_of s j ≡ side_of s' j) → ((j : ℕ) → j ≤ k → step_of t j ≡ step_of t' j) → squares_to s t k ≡ squares_to s' t' k
    unfolding squares_to
    squares-same s s' t t' zero hs ht = rw (hs 0 (omega arith), ht 0 (omega arith))
    squares-same s s' t t' (suc k) hs ht = rw (squares-same s s' t t' k (λ j l. hs j (omega arith)) (λ j l. ht j (omega arith)), hs (suc k) (omega arith), ht (suc k) (omega arith))

    square-alike : (r : ℕ) → square_at g r ≡ square_at h r
    square-alike r =
        squares-same (spacings_of g) (spacings_of h) (steps_of g (from_at g r) (to_at g r)) (steps_of h (from_at g r) (to_at g r)) (g.d - 1)
        (λ j l. spacing-alike j (omega arith)) (λ j l. step-alike (from_at g r) (to_at g r) j (omega arith))
        ∙ (λ i. length_sq (spacings_of h) (steps_of h (from-alike r i) (to-alike r i)) (alike.dimension i))

    values-alike : (a b n : ℕ) → values_to g a b n ≡ values_to h a b n
    unfolding values_to
    values-alike a b zero = refl
    values-alike a b (suc r) = let rest = values-alike a b r in λ i. rest i ++ only_if (edge-alike a b r i) (square-alike r i)

    -- what the values of an edge come to
    pub settled-alike : (a b : ℕ) → settle (edge_values g a b) ≡ settle (edge_values h a b)
    settled-alike a b = ap settle (values-alike a b (visits_of g) ∙ ap (values_to h a b) visits-alike)

    pub lengths-alike : map (settled_of g) (edges_of g) ≡ map (settled_of h) (edges_of h)
    lengths-alike = λ i. map (λ e. settled-alike (get_or e 0 0) (get_or e 1 0) i) (edges-alike i)

-- ---- the question of one edge gets one answer
module _ (g h : Grid) (alike : Alike g h) (sides : (k : ℕ) → k < g.d → side_of g.sides k ≡ side_of h.sides k) where
  pub one-edge-alike : (a b : GluedVertex) → edge_length_of g a b ≡ edge_length_of h a b
  unfolding edge_length_of
  one-edge-alike a b = by (sides_check_of g) refl ∙ ap (λ (x : Answer). edge_after x (settle (edge_values h a.0 b.0))) (sides-alike g h alike sides)
    where
      by : (x : Answer) → sides_check_of g ≡ x → edge_after (sides_check_of g) (settle (edge_values g a.0 b.0)) ≡ edge_after (sides_check_of g) (settle (edge_values h a.0 b.0))
      by (Err why) e = rw e
      by (Ok _) e =
          let taken = sides-taken g e in
          rw e (ap Ok (settled-alike g h alike (taken-low g taken) (taken-high g taken) sides a.0 b.0))

-- ---- what stands past d: the words and cells, and in a grid that is taken the lengths
module _ (g h : Grid) (same : SameBelow g h) where
  pub words-unread : words_of g ≡ words_of h
  words-unread = words-alike g h (same_alike g h same)

  pub cells-unread : glued_cells g ≡ glued_cells h
  cells-unread = cells-after g h (same_alike g h same)

  pub order-unread : words_by_cell g ≡ words_by_cell h
  order-unread = by-cell-alike g h (same_alike g h same)

  pub lengths-unread : sides_check_of g ≡ fine → map (settled_of g) (edges_of g) ≡ map (settled_of h) (edges_of h)
  lengths-unread passed =
      let taken = sides-taken g passed in
      lengths-alike g h (same_alike g h same) (taken-low g taken) (taken-high g taken) same.sides

  pub one-edge-unread : (a b : GluedVertex) → edge_length_of g a b ≡ edge_length_of h a b
  one-edge-unread = one-edge-alike g h (same_alike g h same) same.sides
