-- The words by number, under any numbering of the points; and no class is left out by them, so refusal 5 cannot occur. Assumes nothing.
use Rattle.refusal.specs.Says.{fine}
use mathlib.Core.Path.{◌≡◌, sym, ap, subst, ◌∙◌}
use mathlib.Core.Bool.{true}
use mathlib.Core.List.{List, map}
use Prim.Native.Nat.{ℕ, suc, ◌+◌, ◌-◌, ◌*◌, ◌/◌, ◌%◌, ◌≤◌, ◌<◌, min}
use native.Mathlib.Nat.{mod-lt}
use native.Mathlib.Numerals.{add-one}
use native.Mathlib.Omega.{arith}
use lib.Arith.{digits_div, digits_mod, digits_lt}
use lib.ListN.{length, get_or, length-map}
use Rattle.lists.specs.Rows.{flat}
use Rattle.lists.specs.Words.{among}
use Rattle.lists.proofs.Laws.{map_at}
use Rattle.lists.proofs.Members.{Mem, Mem-of}
use Rattle.lists.specs.Tables.{tab}
use Rattle.lists.proofs.Tables.{length-tab, get_or-tab, map-tab, tab-ext}
use Rattle.quotient.specs.declared.Grid.{Grid}
use Rattle.quotient.specs.Shape.{cells_on, check_of, cell_count}
use Rattle.quotient.specs.Reduce.{coord_at}
use Rattle.quotient.specs.Points.{points_of, point_of, InBox}
use Rattle.quotient.proofs.Points.{coord-le}
use Rattle.quotient.proofs.Radix.{point-of-coords, coord-of-point}
use Rattle.grid_words.specs.WorkNumbered.{cell_no, corner_of}
use Rattle.quotient.proofs.Boxes.{corners}
use Rattle.grid_words.proofs.Corners.{some-cell, corner-lt}
use Rattle.grid_words.proofs.Flat.{flat-tab}
use Rattle.grid_words.proofs.Listed.{listed, cell-length}
use Rattle.grid_words.proofs.Good.{mem-among, Met, meets}
use Rattle.grid_chained.specs.Classing.{Classing}
use Rattle.grid_chained_words.specs.Words.{words_by, flat_by}

module _ (g : Grid) (taken : check_of g ≡ fine) (c : ℕ → ℕ) where
  words-tab : words_by g c ≡ tab (cell_count g) (λ x. map c (cell_no g x))
  words-tab = ap (map (map c)) (listed g taken) ∙ map-tab (map c) (cell_count g) (cell_no g)

  flat-words : flat_by g c ≡ tab (cell_count g * suc g.d) (λ i. c (corner_of g (i / suc g.d) (i % suc g.d)))
  flat-words =
      ap flat words-tab
      ∙ flat-tab (suc g.d) (cell_count g) (λ x. map c (cell_no g x)) (omega arith) (λ x h. length-map (cell_no g x) c ∙ cell-length g taken x)
      ∙ tab-ext (cell_count g * suc g.d) _ _
      (λ i h. map_at c (cell_no g (i / suc g.d)) (i % suc g.d) 0 0 (rw (cell-length g taken (i / suc g.d)) (mod-lt i (omega arith))))

  pub words_long : length (flat_by g c) ≡ cell_count g * suc g.d
  words_long = ap length flat-words ∙ length-tab (cell_count g * suc g.d) _

  pub words-at : (i : ℕ) → i < cell_count g * suc g.d → get_or (flat_by g c) i 0 ≡ c (corner_of g (i / suc g.d) (i % suc g.d))
  words-at i h = ap (λ (l : List ℕ). get_or l i 0) flat-words ∙ get_or-tab (cell_count g * suc g.d) _ i 0 h

  -- a turn of the loop that writes the words
  pub words-turn : (i p v : ℕ) → i < cell_count g * suc g.d → p ≡ corner_of g (i / (g.d + 1)) (i % (g.d + 1)) → v ≡ c p → v ≡ get_or (flat_by g c) i 0
  words-turn i p v h hp hv = hv ∙ ap c (hp ∙ ap (λ (n : ℕ). corner_of g (i / n) (i % n)) (add-one g.d)) ∙ sym (words-at i h)

  -- ---- no number that a point has is left out

  -- where a box that has the point begins
  abbrev begin_of : ℕ → ℕ → ℕ
  begin_of p k = min (coord_at g p k) (cells_on g k - 1)

  begins : (p k : ℕ) → k < g.d → (begin_of p k ≤ coord_at g p k) × (coord_at g p k ≤ begin_of p k + 1) × (begin_of p k < cells_on g k)
  begins p k l =
      let a : coord_at g p k ≤ cells_on g k = coord-le g p k in
      let b : 1 ≤ cells_on g k = some-cell g taken k l in
      (omega arith, omega arith, omega arith)

  -- each grid point is a corner of a cell
  pub met-point : (p : ℕ) → p < points_of g → Met g taken p
  met-point p h =
      let box : InBox g (point_of g (begin_of p)) (point_of g (coord_at g p)) = corners g (begin_of p) (coord_at g p) (λ k l. ((begins p k l).0, (begins p k l).1, coord-le g p k)) in
      let le : (k : ℕ) → k < g.d → begin_of p k ≤ cells_on g k = λ k l. let x : begin_of p k < cells_on g k = (begins p k l).2 in omega arith in
      meets g taken (point_of g (begin_of p)) p (subst (λ (w : ℕ). InBox g (point_of g (begin_of p)) w) (point-of-coords g p h) box)
      (λ k l. rw (coord-of-point g (begin_of p) le k l) (begins p k l).2)

  word_at : (x j : ℕ) → x < cell_count g → j ≤ g.d → get_or (flat_by g c) (x * suc g.d + j) 0 ≡ c (corner_of g x j)
  word_at x j h l =
      let r : j < suc g.d = omega arith in
      words-at (x * suc g.d + j) (digits_lt h r)
      ∙ ap (λ (n : ℕ). c (corner_of g n ((x * suc g.d + j) % suc g.d))) (digits_div x r)
      ∙ ap (λ (n : ℕ). c (corner_of g x n)) (digits_mod x r)

  pub point-among : (p : ℕ) → p < points_of g → among (c p) (flat_by g c) ≡ true
  point-among p h =
      let m = met-point p h in
      let e : get_or (flat_by g c) (m.cell * suc g.d + m.place) 0 ≡ c p = word_at m.cell m.place m.cell_in m.place_in ∙ ap c m.is in
      let q : m.place < suc g.d = let z : m.place ≤ g.d = m.place_in in omega arith in
      mem-among (c p) (flat_by g c) (subst (λ (u : ℕ). Mem u (flat_by g c)) e (Mem-of (flat_by g c) (m.cell * suc g.d + m.place) (rw words_long (digits_lt m.cell_in q))))

  -- so every class stands in the words, and refusal 5 cannot occur
  pub classes-all : (m : ℕ) → Classing g c m → (y : ℕ) → y < m → among y (flat_by g c) ≡ true
  classes-all m k y h = let w = k.each y h in subst (λ (z : ℕ). among z (flat_by g c) ≡ true) w.2 (point-among w.0 w.1)

  -- and no number of a word is as large as the count of classes
  pub classes-low : (m : ℕ) → Classing g c m → (i : ℕ) → i < length (flat_by g c) → get_or (flat_by g c) i 0 < m
  classes-low m k i h =
      let b : i < cell_count g * suc g.d = omega (arith, words_long) in
      let r : i % suc g.d < suc g.d = mod-lt i (omega arith) in
      subst (λ (x : ℕ). x < m) (sym (words-at i b)) (k.below (corner_of g (i / suc g.d) (i % suc g.d)) (corner-lt g taken (i / suc g.d) (i % suc g.d) (omega arith)))
