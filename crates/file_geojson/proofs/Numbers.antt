-- The mesh's number of a band's cell. The cells of a row stand together, and inside a row the places rise with the cells (proofs/Places); so the cells by place are the
-- cells after gluing, and a cell's place in this list is its number. Assumes nothing.
use Rattle.refusal.specs.Says.{fine}
use mathlib.Core.Path.{◌≡◌, refl, sym, ap, subst, ◌∙◌}
use mathlib.Core.Bool.{true}
use mathlib.Core.Logic.{inl, inr, ⊎_elim}
use mathlib.Core.List.{List, [], ◌∷◌, map}
use Prim.Native.Nat.{ℕ, suc, ◌+◌, ◌-◌, ◌*◌, ◌/◌, ◌%◌, ◌≤◌, ◌<◌}
use native.Mathlib.Nat.{mul_comm, mul_left_comm, mul-suc, mul-add, mul-le-mul_left, mul-le-mul_right, suc-mul, one-mul, mul-one, div-one, div-add-mod, div-add-mod', div-lt_iff_lt-mul, mod-lt, mod-eq_of_lt}
use native.Mathlib.Omega.{arith}
use lib.Arith.{digits_div, digits_mod}
use lib.ListN.{length, get_or}
use Rattle.lists.proofs.Words.{first-at, word-true, word-false}
use Rattle.lists.specs.Tables.{tab}
use Rattle.multiindex.specs.Permutation.{orders}
use Rattle.multiindex.specs.Sort.{sort_word}
use Rattle.lists.proofs.Tables.{length-tab, get_or-tab}
use Rattle.complex.specs.Cells.{in_order}
use Rattle.complex.specs.Facets.{cell_at}
use Rattle.lists.specs.Words.{same_word}
use Rattle.complex_cells.proofs.Words.{Word, In, Rising, rising-by, one_list}
use Rattle.complex_cells.proofs.Order.{Colex, colex-irr, colex-trans, order-rising, order_from, order-has}
use Rattle.quotient.specs.declared.Grid.{Grid}
use Rattle.quotient.specs.Fold.{product, factorial}
use Rattle.quotient.specs.Shape.{cells_on, check_of, cell_count}
use Rattle.quotient.specs.Reduce.{coord_at, vertex_of}
use Rattle.quotient.proofs.Laws.{lt-or-ge}
use Rattle.quotient.proofs.Onto.{three-cells}
use Rattle.quotient.proofs.Taken.{taken-cells}
use Rattle.grid_words.specs.Cells.{words_of}
use Rattle.grid_words.specs.WorkNumbered.{each_box, cell_no, corner_of}
use Rattle.grid_words.proofs.Corners.{some-cell, corner-lt}
use Rattle.grid_words.proofs.Flat.{to-tab, of-tab}
use Rattle.grid_words.proofs.Listed.{cell-length, words-tab}
use Rattle.grid_mesh.specs.Words.{glued_cells}
use Rattle.grid_mesh.proofs.Words.{word_no, words-each, glued-are}
use Rattle.file_geojson.specs.File.{cell_number, mesh_number}
use Rattle.file_geojson.specs.Kind.{band_grid}
use Rattle.file_geojson.proofs.Places.{RowCell, Before, top_within, row_before, Turn, on, third, second, first, turn-within, turn_one, turn-to, turn-back, InRow, in-row-lower, in-row-upper}
use Rattle.file_geojson.proofs.Boxes.{column, row, column-in, east-at, north-at}
use Rattle.file_geojson.proofs.Vertices.{band-two, band-around, vertex-band}

-- a list of three numbers is its three numbers
three-of : (w : List ℕ) → length w ≡ 3 → w ≡ get_or w 0 0 ∷ get_or w 1 0 ∷ get_or w 2 0 ∷ []
three-of [] e = absurd (omega arith)
three-of (a ∷ []) e = absurd (omega arith)
three-of (a ∷ b ∷ []) e = absurd (omega arith)
three-of (a ∷ b ∷ c ∷ []) e = refl
three-of (a ∷ b ∷ c ∷ x ∷ w) e = absurd (omega arith)

module _ (g : Grid) (taken : check_of g ≡ fine) (band : band_grid g ≡ true) where
  -- columns, rows, and cells in a row
  abbrev n : ℕ
  n = cells_on g 0

  abbrev k : ℕ
  k = cells_on g 1

  abbrev pub in_row : ℕ
  in_row = 2 * cells_on g 0

  abbrev flat : g.d ≡ 2
  flat = band-two g band

  pub three : 3 ≤ cells_on g 0
  three = three-cells g taken 0 (omega (arith, flat)) (band-around g band)

  pub cells_are : cell_count g ≡ k * in_row
  unfolding product
  cells_are =
      ap (λ (d : ℕ). factorial d * product (cells_on g) d) flat
      ∙ ap (λ (t : ℕ). 2 * (t * k)) (one-mul n)
      ∙ ap (λ (t : ℕ). 2 * t) (mul_comm n k)
      ∙ mul_left_comm 2 k n

  each_two : each_box g ≡ 2
  each_two = ap (λ (d : ℕ). length (orders d)) flat

  -- ---- where cell x stands in its row
  module _ (x : ℕ) (h : x < cell_count g) where
    half_lt : x / 2 < k * n
    half_lt = (div-lt_iff_lt-mul {k = 2} (omega arith)).1 (omega (arith, h, cells_are, mul_left_comm 2 k n, mul_comm (k * n) 2))

    pub column-is : column g taken flat x ≡ x / 2 % n
    unfolding product
    column-is = ap (λ (m : ℕ). x / m / 1 % n) each_two ∙ ap (λ (b : ℕ). b % n) (div-one (x / 2))

    pub row_is : row g taken flat x ≡ x / 2 / n
    unfolding product
    row_is =
        ap (λ (m : ℕ). x / m / (1 * n) % k) each_two
        ∙ ap (λ (t : ℕ). x / 2 / t % k) (one-mul n)
        ∙ mod-eq_of_lt ((div-lt_iff_lt-mul {k = n} (omega (arith, three))).1 half_lt)

    place_is : x ≡ row g taken flat x * in_row + (2 * column g taken flat x + x % 2)
    place_is =
        let c = column g taken flat x in
        let r = row g taken flat x in
        let a : n * (x / 2 / n) + x / 2 % n ≡ x / 2 = div-add-mod (x / 2) n in
        let b : n * r ≡ n * (x / 2 / n) = ap (λ (t : ℕ). n * t) row_is in
        let d : r * in_row ≡ 2 * (n * r) = mul_left_comm r 2 n ∙ ap (λ (t : ℕ). 2 * t) (mul_comm r n) in
        omega (arith, div-add-mod x 2, column-is, a, b, d)

    place_in : 2 * column g taken flat x + x % 2 < in_row
    place_in = omega (arith, column-in g taken flat x, mod-lt x {m = 2} (omega arith))

    row_of : x / in_row ≡ row g taken flat x
    row_of = ap (λ (y : ℕ). y / in_row) place_is ∙ digits_div (row g taken flat x) place_in

    place-of : x % in_row ≡ 2 * column g taken flat x + x % 2
    place-of = ap (λ (y : ℕ). y % in_row) place_is ∙ digits_mod (row g taken flat x) place_in

    -- ---- its vertices
    vertex-at : (j c r : ℕ) → j ≤ 2 → coord_at g (corner_of g x j) 0 ≡ c → coord_at g (corner_of g x j) 1 ≡ r → vertex_of g (corner_of g x j) ≡ c % n + n * r
    vertex-at j c r l p q = vertex-band g band (corner_of g x j) (corner-lt g taken x j (omega (arith, flat))) ∙ ap (λ (t : ℕ). t % n + n * coord_at g (corner_of g x j) 1) p ∙ ap (λ (t : ℕ). c % n + n * t) q

    word-three : word_no g x ≡ vertex_of g (corner_of g x 0) ∷ vertex_of g (corner_of g x 1) ∷ vertex_of g (corner_of g x 2) ∷ []
    word-three = ap (map (vertex_of g)) (three-of (cell_no g x) (cell-length g taken x ∙ ap suc flat))

    in-row : (j : ℕ) → Turn in_row (x % in_row) j → InRow n (n * (x / in_row)) j (word_no g x)
    in-row j t =
        let c = column g taken flat x in
        let r = row g taken flat x in
        let ci : c < n = column-in g taken flat x in
        let up : n * (r + 1) ≡ n * r + n = mul-add n r 1 ∙ omega arith in
        let own : c % n ≡ c = mod-eq_of_lt ci in
        subst (λ (w : List ℕ). InRow n (n * (x / in_row)) j w) (sym word-three)
        (subst (λ (q : ℕ). InRow n (n * q) j (vertex_of g (corner_of g x 0) ∷ vertex_of g (corner_of g x 1) ∷ vertex_of g (corner_of g x 2) ∷ [])) (sym row_of)
        (⊎_elim
        (λ (e : x % 2 < 1).
        let z : x % 2 ≡ 0 = omega arith in
        in-row-lower n (n * r) c j _ _ _ three ci
        (vertex-at 0 c r (omega arith) (omega (arith, east-at g taken flat x z 0 0 (omega arith) (omega arith))) (omega (arith, east-at g taken flat x z 0 1 (omega arith) (omega arith))) ∙ omega arith)
        (vertex-at 2 (c + 1) (r + 1) (omega arith) (east-at g taken flat x z 2 0 (omega arith) (omega arith)) (east-at g taken flat x z 2 1 (omega arith) (omega arith)) ∙ ap (λ (t : ℕ). (c + 1) % n + t) up)
        (vertex-at 1 (c + 1) r (omega arith) (east-at g taken flat x z 1 0 (omega arith) (omega arith)) (omega (arith, east-at g taken flat x z 1 1 (omega arith) (omega arith))))
        (subst (λ (i : ℕ). Turn in_row i j) (omega (arith, place-of)) t))
        (λ (e : 1 ≤ x % 2).
        let z : x % 2 ≡ 1 = omega (arith, mod-lt x {m = 2} (omega arith)) in
        in-row-upper n (n * r) c j _ _ _ three ci
        (vertex-at 0 c r (omega arith) (omega (arith, north-at g taken flat x z 0 0 (omega arith) (omega arith))) (omega (arith, north-at g taken flat x z 0 1 (omega arith) (omega arith))) ∙ omega arith)
        (vertex-at 2 (c + 1) (r + 1) (omega arith) (north-at g taken flat x z 2 0 (omega arith) (omega arith)) (north-at g taken flat x z 2 1 (omega arith) (omega arith)) ∙ ap (λ (t : ℕ). (c + 1) % n + t) up)
        (vertex-at 1 c (r + 1) (omega arith) (omega (arith, north-at g taken flat x z 1 0 (omega arith) (omega arith))) (north-at g taken flat x z 1 1 (omega arith) (omega arith)) ∙ omega arith)
        (subst (λ (i : ℕ). Turn in_row i j) (omega (arith, place-of)) t))
        (lt-or-ge (x % 2) 1)))

  -- ---- the cells by place
  six : 6 ≤ in_row
  six = omega (arith, three)

  some : 0 < in_row
  some = omega (arith, three)

  within : (q i : ℕ) → q < k → i < in_row → q * in_row + i < cell_count g
  within q i h l = let m : suc q * in_row ≤ k * in_row = mul-le-mul_right in_row h in omega (arith, cells_are, suc-mul q in_row)

  row_lt : (c : ℕ) → c < cell_count g → c / in_row < k
  row_lt c h = (div-lt_iff_lt-mul {k = in_row} some).1 (omega (arith, h, cells_are))

  -- the grid cell at place c of the mesh
  back : (c : ℕ) → (i : ℕ) × Turn in_row i (c % in_row)
  back c = turn-back in_row (c % in_row) six (mod-lt c {m = in_row} some)

  abbrev grid_cell : ℕ → ℕ
  grid_cell c = c / in_row * in_row + (back c).0

  module _ (c : ℕ) (h : c < cell_count g) where
    back_in : (back c).0 < in_row
    back_in = (turn-within in_row (back c).0 (c % in_row) six (back c).1).0

    grid-lt : grid_cell c < cell_count g
    grid-lt = within (c / in_row) (back c).0 (row_lt c h) back_in

    grid-row : grid_cell c / in_row ≡ c / in_row
    grid-row = digits_div (c / in_row) back_in

    grid-place : grid_cell c % in_row ≡ (back c).0
    grid-place = digits_mod (c / in_row) back_in

    placed : InRow n (n * (c / in_row)) (c % in_row) (word_no g (grid_cell c))
    placed =
        subst (λ (q : ℕ). InRow n (n * q) (c % in_row) (word_no g (grid_cell c))) grid-row
        (in-row (grid_cell c) grid-lt (c % in_row) (subst (λ (i : ℕ). Turn in_row i (c % in_row)) (sym grid-place) (back c).1))

  abbrev by_place : List Word
  by_place = tab (cell_count g) (λ c. sort_word (word_no g (grid_cell c)))

  colex-of : {v w : Word} (low mid top low' mid' top' : ℕ) → v ≡ low ∷ mid ∷ top ∷ [] → w ≡ low' ∷ mid' ∷ top' ∷ [] → Before mid top mid' top' → Colex 3 v w
  colex-of low mid top low' mid' top' e f (inl l) = rw (e, f) (inl l)
  colex-of low mid top low' mid' top' e f (inr q) = rw (e, f) (inr (q.0, inl q.1))

  -- rows come one after the other
  later : (q p : ℕ) → q < p → n * q + n ≤ n * p
  later q p h = let m : n * suc q ≤ n * p = mul-le-mul_left n h in omega (arith, mul-suc n q)

  place-before : (b c : ℕ) → b < c → c < cell_count g → Colex 3 (sort_word (word_no g (grid_cell b))) (sort_word (word_no g (grid_cell c)))
  place-before b c l h =
      let hb : b < cell_count g = omega arith in
      let p = placed b hb in
      let q = placed c h in
      colex-of p.low p.mid p.top q.low q.mid q.top p.word q.word
      (⊎_elim
      (λ (m : b / in_row < c / in_row).
      inl (omega (arith, later (b / in_row) (c / in_row) m, (top_within n (n * (b / in_row)) three _ _ _ _ p.cell).1, (top_within n (n * (c / in_row)) three _ _ _ _ q.cell).0)))
      (λ (m : c / in_row ≤ b / in_row).
      let d : in_row * (b / in_row) + b % in_row ≡ b = div-add-mod b in_row in
      let e : in_row * (c / in_row) + c % in_row ≡ c = div-add-mod c in_row in
      let bi : b % in_row < in_row = mod-lt b {m = in_row} some in
      let ci : c % in_row < in_row = mod-lt c {m = in_row} some in
      let u : in_row * (c / in_row) ≤ in_row * (b / in_row) = mul-le-mul_left in_row m in
      let s : b / in_row ≡ c / in_row = same_row b c l m in
      row_before n (n * (c / in_row)) three _ _ _ _ _ _ _ _ (subst (λ (t : ℕ). RowCell n (n * t) (b % in_row) p.low p.mid p.top) s p.cell) q.cell (omega arith))
      (lt-or-ge (b / in_row) (c / in_row)))
    where
      same_row : (b c : ℕ) → b < c → c / in_row ≤ b / in_row → b / in_row ≡ c / in_row
      same_row b c l m =
          ⊎_elim
          (λ (w : c / in_row < b / in_row).
          let v : in_row * suc (c / in_row) ≤ in_row * (b / in_row) = mul-le-mul_left in_row w in
          absurd (omega (arith, div-add-mod b in_row, div-add-mod c in_row, mod-lt c {m = in_row} some, mul-suc in_row (c / in_row))))
          (λ (w : b / in_row ≤ c / in_row). omega arith)
          (lt-or-ge (c / in_row) (b / in_row))

  place-rises : Rising (Colex 3) by_place
  place-rises =
      rising-by (Colex 3) by_place
      (λ i j h l.
      let m : j < cell_count g = omega (arith, length-tab (cell_count g) (λ c. sort_word (word_no g (grid_cell c)))) in
      rw (get_or-tab (cell_count g) (λ c. sort_word (word_no g (grid_cell c))) i [] (omega arith), get_or-tab (cell_count g) (λ c. sort_word (word_no g (grid_cell c))) j [] m) (place-before i j h m))

  -- ---- the place of each grid cell
  module _ (x : ℕ) (h : x < cell_count g) (j : ℕ) (t : Turn in_row (x % in_row) j) where
    abbrev at : ℕ
    at = x / in_row * in_row + j

    j-in : j < in_row
    j-in = (turn-within in_row (x % in_row) j six t).1

    pub at_lt : at < cell_count g
    at_lt = within (x / in_row) j (row_lt x h) j-in

    at_back : grid_cell at ≡ x
    at_back =
        let r : at / in_row ≡ x / in_row = digits_div (x / in_row) j-in in
        let p : at % in_row ≡ j = digits_mod (x / in_row) j-in in
        let i : (back at).0 ≡ x % in_row = turn_one in_row (back at).0 (x % in_row) j six (subst (λ (y : ℕ). Turn in_row (back at).0 y) p (back at).1) t in
        let s : at / in_row * in_row ≡ x / in_row * in_row = ap (λ (y : ℕ). y * in_row) r in
        omega (arith, div-add-mod x in_row, mul_comm in_row (x / in_row))

  colex-flat : Colex 3 ≡ Colex (suc g.d)
  colex-flat = ap (λ (d : ℕ). Colex (suc d)) (sym flat)

  cells-by-place : glued_cells g ≡ by_place
  cells-by-place =
      glued-are g taken
      ∙ one_list (Colex (suc g.d)) (colex-irr (suc g.d)) (colex-trans (suc g.d)) (in_order (suc g.d) (words_of g)) by_place (order-rising (suc g.d) (words_of g))
      (subst (λ (R : Word → Word → Type 0). Rising R by_place) colex-flat place-rises)
      (λ v m.
      let u = order_from (suc g.d) (words_of g) v m in
      let r = of-tab (word_no g) (cell_count g) u.0 (subst (λ (ws : List Word). In u.0 ws) (words-tab g taken) u.1) in
      let x : ℕ = r.0 in
      let t = turn-to in_row (x % in_row) six (mod-lt x {m = in_row} some) in
      subst (λ (w : Word). In w by_place) (ap (λ (y : ℕ). sort_word (word_no g y)) (at_back x r.1 t.0 t.1) ∙ ap sort_word r.2 ∙ u.2)
      (to-tab (λ c. sort_word (word_no g (grid_cell c))) (cell_count g) (x / in_row * in_row + t.0) (at_lt x r.1 t.0 t.1)))
      (λ v m.
      let r = of-tab (λ c. sort_word (word_no g (grid_cell c))) (cell_count g) v m in
      subst (λ (w : Word). In w (in_order (suc g.d) (words_of g))) r.2
      (order-has (suc g.d) (words_of g) (word_no g (grid_cell r.0)) (words-each g taken)
      (subst (λ (ws : List Word). In (word_no g (grid_cell r.0)) ws) (sym (words-tab g taken)) (to-tab (word_no g) (cell_count g) (grid_cell r.0) (grid-lt r.0 r.1)))))

  -- ---- the number of grid cell x
  cell-at : (c : ℕ) → c < cell_count g → cell_at by_place c ≡ sort_word (word_no g (grid_cell c))
  cell-at c h = get_or-tab (cell_count g) (λ c. sort_word (word_no g (grid_cell c))) c [] h

  pub number_is : (x : ℕ) → x < cell_count g → (j : ℕ) → Turn in_row (x % in_row) j → x / in_row * in_row + j ≡ mesh_number g (cell_no g x)
  unfolding mesh_number
  number_is x h j t =
      let c : ℕ = x / in_row * in_row + j in
      let l : c < cell_count g = at_lt x h j t in
      let e : cell_at by_place c ≡ sort_word (word_no g x) = cell-at c l ∙ ap (λ (y : ℕ). sort_word (word_no g y)) (at_back x h j t) in
      sym
      (ap (λ (cs : List Word). cell_number cs (word_no g x)) cells-by-place
      ∙ first-at (λ b. same_word (cell_at by_place b) (sort_word (word_no g x))) (length by_place) c (omega (arith, length-tab (cell_count g) (λ c. sort_word (word_no g (grid_cell c)))))
      (λ b m. word-false (cell_at by_place b) (sort_word (word_no g x)) (λ q. before-not b c m l (q ∙ sym e)))
      (word-true (cell_at by_place c) (sort_word (word_no g x)) e))
    where
      before-not : (b c : ℕ) → b < c → c < cell_count g → cell_at by_place b ≡ cell_at by_place c → ⊥
      before-not b c m l q =
          colex-irr 3 (sort_word (word_no g (grid_cell c)))
          (subst (λ (w : Word). Colex 3 w (sort_word (word_no g (grid_cell c)))) (sym (cell-at b (omega arith)) ∙ q ∙ cell-at c l) (place-before b c m l))

-- ---- each grid cell is one cell of the mesh, and each cell of the mesh is one grid cell
module _ (g : Grid) (taken : check_of g ≡ fine) (band : band_grid g ≡ true) where
  turned : (x : ℕ) → (j : ℕ) × Turn (in_row g taken band) (x % in_row g taken band) j
  turned x = turn-to (in_row g taken band) (x % in_row g taken band) (six g taken band) (mod-lt x {m = in_row g taken band} (some g taken band))

  numbered : (x : ℕ) → x < cell_count g → x / in_row g taken band * in_row g taken band + (turned x).0 ≡ mesh_number g (cell_no g x)
  numbered x h = number_is g taken band x h (turned x).0 (turned x).1

  pub number_lt : (x : ℕ) → x < cell_count g → mesh_number g (cell_no g x) < cell_count g
  number_lt x h = omega (arith, numbered x h, at_lt g taken band x h (turned x).0 (turned x).1)

  -- the cell at this number is the word's
  pub number-cell : (x : ℕ) → x < cell_count g → cell_at (glued_cells g) (mesh_number g (cell_no g x)) ≡ sort_word (word_no g x)
  number-cell x h =
      ap (λ (c : ℕ). cell_at (glued_cells g) c) (sym (numbered x h))
      ∙ ap (λ (cs : List Word). cell_at cs (x / in_row g taken band * in_row g taken band + (turned x).0)) (cells-by-place g taken band)
      ∙ cell-at g taken band (x / in_row g taken band * in_row g taken band + (turned x).0) (at_lt g taken band x h (turned x).0 (turned x).1)
      ∙ ap (λ (y : ℕ). sort_word (word_no g y)) (at_back g taken band x h (turned x).0 (turned x).1)

  pub number-one : (x y : ℕ) → x < cell_count g → y < cell_count g → mesh_number g (cell_no g x) ≡ mesh_number g (cell_no g y) → x ≡ y
  number-one x y h l e =
      sym (at_back g taken band x h (turned x).0 (turned x).1)
      ∙ ap (λ (c : ℕ). grid_cell g taken band c) (numbered x h ∙ e ∙ sym (numbered y l))
      ∙ at_back g taken band y l (turned y).0 (turned y).1

  pub number-onto : (c : ℕ) → c < cell_count g → (x : ℕ) × (x < cell_count g) × (mesh_number g (cell_no g x) ≡ c)
  number-onto c h =
      let x : ℕ = grid_cell g taken band c in
      let t : Turn (in_row g taken band) (x % in_row g taken band) (c % in_row g taken band) =
      subst (λ (i : ℕ). Turn (in_row g taken band) i (c % in_row g taken band)) (sym (grid-place g taken band c h)) (back g taken band c).1 in (
        x,
        grid-lt g taken band c h,
        sym (number_is g taken band x (grid-lt g taken band c h) (c % in_row g taken band) t)
            ∙ ap (λ (q : ℕ). q * in_row g taken band + c % in_row g taken band) (grid-row g taken band c h)
            ∙ div-add-mod' c (in_row g taken band),
      )

pub number-below : (g : Grid) (taken : check_of g ≡ fine) (band : band_grid g ≡ true) (x : ℕ) → x < cell_count g → mesh_number g (cell_no g x) < 65536
number-below g taken band x h = omega (arith, number_lt g taken band x h, taken-cells g taken)

-- ---- what the code's tests say
module _ (g : Grid) (taken : check_of g ≡ fine) where
  pub cell_below : (x : ℕ) → x < cell_count g → x < 65536
  cell_below x h = omega (arith, taken-cells g taken)

  module _ (band : band_grid g ≡ true) where
    pub columns-below : (n : ℕ) → n ≡ cells_on g 0 → (3 ≤ n) × (n ≤ 32768)
    unfolding product
    columns-below n e =
        let t : cell_count g ≡ 2 * (n * cells_on g 1) =
        ap (λ (d : ℕ). factorial d * product (cells_on g) d) (band-two g band) ∙ ap (λ (m : ℕ). 2 * (m * cells_on g 1)) (one-mul (cells_on g 0) ∙ sym e) in
        let r : 1 ≤ cells_on g 1 = some-cell g taken 1 (omega (arith, band-two g band)) in
        let p : n * 1 ≤ n * cells_on g 1 = mul-le-mul_left n r in
        (omega (arith, three g taken band), omega (arith, taken-cells g taken, mul-one n))

    module _ (x : ℕ) (h : x < cell_count g) (n : ℕ) (e : n ≡ cells_on g 0) where
      told : (j : ℕ) → Turn (2 * n) (x % (2 * n)) j → x / (2 * n) * (2 * n) + j ≡ mesh_number g (cell_no g x)
      told j = subst (λ (m : ℕ). Turn (2 * m) (x % (2 * m)) j → x / (2 * m) * (2 * m) + j ≡ mesh_number g (cell_no g x)) (sym e) (number_is g taken band x h j)

      whole : x / (2 * n) * (2 * n) + x % (2 * n) ≡ x
      whole = div-add-mod' x (2 * n)

      place-lt : x % (2 * n) < 2 * n
      place-lt = mod-lt x {m = 2 * n} (omega (arith, three g taken band))

      pub told-on : x % (2 * n) + 3 < 2 * n → x + 1 ≡ mesh_number g (cell_no g x)
      told-on c = let q : x + 1 ≡ x / (2 * n) * (2 * n) + (x % (2 * n) + 1) = omega (arith, whole) in q ∙ told (x % (2 * n) + 1) (on c refl)

      pub told-third : x % (2 * n) + 3 ≡ 2 * n → x + 2 ≡ mesh_number g (cell_no g x)
      told-third c = let q : x + 2 ≡ x / (2 * n) * (2 * n) + (x % (2 * n) + 2) = omega (arith, whole) in q ∙ told (x % (2 * n) + 2) (third c refl)

      pub told-second : x % (2 * n) + 2 ≡ 2 * n → x - x % (2 * n) ≡ mesh_number g (cell_no g x)
      told-second c = let q : x - x % (2 * n) ≡ x / (2 * n) * (2 * n) + 0 = omega (arith, whole) in q ∙ told 0 (second c refl)

      pub told-first : 2 * n ≤ x % (2 * n) + 3 → (x % (2 * n) + 3 ≡ 2 * n → ⊥) → (x % (2 * n) + 2 ≡ 2 * n → ⊥) → x - 1 ≡ mesh_number g (cell_no g x)
      told-first a b c =
          let i : x % (2 * n) + 1 ≡ 2 * n = omega (arith, place-lt, b, c) in
          let q : x - 1 ≡ x / (2 * n) * (2 * n) + (x % (2 * n) - 1) = omega (arith, whole, three g taken band) in
          q ∙ told (x % (2 * n) - 1) (first i (omega (arith, three g taken band)))

      pub place-some : 2 * n ≤ x % (2 * n) + 3 → 1 ≤ x
      place-some a = omega (arith, whole, three g taken band)
