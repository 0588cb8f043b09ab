-- The glued edges as classes of visits: the ends of each visit, sorted, are its edge, and the distinct ones in order are the glued edges. Assumes nothing.
use Rattle.refusal.specs.Says.{fine}
use mathlib.Core.Path.{◌≡◌, refl, sym, ap, subst, ◌∙◌}
use mathlib.Core.Bool.{Bool, true, false, cond, ◌&&◌}
use mathlib.Core.List.{List, [], ◌∷◌, ◌++◌, map, append-nil}
use Prim.Native.Nat.{ℕ, zero, suc, ◌+◌, ◌*◌, ◌/◌, ◌%◌, ◌≤◌, ◌<◌, min, max}
use native.Mathlib.Nat.{le_refl, mul-le-mul_left, mul_assoc}
use native.Mathlib.Omega.{arith}
use lib.Dec.{eqb, ltb, leb}
use lib.ListN.{length, get_or, take}
use lib.Seq.{ext_get_or}
use borrow.Author.Tests.{ltb-true, ltb-false, leb-true, eqb-true, eq-eqb}
use Rattle.lists.specs.Tables.{upto}
use Rattle.multiindex.specs.Sort.{insert_by, insert, sort_word, sort_words}
use Rattle.multiindex.proofs.Tables.{at-below}
use Rattle.lists.proofs.Tables.{length-tab, get_or-tab, map-tab, list-tab}
use Rattle.lists.specs.Rows.{cut, row}
use Rattle.lists.proofs.Rows.{cut-length, cut_at}
use Rattle.sorting.specs.Bucket.{cell}
use Rattle.sorting.specs.Order.{SameRow, Table}
use Rattle.sorting.specs.Gather.{rows_of}
use Rattle.sorting.specs.Distinct.{Distinct}
use Rattle.sorting.proofs.Colex.{row-cell, row-length, same_row, row_same}
use Rattle.sorting.proofs.Firsts.{id-eq, id-row, id-rep}
use Rattle.sorting.proofs.Rows.{rows_of-pos, pos-room}
use Rattle.complex.specs.Cells.{in_order}
use Rattle.complex_cells.proofs.Making.{key-length, key_row, key-table, made-same, made-cell, low-numbers}
use Rattle.quotient.specs.declared.Grid.{Grid}
use Rattle.quotient.specs.Shape.{check_of, cell_count}
use Rattle.quotient.specs.Reduce.{vertex_of}
use Rattle.quotient.proofs.Taken.{taken-low}
use Rattle.grid_words.specs.Cells.{flat_words}
use Rattle.grid_words.specs.WorkNumbered.{corner_of}
use Rattle.grid_words.proofs.Corners.{dim}
use Rattle.grid_words.proofs.Listed.{words_long}
use Rattle.grid_words.proofs.Good.{word_at, words-pass}
use Rattle.grid_lengths.specs.Edges.{first_end, second_end, edges_each, visits_of, from_at, to_at, edges_of}
use Rattle.grid_lengths.specs.Noted.{end_of, ends_of, one_edge}
use Rattle.grid_lengths.specs.Work.{VisitOf, Classed}
use Rattle.grid_lengths.proofs.Measuring.{visits-few, corner-at, cell_in, first-low, second-low}

-- ---- two numbers sorted
two-by : (a b : ℕ) (t : Bool) → ltb b a ≡ t → insert_by t a b [] (a ∷ []) ≡ min a b ∷ max a b ∷ []
unfolding insert_by
two-by a b true e =
    let l = ltb-true b a e in let p : b ≡ min a b = omega arith in let q : a ≡ max a b = omega arith in ap (λ (z : ℕ). z ∷ a ∷ []) p ∙ ap (λ (z : ℕ). min a b ∷ z ∷ []) q
two-by a b false e =
    let l = ltb-false b a e in let p : a ≡ min a b = omega arith in let q : b ≡ max a b = omega arith in ap (λ (z : ℕ). z ∷ b ∷ []) p ∙ ap (λ (z : ℕ). min a b ∷ z ∷ []) q

pub two-sorted : (a b : ℕ) → sort_word (a ∷ b ∷ []) ≡ min a b ∷ max a b ∷ []
unfolding sort_word insert
two-sorted a b = two-by a b (ltb b a) refl

both : (s t : Bool) → (s && t) ≡ true → (s ≡ true) × (t ≡ true)
both true true e = (refl, refl)
both true false e = absurd (let z : ◌≡◌ {A = ℕ} 0 1 = cc in omega arith)
both false t e = absurd (let z : ◌≡◌ {A = ℕ} 0 1 = cc in omega arith)

-- ---- a cell has at least as many edge ends as corners
ends-enough : (d : ℕ) → 1 ≤ d → d ≤ 3 → suc d ≤ edges_each d * 2
ends-enough zero l h = absurd (let w : ⊥ = omega arith in w)
ends-enough (suc d) l h = leb-true (suc (suc d)) (edges_each (suc d) * 2) (at-below 3 (λ d. leb (suc (suc d)) (edges_each (suc d) * 2)) refl d h)

module _ (g : Grid) (taken : check_of g ≡ fine) where
  abbrev from_to : ℕ → List ℕ
  from_to r = vertex_of g (from_at g r) ∷ vertex_of g (to_at g r) ∷ []

  corners-fit : cell_count g * suc g.d ≤ visits_of g * 2
  corners-fit =
      let a : cell_count g * suc g.d ≤ cell_count g * (edges_each g.d * 2) = mul-le-mul_left (cell_count g) (ends-enough g.d (taken-low g taken) (dim g taken)) in
      omega (arith, mul_assoc (cell_count g) (edges_each g.d) 2)

  -- all ends are numbers below the room
  corner-low : (x j : ℕ) → x < cell_count g → j ≤ g.d → vertex_of g (corner_of g x j) < visits_of g * 2
  corner-low x j h l =
      let i : x * suc g.d + j < cell_count g * suc g.d = omega (arith, pos-room x (cell_count g) (suc g.d) h) in
      let a = low-numbers g.d (flat_words g) (words-pass g taken) (x * suc g.d + j) (omega (arith, words_long g taken)) in
      rw (← (word_at g taken x j h l)) (omega (arith, words_long g taken, corners-fit))

  from_low : (r : ℕ) → r < visits_of g → vertex_of g (from_at g r) < visits_of g * 2
  from_low r h =
      let k = edges_each g.d in
      let c = cell_in g taken r k refl h in
      rw (corner-at g taken (r / k) (first_end (r % k)) c) (corner-low (r / k) (first_end (r % k)) c (first-low g taken r k refl (first_end (r % k)) refl))

  to_low : (r : ℕ) → r < visits_of g → vertex_of g (to_at g r) < visits_of g * 2
  to_low r h =
      let k = edges_each g.d in
      let c = cell_in g taken r k refl h in
      rw (corner-at g taken (r / k) (second_end (r % k)) c) (corner-low (r / k) (second_end (r % k)) c (second-low g taken r k refl (second_end (r % k)) refl))

  end_low : (i : ℕ) → i < visits_of g * 2 → end_of g i < visits_of g * 2
  end_low i h = go (eqb (i % 2) 0)
    where
      half : i / 2 < visits_of g
      half = omega arith

      go : (b : Bool) → cond b (vertex_of g (from_at g (i / 2))) (vertex_of g (to_at g (i / 2))) < visits_of g * 2
      go true = from_low (i / 2) half
      go false = to_low (i / 2) half

  ends-long : length (ends_of g) ≡ visits_of g * 2
  ends-long = length-tab (visits_of g * 2) (end_of g)

  ends_low : (i : ℕ) → i < length (ends_of g) → get_or (ends_of g) i 0 < visits_of g * 2
  ends_low i h = let l : i < visits_of g * 2 = omega (arith, ends-long) in rw (get_or-tab (visits_of g * 2) (end_of g) i 0 l) (end_low i l)

  -- ---- the ends as rows
  end-even : (r : ℕ) → end_of g (r * 2 + 0) ≡ vertex_of g (from_at g r)
  end-even r = let a : (r * 2 + 0) % 2 ≡ 0 = omega arith in let b : (r * 2 + 0) / 2 ≡ r = omega arith in rw (a, b)

  end-odd : (r : ℕ) → end_of g (r * 2 + 1) ≡ vertex_of g (to_at g r)
  end-odd r = let a : (r * 2 + 1) % 2 ≡ 1 = omega arith in let b : (r * 2 + 1) / 2 ≡ r = omega arith in rw (a, b)

  ends-row : (r : ℕ) → r < visits_of g → row (ends_of g) 2 r ≡ from_to r
  ends-row r h =
      let l : length (row (ends_of g) 2 r) ≡ 2 = row-length (ends_of g) 2 r (omega (arith, ends-long)) in
      ext_get_or 0 (row (ends_of g) 2 r) (from_to r) l (λ i k. at i (omega (arith, l)))
    where
      at : (i : ℕ) → i < 2 → get_or (row (ends_of g) 2 r) i 0 ≡ get_or (from_to r) i 0
      at zero k = row-cell (ends_of g) 2 r 0 k ∙ get_or-tab (visits_of g * 2) (end_of g) (r * 2 + 0) 0 (omega arith) ∙ end-even r
      at (suc zero) k = row-cell (ends_of g) 2 r 1 k ∙ get_or-tab (visits_of g * 2) (end_of g) (r * 2 + 1) 0 (omega arith) ∙ end-odd r
      at (suc (suc i)) k = absurd (let w : ⊥ = omega arith in w)

  edges-cut : cut 2 (visits_of g) (ends_of g) ≡ map (λ r. vertex_of g (from_at g r) ∷ vertex_of g (to_at g r) ∷ []) (upto (visits_of g))
  edges-cut =
      list-tab (visits_of g) (cut 2 (visits_of g) (ends_of g)) from_to [] (cut-length 2 (visits_of g) (ends_of g)) (λ i h. cut_at 2 (visits_of g) (ends_of g) i h ∙ ends-row i h)
      ∙ sym (map-tab from_to (visits_of g) (λ i. i))

  -- ---- the ends sorted, and their distinct rows
  module _ (total : ℕ) (t : total ≡ visits_of g) (K : List ℕ) (k : K ≡ sort_words 2 total (ends_of g)) where
    as-keys : K ≡ sort_words 2 (visits_of g) (ends_of g ++ [])
    as-keys = k ∙ ap (λ (n : ℕ). sort_words 2 n (ends_of g)) t ∙ ap (sort_words 2 (visits_of g)) (sym (append-nil (ends_of g)))

    whole : visits_of g * 2 ≡ length (ends_of g)
    whole = sym ends-long

    pub keys-are : length K ≡ visits_of g * 2
    keys-are = ap length as-keys ∙ key-length 2 (visits_of g) (ends_of g) [] whole (omega arith) ∙ omega-long
      where
        omega-long : length (ends_of g) + length {A = ℕ} [] ≡ visits_of g * 2
        omega-long = omega (arith, ends-long)

    pub ends-table : Table K 2 total (total * 2)
    ends-table =
        subst (λ (n : ℕ). Table K 2 n (n * 2)) (sym t)
        (subst (λ (l : List ℕ). Table l 2 (visits_of g) (visits_of g * 2)) (sym as-keys) (key-table 2 (visits_of g) (ends_of g) [] whole (omega arith) (visits_of g * 2) ends_low (omega (arith, visits-few g taken))))

    edge_row : (r : ℕ) → r < visits_of g → row K 2 r ≡ min (vertex_of g (from_at g r)) (vertex_of g (to_at g r)) ∷ max (vertex_of g (from_at g r)) (vertex_of g (to_at g r)) ∷ []
    edge_row r h =
        ap (λ (l : List ℕ). row l 2 r) as-keys
        ∙ key_row 2 (visits_of g) (ends_of g) [] whole (omega arith) r h
        ∙ ap sort_word (ends-row r h)
        ∙ two-sorted (vertex_of g (from_at g r)) (vertex_of g (to_at g r))

    row_room : (r : ℕ) → r < visits_of g → r * 2 + 2 ≤ length K
    row_room r h = omega (arith, keys-are)

    same-edge : (x y : ℕ) → x < visits_of g → y < visits_of g → SameRow (cell K 2) 2 x y → one_edge g x y ≡ true
    same-edge x y hx hy s =
        let e = sym (edge_row x hx) ∙ same_row K 2 x y (row_room x hx) (row_room y hy) s ∙ edge_row y hy in
        rw (eq-eqb _ _ (ap (λ (l : List ℕ). get_or l 0 0) e), eq-eqb _ _ (ap (λ (l : List ℕ). get_or l 1 0) e))

    edge_same : (x y : ℕ) → x < visits_of g → y < visits_of g → one_edge g x y ≡ true → SameRow (cell K 2) 2 x y
    edge_same x y hx hy o =
        let p = both _ _ o in
        let a = eqb-true _ _ p.0 in
        let b = eqb-true _ _ p.1 in
        row_same K 2 x y (edge_row x hx ∙ ap (λ (z : ℕ). z ∷ max (vertex_of g (from_at g x)) (vertex_of g (to_at g x)) ∷ []) a ∙ ap (λ (z : ℕ). min (vertex_of g (from_at g y)) (vertex_of g (to_at g y)) ∷ z ∷ []) b ∙ sym (edge_row y hy))

    module _ (m : ℕ) (reps ids : List ℕ) (q₀ : Distinct (cell K 2) 2 total m reps ids) (long : m ≤ length reps) where
      q : Distinct (cell K 2) 2 (visits_of g) m reps ids
      q = subst (λ (n : ℕ). Distinct (cell K 2) 2 n m reps ids) t q₀

      qS : Distinct (cell (sort_words 2 (visits_of g) (ends_of g ++ [])) 2) 2 (visits_of g) m reps ids
      qS = subst (λ (l : List ℕ). Distinct (cell l 2) 2 (visits_of g) m reps ids) as-keys q

      abbrev rows : List ℕ
      rows = rows_of (sort_words 2 (visits_of g) (ends_of g ++ [])) 2 (take m reps)

      fits : m * 2 ≤ length rows
      fits =
          let e : length rows ≡ m * 2 =
          rows_of-pos (sort_words 2 (visits_of g) (ends_of g ++ [])) 2 reps m m (λ j h. subst (λ (l : List ℕ). get_or reps j 0 * 2 + 2 ≤ length l) as-keys (row_room (get_or reps j 0) (q.below j h))) (le_refl m) long in
          omega (arith, e)

      edges_are : edges_of g ≡ cut 2 m rows
      edges_are =
          sym (made-same 2 (visits_of g) (ends_of g) [] whole (omega arith) m reps ids rows [] qS long (sym (append-nil rows)) fits ∙ ap (in_order 2) edges-cut)

      edge_at : (i : ℕ) → i < m → VisitOf g ids i
      edge_at i h =
          let x = get_or reps i 0 in
          record {
            visit = x;
            within = q.below i h;
            id = id-rep (cell K 2) 2 (visits_of g) m reps ids q i h;
            ends =
                ap (λ (l : List (List ℕ)). get_or l i []) edges_are
                ∙ made-cell 2 (visits_of g) (ends_of g) [] whole (omega arith) m reps ids rows [] qS long (sym (append-nil rows)) fits i h
                ∙ ap sort_word (ends-row x (q.below i h))
                ∙ two-sorted (vertex_of g (from_at g x)) (vertex_of g (to_at g x));
          }

      pub classed : Classed g m ids
      classed =
          record {
            many = ap length edges_are ∙ cut-length 2 m rows;
            few = q.few;
            below = q.id_below;
            same = λ x y hx hy e. same-edge x y hx hy (id-row (cell K 2) 2 (visits_of g) m reps ids q x y hx hy e);
            other = λ x y hx hy o. id-eq (cell K 2) 2 (visits_of g) m reps ids q x y hx hy (edge_same x y hx hy o);
            of = edge_at;
          }
