-- The coarse cells and the words refined by, over plain lists: a word that sorts to a cell has the cell's vertices, none twice, all below the number of vertices. Assumes nothing.
use mathlib.Core.Bool.{Bool, true, false}
use mathlib.Core.List.{List, [], ◌∷◌}
use mathlib.Core.Path.{◌≡◌, refl, sym, ap, ◌∙◌, subst}
use Prim.Native.Nat.{ℕ, suc, ◌+◌, ◌*◌, ◌/◌, ◌%◌, ◌<◌, ◌≤◌}
use native.Mathlib.Nat.{div-add-mod', mod-lt, div-lt_iff_lt-mul}
use native.Mathlib.Omega.{arith}
use lib.Dec.{ltb}
use borrow.Author.Tests.{le-ltb}
use lib.ListN.{length, get_or, take}
use lib.Seq.{take_all}
use Rattle.lists.specs.Rows.{cut, rows, flat, row}
use Rattle.lists.proofs.Flat.{each_long, flat-length, cut-flat}
use Rattle.lists.proofs.Rows.{cut-length, cut_at}
use Rattle.lists.proofs.Words.{below-largest, word-within}
use Rattle.lists.proofs.Members.{All, All-of, All-at}
use Rattle.sorting.proofs.Colex.{row-length, row-cell}
use Rattle.multiindex.specs.Sort.{insert_by, insert, sort_word}
use Rattle.multiindex.proofs.SortLaws.{AtLeast, Sorted, sort_sorted, sort-length}
use Rattle.complex.specs.Check.{Passed}
use Rattle.complex.specs.Cells.{cells_of}
use Rattle.complex.specs.Facets.{cell_at}
use Rattle.complex_cells.specs.WorkMade.{Made}
use Rattle.complex_cells.proofs.Words.{Word, In, in-at, at_in}
use Rattle.complex_cells.proofs.Order.{order_from}
use Rattle.complex_cells.proofs.Strict.{sort-all}
use Rattle.complex_cells.proofs.Making.{whole_words}
use Rattle.lists.specs.Words.{same}
use Rattle.refine_lattice.specs.Complex.{occurrences}
use Rattle.refine_lattice.proofs.Enumerate.{once-of-apart}
use Rattle.ordering_words.specs.Order.{word_of, by_cell, IsOrder}
use Rattle.ordering_words.proofs.Lists.{cut-front, sort-back}
use Rattle.ordering_words.proofs.Orders.{by-cell-at, by-cell-length}
use Rattle.refine_results.specs.Refined.{coarse}
use Rattle.refine_results.specs.WorkFlat.{Along}

-- ---- a word and the word sorted
-- as often in one as in the other
insert-times : (x : ℕ) (ys : List ℕ) (v : ℕ) → occurrences (insert x ys) v ≡ same v x + occurrences ys v
unfolding insert insert_by
insert-times x [] v = refl
insert-times x (y ∷ ys) v = go (ltb y x) (insert-times x ys v)
  where
    go : (t : Bool) → occurrences (insert x ys) v ≡ same v x + occurrences ys v → occurrences (insert_by t x y ys (insert x ys)) v ≡ same v x + (same v y + occurrences ys v)
    go true e = omega arith
    go false e = refl

sort-times : (w : List ℕ) (v : ℕ) → occurrences (sort_word w) v ≡ occurrences w v
unfolding sort_word
sort-times [] v = refl
sort-times (x ∷ w) v = insert-times x (sort_word w) v ∙ ap (λ (n : ℕ). same v x + n) (sort-times w v)

-- a sorted word stays
insert-low : (x : ℕ) (ys : List ℕ) → AtLeast x ys → insert x ys ≡ x ∷ ys
unfolding insert insert_by
insert-low x [] a = refl
insert-low x (y ∷ ys) a = rw (le-ltb y x a.0)

sort-stays : (w : List ℕ) → Sorted w → sort_word w ≡ w
unfolding sort_word
sort-stays [] s = refl
sort-stays (x ∷ w) s = ap (insert x) (sort-stays w s.1) ∙ insert-low x w s.0

-- a flat list that begins with the words
cut-words : (n m : ℕ) (l : List ℕ) (ks : List (List ℕ)) → length ks ≡ m → ((c : ℕ) → c < length ks → length (get_or ks c []) ≡ n) → take (m * n) l ≡ flat ks → cut n m l ≡ ks
cut-words n m l ks many long e =
    let s : take (m * n) (flat ks) ≡ flat ks = take_all (m * n) (flat ks) (omega (arith, flat-length n ks (each_long n ks long), ap (λ (i : ℕ). i * n) many)) in
    cut-front n m l (flat ks) (e ∙ sym s) ∙ ap (λ (i : ℕ). cut n i (flat ks)) (sym many) ∙ cut-flat n ks (each_long n ks long)

-- ---- m cells that are made of the words
module _ (d : ℕ) (ws : List ℕ) (m : ℕ) (cells : List ℕ) (p : Passed d ws) (a : Made d ws m cells) where
  cell_row : (c : ℕ) → c < m → cell_at (cut (suc d) m cells) c ≡ row cells (suc d) c
  cell_row c h = cut_at (suc d) m cells c h

  from-word : (c : ℕ) → c < m → (w : Word) × In w (rows (d + 1) ws) × (sort_word w ≡ row cells (suc d) c)
  unfolding cells_of
  from-word c h =
      order_from (d + 1) (rows (d + 1) ws) (row cells (suc d) c)
      (subst (λ (l : List Word). In (row cells (suc d) c) l) a.same
      (subst (λ (v : Word). In v (cut (suc d) m cells)) (cell_row c h) (in-at (cut (suc d) m cells) c (omega (arith, cut-length (suc d) m cells)))))

  word_low : (w : Word) → In w (rows (d + 1) ws) → All (λ x. x < coarse ws) w
  word_low w k =
      let q = at_in w (rows (d + 1) ws) k in
      let h : q.0 < length ws / (d + 1) = omega (arith, q.1, cut-length (d + 1) (length ws / (d + 1)) ws) in
      let e : row ws (d + 1) q.0 ≡ w = sym (cut_at (d + 1) (length ws / (d + 1)) ws q.0 h) ∙ q.2 in
      let long : length (row ws (d + 1) q.0) ≡ d + 1 = row-length ws (d + 1) q.0 (word-within q.0 (d + 1) (length ws / (d + 1)) (length ws) h (omega (arith, whole_words d ws p))) in
      subst (λ (v : Word). All (λ x. x < coarse ws) v) e
      (All-of (λ x. x < coarse ws) (row ws (d + 1) q.0)
      (λ j l. rw (row-cell ws (d + 1) q.0 j (omega (arith, long))) (omega (arith, below-largest ws (q.0 * (d + 1) + j)))))

  cell-low : (c : ℕ) → c < m → All (λ x. x < coarse ws) (row cells (suc d) c)
  cell-low c h =
      let q = from-word c h in
      subst (λ (v : Word). All (λ x. x < coarse ws) v) q.2 (sort-all (λ x. x < coarse ws) q.0 (word_low q.0 q.1))

  -- a cell is sorted
  pub cell_stays : (c : ℕ) → c < m → sort_word (row cells (suc d) c) ≡ row cells (suc d) c
  cell_stays c h =
      let q = from-word c h in
      subst (λ (v : Word). sort_word v ≡ v) q.2 (sort-stays (sort_word q.0) (sort_sorted q.0))

  cell_long : (c : ℕ) → c < m → length (row cells (suc d) c) ≡ suc d
  cell_long c h = ap length (sym (cell_row c h)) ∙ a.cells.long c (omega (arith, cut-length (suc d) m cells))

  cell-plain : (c : ℕ) → c < m → (v : ℕ) → occurrences (row cells (suc d) c) v ≤ 1
  cell-plain c h =
      once-of-apart (row cells (suc d) c)
      (λ i j l k e.
      let q : get_or (cell_at (cut (suc d) m cells) c) i 0 < get_or (cell_at (cut (suc d) m cells) c) j 0 = a.cells.rising c i j (omega (arith, cut-length (suc d) m cells)) l (omega (arith, cell_long c h)) in
      let r : get_or (row cells (suc d) c) i 0 < get_or (row cells (suc d) c) j 0 = subst (λ (v : Word). get_or v i 0 < get_or v j 0) (cell_row c h) q in
      omega arith)

  -- words that sort to the cells
  module _ (along : List ℕ) (along_long : m * suc d ≤ length along) (cells_long : m * suc d ≤ length cells) (sorts : (c : ℕ) → c < m → sort_word (row along (suc d) c) ≡ row cells (suc d) c) where
    low_word : (c : ℕ) → c < m → All (λ x. x < coarse ws) (row along (suc d) c)
    low_word c h = sort-back (λ x. x < coarse ws) (row along (suc d) c) (subst (λ (v : Word). All (λ x. x < coarse ws) v) (sym (sorts c h)) (cell-low c h))

    long-word : (c : ℕ) → c < m → length (row along (suc d) c) ≡ suc d
    long-word c h = sym (sort-length (row along (suc d) c)) ∙ ap length (sorts c h) ∙ cell_long c h

    pub along-words : Along d (coarse ws) m along cells
    along-words =
        record {
          along_long = along_long;
          cells_long = cells_long;
          below =
              λ i h.
              let some : 0 < suc d = omega arith in
              let hr : i / suc d < m = (div-lt_iff_lt-mul some).1 h in
              let hc : i % suc d < suc d = mod-lt i some in
              let g : get_or along i 0 ≡ get_or (row along (suc d) (i / suc d)) (i % suc d) 0 = ap (λ (j : ℕ). get_or along j 0) (sym (div-add-mod' i (suc d))) ∙ sym (row-cell along (suc d) (i / suc d) (i % suc d) hc) in
              rw g (All-at (λ x. x < coarse ws) (row along (suc d) (i / suc d)) (i % suc d) (low_word (i / suc d) hr) (omega (arith, long-word (i / suc d) hr)));
          plain = λ c h v. subst (λ (k : ℕ). k ≤ 1) (ap (λ (w : Word). occurrences w v) (sym (sorts c h)) ∙ sort-times (row along (suc d) c) v) (cell-plain c h v);
          matched = sorts;
        }

  -- words that begin with the cells themselves
  module _ (along : List ℕ) (along_long : m * suc d ≤ length along) (cells_long : m * suc d ≤ length cells) (e : take (m * suc d) along ≡ take (m * suc d) cells) where
    pub same-words : cut (suc d) m along ≡ cut (suc d) m cells
    same-words = cut-front (suc d) m along cells e

    pub along-cells : Along d (coarse ws) m along cells
    along-cells =
        along-words along along_long cells_long
        (λ c h.
        let r : row along (suc d) c ≡ row cells (suc d) c = sym (cut_at (suc d) m along c h) ∙ ap (λ (l : List Word). get_or l c []) same-words ∙ cell_row c h in
        ap sort_word r ∙ cell_stays c h)

  -- words that begin with an order's, by cell
  module _ (ows : List Word) (o : IsOrder (cells_of d ws) ows) (along : List ℕ) (along_long : m * suc d ≤ length along) (cells_long : m * suc d ≤ length cells) (e : take (m * suc d) along ≡ flat (by_cell ows (cells_of d ws))) where
    many : length (cells_of d ws) ≡ m
    many = ap length (sym a.same) ∙ cut-length (suc d) m cells

    the-cell : (c : ℕ) → c < m → cell_at (cells_of d ws) c ≡ row cells (suc d) c
    the-cell c h = ap (λ (l : List Word). get_or l c []) (sym a.same) ∙ cell_row c h

    the_word : (c : ℕ) → c < m → get_or (by_cell ows (cells_of d ws)) c [] ≡ word_of ows (cell_at (cells_of d ws) c)
    the_word c h = by-cell-at ows (cells_of d ws) c (omega (arith, many))

    word-sorts : (c : ℕ) → c < m → sort_word (get_or (by_cell ows (cells_of d ws)) c []) ≡ row cells (suc d) c
    word-sorts c h = ap sort_word (the_word c h) ∙ o.each c (omega (arith, many)) ∙ the-cell c h

    words-many : length (by_cell ows (cells_of d ws)) ≡ m
    words-many = by-cell-length ows (cells_of d ws) ∙ many

    pub ordered_words : cut (suc d) m along ≡ by_cell ows (cells_of d ws)
    ordered_words =
        cut-words (suc d) m along (by_cell ows (cells_of d ws)) words-many
        (λ c h. let l : c < m = omega (arith, words-many) in sym (sort-length (get_or (by_cell ows (cells_of d ws)) c [])) ∙ ap length (word-sorts c l) ∙ cell_long c l) e

    pub along-order : Along d (coarse ws) m along cells
    along-order =
        along-words along along_long cells_long
        (λ c h. ap sort_word (sym (cut_at (suc d) m along c h) ∙ ap (λ (l : List Word). get_or l c []) ordered_words) ∙ word-sorts c h)
