-- An accepted cell list is a complex that refine_lattice's theorems take, along its sorted cells or along an order that agrees. Assumes nothing.
use mathlib.Core.Path.{◌≡◌, refl, sym, ap, ◌∙◌, subst}
use mathlib.Core.Logic.{inl, inr, ⊎_elim}
use mathlib.Core.List.Memᴰ
use mathlib.Core.List.{List, [], ◌∷◌, ◌++◌, Memᴰ}
use Prim.Native.Nat.{ℕ, zero, suc, ◌+◌, ◌*◌, ◌/◌, ◌≤◌, ◌<◌, max}
use native.Mathlib.Numerals.{add-one}
use native.Mathlib.Nat.{suc-mul, zero-mul, le_of_eq}
use native.Mathlib.Decide.{dec_lt}
use native.Mathlib.Omega.{arith}
use lib.ListN.{length, take, drop, length-drop, take-append-drop}
use Rattle.lists.specs.Rows.{cut, rows}
use Rattle.lists.specs.Words.{largest_of, same}
use Rattle.lists.proofs.Rows.{cut-length, cut_at}
use Rattle.lists.proofs.Words.{below-largest, word-within, same_self}
use Rattle.multiindex.specs.Sort.{sort_word}
use Rattle.sorting.proofs.Colex.{row-length}
use Rattle.complex.specs.Cells.{in_order, cells_of}
use Rattle.complex.specs.Check.{Passed}
use Rattle.complex.specs.Facets.{cell_at, Crowded}
use Rattle.complex_cells.proofs.Words.{at_in}
use Rattle.complex_cells.proofs.Making.{whole_words}
use Rattle.ordering_words.specs.Order.{Orders}
use Rattle.ordering_words.specs.Order as order
use Rattle.refine_lattice.specs.Complex.{occurrences, Complex, AgreeOnFaces, Rises}
use Rattle.refine_lattice.specs.Refine.{In}
use Rattle.refine_lattice.specs.Conform.{Used, Sound, Facewise}
use Rattle.refine_lattice.proofs.Enumerate.{place-of}
use Rattle.refine_lattice.proofs.Faces.{rising}
use Rattle.refine_lattice.proofs.Fits.{Stage}
use Rattle.refine_results.specs.Refined.{coarse, order_words}
use Rattle.refine_laws.proofs.Words.{of_mem, sort-times, times-among, plain_of}
use Rattle.refine_laws.proofs.Listed.{Listed, counts-at, number_of, word_in, listed-complex, listed-distinct}
use Rattle.refine_laws.proofs.Facets.{listed-nodup, listed-thin, listed-agree}
use Rattle.ordering_words.proofs.Orders.{by-cell-length, by-cell-at}
use Rattle.refine_laws.proofs.Arranged.{to_cell, listed, listed-cells}

-- ---- a flat list and its words
pub times-append : (a b : List ℕ) (v : ℕ) → occurrences (a ++ b) v ≡ occurrences a v + occurrences b v
times-append [] b v = omega arith
times-append (x ∷ a) b v = omega (arith, times-append a b v)

pub times-parts : (n : ℕ) (ws : List ℕ) (v : ℕ) → occurrences ws v ≡ occurrences (take n ws) v + occurrences (drop n ws) v
times-parts n ws v = ap (λ (w : List ℕ). occurrences w v) (sym (take-append-drop n ws)) ∙ times-append (take n ws) (drop n ws) v

pub cut-times : (n count : ℕ) (ws w : List ℕ) → Memᴰ w (cut n count ws) → (v : ℕ) → occurrences w v ≤ occurrences ws v
unfolding cut
cut-times n zero ws w m v = absurd (Memᴰ.not-nil m)
cut-times n (suc count) ws w m v =
    ⊎_elim (λ e. omega (arith, ap (λ (u : List ℕ). occurrences u v) e, times-parts n ws v))
    (λ q. omega (arith, cut-times n count (drop n ws) w q v, times-parts n ws v)) (Memᴰ.cases_cons m)

pub cut_has : (n count : ℕ) (ws : List ℕ) → count * n ≡ length ws → (v : ℕ) → 0 < occurrences ws v
    → (w : List ℕ) × Memᴰ w (cut n count ws) × (0 < occurrences w v)
unfolding cut
cut_has n zero [] e v h = absurd (omega arith)
cut_has n zero (x ∷ ws) e v h = absurd (omega (arith, zero-mul n))
cut_has n (suc count) ws e v h =
    elim (dec_lt 0 (occurrences (take n ws) v)) [
      | yes p ↦ (take n ws, Memᴰ.head refl, p)
      | no p ↦
          let (w, m, q) =
          cut_has n count (drop n ws) (omega (arith, suc-mul count n, length-drop n ws)) v (omega (arith, times-parts n ws v)) in
          (w, Memᴰ.tail m, q)
    ]

-- the largest number is one of the numbers
big : (ws : List ℕ) → 0 < largest_of ws → 0 < occurrences ws (largest_of ws)
unfolding largest_of
big [] h = absurd (omega arith)
big (x ∷ ws) h =
    elim (dec_lt x (largest_of ws)) [
      | yes l ↦
          let e : largest_of ws ≡ max x (largest_of ws) = omega arith in
          subst (λ (m : ℕ). 0 < same m x + occurrences ws m) e (omega (arith, big ws (omega arith)))
      | no l ↦
          let e : x ≡ max x (largest_of ws) = omega arith in
          subst (λ (m : ℕ). 0 < same m x + occurrences ws m) e (omega (arith, same_self x))
    ]

pub largest-times : (ws : List ℕ) → (length ws ≡ 0 → ⊥) → 0 < occurrences ws (largest_of ws)
unfolding largest_of
largest-times [] h = absurd (h refl)
largest-times (x ∷ ws) h =
    elim (dec_lt 0 (max x (largest_of ws))) [
      | yes l ↦ big (x ∷ ws) l
      | no l ↦
          let e : x ≡ max x (largest_of ws) = omega arith in
          subst (λ (m : ℕ). 0 < same m x + occurrences ws m) e (omega (arith, same_self x))
    ]

pub at_most : (ws : List ℕ) (v : ℕ) → 0 < occurrences ws v → v ≤ largest_of ws
at_most ws v h = let (i, b, e) = place-of ws v h in omega (arith, below-largest ws i)

-- ---- a checked list
module _ (d : ℕ) (ws : List ℕ) (p : Passed d ws) where
  abbrev count : ℕ
  count = length ws / suc d

  whole : length ws / suc d * suc d ≡ length ws
  whole = rw (← add-one d) (whole_words d ws p)

  row_of : (w : List ℕ) → Memᴰ w (rows (suc d) ws) → (r : ℕ) × (r < length ws / suc d) × (take (suc d) (drop (r * suc d) ws) ≡ w)
  row_of w m =
      let (r, h, e) = at_in w (rows (suc d) ws) (of_mem w (rows (suc d) ws) m) in
      let b : r < length ws / suc d = omega (arith, cut-length (suc d) (length ws / suc d) ws) in
      (r, b, sym (cut_at (suc d) (length ws / suc d) ws r b) ∙ e)

  pub rows-complex : Complex d (coarse ws) (In (rows (suc d) ws))
  rows-complex = record {
    long = λ w m.
        let (r, h, e) = row_of w m in
        ap length (sym e) ∙ row-length ws (suc d) r (word-within r (suc d) (length ws / suc d) (length ws) h (le_of_eq whole));
    plain = λ w m v.
        let (r, h, e) = row_of w m in
        subst (λ (u : List ℕ). occurrences u v ≤ 1) e
        (plain_of (take (suc d) (drop (r * suc d) ws)) (rw (← add-one d) (p.apart r (rw (add-one d) h))) v);
    below = λ w m v h. omega (arith, at_most ws v (omega (arith, cut-times (suc d) (length ws / suc d) ws w m v)));
  }

  rows-used : Used (coarse ws) (In (rows (suc d) ws))
  unfolding Used
  rows-used v h =
      cut_has (suc d) (length ws / suc d) ws whole v
      (elim (dec_lt v (largest_of ws)) [
        | yes l ↦ times-among v ws (p.used v l)
        | no l ↦ let e : largest_of ws ≡ v = omega arith in subst (λ (u : ℕ). 0 < occurrences ws u) e (largest-times ws p.some_words)
      ])

  pub cells_are : cells_of d ws ≡ in_order (suc d) (rows (suc d) ws)
  unfolding cells_of
  cells_are = rw (add-one d)

  -- words that sort to the cells, one for each
  pub words_of : (ks : List (List ℕ)) → length ks ≡ length (cells_of d ws)
      → ((c : ℕ) → c < length (cells_of d ws) → sort_word (cell_at ks c) ≡ cell_at (cells_of d ws) c) → Listed d (coarse ws) (cells_of d ws) ks
  words_of ks =
      subst
      (λ (cs : List (List ℕ)). length ks ≡ length cs → ((c : ℕ) → c < length cs → sort_word (cell_at ks c) ≡ cell_at cs c) → Listed d (coarse ws) cs ks)
      (sym cells_are) (listed d (coarse ws) (rows (suc d) ws) rows-complex ks)

  pub cells-listed : Listed d (coarse ws) (cells_of d ws) (cells_of d ws)
  cells-listed =
      subst (λ (cs : List (List ℕ)). Listed d (coarse ws) cs cs) (sym cells_are) (listed-cells d (coarse ws) (rows (suc d) ws) rows-complex)

  pub order-listed : (os : List ℕ) → Orders d (cells_of d ws) os → Listed d (coarse ws) (cells_of d ws) (order_words d ws os)
  order-listed os o =
      words_of (order_words d ws os) (by-cell-length (rows (suc d) os) (cells_of d ws))
      (λ c h. ap sort_word (by-cell-at (rows (suc d) os) (cells_of d ws) c h) ∙ o.words.each c h)

  module _ (ks : List (List ℕ)) (l : Listed d (coarse ws) (cells_of d ws) ks) where
    cell-used : (v : ℕ) → v < coarse ws → (c : ℕ) × (c < length (cells_of d ws)) × (0 < occurrences (cell_at (cells_of d ws) c) v)
    unfolding Used
    cell-used v h =
        let (w, m, q) = rows-used v h in
        let (c, b, e) = to_cell d (coarse ws) (rows (suc d) ws) rows-complex w m in
        subst (λ (cs : List (List ℕ)). (c : ℕ) × (c < length cs) × (0 < occurrences (cell_at cs c) v)) (sym cells_are)
        (c, b, omega (arith, sort-times w v, ap (λ (u : List ℕ). occurrences u v) e))

    pub sound-of : (Crowded d (cells_of d ws) → ⊥) → Sound d (coarse ws) (In ks)
    unfolding Used
    sound-of free = record {
      complex = listed-complex d (coarse ws) (cells_of d ws) ks l;
      used = λ v h.
          let (c, b, q) = cell-used v h in
          (cell_at ks c, word_in d (coarse ws) (cells_of d ws) ks l c b, omega (arith, counts-at d (coarse ws) (cells_of d ws) ks l c b v));
      distinct = listed-distinct d (coarse ws) (cells_of d ws) ks l;
      thin = listed-thin d (coarse ws) (cells_of d ws) ks l free;
    }

    -- a complex that refine_lattice's theorems take
    pub stage-of : (Crowded d (cells_of d ws) → ⊥) → order.AgreeOnFacets d (cells_of d ws) ks → Stage d (coarse ws) ks
    unfolding Facewise
    stage-of free agree = record {
      sound = sound-of free;
      facewise = inl (p.small, listed-agree d (coarse ws) (cells_of d ws) ks l agree);
      nodup = listed-nodup d (coarse ws) (cells_of d ws) ks l;
    }

  -- along the sorted cells, which always agree
  pub stage-sorted : (Crowded d (cells_of d ws) → ⊥) → Stage d (coarse ws) (cells_of d ws)
  unfolding Facewise AgreeOnFaces
  stage-sorted free = record {
    sound = sound-of (cells_of d ws) cells-listed free;
    facewise = inr (λ k m a b. rising k m (rises k a) (rises m b));
    nodup = listed-nodup d (coarse ws) (cells_of d ws) (cells_of d ws) cells-listed;
  }
    where
      rises : (k : List ℕ) → In (cells_of d ws) k → Rises k
      rises k a =
          let (c, h, e) = number_of d (coarse ws) (cells_of d ws) (cells_of d ws) cells-listed k a in
          subst (λ (w : List ℕ). Rises w) e (cells-listed.rises c h)
