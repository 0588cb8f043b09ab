-- How long the lists of a checked word list are at most: a cell for each word, d + 1 facets for each cell, and each two corners of a cell an edge. Assumes nothing.
use mathlib.Core.Bool.{Bool, true, false}
use mathlib.Core.List.{List, [], ◌∷◌}
use mathlib.Core.Path.{◌≡◌, refl, sym, ap, ◌∙◌, subst}
use mathlib.Core.Logic.{inl, inr}
use Prim.Native.Nat.{ℕ, suc, ◌+◌, ◌*◌, ◌/◌, ◌<◌, ◌≤◌}
use native.Mathlib.Nat.{mul-le-mul_right, mul-le-mul_left, suc-mul, mul-suc, mul_assoc, mul_comm}
use native.Mathlib.Numerals.{add-one}
use native.Mathlib.Omega.{arith}
use lib.Dec.{eqb}
use lib.ListN.{length, take, drop, length-append, length-take, length-drop}
use Rattle.lists.specs.Rows.{rows, flat}
use Rattle.lists.specs.Tables.{tab}
use Rattle.lists.proofs.Rows.{cut-length, cut_at, row_fits}
use Rattle.lists.proofs.Tables.{length-tab}
use Rattle.multiindex.specs.Sort.{sort_word}
use Rattle.multiindex.proofs.SortLaws.{sort-length}
use Rattle.sorting.proofs.Colex.{row-length}
use Rattle.complex.specs.Check.{Passed}
use Rattle.complex.specs.Cells.{cells_of, comes_before, placed, place, in_order}
use Rattle.complex.specs.Facets.{cell_at, facet_at, slots}
use Rattle.complex.specs.Skeleton.{in_colex, pairs_with, pairs_of, all_pairs, edges_of, facet_row_of, facets_of, rows_with, keep_if, keep, border_of}
use Rattle.complex_cells.proofs.Words.{Word, Each, In, each_in, each_of, in-at, at_in}
use Rattle.complex_cells.proofs.Making.{whole_words}
use Rattle.complex_facets.specs.Sides.{side_of, sides_of, each_sides, table_of}
use Rattle.complex_mates.proofs.Meeting.{slots-most}
use Rattle.skeleton.proofs.Laws.{cells-from, edges-from, facets-from}

-- ---- words one after the other, without duplicates, those that pass a test
flat-most : (k : ℕ) (ws : List Word) → Each (λ v. length v ≤ k) ws → length (flat ws) ≤ length ws * k
flat-most k [] a = omega arith
flat-most k (w ∷ ws) a = omega (arith, length-append w (flat ws), flat-most k ws a.1, a.0)

place-most : (n : ℕ) (w : Word) (cs : List Word) → length (place n w cs) ≤ suc (length cs)
unfolding place placed
place-most n w [] = omega arith
place-most n w (c ∷ cs) = go (comes_before n w c) (comes_before n c w) (place-most n w cs)
  where
    go : (a b : Bool) → length (place n w cs) ≤ suc (length cs) → length (placed a b w c cs (place n w cs)) ≤ suc (suc (length cs))
    go true b r = omega arith
    go false true r = omega arith
    go false false r = omega arith

colex-most : (n : ℕ) (ws : List Word) → length (in_colex n ws) ≤ length ws
unfolding in_colex
colex-most n [] = omega arith
colex-most n (w ∷ ws) = omega (arith, place-most n w (in_colex n ws), colex-most n ws)

pub order-most : (n : ℕ) (ws : List Word) → length (in_order n ws) ≤ length ws
unfolding in_order
order-most n [] = omega arith
order-most n (w ∷ ws) = omega (arith, place-most n (sort_word w) (in_order n ws), order-most n ws)

keep-most : (p : Word → Bool) (ws : List Word) → length (keep p ws) ≤ length ws
unfolding keep
keep-most p [] = omega arith
keep-most p (w ∷ ws) = go (p w) (keep-most p ws)
  where
    go : (b : Bool) → length (keep p ws) ≤ length ws → length (keep_if b w (keep p ws)) ≤ suc (length ws)
    go true r = omega arith
    go false r = omega arith

keep-in : (p : Word → Bool) (ws : List Word) (v : Word) → In v (keep p ws) → In v ws
unfolding keep
keep-in p [] v m = m
keep-in p (w ∷ ws) v m = go (p w) (λ r. keep-in p ws v r) m
  where
    go : (b : Bool) → (In v (keep p ws) → In v ws) → In v (keep_if b w (keep p ws)) → In v (w ∷ ws)
    go true f (inl e) = inl e
    go true f (inr r) = inr (f r)
    go false f r = inr (f r)

-- ---- pairs: a cell of d + 1 corners has d + 1 times d of them, halved
with-many : (v : ℕ) (w : Word) → length (pairs_with v w) ≡ length w
with-many v [] = refl
with-many v (u ∷ w) = omega (arith, with-many v w)

pairs-many : (w : Word) → length (pairs_of w) * 2 + length w ≡ length w * length w
pairs-many [] = refl
pairs-many (v ∷ w) = omega (arith, length-append (pairs_with v w) (pairs_of w), with-many v w, pairs-many w, suc-mul (length w) (suc (length w)), mul-suc (length w) (length w))

pairs-each : (d : ℕ) (w : Word) → length w ≡ suc d → length (pairs_of w) * 2 ≡ suc d * d
pairs-each d w e =
    let s : length w * length w ≡ suc d * suc d = ap (λ (x : ℕ). x * x) e in
    omega (arith, pairs-many w, mul-suc (suc d) d)

all-many : (d : ℕ) (cs : List Word) → Each (λ v. length v ≡ suc d) cs → length (all_pairs cs) * 2 ≡ length cs * (suc d * d)
all-many d [] a = omega arith
all-many d (w ∷ cs) a = omega (arith, length-append (pairs_of w) (all_pairs cs), pairs-each d w a.0, all-many d cs a.1, suc-mul (length cs) (suc d * d))

edges_most : (d : ℕ) (cs : List Word) → Each (λ v. length v ≡ suc d) cs → length (flat (edges_of cs)) ≤ length cs * (suc d * d)
edges_most d cs a =
    omega (
      arith,
      flat-most 2 (edges_of cs) (each_of (λ v. length v ≤ 2) (edges_of cs) (λ v m. let r = edges-from cs v m in omega (arith, ap length r.6))),
      colex-most 2 (all_pairs cs),
      all-many d cs a,
    )

-- ---- facets
facet-most : (d : ℕ) (w : Word) (i : ℕ) → length w ≤ suc d → i ≤ d → length (facet_at w i) ≤ d
facet-most d w i h l = omega (arith, length-append (take i w) (drop (suc i) w), length-take i w, length-drop (suc i) w)

facets-many : (d : ℕ) (cs : List Word) → length (facets_of d cs) ≤ length cs * slots d
facets-many d cs = omega (arith, colex-most d (tab (length cs * slots d) (facet_row_of d cs)), length-tab (length cs * slots d) (facet_row_of d cs))

facet-long : (d : ℕ) (cs : List Word) → Each (λ v. length v ≡ suc d) cs → (f : Word) → In f (facets_of d cs) → length f ≤ d
facet-long d cs a f m =
    let r = facets-from d cs f m in
    let l : length (cell_at cs r.0) ≡ suc d = each_in (λ v. length v ≡ suc d) (cell_at cs r.0) cs a (in-at cs r.0 r.2.cell) in
    subst (λ (z : Word). length z ≤ d) r.3 (facet-most d (cell_at cs r.0) r.1 (omega arith) r.2.place)

sides-long : (d : ℕ) (cs fs : List Word) → length (each_sides d cs fs) ≡ 4 * length fs
unfolding each_sides
sides-long d cs [] = refl
sides-long d cs (f ∷ fs) = omega (arith, length-append (sides_of d cs f) (each_sides d cs fs), length-append (side_of d (rows_with d cs f)) (side_of d (drop 1 (rows_with d cs f))), two (rows_with d cs f), two (drop 1 (rows_with d cs f)), sides-long d cs fs)
  where
    two : (xs : List ℕ) → length (side_of d xs) ≡ 2
    two [] = refl
    two (x ∷ xs) = refl

-- ---- of a checked word list: a word has d + 1 corners
pub word_long : (d : ℕ) (ws : List ℕ) → Passed d ws → (w : Word) → In w (rows (d + 1) ws) → length w ≡ suc d
word_long d ws p w k =
    let r = at_in w (rows (d + 1) ws) k in
    let h : r.0 < length ws / (d + 1) = omega (arith, r.1, cut-length (d + 1) (length ws / (d + 1)) ws) in
    let e : length w ≡ d + 1 =
    ap length (sym r.2 ∙ cut_at (d + 1) (length ws / (d + 1)) ws r.0 h)
    ∙ row-length ws (d + 1) r.0 (omega (arith, row_fits r.0 (length ws / (d + 1)) (d + 1) (length ws) h (omega (arith, whole_words d ws p)))) in
    omega arith

module _ (d : ℕ) (ws : List ℕ) (p : Passed d ws) where
  -- no more cells than words
  pub cells-most : length (cells_of d ws) ≤ length ws / suc d
  unfolding cells_of
  cells-most =
      let e : length ws / (d + 1) ≡ length ws / suc d = ap (λ (x : ℕ). length ws / x) (add-one d) in
      omega (arith, order-most (d + 1) (rows (d + 1) ws), cut-length (d + 1) (length ws / (d + 1)) ws)

  pub corners-most : length (cells_of d ws) * suc d ≤ length ws
  corners-most =
      let e : length ws / (d + 1) * (d + 1) ≡ length ws / suc d * suc d = ap (λ (x : ℕ). length ws / x * x) (add-one d) in
      omega (arith, whole_words d ws p, mul-le-mul_right (suc d) cells-most)

  each_long : Each (λ v. length v ≡ suc d) (cells_of d ws)
  each_long = each_of (λ v. length v ≡ suc d) (cells_of d ws) (λ v m. let r = cells-from d ws v m in omega (arith, ap length r.2, sort-length r.0, word_long d ws p r.0 r.1))

  pub cells_fit : length (flat (cells_of d ws)) ≤ length ws
  cells_fit = omega (arith, flat-most (suc d) (cells_of d ws) (each_of (λ v. length v ≤ suc d) (cells_of d ws) (λ v m. let h = each_in (λ v. length v ≡ suc d) v (cells_of d ws) each_long m in omega arith)), corners-most)

  pub edges_fit : length (flat (edges_of (cells_of d ws))) ≤ d * length ws
  edges_fit =
      omega (
        arith,
        edges_most d (cells_of d ws) each_long,
        mul_assoc (length (cells_of d ws)) (suc d) d,
        mul-le-mul_right d corners-most,
        mul_comm d (length ws),
      )

  facets-few : length (facets_of d (cells_of d ws)) ≤ length ws
  facets-few = omega (arith, facets-many d (cells_of d ws), mul-le-mul_left (length (cells_of d ws)) (slots-most d), corners-most)

  pub facets-fit : length (flat (facets_of d (cells_of d ws))) ≤ d * length ws
  facets-fit =
      omega (
        arith,
        flat-most d (facets_of d (cells_of d ws)) (each_of (λ v. length v ≤ d) (facets_of d (cells_of d ws)) (facet-long d (cells_of d ws) each_long)),
        mul-le-mul_right d facets-few,
        mul_comm d (length ws),
      )

  pub table_fits : length (table_of d (cells_of d ws)) ≤ 4 * length ws
  table_fits = omega (arith, sides-long d (cells_of d ws) (facets_of d (cells_of d ws)), facets-few)

  pub border-fits : length (flat (border_of d (cells_of d ws))) ≤ d * length ws
  border-fits =
      let b : length (border_of d (cells_of d ws)) ≤ length ws = omega (arith, keep-most (λ f. eqb (length (rows_with d (cells_of d ws) f)) 1) (facets_of d (cells_of d ws)), facets-few) in
      omega (
        arith,
        flat-most d (border_of d (cells_of d ws))
            (each_of (λ v. length v ≤ d) (border_of d (cells_of d ws)) (λ v m. facet-long d (cells_of d ws) each_long v (keep-in (λ f. eqb (length (rows_with d (cells_of d ws) f)) 1) (facets_of d (cells_of d ws)) v m))),
        mul-le-mul_right d b,
        mul_comm d (length ws),
      )
