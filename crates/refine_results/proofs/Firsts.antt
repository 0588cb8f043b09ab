-- The first word of each cell: what the children's arrangement tells of the refined cells, their words and their visits. Assumes nothing.
use mathlib.Core.Bool.{Bool}
use mathlib.Core.List.{List, [], ◌∷◌, ◌++◌, append-nil}
use mathlib.Core.Path.{◌≡◌, refl, sym, ap, ◌∙◌, subst}
use Prim.Native.Nat.{ℕ, zero, suc, ◌+◌, ◌*◌, ◌<◌, ◌≤◌}
use native.Mathlib.Nat.{le_refl, suc-mul, mul-le-mul_right}
use native.Mathlib.Omega.{arith}
use lib.ListN.{length, get_or, take, length-append}
use lib.Seq.{length-take-le, get_or-take}
use Rattle.lists.specs.Rows.{cut, flat, row}
use Rattle.lists.specs.Words.{found_at}
use Rattle.lists.proofs.Rows.{cut-length, cut_at}
use Rattle.sorting.specs.Bucket.{cell}
use Rattle.sorting.specs.Gather.{rows_of}
use Rattle.sorting.specs.Distinct.{Distinct}
use Rattle.sorting.proofs.Colex.{row_same}
use Rattle.sorting.proofs.Rows.{rows_of-pos}
use Rattle.multiindex.specs.Sort.{sort_word, sort_words}
use Rattle.complex.specs.Cells.{in_order}
use Rattle.complex_cells.proofs.Making.{key-length, key_row, made-same, made-cell}
use Rattle.ordering_words.specs.Order.{word_of, by_cell}
use Rattle.lists.proofs.Words.{word-true, word-false}
use Rattle.ordering_words.proofs.Orders.{word_first, by-cell-rows}
use Rattle.refine_children.specs.WorkColex.{Arranged}
use Rattle.refine_results.specs.Refined.{visit_of}

-- the first word that sorts to the cell is its visit
pub visit-first : (ows : List (List ℕ)) (c : List ℕ) (r : ℕ) → r < length ows → sort_word (get_or ows r []) ≡ c → ((s : ℕ) → s < r → sort_word (get_or ows s []) ≡ c → ⊥) → visit_of ows c ≡ r
unfolding visit_of found_at
visit-first [] c r h e f = absurd (omega arith)
visit-first (w ∷ ows) c zero h e f = ap (λ (b : Bool). found_at b (visit_of ows c)) (word-true (sort_word w) c e)
visit-first (w ∷ ows) c (suc r) h e f =
    ap (λ (b : Bool). found_at b (visit_of ows c)) (word-false (sort_word w) c (f 0 (omega arith)))
    ∙ ap suc (visit-first ows c r (omega arith) e (λ s l. f (suc s) (omega arith)))

-- cells that are rows of a flat list
pub flat_rows : (cs : List (List ℕ)) (keys : List ℕ) (n : ℕ) (reps : List ℕ) → length reps ≡ length cs → ((c : ℕ) → c < length cs → get_or cs c [] ≡ row keys n (get_or reps c 0)) → flat cs ≡ rows_of keys n reps
unfolding rows_of
flat_rows [] keys n [] h f = refl
flat_rows [] keys n (x ∷ reps) h f = absurd (omega arith)
flat_rows (c ∷ cs) keys n [] h f = absurd (omega arith)
flat_rows (c ∷ cs) keys n (x ∷ reps) h f =
    ap (λ (w : List ℕ). w ++ flat cs) (f 0 (omega arith)) ∙ ap (λ (l : List ℕ). row keys n x ++ l) (flat_rows cs keys n reps (omega arith) (λ i l. f (suc i) (omega arith)))

module _ (n count : ℕ) (words sorted firsts : List ℕ) (m : ℕ) (some : 0 < n) (whole : count * n ≡ length words) (long : m ≤ length firsts) (a : Arranged n count words m sorted firsts) where
  abbrev pub vs : List (List ℕ)
  vs = cut n count words

  plain : sort_words n count (words ++ []) ≡ sorted
  plain = ap (sort_words n count) (append-nil words) ∙ sym a.keys

  spread : Distinct (cell (sort_words n count (words ++ [])) n) n count m firsts a.ids
  spread = subst (λ (k : List ℕ). Distinct (cell k n) n count m firsts a.ids) (sym plain) a.distinct

  abbrev laid : List ℕ
  laid = rows_of (sort_words n count (words ++ [])) n (take m firsts) ++ []

  pub first_below : (c : ℕ) → c < m → get_or firsts c 0 < count
  first_below c h = a.distinct.below c h

  pub row_room : (r : ℕ) → r < count → r * n + n ≤ length words
  row_room r h = omega (arith, suc-mul r n, mul-le-mul_right n h)

  -- the sorted words' rows
  pub sorted-row : (r : ℕ) → r < count → row sorted n r ≡ sort_word (row words n r)
  sorted-row r h = ap (λ (k : List ℕ). row k n r) (sym plain) ∙ key_row n count words [] whole some r h

  laid-fits : m * n ≤ length laid
  laid-fits =
      let K = sort_words n count (words ++ []) in
      let inside : (j : ℕ) → j < m → get_or firsts j 0 * n + n ≤ length K = λ j h. omega (arith, key-length n count words [] whole some, row_room (get_or firsts j 0) (first_below j h)) in
      omega (arith, length-append (rows_of K n (take m firsts)) [], rows_of-pos K n firsts m m inside (le_refl m) long)

  cut-is : cut n m laid ≡ in_order n vs
  cut-is = made-same n count words [] whole some m firsts a.ids laid [] spread long refl laid-fits

  -- how many cells there are
  pub cells-many : length (in_order n vs) ≡ m
  cells-many = ap length (sym cut-is) ∙ cut-length n m laid

  -- each is its first word sorted
  pub cell_is : (c : ℕ) → c < m → get_or (in_order n vs) c [] ≡ sort_word (row words n (get_or firsts c 0))
  cell_is c h = ap (λ (l : List (List ℕ)). get_or l c []) (sym cut-is) ∙ made-cell n count words [] whole some m firsts a.ids laid [] spread long refl laid-fits c h

  word_at : (r : ℕ) → r < count → get_or vs r [] ≡ row words n r
  word_at r h = cut_at n count words r h

  -- no word before it is that of the same cell
  least : (c r : ℕ) → c < m → r < count → sort_word (row words n r) ≡ sort_word (row words n (get_or firsts c 0)) → get_or firsts c 0 ≤ r
  least c r h l e =
      a.distinct.least c r h l (row_same sorted n (get_or firsts c 0) r (sorted-row (get_or firsts c 0) (first_below c h) ∙ sym e ∙ sym (sorted-row r l)))

  module _ (c : ℕ) (h : c < m) where
    abbrev x : ℕ
    x = get_or firsts c 0

    at_x : sort_word (get_or vs x []) ≡ get_or (in_order n vs) c []
    at_x = ap sort_word (word_at x (first_below c h)) ∙ sym (cell_is c h)

    not-before : (s : ℕ) → s < x → sort_word (get_or vs s []) ≡ get_or (in_order n vs) c [] → ⊥
    not-before s l e =
        let k : s < count = omega (arith, first_below c h) in
        omega (arith, least c s h k (ap sort_word (sym (word_at s k)) ∙ e ∙ cell_is c h))

    -- its visit and its word
    pub visit-is : visit_of vs (get_or (in_order n vs) c []) ≡ get_or firsts c 0
    visit-is = visit-first vs (get_or (in_order n vs) c []) x (omega (arith, first_below c h, cut-length n count words)) at_x not-before

    pub word-is : word_of vs (get_or (in_order n vs) c []) ≡ row words n (get_or firsts c 0)
    word-is = word_first vs (get_or (in_order n vs) c []) x (omega (arith, first_below c h, cut-length n count words)) at_x not-before ∙ word_at x (first_below c h)

  first-at : (c : ℕ) → c < m → get_or (take m firsts) c 0 ≡ get_or firsts c 0
  first-at c h = get_or-take m firsts c 0 h

  named : length (take m firsts) ≡ length (in_order n vs)
  named = length-take-le m firsts long ∙ sym cells-many

  -- the cells and the words, one after the other
  pub flat-cells : flat (in_order n vs) ≡ rows_of sorted n (take m firsts)
  flat-cells =
      flat_rows (in_order n vs) sorted n (take m firsts) named
      (λ c l.
      let h : c < m = omega (arith, cells-many) in
      cell_is c h ∙ sym (sorted-row (get_or firsts c 0) (first_below c h)) ∙ ap (row sorted n) (sym (first-at c h)))

  pub flat-words : flat (by_cell vs (in_order n vs)) ≡ rows_of words n (take m firsts)
  flat-words =
      by-cell-rows vs (in_order n vs) words n (take m firsts) named
      (λ c l. let h : c < m = omega (arith, cells-many) in word-is c h ∙ ap (row words n) (sym (first-at c h)))
