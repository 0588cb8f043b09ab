-- The cells, from the words sorted, their rows sorted, and the distinct ones gathered. Assumes nothing.
use mathlib.Core.Bool.{false}
use mathlib.Core.List.{List, [], ◌++◌}
use mathlib.Core.Path.{◌≡◌, sym, ap, ◌∙◌, subst}
use mathlib.Core.Logic.{inl, inr}
use Prim.Native.Nat.{ℕ, zero, suc, ◌+◌, ◌*◌, ◌/◌, ◌%◌, ◌<◌, ◌≤◌, ◌^◌}
use native.Mathlib.Nat.{suc-mul, zero-mul, mul-le-mul_right, div-add-mod', mod-lt, div-lt_iff_lt-mul, le_refl, le_trans}
use native.Mathlib.Numerals.{add-one}
use native.Mathlib.Omega.{arith}
use lib.ListN.{length, get_or, take, drop, length-append, length-drop}
use lib.Seq.{ext_get_or, length-take-le, get_or-take, take_at, drop-append-add, drop-drop}
use Rattle.lists.proofs.Laws.{front-part}
use Rattle.sorting.specs.Bucket.{cell}
use Rattle.lists.proofs.Members.{All, All-of, All-at, Pairs-at}
use Rattle.sorting.specs.Order.{ColexLt, Table}
use Rattle.sorting.proofs.Colex.{row-cell, row-length, same_row}
use Rattle.sorting.specs.Distinct.{Distinct}
use Rattle.sorting.specs.Gather.{rows_of}
use Rattle.sorting.proofs.Rows.{RowIn, rows_of-cell}
use Rattle.lists.specs.Words.{has_repeat}
use Rattle.lists.proofs.Words.{below-largest}
use Rattle.refusal.specs.Limits.{many_corners}
use Rattle.complex.specs.Check.{Passed}
use Rattle.multiindex.specs.Sort.{sort_word, sort_words}
use Rattle.multiindex.proofs.SortLaws.{sort-length}
use Rattle.multiindex.proofs.WordsLaws.{words-length}
use Rattle.lists.specs.Rows.{cut, row}
use Rattle.complex.specs.Cells.{in_order, cells_of}
use Rattle.lists.proofs.Rows.{cut-length, cut_at}
use Rattle.complex.specs.Facets.{Cells}
use Rattle.complex_cells.specs.WorkMade.{Made}
use Rattle.complex_cells.proofs.Words.{Word, Each, Rising, In, each_of, in-at, at_in, rising-by, one_list}
use Rattle.complex_cells.proofs.Order.{Colex, colex-irr, colex-trans, order-rising, order_from, order-has}
use Rattle.complex_cells.proofs.Strict.{sort-all, sort-strict}
use Rattle.complex_cells.proofs.Pigeon.{largest-low}

-- each row of the sorted words is a word sorted
sorted-row : (n count : ℕ) (l : List ℕ) (r : ℕ) → r < count → count * n ≤ length l → row (sort_words n count l) n r ≡ sort_word (row l n r)
unfolding sort_words
sorted-row n zero l r h k = absurd (omega arith)
sorted-row n (suc count) l zero h k =
    let a : length (sort_word (take n l)) ≡ n = sort-length (take n l) ∙ length-take-le n l (omega (arith, suc-mul count n)) in
    rw (zero-mul n) (take_at (sort_word (take n l)) (sort_words n count (drop n l)) n a)
sorted-row n (suc count) l (suc r) h k =
    let a : length (sort_word (take n l)) ≡ n = sort-length (take n l) ∙ length-take-le n l (omega (arith, suc-mul count n)) in
    let e : suc r * n ≡ length (sort_word (take n l)) + r * n = omega (arith, suc-mul r n) in
    let f : n + r * n ≡ suc r * n = omega (arith, suc-mul r n) in
    ap (λ (i : ℕ). take n (drop i (sort_word (take n l) ++ sort_words n count (drop n l)))) e
    ∙ ap (take n) (drop-append-add (sort_word (take n l)) (sort_words n count (drop n l)) (r * n))
    ∙ sorted-row n count (drop n l) r (omega arith) (rw length-drop (omega (arith, suc-mul count n)))
    ∙ ap (λ (w : List ℕ). sort_word (take n w)) (drop-drop (r * n) n l ∙ ap (λ (i : ℕ). drop i l) f)

-- rows in colex order are words in colex order
pub colex-row : (keys : List ℕ) (n c x y : ℕ) → c ≤ n → ColexLt (cell keys n) c x y → Colex c (row keys n x) (row keys n y)
colex-row keys n zero x y h p = p
colex-row keys n (suc c) x y h (inl l) = inl (rw (row-cell keys n x c (omega arith), row-cell keys n y c (omega arith)) l)
colex-row keys n (suc c) x y h (inr e) = inr (row-cell keys n x c (omega arith) ∙ e.0 ∙ sym (row-cell keys n y c (omega arith)), colex-row keys n c x y (omega arith) e.1)

module _ (n count : ℕ) (ws rest : List ℕ) (whole : count * n ≡ length ws) (some : 0 < n) where
  K : List ℕ
  K = sort_words n count (ws ++ rest)

  row_in : (r : ℕ) → r < count → r * n + n ≤ length ws
  row_in r h = omega (arith, suc-mul r n, mul-le-mul_right n h)

  pub key-length : length (sort_words n count (ws ++ rest)) ≡ length ws + length rest
  key-length = words-length n count (ws ++ rest) ∙ length-append ws rest

  pub key_row : (r : ℕ) → r < count → row (sort_words n count (ws ++ rest)) n r ≡ sort_word (row ws n r)
  key_row r h = sorted-row n count (ws ++ rest) r h (omega (arith, length-append ws rest)) ∙ ap sort_word (front-part ws rest (r * n) n (row_in r h))

  word-length : (r : ℕ) → r < count → length (row ws n r) ≡ n
  word-length r h = row-length ws n r (row_in r h)

  words_long : Each (λ v. length v ≡ n) (cut n count ws)
  words_long =
      each_of (λ v. length v ≡ n) (cut n count ws)
      (λ v m.
      let w = at_in v (cut n count ws) m in
      let h : w.0 < count = omega (arith, w.1, cut-length n count ws) in
      ap length (sym w.2 ∙ cut_at n count ws w.0 h) ∙ word-length w.0 h)

  word_in : (r : ℕ) → r < count → In (row ws n r) (cut n count ws)
  word_in r h = subst (λ (v : Word). In v (cut n count ws)) (cut_at n count ws r h) (in-at (cut n count ws) r (omega (arith, cut-length n count ws)))

  -- all numbers of the sorted words are numbers of the words
  module _ (b : ℕ) (low : (i : ℕ) → i < length ws → get_or ws i 0 < b) where
    word_low : (r : ℕ) → r < count → All (λ x. x < b) (sort_word (row ws n r))
    word_low r h =
        sort-all (λ x. x < b) (row ws n r)
        (All-of (λ x. x < b) (row ws n r) (λ c l. let q : c < n = omega (arith, word-length r h) in rw (row-cell ws n r c q) (low (r * n + c) (omega (arith, row_in r h)))))

    pub key-table : count < 2 ^ 32 → Table (sort_words n count (ws ++ rest)) n count b
    key-table few =
        record {
          few = few;
          long = omega (arith, key-length);
          below =
              λ j h.
              let hr : j / n < count = (div-lt_iff_lt-mul some).1 h in
              let hc : j % n < n = mod-lt j some in
              let e : get_or (sort_words n count (ws ++ rest)) j 0 ≡ get_or (sort_word (row ws n (j / n))) (j % n) 0 =
              ap (λ (i : ℕ). get_or (sort_words n count (ws ++ rest)) i 0) (sym (div-add-mod' j n)) ∙ sym (row-cell (sort_words n count (ws ++ rest)) n (j / n) (j % n) hc) ∙ ap (λ (v : List ℕ). get_or v (j % n) 0) (key_row (j / n) hr) in
              rw e (All-at (λ x. x < b) (sort_word (row ws n (j / n))) (j % n) (word_low (j / n) hr) (omega (arith, sort-length (row ws n (j / n)), word-length (j / n) hr)));
        }

  -- the distinct rows, gathered
  module _ (m : ℕ) (reps ids rows tail : List ℕ) (q : Distinct (cell (sort_words n count (ws ++ rest)) n) n count m reps ids) (long : m ≤ length reps) (e : rows ≡ rows_of (sort_words n count (ws ++ rest)) n (take m reps) ++ tail) where
    reps-in : All (RowIn (sort_words n count (ws ++ rest)) n) (take m reps)
    reps-in =
        All-of (RowIn (sort_words n count (ws ++ rest)) n) (take m reps)
        (λ i h.
        let l : i < m = omega (arith, length-take-le m reps long) in
        rw (get_or-take m reps i 0 l) (omega (arith, key-length, row_in (get_or reps i 0) (q.below i l))))

    cell-at : (c i : ℕ) → c < m → i < n → cell rows n i c ≡ cell (sort_words n count (ws ++ rest)) n i (get_or reps c 0)
    cell-at c i h l =
        ap (λ (v : List ℕ). cell v n i c) e
        ∙ rows_of-cell (sort_words n count (ws ++ rest)) n (take m reps) tail c i reps-in (omega (arith, length-take-le m reps long)) l
        ∙ ap (λ (r : ℕ). cell (sort_words n count (ws ++ rest)) n i r) (get_or-take m reps c 0 h)

    module _ (fits : m * n ≤ length rows) where
      made_row : (c : ℕ) → c < m → row rows n c ≡ row (sort_words n count (ws ++ rest)) n (get_or reps c 0)
      made_row c h =
          let r : c * n + n ≤ length rows = omega (arith, suc-mul c n, mul-le-mul_right n h) in
          let k : get_or reps c 0 * n + n ≤ length (sort_words n count (ws ++ rest)) = omega (arith, key-length, row_in (get_or reps c 0) (q.below c h)) in
          ext_get_or 0 (row rows n c) (row (sort_words n count (ws ++ rest)) n (get_or reps c 0)) (row-length rows n c r ∙ sym (row-length (sort_words n count (ws ++ rest)) n (get_or reps c 0) k))
          (λ i l.
          let li : i < n = omega (arith, row-length rows n c r) in
          row-cell rows n c i li ∙ cell-at c i h li ∙ sym (row-cell (sort_words n count (ws ++ rest)) n (get_or reps c 0) i li))

      pub made-cell : (c : ℕ) → c < m → get_or (cut n m rows) c [] ≡ sort_word (row ws n (get_or reps c 0))
      made-cell c h = cut_at n m rows c h ∙ made_row c h ∙ key_row (get_or reps c 0) (q.below c h)

      made-key : (c : ℕ) → c < m → get_or (cut n m rows) c [] ≡ row (sort_words n count (ws ++ rest)) n (get_or reps c 0)
      made-key c h = cut_at n m rows c h ∙ made_row c h

      made-rising : Rising (Colex n) (cut n m rows)
      made-rising =
          rising-by (Colex n) (cut n m rows)
          (λ i j h l.
          let lj : j < m = omega (arith, cut-length n m rows) in
          rw (made-key i (omega arith), made-key j lj) (colex-row (sort_words n count (ws ++ rest)) n n (get_or reps i 0) (get_or reps j 0) (le_refl n) (q.rising i j h lj)))

      made-from : (v : Word) → In v (cut n m rows) → In v (in_order n (cut n count ws))
      made-from v k =
          let w = at_in v (cut n m rows) k in
          let h : w.0 < m = omega (arith, w.1, cut-length n m rows) in
          let r = get_or reps w.0 0 in
          subst (λ (z : Word). In z (in_order n (cut n count ws))) (sym (made-cell w.0 h) ∙ w.2) (order-has n (cut n count ws) (row ws n r) words_long (word_in r (q.below w.0 h)))

      made_all : (v : Word) → In v (in_order n (cut n count ws)) → In v (cut n m rows)
      made_all v k =
          let u = order_from n (cut n count ws) v k in
          let w = at_in u.0 (cut n count ws) u.1 in
          let r = w.0 in
          let h : r < count = omega (arith, w.1, cut-length n count ws) in
          let g : row ws n r ≡ u.0 = sym (cut_at n count ws r h) ∙ w.2 in
          let c = get_or ids r 0 in
          let hc : c < m = q.id_below r h in
          let kx = omega-row (get_or reps c 0) (q.below c hc) in
          let s : row (sort_words n count (ws ++ rest)) n (get_or reps c 0) ≡ row (sort_words n count (ws ++ rest)) n r = same_row (sort_words n count (ws ++ rest)) n (get_or reps c 0) r kx (omega-row r h) (q.id_same r h) in
          subst (λ (z : Word). In z (cut n m rows)) (made-key c hc ∙ s ∙ key_row r h ∙ ap sort_word g ∙ u.2) (in-at (cut n m rows) c (omega (arith, cut-length n m rows)))
        where
          omega-row : (r : ℕ) → r < count → r * n + n ≤ length (sort_words n count (ws ++ rest))
          omega-row r h = omega (arith, key-length, row_in r h)

      -- the cells are those of the words
      pub made-same : cut n m rows ≡ in_order n (cut n count ws)
      made-same = one_list (Colex n) (colex-irr n) (colex-trans n) (cut n m rows) (in_order n (cut n count ws)) made-rising (order-rising n (cut n count ws)) made-from made_all

      pub made-long : (c : ℕ) → c < m → length (get_or (cut n m rows) c []) ≡ n
      made-long c h = ap length (made-cell c h) ∙ sort-length (row ws n (get_or reps c 0)) ∙ word-length (get_or reps c 0) (q.below c h)

      pub made-strict : ((r : ℕ) → r < count → has_repeat (row ws n r) ≡ false) → (c i j : ℕ) → c < m → i < j → j < n → get_or (get_or (cut n m rows) c []) i 0 < get_or (get_or (cut n m rows) c []) j 0
      made-strict apart c i j h l k =
          let r = get_or reps c 0 in
          rw (made-cell c h) (Pairs-at (λ a b. a < b) (sort_word (row ws n r)) i j (sort-strict (row ws n r) (apart r (q.below c h))) l (omega (arith, sort-length (row ws n r), word-length r (q.below c h))))

      pub made-low : (b : ℕ) → ((i : ℕ) → i < length ws → get_or ws i 0 < b) → (j : ℕ) → j < m * n → get_or rows j 0 < b
      made-low b low j h =
          let hr : j / n < m = (div-lt_iff_lt-mul some).1 h in
          let hc : j % n < n = mod-lt j some in
          let r = get_or reps (j / n) 0 in
          let hx = q.below (j / n) hr in
          let g : get_or rows j 0 ≡ get_or (sort_word (row ws n r)) (j % n) 0 =
          ap (λ (i : ℕ). get_or rows i 0) (sym (div-add-mod' j n)) ∙ sym (row-cell rows n (j / n) (j % n) hc) ∙ ap (λ (v : List ℕ). get_or v (j % n) 0) (made_row (j / n) hr ∙ key_row r hx) in
          rw g (All-at (λ x. x < b) (sort_word (row ws n r)) (j % n) (word_low b low r hx) (omega (arith, sort-length (row ws n r), word-length r hx)))

-- ---- the call `cells`: words that passed the checks
module _ (d : ℕ) (ws : List ℕ) (p : Passed d ws) where
  pub whole_words : length ws / (d + 1) * (d + 1) ≡ length ws
  whole_words = omega (arith, div-add-mod' (length ws) (d + 1), p.whole)

  pub few-corners : length ws < many_corners
  few-corners = omega (arith, whole_words, mul-le-mul_right (d + 1) p.few, p.small)

  pub low-numbers : (i : ℕ) → i < length ws → get_or ws i 0 < length ws
  low-numbers i h = omega (arith, below-largest ws i, largest-low ws p.some_words p.used)

  pub words-table : (rest : List ℕ) → Table (sort_words (d + 1) (length ws / (d + 1)) (ws ++ rest)) (d + 1) (length ws / (d + 1)) (length ws)
  words-table rest = key-table (d + 1) (length ws / (d + 1)) ws rest whole_words (omega arith) (length ws) low-numbers (omega (arith, p.few))

  module _ (rest : List ℕ) (m : ℕ) (reps ids rows tail : List ℕ) (q : Distinct (cell (sort_words (d + 1) (length ws / (d + 1)) (ws ++ rest)) (d + 1)) (d + 1) (length ws / (d + 1)) m reps ids) (long : m ≤ length reps)
      (e : rows ≡ rows_of (sort_words (d + 1) (length ws / (d + 1)) (ws ++ rest)) (d + 1) (take m reps) ++ tail) (room : length ws ≤ length rows) where
    fits : m * (d + 1) ≤ length ws
    fits = omega (arith, mul-le-mul_right (d + 1) q.few, whole_words)

    fits-rows : m * (d + 1) ≤ length rows
    fits-rows = le_trans fits room

    pub made : Made d ws m rows
    unfolding cells_of
    made =
        record {
          same = ap (λ (z : ℕ). cut z m rows) (sym (add-one d)) ∙ made-same (d + 1) (length ws / (d + 1)) ws rest whole_words (omega arith) m reps ids rows tail q long e fits-rows;
          cells =
              subst (λ (z : ℕ). Cells d (cut z m rows)) (add-one d)
              (record {
                long = λ c h. made-long (d + 1) (length ws / (d + 1)) ws rest whole_words (omega arith) m reps ids rows tail q long e fits-rows c (omega (arith, cut-length (d + 1) m rows)) ∙ add-one d;
                rising =
                    λ c i j h l k.
                    made-strict (d + 1) (length ws / (d + 1)) ws rest whole_words (omega arith) m reps ids rows tail q long e fits-rows p.apart c i j (omega (arith, cut-length (d + 1) m rows)) l (omega arith);
              });
          most = rw (← (add-one d)) fits;
          below = λ i h. made-low (d + 1) (length ws / (d + 1)) ws rest whole_words (omega arith) m reps ids rows tail q long e fits-rows (length ws) low-numbers i (rw (← (add-one d)) at h);
          corners = few-corners;
        }
