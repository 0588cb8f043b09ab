-- The comparison of the order's words with the cells. Assumes nothing.
use mathlib.Core.Bool.{Bool, true, false}
use mathlib.Core.List.{List, [], ◌++◌}
use mathlib.Core.Path.{◌≡◌, refl, sym, ap, ◌∙◌, subst}
use Prim.Native.Nat.{ℕ, zero, suc, ◌+◌, ◌-◌, ◌*◌, ◌<◌, ◌≤◌}
use native.Mathlib.Nat.{add-sub_cancel_left, le_trans, mul-le-mul_right, mul-suc}
use native.Mathlib.Omega.{arith}
use lib.ListN.{length, get_or, take, drop, length-append, length-drop}
use lib.Seq.{length-take-le, take_at, drop_at}
use Rattle.lists.specs.Rows.{cut, row}
use Rattle.lists.proofs.Rows.{cut-length, cut_at}
use Rattle.multiindex.specs.Sort.{sort_word, sort_words}
use Rattle.sorting.specs.Bucket.{cell}
use Rattle.sorting.specs.Order.{Table}
use Rattle.sorting.specs.Distinct.{Distinct}
use Rattle.sorting.specs.Gather.{rows_of}
use Rattle.sorting.proofs.Colex.{row_same}
use Rattle.sorting.proofs.Rows.{pos-room}
use Rattle.complex.specs.Cells.{in_order}
use Rattle.complex_cells.proofs.Words.{Word}
use Rattle.complex_cells.proofs.Making.{key-table, key-length, key_row, made-cell, made-same}
use Rattle.ordering_words.specs.Order.{word_of}
use Rattle.ordering_words.specs.WorkArrange.{Matching, Matched}
use Rattle.ordering_words.proofs.Orders.{word_first}
use Rattle.ordering_words.proofs.Lists.{cut-front, front_cut, words-drop}

-- no more words than numbers
pub many-numbers : (n m : ℕ) → 0 < n → m ≤ m * n
many-numbers zero m h = absurd (omega arith)
many-numbers (suc n) m h = omega (arith, mul-suc m n)

module _ (n m b : ℕ) (order keys cells spare counts : List ℕ) (w : Matching n m b order keys cells spare counts) (K : List ℕ) (e : K ≡ sort_words n m (order ++ (take (length order) cells ++ drop (length order + length order) keys))) where
  rest : List ℕ
  rest = take (length order) cells ++ drop (length order + length order) keys

  pub key-long : length K ≡ length keys
  key-long =
      ap length e ∙ key-length n m order (take (length order) cells ++ drop (length order + length order) keys) w.size w.some
      ∙ omega (arith, length-append (take (length order) cells) (drop (length order + length order) keys), length-take-le (length order) cells w.cells_long, length-drop (length order + length order) keys, w.keys_long)

  pub table : Table K n m b
  table = subst (λ (k : List ℕ). Table k n m b) (sym e) (key-table n m order (take (length order) cells ++ drop (length order + length order) keys) w.size w.some b w.low w.few)

  pub rows_fit : m * n ≤ length K
  rows_fit = omega (arith, key-long, w.keys_long, w.size)

  cells-behind : take (length order) (drop (length order) K) ≡ take (length order) cells
  cells-behind =
      let full = order ++ (take (length order) cells ++ drop (length order + length order) keys) in
      let f : drop (length order) (sort_words n m full) ≡ drop (length order) full =
      subst (λ (i : ℕ). drop i (sort_words n m full) ≡ drop i full) w.size (words-drop n m full (omega (arith, w.size, length-append order (take (length order) cells ++ drop (length order + length order) keys)))) in
      ap (λ (k : List ℕ). take (length order) (drop (length order) k)) e ∙ ap (take (length order)) (f ∙ drop_at order (take (length order) cells ++ drop (length order + length order) keys) (length order) refl)
      ∙ take_at (take (length order) cells) (drop (length order + length order) keys) (length order) (length-take-le (length order) cells w.cells_long)

  -- the distinct words, gathered
  module _ (classes : ℕ) (reps ids : List ℕ) (q : Distinct (cell K n) n m classes reps ids) (long : m ≤ length reps) where
    pub reps-in : (i : ℕ) → i < classes → get_or reps i 0 * n + n ≤ length K
    reps-in i h = le_trans (pos-room (get_or reps i 0) m n (q.below i h)) rows_fit

    module _ (D C : List ℕ) (g : D ≡ rows_of K n (take classes reps) ++ drop (classes * n) C) (room : m * n ≤ length D) where
      q' : Distinct (cell (sort_words n m (order ++ (take (length order) cells ++ drop (length order + length order) keys))) n) n m classes reps ids
      q' = subst (λ (k : List ℕ). Distinct (cell k n) n m classes reps ids) e q

      g' : D ≡ rows_of (sort_words n m (order ++ (take (length order) cells ++ drop (length order + length order) keys))) n (take classes reps) ++ drop (classes * n) C
      g' = g ∙ ap (λ (k : List ℕ). rows_of k n (take classes reps) ++ drop (classes * n) C) e

      fits : classes * n ≤ length D
      fits = le_trans (mul-le-mul_right n q.few) room

      found-same : cut n classes D ≡ in_order n (cut n m order)
      found-same = made-same n m order (take (length order) cells ++ drop (length order + length order) keys) w.size w.some classes reps ids D (drop (classes * n) C) q' (le_trans q.few long) g' fits

      -- fewer words than cells
      pub matched-fewer : (classes ≡ m → ⊥) → Matched n m order cells false K reps
      matched-fewer f =
          record {
            behind = cells-behind;
            yes = λ z. let y : ◌≡◌ {A = ℕ} 0 1 = cc in absurd (omega arith);
            no = λ z s. f (sym (cut-length n classes D) ∙ ap length (found-same ∙ s) ∙ cut-length n m cells);
          }

      module _ (all : classes ≡ m) where
        same-all : cut n m D ≡ in_order n (cut n m order)
        same-all = subst (λ (c : ℕ). cut n c D ≡ in_order n (cut n m order)) all found-same

        cell-word : (c : ℕ) → c < m → get_or (cut n m D) c [] ≡ sort_word (row order n (get_or reps c 0))
        cell-word c h =
            subst (λ (k : ℕ). get_or (cut n k D) c [] ≡ sort_word (row order n (get_or reps c 0))) all
            (made-cell n m order (take (length order) cells ++ drop (length order + length order) keys) w.size w.some classes reps ids D (drop (classes * n) C) q' (le_trans q.few long) g' fits c (omega arith))

        key-word : (r : ℕ) → r < m → row K n r ≡ sort_word (row order n r)
        key-word r h = ap (λ (k : List ℕ). row k n r) e ∙ key_row n m order (take (length order) cells ++ drop (length order + length order) keys) w.size w.some r h

        -- the first word of each cell
        first_word : cut n m D ≡ cut n m cells → (c : ℕ) → c < m → word_of (cut n m order) (get_or (cut n m cells) c []) ≡ row order n (get_or reps c 0)
        first_word s c h =
            let r = get_or reps c 0 in
            let hr : r < m = q.below c (omega arith) in
            let f : sort_word (row order n r) ≡ get_or (cut n m cells) c [] = sym (cell-word c h) ∙ ap (λ (l : List Word). get_or l c []) s in
            word_first (cut n m order) (get_or (cut n m cells) c []) r (omega (arith, cut-length n m order)) (ap sort_word (cut_at n m order r hr) ∙ f)
            (λ t l z.
            let ht : t < m = omega arith in
            let same : row K n r ≡ row K n t = key-word r hr ∙ f ∙ sym z ∙ ap sort_word (cut_at n m order t ht) ∙ sym (key-word t ht) in
            omega (arith, q.least c t (omega arith) ht (row_same K n r t same)))
            ∙ cut_at n m order r hr

        pub matched-compared : (r : Bool) → (r ≡ true → take (length order) D ≡ take (length order + length order - length order) (drop (length order) K)) → (r ≡ false → take (length order) D ≡ take (length order + length order - length order) (drop (length order) K) → ⊥) → Matched n m order cells r K reps
        matched-compared r equal differ =
            let z : take (length order + length order - length order) (drop (length order) K) ≡ take (length order) cells = rw (add-sub_cancel_left (length order) (length order)) cells-behind in
            record {
              behind = cells-behind;
              yes =
                  λ t.
                  let s : cut n m D ≡ cut n m cells = cut-front n m D cells (rw w.size (equal t ∙ z)) in
                  record { same = sym same-all ∙ s; below = λ c h. q.below c (omega arith); words = first_word s };
              no = λ t s. differ t (rw w.size at (front_cut n m D cells (same-all ∙ s)) ∙ sym z);
            }
