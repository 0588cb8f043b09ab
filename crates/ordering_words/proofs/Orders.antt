-- Words are an order of the cells exactly if there are as many as cells and, sorted and in order, they are the cells. Assumes nothing.
use mathlib.Core.Bool.{Bool, true, false}
use mathlib.Core.List.{List, [], ◌∷◌}
use mathlib.Core.Path.{◌≡◌, refl, sym, ap, ◌∙◌, subst}
use mathlib.Core.Logic.{inl, inr, ⊎_elim}
use Prim.Native.Nat.{ℕ, zero, suc, ◌<◌, ◌≤◌}
use native.Mathlib.Omega.{arith}
use lib.ListN.{length, get_or}
use Rattle.lists.specs.Rows.{flat, row}
use Rattle.multiindex.specs.Sort.{sort_word}
use Rattle.complex.specs.Cells.{comes_before, placed, place, in_order}
use Rattle.complex_cells.proofs.Words.{Word, Each, Rising, In, each_in, in-at, at_in}
use Rattle.complex_cells.proofs.Order.{Colex, colex-irr, colex-trans, order-rising, order_from, order-has}
use Rattle.sorting.specs.Gather.{rows_of}
use Rattle.lists.specs.Words.{same_word}
use Rattle.lists.proofs.Words.{same_word_lem, word-true, word-false}
use Rattle.ordering_words.specs.Order.{word_if, word_of, by_cell, IsOrder}

-- ---- the first word of a cell
pub word_first : (ows : List Word) (cell : Word) (r : ℕ) → r < length ows → sort_word (get_or ows r []) ≡ cell → ((s : ℕ) → s < r → sort_word (get_or ows s []) ≡ cell → ⊥) → word_of ows cell ≡ get_or ows r []
unfolding word_of word_if
word_first [] cell r h e f = absurd (omega arith)
word_first (w ∷ ows) cell zero h e f = rw (word-true (sort_word w) cell e)
word_first (w ∷ ows) cell (suc r) h e f =
    rw (word-false (sort_word w) cell (f 0 (omega arith))) (word_first ows cell r (omega arith) e (λ s l. f (suc s) (omega arith)))

-- a word that sorts to the cell is found
pub word-found : (ows : List Word) (cell w : Word) → In w ows → sort_word w ≡ cell → sort_word (word_of ows cell) ≡ cell
unfolding word_of word_if
word-found [] cell w m e = absurd m
word-found (v ∷ ows) cell w m e = go (same_word (sort_word v) cell) refl m (λ k. word-found ows cell w k e)
  where
    go : (t : Bool) → same_word (sort_word v) cell ≡ t → In w (v ∷ ows) → (In w ows → sort_word (word_of ows cell) ≡ cell) → sort_word (word_if t v (word_of ows cell)) ≡ cell
    go true q m r = same_word_lem (sort_word v) cell q
    go false q (inl s) r = let z : ◌≡◌ {A = Bool} true false = sym (word-true (sort_word v) cell (ap sort_word s ∙ e)) ∙ q in let y : ◌≡◌ {A = ℕ} 0 1 = cc in absurd (omega arith)
    go false q (inr m) r = r m

-- and what is found is one of the words
pub word_in : (ows : List Word) (cell : Word) → 0 < length cell → sort_word (word_of ows cell) ≡ cell → (w : Word) × In w ows × (sort_word w ≡ cell)
unfolding word_of word_if sort_word
word_in [] cell l e = absurd (omega (arith, ap length e))
word_in (v ∷ ows) cell l e = go (same_word (sort_word v) cell) refl e (word_in ows cell l)
  where
    go : (t : Bool) → same_word (sort_word v) cell ≡ t → sort_word (word_if t v (word_of ows cell)) ≡ cell → (sort_word (word_of ows cell) ≡ cell → (w : Word) × In w ows × (sort_word w ≡ cell)) → (w : Word) × In w (v ∷ ows) × (sort_word w ≡ cell)
    go true q e f = (v, inl refl, same_word_lem (sort_word v) cell q)
    go false q e f = let r = f e in (r.0, inr r.1, r.2)

pub by-cell-at : (ows cs : List Word) (c : ℕ) → c < length cs → get_or (by_cell ows cs) c [] ≡ word_of ows (get_or cs c [])
unfolding by_cell
by-cell-at ows [] c h = absurd (omega arith)
by-cell-at ows (x ∷ cs) zero h = refl
by-cell-at ows (x ∷ cs) (suc c) h = by-cell-at ows cs c (omega arith)

pub by-cell-length : (ows cs : List Word) → length (by_cell ows cs) ≡ length cs
unfolding by_cell
by-cell-length ows [] = refl
by-cell-length ows (x ∷ cs) = ap suc (by-cell-length ows cs)

-- the words by cell, where the numbers of their rows are known
pub by-cell-rows : (ows cs : List Word) (order : List ℕ) (n : ℕ) (reps : List ℕ) → length reps ≡ length cs → ((c : ℕ) → c < length cs → word_of ows (get_or cs c []) ≡ row order n (get_or reps c 0)) → flat (by_cell ows cs) ≡ rows_of order n reps
unfolding by_cell rows_of
by-cell-rows ows [] order n [] e f = refl
by-cell-rows ows [] order n (r ∷ reps) e f = absurd (omega arith)
by-cell-rows ows (x ∷ cs) order n [] e f = absurd (omega arith)
by-cell-rows ows (x ∷ cs) order n (r ∷ reps) e f =
    let h : word_of ows x ≡ row order n r = f 0 (omega arith) in
    let t : flat (by_cell ows cs) ≡ rows_of order n reps = by-cell-rows ows cs order n reps (omega arith) (λ c l. f (suc c) (omega arith)) in
    cc

-- ---- a rising list within another
module _ (R : Word → Word → Type 0) (irr : (x : Word) → R x x → ⊥) (trans : (x y z : Word) → R x y → R y z → R x z) where
  -- the first words are one: the rest lies in the rest
  same_head : (x y : Word) (xs ys : List Word) → y ≡ x → Each (R x) xs → ((r : Word) → In r (x ∷ xs) → In r (y ∷ ys)) → (r : Word) → In r xs → In r ys
  same_head x y xs ys e a f r m =
      ⊎_elim (λ (s : y ≡ r). absurd (irr r (subst (λ (z : Word). R z r) (sym e ∙ s) (each_in (R x) r xs a m)))) (λ k. k) (f r (inr m))

  -- the first word is a later one: all lie in the rest
  later-head : (x y : Word) (xs ys : List Word) → In x ys → Each (R x) xs → Each (R y) ys → ((r : Word) → In r (x ∷ xs) → In r (y ∷ ys)) → (r : Word) → In r (x ∷ xs) → In r ys
  later-head x y xs ys k a b f r (inl e) = subst (λ (z : Word). In z ys) e k
  later-head x y xs ys k a b f r (inr m) =
      ⊎_elim (λ (s : y ≡ r). absurd (irr r (subst (λ (z : Word). R z r) s (trans y x r (each_in (R y) x ys b k) (each_in (R x) r xs a m))))) (λ q. q) (f r (inr m))

  pub sub-length : (xs ys : List Word) → Rising R xs → Rising R ys → ((r : Word) → In r xs → In r ys) → length xs ≤ length ys
  sub-length [] ys p q f = omega arith
  sub-length (x ∷ xs) [] p q f = absurd (f x (inl refl))
  sub-length (x ∷ xs) (y ∷ ys) p q f =
      ⊎_elim
      (λ (e : y ≡ x). let r : length xs ≤ length ys = sub-length xs ys p.1 q.1 (same_head x y xs ys e p.0 f) in omega arith)
      (λ k. let r : length (x ∷ xs) ≤ length ys = sub-length (x ∷ xs) ys p q.1 (later-head x y xs ys k p.0 q.0 f) in omega arith)
      (f x (inl refl))

  pub sub_same : (xs ys : List Word) → Rising R xs → Rising R ys → ((r : Word) → In r xs → In r ys) → length ys ≤ length xs → xs ≡ ys
  sub_same [] [] p q f l = refl
  sub_same [] (y ∷ ys) p q f l = absurd (omega arith)
  sub_same (x ∷ xs) [] p q f l = absurd (f x (inl refl))
  sub_same (x ∷ xs) (y ∷ ys) p q f l =
      ⊎_elim
      (λ (e : y ≡ x). let r : xs ≡ ys = sub_same xs ys p.1 q.1 (same_head x y xs ys e p.0 f) (omega arith) in cc)
      (λ k. let r : length (x ∷ xs) ≤ length ys = sub-length (x ∷ xs) ys p q.1 (later-head x y xs ys k p.0 q.0 f) in absurd (omega arith))
      (f x (inl refl))

-- ---- no more cells than words
place-length : (n : ℕ) (w : Word) (cs : List Word) → length (place n w cs) ≤ suc (length cs)
unfolding place placed
place-length n w [] = omega arith
place-length n w (c ∷ cs) = go (comes_before n w c) (comes_before n c w) (place-length n w cs)
  where
    go : (a b : Bool) → length (place n w cs) ≤ suc (length cs) → length (placed a b w c cs (place n w cs)) ≤ suc (suc (length cs))
    go true b r = omega arith
    go false true r = omega arith
    go false false r = omega arith

pub order-length : (n : ℕ) (ws : List Word) → length (in_order n ws) ≤ length ws
unfolding in_order
order-length n [] = omega arith
order-length n (w ∷ ws) = omega (arith, place-length n (sort_word w) (in_order n ws), order-length n ws)

-- ---- an order
module _ (n : ℕ) (cs ows : List Word) (some : 0 < n) (long : Each (λ v. length v ≡ n) ows) where
  pub order_same : Rising (Colex n) cs → ((c : ℕ) → c < length cs → length (get_or cs c []) ≡ n) → IsOrder cs ows → in_order n ows ≡ cs
  order_same rising cells o =
      sym (sub_same (Colex n) (colex-irr n) (colex-trans n) cs (in_order n ows) rising (order-rising n ows)
      (λ v m.
      let w = at_in v cs m in
      let u = word_in ows (get_or cs w.0 []) (omega (arith, cells w.0 w.1)) (o.each w.0 w.1) in
      subst (λ (z : Word). In z (in_order n ows)) (u.2 ∙ w.2) (order-has n ows u.0 long u.1))
      (omega (arith, order-length n ows, o.many)))

  pub same-order : length ows ≡ length cs → in_order n ows ≡ cs → IsOrder cs ows
  same-order many e =
      record {
        many = many;
        each =
            λ c h.
            let u = order_from n ows (get_or cs c []) (subst (λ (l : List Word). In (get_or cs c []) l) (sym e) (in-at cs c h)) in
            word-found ows (get_or cs c []) u.0 u.1 u.2;
      }
