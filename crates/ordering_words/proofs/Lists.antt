-- Words one after the other: cut and joined, sorted in the front, laid out before others. Assumes nothing.
use mathlib.Core.Bool.{Bool, true, false}
use mathlib.Core.List.{List, [], ◌∷◌, ◌++◌}
use mathlib.Core.Path.{◌≡◌, refl, sym, ap, ◌∙◌, subst}
use Prim.Native.Nat.{ℕ, zero, suc, ◌+◌, ◌-◌, ◌*◌, ◌<◌, ◌≤◌}
use native.Mathlib.Nat.{suc-mul, add-sub_cancel_left, zero-add}
use native.Mathlib.Omega.{arith}
use lib.Dec.{ltb}
use lib.ListN.{length, get_or, take, drop, length-drop}
use lib.Seq.{length-take-le, take_at, drop_at, take-take, drop-drop, drop-append-add, get_or-take}
use Rattle.lists.specs.Rows.{cut, flat}
use Rattle.lists.proofs.Flat.{flat-cut}
use Rattle.lists.proofs.Members.{All}
use Rattle.complex.specs.Facets.{Cells}
use Rattle.complex_cells.specs.WorkMade.{Made}
use Rattle.multiindex.specs.Sort.{insert_by, insert, sort_word, sort_words}
use Rattle.multiindex.proofs.SortLaws.{sort-length}

take-nil : (k : ℕ) → ◌≡◌ {A = List ℕ} (take k []) []
take-nil zero = refl
take-nil (suc k) = refl

drop-nil : (k : ℕ) → ◌≡◌ {A = List ℕ} (drop k []) []
drop-nil zero = refl
drop-nil (suc k) = refl

drop-take : (n k : ℕ) (l : List ℕ) → drop n (take (n + k) l) ≡ take k (drop n l)
drop-take zero k l = ap (λ (i : ℕ). take i l) (zero-add k)
drop-take (suc n) k [] = ap (drop (suc n)) (take-nil (suc n + k)) ∙ drop-nil (suc n) ∙ sym (take-nil k) ∙ ap (take k) (sym (drop-nil (suc n)))
drop-take (suc n) k (x ∷ l) = let e : suc n + k ≡ suc (n + k) = omega arith in ap (λ (i : ℕ). drop (suc n) (take i (x ∷ l))) e ∙ drop-take n k l

cut-front-suc : (n m : ℕ) (l : List ℕ) → cut n m (take (m * n) l) ≡ cut n m l
unfolding cut
cut-front-suc n zero l = refl
cut-front-suc n (suc m) l =
    let e : suc m * n ≡ n + m * n = omega (arith, suc-mul m n) in
    let f : take n (take (suc m * n) l) ≡ take n l = take-take n (suc m * n) l (omega arith) in
    let g : drop n (take (suc m * n) l) ≡ take (m * n) (drop n l) = ap (λ (i : ℕ). drop n (take i l)) e ∙ drop-take n (m * n) l in
    let r : cut n m (take (m * n) (drop n l)) ≡ cut n m (drop n l) = cut-front-suc n m (drop n l) in
    cc

-- words are cut off the front
pub cut-front : (n m : ℕ) (l k : List ℕ) → take (m * n) l ≡ take (m * n) k → cut n m l ≡ cut n m k
cut-front n m l k e = sym (cut-front-suc n m l) ∙ ap (cut n m) e ∙ cut-front-suc n m k

pub front_cut : (n m : ℕ) (l k : List ℕ) → cut n m l ≡ cut n m k → take (m * n) l ≡ take (m * n) k
front_cut n m l k e = sym (flat-cut n m l) ∙ ap flat e ∙ flat-cut n m k

-- a number of the front is one of the list
pub front_at : (j : ℕ) (l k : List ℕ) (i : ℕ) → i < j → take j l ≡ take j k → get_or l i 0 ≡ get_or k i 0
front_at j l k i h e = sym (get_or-take j l i 0 h) ∙ ap (λ (t : List ℕ). get_or t i 0) e ∙ get_or-take j k i 0 h

-- sorting the first words leaves what is behind them
pub words-drop : (n count : ℕ) (l : List ℕ) → count * n ≤ length l → drop (count * n) (sort_words n count l) ≡ drop (count * n) l
unfolding sort_words
words-drop n zero l h = refl
words-drop n (suc count) l h =
    let a : length (sort_word (take n l)) ≡ n = sort-length (take n l) ∙ length-take-le n l (omega (arith, suc-mul count n)) in
    let e : suc count * n ≡ length (sort_word (take n l)) + count * n = omega (arith, suc-mul count n) in
    let f : n + count * n ≡ suc count * n = omega (arith, suc-mul count n) in
    ap (λ (i : ℕ). drop i (sort_word (take n l) ++ sort_words n count (drop n l))) e
    ∙ drop-append-add (sort_word (take n l)) (sort_words n count (drop n l)) (count * n)
    ∙ words-drop n count (drop n l) (rw length-drop (omega (arith, suc-mul count n)))
    ∙ drop-drop (count * n) n l ∙ ap (λ (i : ℕ). drop i l) f

-- two parts of the keys written, one after the other
pub laid : (order cells keys p q : List ℕ) → p ≡ order → q ≡ take (length order) cells →
    take (length order) (p ++ drop (length order) keys) ++ (q ++ drop (length order + length order - length order) (drop (length order) (p ++ drop (length order) keys)))
    ≡ order ++ (take (length order) cells ++ drop (length order + length order) keys)
laid order cells keys p q e f =
    rw (e, f, add-sub_cancel_left (length order) (length order), take_at order (drop (length order) keys) (length order) refl, drop_at order (drop (length order) keys) (length order) refl, drop-drop (length order) (length order) keys)

-- what holds of all numbers of a sorted word holds of the word's
insert-back : (P : ℕ → Type 0) (x : ℕ) (l : List ℕ) → All P (insert x l) → P x × All P l
unfolding insert insert_by
insert-back P x [] a = (a.0, tt)
insert-back P x (y ∷ l) a = go (ltb y x) a (insert-back P x l)
  where
    go : (t : Bool) → All P (insert_by t x y l (insert x l)) → (All P (insert x l) → P x × All P l) → P x × All P (y ∷ l)
    go true a r = let s = r a.1 in (s.0, (a.0, s.1))
    go false a r = (a.0, a.1)

pub sort-back : (P : ℕ → Type 0) (w : List ℕ) → All P (sort_word w) → All P w
unfolding sort_word
sort-back P [] a = tt
sort-back P (x ∷ w) a = let s = insert-back P x (sort_word w) a in (s.0, sort-back P w s.1)

-- cells that stay in the front are made again
pub made_again : (d : ℕ) (ws : List ℕ) (m : ℕ) (l k : List ℕ) → Made d ws m l → take (m * suc d) k ≡ take (m * suc d) l → Made d ws m k
made_again d ws m l k a e =
    let c : cut (suc d) m k ≡ cut (suc d) m l = cut-front (suc d) m k l e in
    record {
      same = c ∙ a.same;
      cells = subst (λ (cs : List (List ℕ)). Cells d cs) (sym c) a.cells;
      most = a.most;
      below = λ i h. rw (front_at (m * suc d) k l i h e) (a.below i h);
      corners = a.corners;
    }
