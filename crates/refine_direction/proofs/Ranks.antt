-- How many vertices of a word are below one of them: its place in the word sorted. Assumes nothing.
use mathlib.Core.Bool.{Bool, true, false}
use mathlib.Core.Path.{◌≡◌, refl, sym, ap, ◌∙◌}
use mathlib.Core.List.{List, [], ◌∷◌}
use Prim.Native.Nat.{ℕ, zero, suc, ◌+◌, ◌≤◌, ◌<◌}
use native.Mathlib.Nat.{le_of_suc-le-suc, not-suc-le-zero}
use native.Mathlib.Omega.{arith}
use lib.Dec.{ltb}
use lib.ListN.{length, get_or}
use Rattle.lists.proofs.Sums.{sum-front}
use Rattle.lists.proofs.Words.{same_self}
use Rattle.multiindex.specs.Sort.{insert_by, insert, sort_word}
use Rattle.refine_lattice.specs.Complex.{occurrences, Rises}
use Rattle.refine_lattice.specs.Signs.{less, rank}
use Rattle.refine_lattice.proofs.Enumerate.{times-at}

less-yes : (m n : ℕ) → m < n → less m n ≡ 1
less-yes m zero h = absurd (not-suc-le-zero h)
less-yes zero (suc n) h = refl
less-yes (suc m) (suc n) h = less-yes m n (le_of_suc-le-suc h)

less-no : (m n : ℕ) → n ≤ m → less m n ≡ 0
less-no m zero h = refl
less-no zero (suc n) h = absurd (not-suc-le-zero h)
less-no (suc m) (suc n) h = less-no m n (le_of_suc-le-suc h)

-- counted from the front
abbrev below : List ℕ → ℕ → ℕ
below [] v = 0
below (x ∷ k) v = less x v + below k v

rank_below : (k : List ℕ) (v : ℕ) → rank k v ≡ below k v
rank_below [] v = refl
rank_below (x ∷ k) v = sum-front (length k) (λ a. less (get_or (x ∷ k) a 0) v) ∙ ap (λ (n : ℕ). less x v + n) (rank_below k v)

insert-below : (x : ℕ) (ys : List ℕ) (v : ℕ) → below (insert x ys) v ≡ less x v + below ys v
unfolding insert insert_by
insert-below x [] v = refl
insert-below x (y ∷ ys) v = go (ltb y x) (insert-below x ys v)
  where
    go : (t : Bool) → below (insert x ys) v ≡ less x v + below ys v → below (insert_by t x y ys (insert x ys)) v ≡ less x v + (less y v + below ys v)
    go true e = omega arith
    go false e = refl

sort-below : (w : List ℕ) (v : ℕ) → below (sort_word w) v ≡ below w v
unfolding sort_word
sort-below [] v = refl
sort-below (x ∷ w) v = insert-below x (sort_word w) v ∙ ap (λ (n : ℕ). less x v + n) (sort-below w v)

-- in a rising word
none_below : (k : List ℕ) (v : ℕ) → ((u : ℕ) → 0 < occurrences k u → v ≤ u) → below k v ≡ 0
none_below [] v f = refl
none_below (x ∷ k) v f = omega (arith, less-no x v (f x (omega (arith, same_self x))), none_below k v (λ u p. f u (omega arith)))

place-below : (k : List ℕ) → Rises k → (i : ℕ) → i < length k → below k (get_or k i 0) ≡ i
place-below [] r i h = absurd (not-suc-le-zero h)
place-below (x ∷ k) r zero h = omega (arith, less-no x x (omega arith), none_below k x (λ u p. omega (arith, r.0 u p)))
place-below (x ∷ k) r (suc i) h =
    let g : i < length k = le_of_suc-le-suc h in
    omega (arith, less-yes x (get_or k i 0) (r.0 (get_or k i 0) (times-at k i g)), place-below k r.1 i g)

-- a word w that sorts to l
pub rank-place : (w l : List ℕ) → sort_word w ≡ l → Rises l → (i : ℕ) → i < length l → rank w (get_or l i 0) ≡ i
rank-place w l e r i h =
    rank_below w (get_or l i 0) ∙ sym (sort-below w (get_or l i 0)) ∙ ap (λ (k : List ℕ). below k (get_or l i 0)) e ∙ place-below l r i h
