-- A list of words none of which sorts to the cell of another has as many cells as words, and the other way round. Assumes nothing.
use mathlib.Core.Path.{◌≡◌, refl, sym, ap, subst, ◌∙◌}
use mathlib.Core.Bool.{Bool, true, false}
use mathlib.Core.Logic.{◌⊎◌, inl, inr, ⊎_elim}
use mathlib.Core.List.{List, [], ◌∷◌}
use Prim.Native.Nat.{ℕ, zero, suc, ◌≤◌, ◌<◌}
use native.Mathlib.Omega.{arith}
use lib.ListN.{length, get_or}
use Rattle.multiindex.specs.Sort.{sort_word}
use Rattle.multiindex.proofs.SortLaws.{sort-length}
use Rattle.complex.specs.Cells.{comes_before, placed, place, in_order}
use Rattle.complex_cells.proofs.Words.{Word, Each, In, each_of, each_in, in-at, at_in}
use Rattle.complex_cells.proofs.Order.{Colex, colex-irr, colex-trans, place-new, place-from, place-rising, order_from, order-has, order-rising}
use Rattle.ordering_words.proofs.Orders.{order-length, sub-length}

place-many : (n : ℕ) (w : Word) (cs : List Word) → (length (place n w cs) ≡ suc (length cs)) ⊎ (place n w cs ≡ cs)
unfolding place placed
place-many n w [] = inl refl
place-many n w (c ∷ cs) = go (comes_before n w c) (comes_before n c w) (place-many n w cs)
  where
    go : (a b : Bool) → (length (place n w cs) ≡ suc (length cs)) ⊎ (place n w cs ≡ cs) → (length (placed a b w c cs (place n w cs)) ≡ suc (suc (length cs))) ⊎ (placed a b w c cs (place n w cs) ≡ c ∷ cs)
    go true b r = inl refl
    go false true r = ⊎_elim (λ (e : length (place n w cs) ≡ suc (length cs)). inl (ap suc e)) (λ (e : place n w cs ≡ cs). inr (ap (λ (l : List Word). c ∷ l) e)) r
    go false false r = inr refl

cells_long : (n : ℕ) (ws : List Word) → Each (λ v. length v ≡ n) ws → Each (λ v. length v ≡ n) (in_order n ws)
cells_long n ws a = each_of (λ v. length v ≡ n) (in_order n ws) (λ v m. let u = order_from n ws v m in ap length (sym u.2) ∙ sort-length u.0 ∙ each_in (λ v. length v ≡ n) u.0 ws a u.1)

-- no two words sort to one cell: as many cells as words
pub cells-many : (n : ℕ) (ws : List Word) → Each (λ v. length v ≡ n) ws → ((i j : ℕ) → i < j → j < length ws → sort_word (get_or ws i []) ≡ sort_word (get_or ws j []) → ⊥) → length (in_order n ws) ≡ length ws
unfolding in_order
cells-many n [] a f = refl
cells-many n (w ∷ ws) a f =
    let r : length (in_order n ws) ≡ length ws = cells-many n ws a.1 (λ i j h l. f (suc i) (suc j) (omega arith) (omega arith)) in
    ⊎_elim
    (λ (e : length (place n (sort_word w) (in_order n ws)) ≡ suc (length (in_order n ws))). e ∙ ap suc r)
    (λ (e : place n (sort_word w) (in_order n ws) ≡ in_order n ws).
    let m : In (sort_word w) (in_order n ws) = subst (λ (l : List Word). In (sort_word w) l) e (place-new n (sort_word w) (in_order n ws) (sort-length w ∙ a.0) (cells_long n ws a.1)) in
    let u = order_from n ws (sort_word w) m in
    let k = at_in u.0 ws u.1 in
    absurd (f 0 (suc k.0) (omega arith) (omega (arith, k.1)) (sym (ap sort_word k.2 ∙ u.2))))
    (place-many n (sort_word w) (in_order n ws))

-- as many cells as words: no two words sort to one cell
pub many-apart : (n : ℕ) (ws : List Word) → Each (λ v. length v ≡ n) ws → length (in_order n ws) ≡ length ws → (i j : ℕ) → i < j → j < length ws → sort_word (get_or ws i []) ≡ sort_word (get_or ws j []) → ⊥
unfolding in_order
many-apart n [] a e i j h l q = absurd (let z : ⊥ = omega arith in z)
many-apart n (w ∷ ws) a e (suc i) zero h l q = absurd (let z : ⊥ = omega arith in z)
many-apart n (w ∷ ws) a e zero zero h l q = absurd (let z : ⊥ = omega arith in z)
many-apart n (w ∷ ws) a e (suc i) (suc j) h l q = many-apart n ws a.1 (fewer (place-many n (sort_word w) (in_order n ws))) i j (omega arith) (omega arith) q
  where
    fewer : (length (place n (sort_word w) (in_order n ws)) ≡ suc (length (in_order n ws))) ⊎ (place n (sort_word w) (in_order n ws) ≡ in_order n ws) → length (in_order n ws) ≡ length ws
    fewer (inl p) = omega (arith, e)
    fewer (inr p) = absurd (let z : ⊥ = omega (arith, ap length p, order-length n ws) in z)
many-apart n (w ∷ ws) a e zero (suc j) h l q =
    let m : In (sort_word w) (in_order n ws) = subst (λ (v : Word). In v (in_order n ws)) (sym q) (order-has n ws (get_or ws j []) a.1 (in-at ws j (omega arith))) in
    let s : length (place n (sort_word w) (in_order n ws)) ≤ length (in_order n ws) =
    sub-length (Colex n) (colex-irr n) (colex-trans n) (place n (sort_word w) (in_order n ws)) (in_order n ws) (place-rising n (sort_word w) (in_order n ws) (order-rising n ws)) (order-rising n ws)
    (λ r k. ⊎_elim (λ (z : sort_word w ≡ r). subst (λ (v : Word). In v (in_order n ws)) z m) (λ (z : In r (in_order n ws)). z) (place-from n (sort_word w) (in_order n ws) r k)) in
    let z : ⊥ = omega (arith, order-length n ws) in z
