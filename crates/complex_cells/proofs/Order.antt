-- Colex order of words, and the list of cells: it rises, and its members are the words sorted. Assumes nothing.
use mathlib.Core.Bool.{Bool, true, false}
use mathlib.Core.List.{List, [], ◌∷◌}
use mathlib.Core.Path.{◌≡◌, refl, sym, ap, ◌∙◌, subst}
use mathlib.Core.Logic.{◌⊎◌, inl, inr, ⊎_elim}
use Prim.Native.Nat.{ℕ, zero, suc, ◌<◌}
use native.Mathlib.Nat.{eq-or-lt_of_le, le_of_suc-le-suc}
use native.Mathlib.Omega.{arith}
use lib.Dec.{ltb, eqb}
use lib.ListN.{length, get_or}
use lib.Seq.{ext_get_or}
use borrow.Author.Tests.{ltb-true, ltb-false, eqb-true, eqb-false}
use Rattle.multiindex.specs.Sort.{sort_word}
use Rattle.multiindex.proofs.SortLaws.{sort-length}
use Rattle.complex.specs.Cells.{decides, comes_before, placed, place, in_order}
use Rattle.complex_cells.proofs.Words.{Word, Each, Rising, In, each_in, each_of, one_list}

-- v before w: the last number that differs decides
abbrev pub Colex : ℕ → Word → Word → Type 0
Colex zero v w = ⊥
Colex (suc n) v w = (get_or v n 0 < get_or w n 0) ⊎ ((get_or v n 0 ≡ get_or w n 0) × Colex n v w)

pub colex-irr : (n : ℕ) (v : Word) → Colex n v v → ⊥
colex-irr zero v p = p
colex-irr (suc n) v (inl l) = omega arith
colex-irr (suc n) v (inr e) = colex-irr n v e.1

pub colex-trans : (n : ℕ) (u v w : Word) → Colex n u v → Colex n v w → Colex n u w
colex-trans zero u v w p q = p
colex-trans (suc n) u v w (inl p) (inl q) = inl (omega arith)
colex-trans (suc n) u v w (inl p) (inr q) = inl (omega (arith, q.0))
colex-trans (suc n) u v w (inr p) (inl q) = inl (omega (arith, p.0))
colex-trans (suc n) u v w (inr p) (inr q) = inr (p.0 ∙ q.0, colex-trans n u v w p.1 q.1)

-- what the test says
before-true : (n : ℕ) (v w : Word) → comes_before n v w ≡ true → Colex n v w
unfolding comes_before decides
before-true zero v w e = let z : ◌≡◌ {A = ℕ} 0 1 = cc in absurd (omega arith)
before-true (suc n) v w e = go (ltb (get_or v n 0) (get_or w n 0)) (eqb (get_or v n 0) (get_or w n 0)) refl refl e (before-true n v w)
  where
    go : (a b : Bool) → ltb (get_or v n 0) (get_or w n 0) ≡ a → eqb (get_or v n 0) (get_or w n 0) ≡ b → decides a b (comes_before n v w) ≡ true → (comes_before n v w ≡ true → Colex n v w) → Colex (suc n) v w
    go true b p q e r = inl (ltb-true _ _ p)
    go false true p q e r = inr (eqb-true _ _ q, r e)
    go false false p q e r = let z : ◌≡◌ {A = ℕ} 0 1 = cc in absurd (omega arith)

-- neither before the other: the first n numbers are equal
neither : (n : ℕ) (v w : Word) → comes_before n v w ≡ false → comes_before n w v ≡ false → (c : ℕ) → c < n → get_or v c 0 ≡ get_or w c 0
unfolding comes_before decides
neither zero v w p q c h = absurd (omega arith)
neither (suc n) v w p q c h = go (ltb (get_or v n 0) (get_or w n 0)) (eqb (get_or v n 0) (get_or w n 0)) (ltb (get_or w n 0) (get_or v n 0)) (eqb (get_or w n 0) (get_or v n 0)) refl refl refl refl p q (neither n v w)
  where
    go : (a b a' b' : Bool) → ltb (get_or v n 0) (get_or w n 0) ≡ a → eqb (get_or v n 0) (get_or w n 0) ≡ b → ltb (get_or w n 0) (get_or v n 0) ≡ a' → eqb (get_or w n 0) (get_or v n 0) ≡ b' → decides a b (comes_before n v w) ≡ false → decides a' b' (comes_before n w v) ≡ false → (comes_before n v w ≡ false → comes_before n w v ≡ false → (c : ℕ) → c < n → get_or v c 0 ≡ get_or w c 0) → get_or v c 0 ≡ get_or w c 0
    go true b a' b' p q p' q' e e' r = let z : ◌≡◌ {A = ℕ} 0 1 = cc in absurd (omega arith)
    go false b true b' p q p' q' e e' r = let z : ◌≡◌ {A = ℕ} 0 1 = cc in absurd (omega arith)
    go false false false b' p q p' q' e e' r = absurd (eqb-false (get_or v n 0) (get_or w n 0) q (omega (arith, ltb-false (get_or v n 0) (get_or w n 0) p, ltb-false (get_or w n 0) (get_or v n 0) p')))
    go false true false false p q p' q' e e' r = absurd (eqb-false (get_or w n 0) (get_or v n 0) q' (omega (arith, ltb-false (get_or v n 0) (get_or w n 0) p, ltb-false (get_or w n 0) (get_or v n 0) p')))
    go false true false true p q p' q' e e' r = ⊎_elim (λ (s : c ≡ n). rw s (eqb-true _ _ q)) (λ (l : c < n). r e e' c l) (eq-or-lt_of_le (le_of_suc-le-suc h))

-- ---- a cell put into its place
module _ (n : ℕ) where
  pub place-from : (w : Word) (cs : List Word) (v : Word) → In v (place n w cs) → (w ≡ v) ⊎ In v cs
  unfolding place placed
  place-from w [] v (inl e) = inl e
  place-from w [] v (inr m) = absurd m
  place-from w (c ∷ cs) v m = go (comes_before n w c) (comes_before n c w) m (place-from w cs v)
    where
      go : (a b : Bool) → In v (placed a b w c cs (place n w cs)) → (In v (place n w cs) → (w ≡ v) ⊎ In v cs) → (w ≡ v) ⊎ In v (c ∷ cs)
      go true b (inl e) r = inl e
      go true b (inr m) r = inr m
      go false true (inl e) r = inr (inl e)
      go false true (inr m) r = ⊎_elim (λ e. inl e) (λ k. inr (inr k)) (r m)
      go false false m r = inr m

  pub place-old : (w : Word) (cs : List Word) (v : Word) → In v cs → In v (place n w cs)
  unfolding place placed
  place-old w [] v m = absurd m
  place-old w (c ∷ cs) v m = go (comes_before n w c) (comes_before n c w) m (place-old w cs v)
    where
      go : (a b : Bool) → In v (c ∷ cs) → (In v cs → In v (place n w cs)) → In v (placed a b w c cs (place n w cs))
      go true b m r = inr m
      go false true (inl e) r = inl e
      go false true (inr m) r = inr (r m)
      go false false m r = m

  pub place-new : (w : Word) (cs : List Word) → length w ≡ n → Each (λ v. length v ≡ n) cs → In w (place n w cs)
  unfolding place placed
  place-new w [] l a = inl refl
  place-new w (c ∷ cs) l a = go (comes_before n w c) (comes_before n c w) refl refl (place-new w cs l a.1)
    where
      go : (x y : Bool) → comes_before n w c ≡ x → comes_before n c w ≡ y → In w (place n w cs) → In w (placed x y w c cs (place n w cs))
      go true y p q r = inl refl
      go false true p q r = inr r
      go false false p q r = inl (sym (ext_get_or 0 w c (l ∙ sym a.0) (λ i h. neither n w c p q i (omega arith))))

  pub place-rising : (w : Word) (cs : List Word) → Rising (Colex n) cs → Rising (Colex n) (place n w cs)
  unfolding place placed
  place-rising w [] p = (tt, tt)
  place-rising w (c ∷ cs) p = go (comes_before n w c) (comes_before n c w) refl refl (place-rising w cs p.1)
    where
      go : (x y : Bool) → comes_before n w c ≡ x → comes_before n c w ≡ y → Rising (Colex n) (place n w cs) → Rising (Colex n) (placed x y w c cs (place n w cs))
      go true y e f r =
          let l : Colex n w c = before-true n w c e in
          ((l, each_of (Colex n w) cs (λ v m. colex-trans n w c v l (each_in (Colex n c) v cs p.0 m))), p)
      go false true e f r =
          let l : Colex n c w = before-true n c w f in
          (each_of (Colex n c) (place n w cs) (λ v m. ⊎_elim (λ s. subst (λ (z : Word). Colex n c z) s l) (λ k. each_in (Colex n c) v cs p.0 k) (place-from w cs v m)), r)
      go false false e f r = p

  -- ---- the cells
  pub order-rising : (ws : List Word) → Rising (Colex n) (in_order n ws)
  unfolding in_order
  order-rising [] = tt
  order-rising (w ∷ ws) = place-rising (sort_word w) (in_order n ws) (order-rising ws)

  pub order_from : (ws : List Word) (v : Word) → In v (in_order n ws) → (w : Word) × In w ws × (sort_word w ≡ v)
  unfolding in_order
  order_from [] v m = absurd m
  order_from (w ∷ ws) v m =
      ⊎_elim (λ e. (w, inl refl, e)) (λ k. let u = order_from ws v k in (u.0, inr u.1, u.2)) (place-from (sort_word w) (in_order n ws) v m)

  order_long : (ws : List Word) → Each (λ v. length v ≡ n) ws → Each (λ v. length v ≡ n) (in_order n ws)
  order_long ws a = each_of (λ v. length v ≡ n) (in_order n ws) (λ v m. let u = order_from ws v m in ap length (sym u.2) ∙ sort-length u.0 ∙ each_in (λ v. length v ≡ n) u.0 ws a u.1)

  pub order-has : (ws : List Word) (w : Word) → Each (λ v. length v ≡ n) ws → In w ws → In (sort_word w) (in_order n ws)
  unfolding in_order
  order-has [] w a m = absurd m
  order-has (x ∷ xs) w a (inl e) = subst (λ (z : Word). In (sort_word z) (place n (sort_word x) (in_order n xs))) e (place-new (sort_word x) (in_order n xs) (sort-length x ∙ a.0) (order_long xs a.1))
  order-has (x ∷ xs) w a (inr m) = place-old (sort_word x) (in_order n xs) (sort_word w) (order-has xs w a.1 m)

  -- words in another order, or some of them twice: the same cells
  pub order_same : (ws vs : List Word) → Each (λ v. length v ≡ n) ws → Each (λ v. length v ≡ n) vs → ((w : Word) → In w ws → In w vs) → ((w : Word) → In w vs → In w ws) → in_order n ws ≡ in_order n vs
  order_same ws vs a b f g = one_list (Colex n) (colex-irr n) (colex-trans n) (in_order n ws) (in_order n vs) (order-rising ws) (order-rising vs) (moved ws vs b f) (moved vs ws a g)
    where
      moved : (ws vs : List Word) → Each (λ v. length v ≡ n) vs → ((w : Word) → In w ws → In w vs) → (v : Word) → In v (in_order n ws) → In v (in_order n vs)
      moved ws vs b f v m = let u = order_from ws v m in subst (λ (z : Word). In z (in_order n vs)) u.2 (order-has vs u.0 b (f u.0 u.1))
