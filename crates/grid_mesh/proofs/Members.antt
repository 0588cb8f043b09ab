-- Words by their numbers: sorting keeps them, rising words with the same numbers are the same, and so are facets. Assumes nothing.
use mathlib.Core.Path.{◌≡◌, refl, sym}
use mathlib.Core.Bool.{Bool, true, false}
use mathlib.Core.Logic.{◌⊎◌, inl, inr}
use mathlib.Core.List.{List, [], ◌∷◌}
use Prim.Native.Nat.{ℕ, zero, suc, ◌<◌}
use native.Mathlib.Omega.{arith}
use lib.Dec.{ltb}
use lib.ListN.{length, get_or}
use Rattle.lists.proofs.Members.{All, Pairs, Mem, All-at, All-of, All-mem, Mem-of}
use Rattle.multiindex.specs.Sort.{insert_by, insert, sort_word}
use Rattle.complex.specs.Facets.{facet_at}
use Rattle.complex_cells.proofs.Strict.{sort-all}

-- ---- sorting keeps the numbers
insert-mem : (v x : ℕ) (ys : List ℕ) → (x ≡ v) ⊎ Mem v ys → Mem v (insert x ys)
unfolding insert insert_by
insert-mem v x [] (inl e) = inl e
insert-mem v x [] (inr m) = absurd m
insert-mem v x (y ∷ ys) m = go (ltb y x) m (insert-mem v x ys)
  where
    go : (t : Bool) → (x ≡ v) ⊎ Mem v (y ∷ ys) → ((x ≡ v) ⊎ Mem v ys → Mem v (insert x ys)) → Mem v (insert_by t x y ys (insert x ys))
    go true (inl e) r = inr (r (inl e))
    go true (inr (inl e)) r = inl e
    go true (inr (inr m)) r = inr (r (inr m))
    go false (inl e) r = inl e
    go false (inr m) r = inr m

pub sort-mem : (v : ℕ) (w : List ℕ) → Mem v w → Mem v (sort_word w)
unfolding sort_word
sort-mem v [] m = absurd m
sort-mem v (x ∷ w) (inl e) = insert-mem v x (sort_word w) (inl e)
sort-mem v (x ∷ w) (inr m) = insert-mem v x (sort_word w) (inr (sort-mem v w m))

pub mem-sort : (v : ℕ) (w : List ℕ) → Mem v (sort_word w) → Mem v w
mem-sort v w m = All-mem (λ x. Mem x w) v (sort_word w) (sort-all (λ x. Mem x w) w (All-of (λ x. Mem x w) w (λ i h. Mem-of w i h))) m

-- ---- rising words
abbrev pub Rises : List ℕ → Type 0
Rises w = Pairs (λ a b. a < b) w

heads : (x y : ℕ) (xs ys : List ℕ) → All (λ b. x < b) xs → All (λ b. y < b) ys → Mem x (y ∷ ys) → Mem y (x ∷ xs) → x ≡ y
heads x y xs ys a b (inl e) m = sym e
heads x y xs ys a b (inr p) (inl e) = e
heads x y xs ys a b (inr p) (inr q) = absurd (let w : ⊥ = omega (arith, All-mem (λ b. x < b) y xs a q, All-mem (λ b. y < b) x ys b p) in w)

tails : (x y r : ℕ) (xs ys : List ℕ) → x ≡ y → All (λ b. x < b) xs → Mem r xs → Mem r (y ∷ ys) → Mem r ys
tails x y r xs ys e a m (inl f) = absurd (let w : ⊥ = omega (arith, All-mem (λ b. x < b) r xs a m) in w)
tails x y r xs ys e a m (inr p) = p

pub one_word : (xs ys : List ℕ) → Rises xs → Rises ys → ((r : ℕ) → Mem r xs → Mem r ys) → ((r : ℕ) → Mem r ys → Mem r xs) → xs ≡ ys
one_word [] [] p q f g = refl
one_word [] (y ∷ ys) p q f g = absurd (g y (inl refl))
one_word (x ∷ xs) [] p q f g = absurd (f x (inl refl))
one_word (x ∷ xs) (y ∷ ys) p q f g =
    let e : x ≡ y = heads x y xs ys p.0 q.0 (f x (inl refl)) (g y (inl refl)) in
    let r : xs ≡ ys = one_word xs ys p.1 q.1 (λ r m. tails x y r xs ys e p.0 m (f r (inr m))) (λ r m. tails y x r ys xs (sym e) q.0 m (g r (inr m))) in
    cc

-- ---- facets
facet-all : (P : ℕ → Type 0) (w : List ℕ) (i : ℕ) → i < length w → All P w → All P (facet_at w i)
facet-all P [] i h a = absurd (let z : ⊥ = omega arith in z)
facet-all P (x ∷ w) zero h a = a.1
facet-all P (x ∷ w) (suc i) h a = (a.0, facet-all P w i (omega arith) a.1)

facet-rises : (w : List ℕ) (i : ℕ) → i < length w → Rises w → Rises (facet_at w i)
facet-rises [] i h p = absurd (let z : ⊥ = omega arith in z)
facet-rises (x ∷ w) zero h p = p.1
facet-rises (x ∷ w) (suc i) h p = (facet-all (λ b. x < b) w i (omega arith) p.0, facet-rises w i (omega arith) p.1)

pub facet-mem : (v : ℕ) (w : List ℕ) (i : ℕ) → Mem v w → (v ≡ get_or w i 0 → ⊥) → Mem v (facet_at w i)
facet-mem v [] i m n = absurd m
facet-mem v (x ∷ w) zero (inl e) n = absurd (n (sym e))
facet-mem v (x ∷ w) zero (inr m) n = m
facet-mem v (x ∷ w) (suc i) (inl e) n = inl e
facet-mem v (x ∷ w) (suc i) (inr m) n = inr (facet-mem v w i m n)

pub mem-facet : (v : ℕ) (w : List ℕ) (i : ℕ) → i < length w → Rises w → Mem v (facet_at w i) → Mem v w × (v ≡ get_or w i 0 → ⊥)
mem-facet v [] i h p m = absurd (let z : ⊥ = omega arith in z)
mem-facet v (x ∷ w) zero h p m = (inr m, λ e. omega (arith, All-mem (λ b. x < b) v w p.0 m))
mem-facet v (x ∷ w) (suc i) h p (inl e) = (inl e, λ q. omega (arith, All-at (λ b. x < b) w i p.0 (omega arith)))
mem-facet v (x ∷ w) (suc i) h p (inr m) = let r = mem-facet v w i (omega arith) p.1 m in (inr r.0, r.1)

-- rising words with the same numbers but for one in each have one facet
pub one-facet : (w w' : List ℕ) (i i' : ℕ) → i < length w → i' < length w' → Rises w → Rises w'
    → ((v : ℕ) → Mem v w → (v ≡ get_or w i 0 → ⊥) → Mem v w' × (v ≡ get_or w' i' 0 → ⊥)) → ((v : ℕ) → Mem v w' → (v ≡ get_or w' i' 0 → ⊥) → Mem v w × (v ≡ get_or w i 0 → ⊥))
    → facet_at w i ≡ facet_at w' i'
one-facet w w' i i' h h' p p' f f' =
    one_word (facet_at w i) (facet_at w' i') (facet-rises w i h p) (facet-rises w' i' h' p')
    (λ v m. let r = mem-facet v w i h p m in let s = f v r.0 r.1 in facet-mem v w' i' s.0 s.1)
    (λ v m. let r = mem-facet v w' i' h' p' m in let s = f' v r.0 r.1 in facet-mem v w i s.0 s.1)
