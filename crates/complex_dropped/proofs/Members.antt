-- Members of lists of numbers and of words, and what `keep` keeps. Assumes nothing.
use mathlib.Core.Bool.{Bool, true, false, ◌||◌}
use mathlib.Core.List.{List, [], ◌∷◌, ◌++◌, map, Memᴰ}
use mathlib.Core.Path.{◌≡◌, refl, sym, ap, ◌∙◌, subst}
use mathlib.Core.Logic.{◌⊎◌, inl, inr, ⊎_elim}
use Prim.Native.Nat.{ℕ, zero, suc, ◌<◌, ◌≤◌, max}
use native.Mathlib.Decide.{dec_lt}
use native.Mathlib.Omega.{arith}
use lib.Dec.{eqb}
use lib.ListN.{length, get_or}
use borrow.Author.Tests.{eq-eqb, eqb-true}
use Rattle.lists.specs.Words.{among, largest_of}
use Rattle.lists.specs.Rows.{flat}
use Rattle.lists.proofs.Members.{All, Mem, All-of, All-at, Mem-left, Mem-right, Mem-of}
use Rattle.lists.proofs.Flat.{each_long}
use Rattle.complex.specs.Skeleton.{keep_if, keep}
use Rattle.complex_cells.proofs.Words.{Word, Each, Rising, In, each_in, in-at}

-- ---- members of lists of numbers and of words
pub among-mem : (v : ℕ) (ws : List ℕ) → among v ws ≡ true → Mem v ws
unfolding among
among-mem v [] e = let z : ◌≡◌ {A = ℕ} 0 1 = cc in absurd (omega arith)
among-mem v (x ∷ xs) e = go (eqb x v) refl e (among-mem v xs)
  where
    go : (t : Bool) → eqb x v ≡ t → (t || among v xs) ≡ true → (among v xs ≡ true → Mem v xs) → Mem v (x ∷ xs)
    go true p e r = inl (eqb-true x v p)
    go false p e r = inr (r e)

pub mem-among : (v : ℕ) (ws : List ℕ) → Mem v ws → among v ws ≡ true
unfolding among
mem-among v [] m = absurd m
mem-among v (x ∷ xs) (inl e) = rw (eq-eqb x v e)
mem-among v (x ∷ xs) (inr m) = go (eqb x v) (mem-among v xs m)
  where
    go : (t : Bool) → among v xs ≡ true → (t || among v xs) ≡ true
    go true r = refl
    go false r = r

pub mem-map : (f : ℕ → ℕ) (v : ℕ) (xs : List ℕ) → Mem v xs → Mem (f v) (map f xs)
mem-map f v [] m = absurd m
mem-map f v (x ∷ xs) (inl e) = inl (ap f e)
mem-map f v (x ∷ xs) (inr m) = inr (mem-map f v xs m)

pub map-mem : (f : ℕ → ℕ) (y : ℕ) (xs : List ℕ) → Mem y (map f xs) → (v : ℕ) × Mem v xs × (f v ≡ y)
map-mem f y [] m = absurd m
map-mem f y (x ∷ xs) (inl e) = (x, inl refl, e)
map-mem f y (x ∷ xs) (inr m) = let r = map-mem f y xs m in (r.0, inr r.1, r.2)

pub in_map : (g : Word → Word) (w : Word) (ws : List Word) → In w ws → In (g w) (map g ws)
in_map g w [] m = absurd m
in_map g w (x ∷ ws) (inl e) = inl (ap g e)
in_map g w (x ∷ ws) (inr m) = inr (in_map g w ws m)

pub map-in : (g : Word → Word) (v : Word) (ws : List Word) → In v (map g ws) → (w : Word) × In w ws × (g w ≡ v)
map-in g v [] m = absurd m
map-in g v (x ∷ ws) (inl e) = (x, inl refl, e)
map-in g v (x ∷ ws) (inr m) = let r = map-in g v ws m in (r.0, inr r.1, r.2)

pub flat-all : (w : Word) (ws : List Word) → In w ws → All (λ v. Mem v (flat ws)) w
flat-all w [] m = absurd m
flat-all w (x ∷ ws) (inl e) =
    All-of (λ v. Mem v (x ++ flat ws)) w (λ i h. Mem-left (get_or w i 0) x (flat ws) (subst (λ (z : Word). Mem (get_or w i 0) z) (sym e) (Mem-of w i h)))
flat-all w (x ∷ ws) (inr m) =
    let r = flat-all w ws m in
    All-of (λ v. Mem v (x ++ flat ws)) w (λ i h. Mem-right (get_or w i 0) x (flat ws) (All-at (λ v. Mem v (flat ws)) w i r h))

-- what is kept passes, and what passes is kept
pub keep-from : (p : Word → Bool) (w : Word) (ws : List Word) → In w (keep p ws) → In w ws × (p w ≡ true)
unfolding keep
keep-from p w [] m = absurd m
keep-from p w (x ∷ ws) m = go (p x) refl m (keep-from p w ws)
  where
    go : (t : Bool) → p x ≡ t → In w (keep_if t x (keep p ws)) → (In w (keep p ws) → In w ws × (p w ≡ true)) → In w (x ∷ ws) × (p w ≡ true)
    go true e (inl s) r = (inl s, ap p (sym s) ∙ e)
    go true e (inr k) r = let q = r k in (inr q.0, q.1)
    go false e k r = let q = r k in (inr q.0, q.1)

pub keep-has : (p : Word → Bool) (w : Word) (ws : List Word) → In w ws → p w ≡ true → In w (keep p ws)
unfolding keep
keep-has p w [] m e = absurd m
keep-has p w (x ∷ ws) (inl s) e = rw (ap p s ∙ e) (inl s)
keep-has p w (x ∷ ws) (inr m) e = go (p x) (keep-has p w ws m e)
  where
    go : (t : Bool) → In w (keep p ws) → In w (keep_if t x (keep p ws))
    go true r = inr r
    go false r = r

pub keep-most : (p : Word → Bool) (ws : List Word) → length (keep p ws) ≤ length ws
unfolding keep
keep-most p [] = omega arith
keep-most p (x ∷ ws) = go (p x) (keep-most p ws)
  where
    go : (t : Bool) → length (keep p ws) ≤ length ws → length (keep_if t x (keep p ws)) ≤ suc (length ws)
    go true r = omega arith
    go false r = omega arith

pub keep_all : (p : Word → Bool) (ws : List Word) → ((w : Word) → p w ≡ true) → keep p ws ≡ ws
unfolding keep
keep_all p [] f = refl
keep_all p (x ∷ ws) f = rw (f x) (ap (λ (l : List Word). x ∷ l) (keep_all p ws f))

pub bool-no : (t : Bool) → (t ≡ true → ⊥) → t ≡ false
bool-no true f = absurd (f refl)
bool-no false f = refl

pub rising-at : (R : Word → Word → Type 0) (xs : List Word) → Rising R xs → (i j : ℕ) → i < j → j < length xs → R (get_or xs i []) (get_or xs j [])
rising-at R [] p i j h l = absurd (omega arith)
rising-at R (x ∷ xs) p i zero h l = absurd (omega arith)
rising-at R (x ∷ xs) p zero (suc j) h l = each_in (R x) (get_or xs j []) xs p.0 (in-at xs j (omega arith))
rising-at R (x ∷ xs) p (suc i) (suc j) h l = rising-at R xs p.1 i j (omega arith) (omega arith)

pub in-memᴰ : (ws : List Word) (n : ℕ) → Each (λ v. length v ≡ n) ws → (w : Word) → Memᴰ w ws → length w ≡ n
in-memᴰ ws n a = each_long n ws (λ c h. each_in (λ v. length v ≡ n) (get_or ws c []) ws a (in-at ws c h))

pub flat-mem : (v : ℕ) (ws : List Word) → Mem v (flat ws) → (w : Word) × In w ws × Mem v w
flat-mem v [] m = absurd m
flat-mem v (x ∷ ws) m = ⊎_elim (λ a. (x, inl refl, a)) (λ b. let r = flat-mem v ws b in (r.0, inr r.1, r.2)) (mem-append v x (flat ws) m)
  where
    mem-append : (v : ℕ) (xs ys : List ℕ) → Mem v (xs ++ ys) → Mem v xs ⊎ Mem v ys
    mem-append v [] ys m = inr m
    mem-append v (x ∷ xs) ys (inl e) = inl (inl e)
    mem-append v (x ∷ xs) ys (inr m) = ⊎_elim (λ a. inl (inr a)) (λ b. inr b) (mem-append v xs ys m)

pub largest-mem : (ws : List ℕ) → (length ws ≡ 0 → ⊥) → Mem (largest_of ws) ws
unfolding largest_of
largest-mem [] h = absurd (h refl)
largest-mem (x ∷ []) h = inl (omega arith)
largest-mem (x ∷ y ∷ ws) h =
    let r : Mem (largest_of (y ∷ ws)) (y ∷ ws) = largest-mem (y ∷ ws) (λ e. omega arith) in
    elim (dec_lt x (largest_of (y ∷ ws))) [
      | yes l ↦ let e : largest_of (y ∷ ws) ≡ max x (largest_of (y ∷ ws)) = omega arith in inr (subst (λ (z : ℕ). Mem z (y ∷ ws)) e r)
      | no l ↦ inl (omega arith)
    ]

pub largest-below : (xs : List ℕ) (n : ℕ) → 0 < n → ((i : ℕ) → i < length xs → get_or xs i 0 < n) → largest_of xs < n
unfolding largest_of
largest-below [] n h f = h
largest-below (x ∷ xs) n h f = omega (arith, f 0 (omega arith), largest-below xs n h (λ i l. f (suc i) (omega arith)))

pub map_same : (f : ℕ → ℕ) (xs : List ℕ) → ((i : ℕ) → i < length xs → f (get_or xs i 0) ≡ get_or xs i 0) → map f xs ≡ xs
map_same f [] h = refl
map_same f (x ∷ xs) h = let a : f x ≡ x = h 0 (omega arith) in let b : map f xs ≡ xs = map_same f xs (λ i l. h (suc i) (omega arith)) in cc
