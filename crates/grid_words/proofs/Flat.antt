-- Lists of words one after the other, gathered lists and their members. Assumes nothing.
use mathlib.Core.Path.{◌≡◌, refl, sym, ap, ◌∙◌}
use mathlib.Core.Logic.{◌⊎◌, inl, inr, ⊎_elim}
use mathlib.Core.List.{List, [], ◌∷◌, ◌++◌, map}
use Prim.Native.Nat.{ℕ, zero, suc, ◌+◌, ◌*◌, ◌/◌, ◌%◌, ◌<◌}
use native.Mathlib.Nat.{suc-mul, zero-mul, div-add-mod', div-lt_iff_lt-mul, mod-lt, le_of_suc-le-suc}
use native.Mathlib.Omega.{arith}
use lib.ListN.{length, get_or, length-append, get_or-append}
use lib.Seq.{get_or-append-add}
use Rattle.lists.specs.Rows.{flat}
use Rattle.lists.specs.Tables.{tab}
use Rattle.multiindex.specs.Permutation.{gather}
use Rattle.lists.proofs.Tables.{list-tab}
use Rattle.complex_cells.proofs.Words.{Word, In}

-- ---- words of n numbers, one after the other
pub flat-length : (n count : ℕ) (F : ℕ → List ℕ) → ((x : ℕ) → x < count → length (F x) ≡ n) → length (flat (tab count F)) ≡ count * n
flat-length n zero F h = sym (zero-mul n)
flat-length n (suc count) F h =
    let a : length (F 0) ≡ n = h 0 (omega arith) in
    let b : length (flat (tab count (λ x. F (suc x)))) ≡ count * n = flat-length n count (λ x. F (suc x)) (λ x l. h (suc x) (omega arith)) in
    length-append (F 0) (flat (tab count (λ x. F (suc x)))) ∙ omega (arith, suc-mul count n)

pub flat-at : (n count : ℕ) (F : ℕ → List ℕ) → ((x : ℕ) → x < count → length (F x) ≡ n) → (x j : ℕ) → x < count → j < n → get_or (flat (tab count F)) (x * n + j) 0 ≡ get_or (F x) j 0
flat-at n zero F h x j l m = absurd (let w : ⊥ = omega arith in w)
flat-at n (suc count) F h zero j l m =
    let a : length (F 0) ≡ n = h 0 (omega arith) in
    let e : zero * n + j ≡ j = omega (arith, zero-mul n) in
    ap (λ (i : ℕ). get_or (F 0 ++ flat (tab count (λ x. F (suc x)))) i 0) e ∙ get_or-append (F 0) (flat (tab count (λ x. F (suc x)))) 0 j (omega arith)
flat-at n (suc count) F h (suc x) j l m =
    let a : length (F 0) ≡ n = h 0 (omega arith) in
    let e : suc x * n + j ≡ length (F 0) + (x * n + j) = omega (arith, suc-mul x n) in
    ap (λ (i : ℕ). get_or (F 0 ++ flat (tab count (λ x. F (suc x)))) i 0) e
    ∙ get_or-append-add (F 0) (flat (tab count (λ x. F (suc x)))) (x * n + j) 0
    ∙ flat-at n count (λ x. F (suc x)) (λ x l. h (suc x) (omega arith)) x j (omega arith) m

pub flat-tab : (n count : ℕ) (F : ℕ → List ℕ) → 0 < n → ((x : ℕ) → x < count → length (F x) ≡ n) → flat (tab count F) ≡ tab (count * n) (λ i. get_or (F (i / n)) (i % n) 0)
flat-tab n count F some h =
    list-tab (count * n) (flat (tab count F)) (λ i. get_or (F (i / n)) (i % n) 0) 0 (flat-length n count F h)
    (λ i l.
    let b : i / n < count = (div-lt_iff_lt-mul some).1 l in
    ap (λ (k : ℕ). get_or (flat (tab count F)) k 0) (sym (div-add-mod' i n)) ∙ flat-at n count F h (i / n) (i % n) b (mod-lt i some))

-- ---- members
pub in_left : (v : Word) (xs ys : List Word) → In v xs → In v (xs ++ ys)
in_left v [] ys m = absurd m
in_left v (x ∷ xs) ys (inl e) = inl e
in_left v (x ∷ xs) ys (inr m) = inr (in_left v xs ys m)

pub in_right : (v : Word) (xs ys : List Word) → In v ys → In v (xs ++ ys)
in_right v [] ys m = m
in_right v (x ∷ xs) ys m = inr (in_right v xs ys m)

pub in_either : (v : Word) (xs ys : List Word) → In v (xs ++ ys) → In v xs ⊎ In v ys
in_either v [] ys m = inr m
in_either v (x ∷ xs) ys (inl e) = inl (inl e)
in_either v (x ∷ xs) ys (inr m) = ⊎_elim (λ a. inl (inr a)) (λ b. inr b) (in_either v xs ys m)

pub to-gather : (f : ℕ → List Word) (v : Word) (n : ℕ) (h : ℕ → ℕ) (b : ℕ) → b < n → In v (f (h b)) → In v (gather f (tab n h))
to-gather f v zero h b l m = absurd (let w : ⊥ = omega arith in w)
to-gather f v (suc n) h zero l m = in_left v (f (h 0)) (gather f (tab n (λ i. h (suc i)))) m
to-gather f v (suc n) h (suc b) l m = in_right v (f (h 0)) (gather f (tab n (λ i. h (suc i)))) (to-gather f v n (λ i. h (suc i)) b (le_of_suc-le-suc l) m)

pub of-gather : (f : ℕ → List Word) (v : Word) (n : ℕ) (h : ℕ → ℕ) → In v (gather f (tab n h)) → (b : ℕ) × (b < n) × In v (f (h b))
of-gather f v zero h m = absurd m
of-gather f v (suc n) h m =
    ⊎_elim
    (λ a. (0, omega arith, a))
    (λ r. let w = of-gather f v n (λ i. h (suc i)) r in (suc w.0, omega (arith, w.1), w.2))
    (in_either v (f (h 0)) (gather f (tab n (λ i. h (suc i)))) m)

pub to_map : (f : List ℕ → Word) (l : List (List ℕ)) (t : ℕ) → t < length l → In (f (get_or l t [])) (map f l)
to_map f [] t h = absurd (let w : ⊥ = omega arith in w)
to_map f (x ∷ l) zero h = inl refl
to_map f (x ∷ l) (suc t) h = inr (to_map f l t (le_of_suc-le-suc h))

pub of_map : (f : List ℕ → Word) (l : List (List ℕ)) (v : Word) → In v (map f l) → (t : ℕ) × (t < length l) × (f (get_or l t []) ≡ v)
of_map f [] v m = absurd m
of_map f (x ∷ l) v (inl e) = (0, omega arith, e)
of_map f (x ∷ l) v (inr m) = let w = of_map f l v m in (suc w.0, omega (arith, w.1), w.2)

pub to-tab : (f : ℕ → Word) (n x : ℕ) → x < n → In (f x) (tab n f)
to-tab f zero x h = absurd (let w : ⊥ = omega arith in w)
to-tab f (suc n) zero h = inl refl
to-tab f (suc n) (suc x) h = inr (to-tab (λ i. f (suc i)) n x (le_of_suc-le-suc h))

pub of-tab : (f : ℕ → Word) (n : ℕ) (v : Word) → In v (tab n f) → (x : ℕ) × (x < n) × (f x ≡ v)
of-tab f zero v m = absurd m
of-tab f (suc n) v (inl e) = (0, omega arith, e)
of-tab f (suc n) v (inr m) = let w = of-tab (λ i. f (suc i)) n v m in (suc w.0, omega (arith, w.1), w.2)
