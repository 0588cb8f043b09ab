-- Every element of a list, every pair of elements in their order, and being an element. Assumes nothing.
use mathlib.Core.List.{List, [], ◌∷◌, ◌++◌}
use mathlib.Core.Path.{◌≡◌, refl, subst}
use mathlib.Core.Logic.{◌⊎◌, inl, inr}
use Prim.Native.Nat.{ℕ, zero, suc, ◌<◌, zero-le, suc-le-suc}
use native.Mathlib.Nat.{le_of_suc-le-suc, not-suc-le-zero}
use lib.ListN.{length, get_or}

abbrev pub All : (ℕ → Type 0) → List ℕ → Type 0
All P [] = Unit {0}
All P (x ∷ xs) = P x × All P xs

abbrev pub Pairs : (ℕ → ℕ → Type 0) → List ℕ → Type 0
Pairs R [] = Unit {0}
Pairs R (x ∷ xs) = All (R x) xs × Pairs R xs

abbrev pub Mem : ℕ → List ℕ → Type 0
Mem r [] = ⊥
Mem r (x ∷ xs) = (x ≡ r) ⊎ Mem r xs

pub All-map : (P Q : ℕ → Type 0) → ((x : ℕ) → P x → Q x) → (xs : List ℕ) → All P xs → All Q xs
All-map P Q f [] a = tt
All-map P Q f (x ∷ xs) a = (f x a.0, All-map P Q f xs a.1)

pub All-both : (P Q S : ℕ → Type 0) → ((x : ℕ) → P x → Q x → S x) → (xs : List ℕ) → All P xs → All Q xs → All S xs
All-both P Q S f [] a b = tt
All-both P Q S f (x ∷ xs) a b = (f x a.0 b.0, All-both P Q S f xs a.1 b.1)

pub All-append : (P : ℕ → Type 0) (xs ys : List ℕ) → All P xs → All P ys → All P (xs ++ ys)
All-append P [] ys a b = b
All-append P (x ∷ xs) ys a b = (a.0, All-append P xs ys a.1 b)

pub All-at : (P : ℕ → Type 0) (xs : List ℕ) (i : ℕ) → All P xs → i < length xs → P (get_or xs i 0)
All-at P [] i a h = absurd (not-suc-le-zero h)
All-at P (x ∷ xs) zero a h = a.0
All-at P (x ∷ xs) (suc i) a h = All-at P xs i a.1 (le_of_suc-le-suc h)

pub All-of : (P : ℕ → Type 0) (xs : List ℕ) → ((i : ℕ) → i < length xs → P (get_or xs i 0)) → All P xs
All-of P [] f = tt
All-of P (x ∷ xs) f = (f 0 (suc-le-suc zero-le), All-of P xs (λ i h. f (suc i) (suc-le-suc h)))

pub All-mem : (P : ℕ → Type 0) (r : ℕ) (xs : List ℕ) → All P xs → Mem r xs → P r
All-mem P r [] a m = absurd m
All-mem P r (x ∷ xs) a (inl e) = subst P e a.0
All-mem P r (x ∷ xs) a (inr m) = All-mem P r xs a.1 m

pub Pairs-of : (R : ℕ → ℕ → Type 0) (xs : List ℕ) → ((i j : ℕ) → i < j → j < length xs → R (get_or xs i 0) (get_or xs j 0)) → Pairs R xs
Pairs-of R [] f = tt
Pairs-of R (x ∷ xs) f = (All-of (R x) xs (λ i h. f 0 (suc i) (suc-le-suc zero-le) (suc-le-suc h)), Pairs-of R xs (λ i j h q. f (suc i) (suc j) (suc-le-suc h) (suc-le-suc q)))

pub Mem-of : (xs : List ℕ) (i : ℕ) → i < length xs → Mem (get_or xs i 0) xs
Mem-of [] i h = absurd (not-suc-le-zero h)
Mem-of (x ∷ xs) zero h = inl refl
Mem-of (x ∷ xs) (suc i) h = inr (Mem-of xs i (le_of_suc-le-suc h))

pub Pairs-append : (R : ℕ → ℕ → Type 0) (xs ys : List ℕ) → Pairs R xs → Pairs R ys → All (λ x. All (R x) ys) xs → Pairs R (xs ++ ys)
Pairs-append R [] ys a b c = b
Pairs-append R (x ∷ xs) ys a b c = (All-append (R x) xs ys a.0 c.0, Pairs-append R xs ys a.1 b c.1)

pub Pairs-with : (P : ℕ → Type 0) (R S : ℕ → ℕ → Type 0) → ((x y : ℕ) → P x → P y → R x y → S x y) → (xs : List ℕ) → All P xs → Pairs R xs → Pairs S xs
Pairs-with P R S f [] a p = tt
Pairs-with P R S f (x ∷ xs) a p = (All-both P (R x) (S x) (λ y q r. f x y a.0 q r) xs a.1 p.0, Pairs-with P R S f xs a.1 p.1)

pub Pairs-at : (R : ℕ → ℕ → Type 0) (xs : List ℕ) (i j : ℕ) → Pairs R xs → i < j → j < length xs → R (get_or xs i 0) (get_or xs j 0)
Pairs-at R [] i j p h l = absurd (not-suc-le-zero l)
Pairs-at R (x ∷ xs) i zero p h l = absurd (not-suc-le-zero h)
Pairs-at R (x ∷ xs) zero (suc j) p h l = All-at (R x) xs j p.0 (le_of_suc-le-suc l)
Pairs-at R (x ∷ xs) (suc i) (suc j) p h l = Pairs-at R xs i j p.1 (le_of_suc-le-suc h) (le_of_suc-le-suc l)

pub Mem-left : (r : ℕ) (xs ys : List ℕ) → Mem r xs → Mem r (xs ++ ys)
Mem-left r [] ys m = absurd m
Mem-left r (x ∷ xs) ys (inl e) = inl e
Mem-left r (x ∷ xs) ys (inr m) = inr (Mem-left r xs ys m)

pub Mem-right : (r : ℕ) (xs ys : List ℕ) → Mem r ys → Mem r (xs ++ ys)
Mem-right r [] ys m = m
Mem-right r (x ∷ xs) ys m = inr (Mem-right r xs ys m)

pub Mem-at : (r : ℕ) (xs : List ℕ) → Mem r xs → (i : ℕ) × (i < length xs) × (get_or xs i 0 ≡ r)
Mem-at r [] m = absurd m
Mem-at r (x ∷ xs) (inl e) = (0, suc-le-suc zero-le, e)
Mem-at r (x ∷ xs) (inr m) = let w = Mem-at r xs m in (suc w.0, suc-le-suc w.1, w.2)
