-- The pairs out of order of a word, as a sum over the pairs of its places. Assumes nothing.
use mathlib.Core.Bool.{Bool, true, false}
use mathlib.Core.Path.{◌≡◌, refl, ◌∙◌}
use mathlib.Core.List.{List, [], ◌∷◌}
use Prim.Native.Nat.{ℕ, suc, ◌+◌, ◌*◌}
use native.Mathlib.Omega.{arith}
use lib.Dec.{ltb}
use lib.ListN.{length, get_or}
use borrow.Author.Tests.{ltb-true, ltb-false}
use Rattle.lists.specs.Tables.{sum}
use Rattle.lists.proofs.Sums.{sum-ext, sum-front}
use Rattle.multiindex.specs.Sort.{add_if, smaller, inversions}
use Rattle.refine_lattice.specs.Signs.{less}
use Rattle.refine_lattice.proofs.Tab.{step-yes, step-no}
use Rattle.refine_lattice.proofs.Parity.{less-step}

add-less : (y x n : ℕ) → add_if (ltb y x) n ≡ less y x + n
unfolding add_if
add-less y x n = go (ltb y x) refl
  where
    go : (t : Bool) → ltb y x ≡ t → add_if t n ≡ less y x + n
    go true e = omega (arith, less-step y x, step-yes y x (ltb-true y x e))
    go false e = omega (arith, less-step y x, step-no y x (ltb-false y x e))

smaller-sum : (x : ℕ) (ys : List ℕ) → smaller x ys ≡ sum (length ys) (λ b. less (get_or ys b 0) x)
unfolding smaller
smaller-sum x [] = refl
smaller-sum x (y ∷ ys) = add-less y x (smaller x ys) ∙ omega (arith, smaller-sum x ys, sum-front (length ys) (λ b. less (get_or (y ∷ ys) b 0) x))

pub inversions-sum : (p : List ℕ) → inversions p ≡ sum (length p) (λ a. sum (length p) (λ b. less a b * less (get_or p b 0) (get_or p a 0)))
unfolding inversions
inversions-sum [] = refl
inversions-sum (x ∷ xs) =
    let n : ℕ = length xs in
    let F : ℕ → ℕ → ℕ = λ a b. less a b * less (get_or (x ∷ xs) b 0) (get_or (x ∷ xs) a 0) in
    let G : ℕ → ℕ → ℕ = λ a b. less a b * less (get_or xs b 0) (get_or xs a 0) in
    let r : inversions xs ≡ sum n (λ a. sum n (λ b. G a b)) = inversions-sum xs in
    let e : sum n (λ b. F 0 (suc b)) ≡ sum n (λ b. less (get_or xs b 0) x) = sum-ext n (λ b. F 0 (suc b)) (λ b. less (get_or xs b 0) x) (λ b h. omega arith) in
    let first : sum (suc n) (λ b. F 0 b) ≡ smaller x xs = sum-front n (λ b. F 0 b) ∙ omega (arith, smaller-sum x xs, e) in
    let rest : sum n (λ a. sum (suc n) (λ b. F (suc a) b)) ≡ sum n (λ a. sum n (λ b. G a b)) =
    sum-ext n (λ a. sum (suc n) (λ b. F (suc a) b)) (λ a. sum n (λ b. G a b)) (λ a h. sum-front n (λ b. F (suc a) b) ∙ omega arith) in
    omega (arith, sum-front n (λ a. sum (suc n) (λ b. F a b)), first, rest, r)
