-- A function on the numbers below a bound, as a list and as a sum. Assumes nothing.
use Rattle.std.specs.Prelude.{List, [], ◌∷◌, ℕ, zero, suc, ◌+◌}

-- `f 0`, `f 1`, .., `f (n - 1)`
abbrev pub tab {ℓ} : {A : Type ℓ} → ℕ → (ℕ → A) → List A
tab zero f = []
tab (suc n) f = f zero ∷ tab n (λ k. f (suc k))

-- 0, 1, .., n - 1
abbrev pub upto : ℕ → List ℕ
upto n = tab n (λ i. i)

-- `f 0 + f 1 + .. + f (n - 1)`
abbrev pub sum : ℕ → (ℕ → ℕ) → ℕ
sum zero f = 0
sum (suc n) f = sum n f + f n
