-- Words one after the other in a flat list, and a flat list cut into words. Assumes nothing.
use Rattle.std.specs.Prelude.{List, [], ◌∷◌, ◌++◌, ℕ, zero, suc, ◌*◌, ◌/◌, length, take, drop}

-- words one after the other
abbrev pub flat : List (List ℕ) → List ℕ
flat [] = []
flat (w ∷ ws) = w ++ flat ws

-- count words of n numbers, cut off a flat list one after the other
unfoldable pub cut : ℕ → ℕ → List ℕ → List (List ℕ)
cut n zero ws = []
cut n (suc count) ws = take n ws ∷ cut n count (drop n ws)

-- a flat list cut into words of n numbers
abbrev pub rows : ℕ → List ℕ → List (List ℕ)
rows n ws = cut n (length ws / n) ws

-- row k of a flat list of rows of `size` entries each
abbrev pub row : {A : Type 0} → List A → ℕ → ℕ → List A
row l size k = take size (drop (k * size) l)
