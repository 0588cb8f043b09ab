-- The chain at which a cursor stands, and what the pattern's inner functions ask. Assumes nothing.
use Rattle.std.specs.Prelude.{◌≡◌, Bool, true, List, [], ◌∷◌, ◌++◌, map, ℕ, zero, suc, ◌+◌, ◌*◌, ◌-◌, ◌^◌, ◌≤◌, ◌<◌, ltb, length, take, drop}
use Rattle.refusal.specs.Limits.{most_dimension, most_refinement}
use Rattle.lists.specs.Rows.{flat}
use Rattle.lists.specs.Tables.{tab}
use Rattle.multiindex.specs.Permutation.{gather, orders, order_of}
use Rattle.refine_lattice.specs.Lattice.{weights, chain}
use Rattle.refine_lattice.specs.Children.{qualifies, every, pick}
use Rattle.refine_pattern.specs.declared.Cursor.{Cursor}

-- the chain from the cursor's base along its axis order
abbrev pub chain_at : ℕ → Cursor → List (List ℕ)
chain_at d c = chain (take d c.base) (order_of d c.order)

-- whether all points of a chain qualify
abbrev pub keeps : ℕ → List (List ℕ) → Bool
keeps R c = every (qualifies R) c

-- the weights of the points of a chain, row after row
abbrev pub weighed : ℕ → List (List ℕ) → List ℕ
weighed R c = flat (map (weights R) c)

-- what a chain gives: its weights where it is kept, else nothing
abbrev pub given : ℕ → List (List ℕ) → List ℕ
given R c = pick (keeps R c) (weighed R c) []

-- the first coordinate of a point, and 0 where it has none
abbrev pub top : List ℕ → ℕ
top [] = 0
top (x ∷ s) = x

-- the points with R ≥ s0 ≥ s1 ≥ .. ≥ 0, the first coordinate fastest: from the second one up to R
abbrev pub falling : ℕ → ℕ → List (List ℕ)
falling zero R = [] ∷ []
falling (suc d) R = gather (λ s. map (λ x. x ∷ s) (tab (suc (R - top s)) (λ i. top s + i))) (falling d R)

-- the chains from those points along all axis orders
abbrev pub falling_chains : ℕ → ℕ → List (List (List ℕ))
falling_chains d R = gather (λ s. map (chain s) (orders d)) (falling d R)

-- the next of those points: the first coordinate goes up by one; where it is R, the others go on, and it is the next one's equal
abbrev pub risen : ℕ → List ℕ → List ℕ
risen R [] = []
risen R (x ∷ s) = pick (ltb x R) (suc x ∷ s) (top (risen R s) ∷ risen R s)

-- the cursor's next place: the next axis order; after the last one the next base with the first order
abbrev pub step_of : ℕ → ℕ → Cursor → Cursor
step_of d R c =
    pick (ltb (suc c.order) (length (orders d))) (record { base = c.base; order = suc c.order })
    (record { base = risen R (take d c.base) ++ drop d c.base; order = 0 })

-- a cursor of dimension d within the limits: its base has d digits, and its order is one of the orders
pub record Stands (d R : ℕ) (c : Cursor) : Type 0 where
  pub axes : d ≤ most_dimension
  pub most : R ≤ most_refinement
  pub wide : d ≤ length c.base
  pub order : c.order < length (orders d)

-- a cursor at a chain that is kept, and a list as long as its weights
pub record Kept (d R : ℕ) (c : Cursor) (n : ℕ) : Type 0 where
  pub stands : Stands d R c
  pub kept : keeps R (chain_at d c) ≡ true
  pub room : n ≡ suc d * suc d

-- a cursor, and room for what its chain gives
pub record Fits (d R : ℕ) (c : Cursor) (n : ℕ) : Type 0 where
  pub stands : Stands d R c
  pub room : length (given R (chain_at d c)) ≤ n

-- a cell to be refined, and room for the weights of R^d children with d + 1 corners
pub record Ready (d R n : ℕ) : Type 0 where
  pub axes : d ≤ most_dimension
  pub most : R ≤ most_refinement
  pub room : R ^ d * (suc d * suc d) ≤ n
