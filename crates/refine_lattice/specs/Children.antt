-- The children of a cell as one list, in their order: by base, axis 0 fastest, then by order of the axes, the last entry most significant; kept where all
-- points qualify.
-- Assumes nothing.
use Rattle.std.specs.Prelude.{Bool, true, false, ◌&&◌, List, [], ◌∷◌, map, ℕ, suc, leb}
pub use Rattle.multiindex.specs.Permutation.{gather, arrange, orders}
pub use Rattle.multiindex.specs.Cartesian.{digits}
use Rattle.refine_lattice.specs.Lattice.{chain}

-- the bases: d digits 0 to R
abbrev pub bases : ℕ → ℕ → List (List ℕ)
bases d R = digits d (suc R)

-- R ≥ s0 ≥ s1 ≥ .. ≥ 0, as a test
abbrev pub qualifies : ℕ → List ℕ → Bool
qualifies R [] = true
qualifies R (x ∷ s) = leb x R && qualifies x s

abbrev pub every : {A : Type 0} → (A → Bool) → List A → Bool
every t [] = true
every t (x ∷ l) = t x && every t l

abbrev pub pick : {A : Type 0} → Bool → A → A → A
pick true x y = x
pick false x y = y

-- the entries that pass the test
abbrev pub select : {A : Type 0} → (A → Bool) → List A → List A
select t [] = []
select t (x ∷ l) = pick (t x) (x ∷ select t l) (select t l)

-- the chains of all bases and orders
abbrev pub chains : ℕ → ℕ → List (List (List ℕ))
chains d R = gather (λ s. map (chain s) (orders d)) (bases d R)

-- the children of a cell of dimension d refined by R
abbrev pub children : ℕ → ℕ → List (List (List ℕ))
children d R = select (every (qualifies R)) (chains d R)
