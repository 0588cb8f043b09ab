-- The classes of grid points that chains of gluing steps make, and their numbers. Assumes nothing.
use Rattle.std.specs.Prelude.{◌≡◌, ◌↔◌, List, ℕ, ◌≤◌, ◌<◌, length, get_or}
use Rattle.quotient.specs.declared.Grid.{Grid}
use Rattle.quotient.specs.Points.{points_of}
use Rattle.quotient.specs.Chain.{Joined}

-- q is the least point that a chain of steps joins to p
pub record Least (g : Grid) (p q : ℕ) : Type 0 where
  pub within : q < points_of g
  pub chain : Joined g p q
  pub first : (r : ℕ) → r < points_of g → Joined g p r → q ≤ r

-- c numbers the classes: m of them, in the order of their least points
pub record Classing (g : Grid) (c : ℕ → ℕ) (m : ℕ) : Type 0 where
  -- two points have one number exactly if a chain of steps joins them
  pub classes : (p q : ℕ) → p < points_of g → q < points_of g → (c p ≡ c q) ↔ Joined g p q
  -- the numbers are those below m
  pub below : (p : ℕ) → p < points_of g → c p < m
  pub each : (x : ℕ) → x < m → (p : ℕ) × (p < points_of g) × (c p ≡ x)
  -- they rise with the least points
  pub rising : (p q : ℕ) → Least g p p → Least g q q → p < q → c p < c q

-- a list by its places
abbrev pub at : List ℕ → ℕ → ℕ
at xs i = get_or xs i 0

-- the list numbers the classes of the grid's points, m of them
pub record Classes (g : Grid) (numbers : List ℕ) (m : ℕ) : Type 0 where
  pub long : length numbers ≡ points_of g
  pub classing : Classing g (at numbers) m
