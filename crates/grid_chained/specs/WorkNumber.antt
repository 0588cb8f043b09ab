-- Inner contracts of the numbering: each point knows the least point of its class, and the least points are counted. Assumes nothing.
use Rattle.std.specs.Prelude.{◌≡◌, Bool, List, ℕ, ◌≤◌, ◌<◌, eqb, length}
use Rattle.quotient.specs.declared.Grid.{Grid}
use Rattle.quotient.specs.Fold.{count}
use Rattle.quotient.specs.Points.{points_of}
use Rattle.grid_chained.specs.Classing.{Least, at}

-- point p is the least of its class, where l leads from a point to the least of its class
abbrev pub leads : (ℕ → ℕ) → ℕ → Bool
leads l p = eqb (l p) p

-- the number of p's class: how many least points come before its own
abbrev pub class_by : (ℕ → ℕ) → ℕ → ℕ
class_by l p = count (leads l) (l p)

-- the list has the least point of its class for each point
pub record Labelled (g : Grid) (labels : List ℕ) : Type 0 where
  pub long : length labels ≡ points_of g
  pub least : (p : ℕ) → p < points_of g → Least g p (at labels p)

-- each entry is no more than its place, and its own entry is itself
abbrev pub Leading : List ℕ → Type 0
Leading l = (p : ℕ) → p < length l → (at l p ≤ p) × (at l (at l p) ≡ at l p)

-- the numbers of the classes, where l has the least points, and how many classes there are
pub record Numbered (l numbers : List ℕ) (m : ℕ) : Type 0 where
  pub long : length numbers ≡ length l
  pub each : (p : ℕ) → p < length l → at numbers p ≡ class_by (at l) p
  pub many : m ≡ count (leads (at l)) (length l)
