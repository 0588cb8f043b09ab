-- Inner contracts of the plain engine: the relation is closed step by step, by labels that only fall. Assumes nothing.
use Rattle.std.specs.Prelude.{◌≡◌, Bool, true, false, List, [], ◌∷◌, ℕ, ◌+◌, ◌≤◌, ◌<◌, length, set}
use Rattle.quotient.specs.declared.Grid.{Grid}
use Rattle.quotient.specs.Reduce.{wrapped_at}
use Rattle.quotient.specs.Points.{points_of, point_of}
use Rattle.quotient.specs.Chain.{stepped_to, Joined}
use Rattle.grid_chained.specs.Classing.{at}

-- the sum of the labels: what falls in each round that changes one
unfoldable pub total : List ℕ → ℕ
total [] = 0
total (x ∷ xs) = x + total xs

-- each point's label is a point no greater, joined to it
pub record Marked (g : Grid) (l : List ℕ) : Type 0 where
  pub long : length l ≡ points_of g
  pub lower : (p : ℕ) → p < points_of g → at l p ≤ p
  pub joined : (p : ℕ) → p < points_of g → Joined g p (at l p)

-- points p and q have taken the lesser of their labels, and whether one of them changed
pub data Levelled (l : List ℕ) (p q : ℕ) : List ℕ → Bool → Type 0 where
  second : at l p < at l q → Levelled l p q (set l q (at l p)) true
  first : at l q < at l p → Levelled l p q (set l p (at l q)) true
  level : at l p ≡ at l q → Levelled l p q l false

-- where a step along axis a leaves from point v, its two ends have one label
abbrev pub Even : Grid → List ℕ → ℕ → ℕ → Type 0
Even g l v a = wrapped_at g v a ≡ true → at l v ≡ at l (point_of g (stepped_to g v a))

-- Labels after the steps in `Seen` were levelled, each at a point along an axis: where one changed their sum fell, and where none did they are as before, and all
-- those steps have even ends.
pub record Pass (g : Grid) (Seen : ℕ → ℕ → Type 0) (old new : List ℕ) (changed : Bool) : Type 0 where
  pub marked : Marked g new
  pub fell : changed ≡ true → total new < total old
  pub kept : changed ≡ false → new ≡ old
  pub even : changed ≡ false → (v a : ℕ) → Seen v a → Even g old v a
