-- Every grid has its classes, computed from the least points that the quick engine finds. Assumes nothing.
use mathlib.Core.List.{List, [], ◌∷◌}
use mathlib.Core.Path.{◌≡◌, refl, ap}
use Prim.Native.Nat.{ℕ, zero, suc, ◌<◌}
use native.Mathlib.Nat.{not-suc-le-zero, le_of_suc-le-suc}
use lib.ListN.{length}
use Rattle.quotient.specs.declared.Grid.{Grid}
use Rattle.quotient.specs.Fold.{count}
use Rattle.quotient.specs.Points.{points_of}
use Rattle.grid_chained.specs.Classing.{Classing, at, Classes}
use Rattle.grid_chained.specs.WorkNumber.{leads, class_by}
use Rattle.grid_chained.proofs.Turns.{least_of}
use Rattle.grid_chained.proofs.Orbit.{least-law}
use Rattle.grid_chained.proofs.Numbering.{numbering, classing-along}

-- the number of p's class, and how many classes there are
abbrev pub class_of : Grid → ℕ → ℕ
class_of g p = class_by (least_of g) p

abbrev pub class_count : Grid → ℕ
class_count g = count (leads (least_of g)) (points_of g)

pub class-numbers : (g : Grid) → Classing g (class_of g) (class_count g)
class-numbers g = numbering g (least_of g) (least-law g)

-- a list of the first n values
values : (c : ℕ → ℕ) (n : ℕ) → (xs : List ℕ) × (length xs ≡ n) × ((p : ℕ) → p < n → at xs p ≡ c p)
values c zero = ([], refl, λ p h. absurd (not-suc-le-zero h))
values c (suc n) = let w = values (λ i. c (suc i)) n in (c 0 ∷ w.0, ap suc w.1, by_place w.0 w.2)
  where
    by_place : (xs : List ℕ) → ((p : ℕ) → p < n → at xs p ≡ c (suc p)) → (p : ℕ) → p < suc n → at (c 0 ∷ xs) p ≡ c p
    by_place xs f zero h = refl
    by_place xs f (suc p) h = f p (le_of_suc-le-suc h)

-- the list of a grid's classes
pub record Listing (g : Grid) : Type 0 where
  pub numbers : List ℕ
  pub classes : Classes g numbers (class_count g)

pub listing : (g : Grid) → Listing g
listing g =
    let w = values (class_of g) (points_of g) in
    record {
      numbers = w.0;
      classes = record { long = w.1; classing = classing-along g (class_of g) (at w.0) (class_count g) w.2 (class-numbers g) };
    }
