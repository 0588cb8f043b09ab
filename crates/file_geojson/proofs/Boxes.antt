-- The box of a cell, and the columns and rows of its corners: an even cell steps east and then north, an odd one north and then east. Assumes nothing.
use Rattle.refusal.specs.Says.{fine}
use mathlib.Core.Path.{◌≡◌, ap, ◌∙◌}
use mathlib.Core.List.{List, [], ◌∷◌}
use Prim.Native.Nat.{ℕ, ◌+◌, ◌-◌, ◌/◌, ◌%◌, ◌≤◌, ◌<◌}
use native.Mathlib.Omega.{arith}
use lib.ListN.{length, get_or, take}
use Rattle.multiindex.specs.Permutation.{orders, order_of}
use Rattle.quotient.specs.declared.Grid.{Grid}
use Rattle.quotient.specs.Shape.{cells_on, check_of}
use Rattle.quotient.specs.Reduce.{coord_at}
use Rattle.quotient.proofs.Radix.{coord-of-point}
use Rattle.grid_words.specs.Cells.{box_at}
use Rattle.grid_words.specs.WorkNumbered.{stride_of, each_box, order_at, corner_of}
use Rattle.grid_words.proofs.Corners.{times_in, times-all, order-once, dim, box-lt, turn-lt, at, corner-point, corner-step}

module _ (g : Grid) (taken : check_of g ≡ fine) (flat : g.d ≡ 2) (x : ℕ) where
  -- the box of cell x
  abbrev pub column : ℕ
  column = box_at g (x / each_box g) 0

  abbrev pub row : ℕ
  row = box_at g (x / each_box g) 1

  pub column-in : column < cells_on g 0
  column-in = box-lt g taken (x / each_box g) 0 (omega (arith, flat))

  pub row_in : row < cells_on g 1
  row_in = box-lt g taken (x / each_box g) 1 (omega (arith, flat))

  corner-at : (j k : ℕ) → j ≤ 2 → k < 2 → coord_at g (corner_of g x j) k ≡ box_at g (x / each_box g) k + times_in k (take j (order_at g x))
  corner-at j k h l =
      ap (λ (p : ℕ). coord_at g p k) (corner-point g taken x j (omega (arith, flat)))
      ∙ coord-of-point g (at g taken x j)
      (λ i q.
      omega (arith, box-lt g taken (x / each_box g) i q, times-all i (order_at g x) j, order-once g.d (each_box g - 1 - x % each_box g) i (dim g taken) (turn-lt g taken x) q)) k (omega (arith, flat))

  order-two : order_at g x ≡ order_of 2 (1 - x % 2)
  order-two = ap (λ (d : ℕ). order_of d (length (orders d) - 1 - x % length (orders d))) flat

  module _ (e : x % 2 ≡ 0) where
    order-east : order_at g x ≡ 0 ∷ 1 ∷ []
    order-east = order-two ∙ ap (λ (r : ℕ). order_of 2 (1 - r)) e

    pub east-at : (j k : ℕ) → j ≤ 2 → k < 2 → coord_at g (corner_of g x j) k ≡ box_at g (x / each_box g) k + times_in k (take j (0 ∷ 1 ∷ []))
    east-at j k h l = corner-at j k h l ∙ ap (λ (o : List ℕ). box_at g (x / each_box g) k + times_in k (take j o)) order-east

    pub east-step : corner_of g x 1 ≡ corner_of g x 0 + stride_of g 0
    east-step = corner-step g taken x 0 (omega (arith, flat)) ∙ ap (λ (o : List ℕ). corner_of g x 0 + stride_of g (get_or o 0 0)) order-east

  module _ (e : x % 2 ≡ 1) where
    order-north : order_at g x ≡ 1 ∷ 0 ∷ []
    order-north = order-two ∙ ap (λ (r : ℕ). order_of 2 (1 - r)) e

    pub north-at : (j k : ℕ) → j ≤ 2 → k < 2 → coord_at g (corner_of g x j) k ≡ box_at g (x / each_box g) k + times_in k (take j (1 ∷ 0 ∷ []))
    north-at j k h l = corner-at j k h l ∙ ap (λ (o : List ℕ). box_at g (x / each_box g) k + times_in k (take j o)) order-north

    pub north-step : corner_of g x 1 ≡ corner_of g x 0 + stride_of g 1
    north-step = corner-step g taken x 0 (omega (arith, flat)) ∙ ap (λ (o : List ℕ). corner_of g x 0 + stride_of g (get_or o 0 0)) order-north
