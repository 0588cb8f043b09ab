-- The table of refusals, case by case: what the tests on the way say of a grid decides its answer. Assumes nothing.
use Rattle.refusal.specs.declared.Refusal.{Refusal}
use Rattle.refusal.specs.declared.Refusal.TheVariants.{BadDimension, BadReflection, BadSide, ShortAxis, TooManyCells, TooManyVertices}
use Rattle.refusal.specs.Says.{Answer, Counted, fine}
use Rattle.std.specs.Prelude.{Err, Ok}
use mathlib.Core.Path.{◌≡◌, refl}
use mathlib.Core.Bool.{Bool, true, false, not}
use Prim.Native.Nat.{ℕ, ◌+◌, ◌≤◌, ◌<◌, min}
use native.Mathlib.Omega.{arith}
use borrow.Author.Tests.{lt-ltb, le-ltb}
use Rattle.quotient.specs.declared.Grid.{Grid}
use Rattle.quotient.specs.Fold.{some}
use Rattle.refusal.specs.Limits.{most_dimension}
use Rattle.grid_sides.specs.Counts.{first_bad}
use Rattle.quotient.specs.Shape.{reflects_odd, parity_of, shape_check, counted_after, check_of, sides_check_of, bad_reflection, short_axis, cell_count, vertices_of}
use Rattle.quotient.specs.Work.{shape_count, count_within}

-- ---- from 9 on, within C cells and N vertices
module _ (C N : ℕ) (g : Grid) (b : ℕ) (eb : b ≡ bad_reflection g) where
  pub is-9 : b < g.d → Err (BadReflection b) ≡ shape_count C N g
  is-9 h = rw (← eb, lt-ltb _ _ h)

  module _ (hb : g.d ≤ b) (s : ℕ) (es : s ≡ short_axis g) where
    pub is-8 : s < g.d → Err (ShortAxis s) ≡ shape_count C N g
    is-8 h = rw (← eb, le-ltb _ _ hb, ← es, lt-ltb _ _ h)

    module _ (hs : g.d ≤ s) (n : ℕ) (en : n ≡ min (cell_count g) (C + 1)) where
      pub is-3 : C < n → Err TooManyCells ≡ shape_count C N g
      is-3 h = let m : C < cell_count g = omega arith in rw (← eb, le-ltb _ _ hb, ← es, le-ltb _ _ hs, lt-ltb _ _ m)

      module _ (hn : n ≤ C) (k : ℕ) (ek : k ≡ min (vertices_of g) (N + 1)) where
        cells-fine : cell_count g ≤ C
        cells-fine = omega arith

        pub is-6 : N < k → Err TooManyVertices ≡ shape_count C N g
        is-6 h = let m : N < vertices_of g = omega arith in rw (← eb, le-ltb _ _ hb, ← es, le-ltb _ _ hs, le-ltb _ _ cells-fine, lt-ltb _ _ m)

        -- within the limit the count is not capped
        pub is-count : k ≤ N → Ok k ≡ shape_count C N g
        is-count h =
            let m : vertices_of g ≤ N = omega arith in
            let e : k ≡ vertices_of g = omega arith in
            rw (← eb, le-ltb _ _ hb, ← es, le-ltb _ _ hs, le-ltb _ _ cells-fine, le-ltb _ _ m, e)

-- ---- what a count says of the check before it
pub check-refused : (a : Answer) (x : ℕ) (why : Refusal) → Err why ≡ counted_after a (Ok x) → Err why ≡ a
check-refused (Ok _) x why e = cc
check-refused (Err other) x why e = cc

pub check-fine : (a : Answer) (x n : ℕ) → Ok n ≡ counted_after a (Ok x) → fine ≡ a
check-fine (Ok _) x n e = refl
check-fine (Err other) x n e = cc

-- ---- before it
module _ (D C N : ℕ) (g : Grid) where
  pub is-1 : g.d < 1 → Err BadDimension ≡ count_within D C N g
  is-1 h = rw (lt-ltb _ _ h)

  pub is-1-too : 1 ≤ g.d → D < g.d → Err BadDimension ≡ count_within D C N g
  is-1-too l h = rw (le-ltb _ _ l, lt-ltb _ _ h)

  pub is-rest : 1 ≤ g.d → g.d ≤ D → (a : Counted) → a ≡ shape_count C N g → a ≡ count_within D C N g
  is-rest l u a e = rw (le-ltb _ _ l, le-ltb _ _ u) e

module _ (g : Grid) where
  pub sides-1 : g.d < 1 → Err BadDimension ≡ sides_check_of g
  unfolding sides_check_of
  sides-1 h = rw (lt-ltb _ _ h)

  pub sides-1-too : 1 ≤ g.d → most_dimension < g.d → Err BadDimension ≡ sides_check_of g
  unfolding sides_check_of
  sides-1-too l h = rw (le-ltb _ _ l, lt-ltb _ _ h)

  module _ (l : 1 ≤ g.d) (u : g.d ≤ most_dimension) (b : ℕ) (eb : b ≡ first_bad g.sides g.d) where
    pub sides-10 : b < g.d → Err (BadSide b) ≡ sides_check_of g
    unfolding sides_check_of
    sides-10 h = rw (le-ltb _ _ l, le-ltb _ _ u, ← eb, lt-ltb _ _ h)

    pub sides-rest : g.d ≤ b → (a : Answer) → a ≡ shape_check g → a ≡ sides_check_of g
    unfolding sides_check_of
    sides-rest h a e = rw (le-ltb _ _ l, le-ltb _ _ u, ← eb, le-ltb _ _ h) e

-- ---- orientation
module _ (g : Grid) where
  pub parity-refused : (why : Refusal) → Err why ≡ check_of g → Err why ≡ parity_of g
  unfolding parity_of
  parity-refused why e = rw (← e)

  pub parity-is : fine ≡ check_of g → {r : Bool} → r ≡ some (reflects_odd g) g.d → Ok (not r) ≡ parity_of g
  unfolding parity_of
  parity-is e h = rw (← e, h)

  pub parity-even : fine ≡ check_of g → some (reflects_odd g) g.d ≡ false → Ok true ≡ parity_of g
  unfolding parity_of
  parity-even e h = rw (← e, h)
