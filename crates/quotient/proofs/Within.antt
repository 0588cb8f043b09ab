-- What is taken within less is taken within more; and bandsum's own limits are document 01's. Assumes nothing.
use Rattle.refusal.specs.declared.Refusal.TheVariants.{BadDimension, BadReflection, ShortAxis, TooManyCells, TooManyVertices}
use Rattle.refusal.specs.Says.{Answer, fine}
use mathlib.Core.Path.{◌≡◌, refl}
use mathlib.Core.Bool.{Bool, false}
use Prim.Native.Nat.{ℕ, ◌≤◌}
use native.Mathlib.Nat.{le_trans}
use lib.Dec.{ltb}
use borrow.Author.Tests.{le-ltb, ltb-false}
use Rattle.refusal.specs.Refuse.{refuse}
use Rattle.refusal.specs.Limits.{band_dimension, band_cells, band_vertices}
use Rattle.refusal.proofs.Chain.{refuse-fine}
use Rattle.quotient.specs.declared.Grid.{Grid}
use Rattle.quotient.specs.Shape.{bad_reflection, short_axis, cell_count, vertices_of, check_within, check_of}

-- no test of the chain passed
tests-passed : (a b c d e f : Bool) (m n : ℕ)
    → refuse a BadDimension (refuse b BadDimension (refuse c (BadReflection m) (refuse d (ShortAxis n) (refuse e TooManyCells (refuse f TooManyVertices fine))))) ≡ fine
    → (a ≡ false) × (b ≡ false) × (c ≡ false) × (d ≡ false) × (e ≡ false) × (f ≡ false)
tests-passed a b c d e f m n h =
    let p6 : Answer = refuse f TooManyVertices fine in
    let p5 : Answer = refuse e TooManyCells p6 in
    let p4 : Answer = refuse d (ShortAxis n) p5 in
    let p3 : Answer = refuse c (BadReflection m) p4 in
    let p2 : Answer = refuse b BadDimension p3 in
    let e1 = refuse-fine a _ p2 h in
    let e2 = refuse-fine b _ p3 e1.1 in
    let e3 = refuse-fine c _ p4 e2.1 in
    let e4 = refuse-fine d _ p5 e3.1 in
    let e5 = refuse-fine e _ p6 e4.1 in
    let e6 = refuse-fine f _ fine e5.1 in
    (e1.0, e2.0, e3.0, e4.0, e5.0, e6.0)

module _ (g : Grid) (D C N D' C' N' : ℕ) (hD : D ≤ D') (hC : C ≤ C') (hN : N ≤ N') where
  -- a grid that is taken within D dimensions, C cells and N vertices is taken within more
  pub within_more : check_within D C N g ≡ fine → check_within D' C' N' g ≡ fine
  within_more taken =
      let t = tests-passed (ltb g.d 1) (ltb D g.d) (ltb (bad_reflection g) g.d) (ltb (short_axis g) g.d) (ltb C (cell_count g)) (ltb N (vertices_of g)) (bad_reflection g) (short_axis g) taken in
      rw (t.0, le-ltb D' g.d (le_trans (ltb-false _ _ t.1) hD), t.2, t.3, le-ltb C' (cell_count g) (le_trans (ltb-false _ _ t.4) hC), le-ltb N' (vertices_of g) (le_trans (ltb-false _ _ t.5) hN))

-- bandsum's limits are the library's, so its check is the library's
pub band-check : (g : Grid) → check_within band_dimension band_cells band_vertices g ≡ check_of g
unfolding check_of
band-check g = refl
