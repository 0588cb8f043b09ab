-- With lists of the lengths that are told, a call of honest gluing never says 12. Assumes nothing.
use Rattle.refusal.specs.declared.Refusal.TheVariants.{BadDimension, BadReflection, ShortAxis, TooManyCells, TooShort}
use Rattle.grid_chained.specs.Says.{Classed}
use Rattle.refusal.specs.Says.{Counted, fine}
use Rattle.std.specs.Prelude.{Err}
use mathlib.Core.List.{List, [], ◌∷◌}
use mathlib.Core.Path.{◌≡◌}
use Prim.Native.Nat.{ℕ, ◌≤◌}
use native.Mathlib.Omega.{arith}
use lib.Dec.{ltb}
use lib.ListN.{length}
use Rattle.refusal.specs.Limits.{most_dimension, most_cells}
use Rattle.refusal.specs.Lent.{lengths}
use Rattle.quotient.specs.declared.Grid.{Grid}
use Rattle.quotient.specs.Shape.{bad_reflection, short_axis, cell_count}
use Rattle.quotient.specs.Points.{points_of}
use Rattle.grid_mesh.specs.Words.{corners_of, grid_need}
use Rattle.grid_chained.specs.Shape.{shape_of, need_of}
use Rattle.grid_chained.specs.PromiseClasses as classing
use Rattle.grid_chained.specs.PromiseCount as counting
use Rattle.grid_chained.specs.PromiseReduce as reducing
use Rattle.grid_chained.proofs.Taken.{high, few_cells, points-need}
use Rattle.grid_chained_mesh.specs.Words as chained
use Rattle.grid_chained_mesh.proofs.Steps.{corners}
use Rattle.needs.specs.Needs.{worked}
use Rattle.needs.specs.Enough.{Long}
use Rattle.needs.proofs.Enough.{passes_over, fine-never, call-never-says, never-says, roomy_of}
use Rattle.planner_needs_grids.specs.Needs.{words_need, classes_need}
use Rattle.planner_needs_grids.proofs.Enough.{corners-told}

-- ---- the check never says 12
pub shape-never : (g : Grid) → shape_of g ≡ Err TooShort → ⊥
unfolding shape_of
shape-never g =
    passes_over (ltb g.d 1) BadDimension _ (λ (e : BadDimension ≡ TooShort). cc)
    (passes_over (ltb most_dimension g.d) BadDimension _ (λ (e : BadDimension ≡ TooShort). cc)
    (passes_over (ltb (bad_reflection g) g.d) (BadReflection (bad_reflection g)) _ (λ (e : BadReflection (bad_reflection g) ≡ TooShort). cc)
    (passes_over (ltb (short_axis g) g.d) (ShortAxis (short_axis g)) _ (λ (e : ShortAxis (short_axis g) ≡ TooShort). cc)
    (passes_over (ltb most_cells (cell_count g)) TooManyCells _ (λ (e : TooManyCells ≡ TooShort). cc)
    fine-never))))

told : (g : Grid) → shape_of g ≡ fine → (need : ℕ → List ℕ) (have : List ℕ) → Long (need (worked g.d (corners_of g))) have → Long (need (corners_of g)) have
told g fine = corners-told g.d (cell_count g) (high g fine) (few_cells g fine)

-- ---- how the calls end
words-end : (g : Grid) (given : ℕ) → shape_of g ≡ fine → corners_of g ≤ given → (r : Counted) (h : List ℕ) → chained.WordsEnd g given r h → r ≡ Err TooShort → ⊥
words-end g given fine fits r h (chained.many numbers m c l) t = cc
words-end g given fine fits r h (chained.twice ws w l) t = cc
words-end g given fine fits r h (chained.crowded ws a x) t = cc
words-end g given fine fits r h (chained.short ws a free less) t = omega (arith, less, fits, corners g fine ws a.of)
words-end g given fine fits r h (chained.written ws a free enough) t = cc

classes-end : (g : Grid) (numbers : List ℕ) (m given : ℕ) → points_of g ≤ given → (r : Counted) (h : List ℕ) → classing.ClassesEnd g numbers m given r h → r ≡ Err TooShort → ⊥
classes-end g numbers m given fits r h (classing.many l) t = cc
classes-end g numbers m given fits r h (classing.short l less) t = omega (arith, less, fits)
classes-end g numbers m given fits r h (classing.written l enough) t = cc

count-end : (m : ℕ) (r : Counted) (h : List ℕ) → counting.CountEnd m r h → r ≡ Err TooShort → ⊥
count-end m r h (counting.many l) t = cc
count-end m r h (counting.counted l) t = cc

reduce-end : (g : Grid) (numbers : List ℕ) (m v : ℕ) (r : Classed) (h : List ℕ) → reducing.ReduceEnd g numbers m v r h → r ≡ Err TooShort → ⊥
reduce-end g numbers m v r h (reducing.many l) t = cc
reduce-end g numbers m v r h (reducing.inside l b) t = cc
reduce-end g numbers m v r h (reducing.past l b) t = cc

-- ---- the calls
module _ (g : Grid) (room : List ℕ) {room' : List ℕ} where
  pub classes-enough : {to to' : List ℕ} {r : Counted} → classing.ClassesListed g r to to' room room' → Long (classes_need g.d (worked g.d (corners_of g))) (length to ∷ length room ∷ []) → r ≡ Err TooShort → ⊥
  classes-enough {to = to} a l t =
      call-never-says [] 0 (shape_of g) (shape-never g) (shape_of g ≡ fine) (λ e. e) (need_of g) (need_of g ≤ length room) (classing.ClassesEnd g a.numbers a.count (length to))
      (λ f. let k = told g f (classes_need g.d) (length to ∷ length room ∷ []) l in k.1.0)
      (λ f. let k = told g f (classes_need g.d) (length to ∷ length room ∷ []) l in classes-end g a.numbers a.count (length to) (omega (arith, k.0, points-need g f)))
      a.comes t

  -- the room alone
  pub nvertices-enough : {r : Counted} → counting.CountedTo g r room room' → worked g.d (corners_of g) ≤ length room → r ≡ Err TooShort → ⊥
  nvertices-enough a l t =
      call-never-says [] 0 (shape_of g) (shape-never g) (shape_of g ≡ fine) (λ e. e) (need_of g) (need_of g ≤ length room) (counting.CountEnd a.count)
      (λ f. let k = told g f (λ (n : ℕ). n ∷ []) (length room ∷ []) (l, tt) in k.0)
      (λ f. count-end a.count)
      a.comes t

  pub reduce-enough : (v : ℕ) {r : Classed} → reducing.ReducedTo g v r room room' → worked g.d (corners_of g) ≤ length room → r ≡ Err TooShort → ⊥
  reduce-enough v a l t =
      call-never-says [] 0 (shape_of g) (shape-never g) (shape_of g ≡ fine) (λ e. e) (need_of g) (need_of g ≤ length room) (reducing.ReduceEnd g a.numbers a.count v)
      (λ f. let k = told g f (λ (n : ℕ). n ∷ []) (length room ∷ []) (l, tt) in k.0)
      (λ f. reduce-end g a.numbers a.count v)
      a.comes t

module _ (g : Grid) (keys rows spare counts : List ℕ) {keys' rows' spare' counts' : List ℕ} where
  pub chained-words-enough : {out out' : List ℕ} {r : Counted} → chained.CellWords g r out out' keys keys' rows rows' spare spare' counts counts' → Long (words_need g.d (worked g.d (corners_of g))) (length out ∷ length keys ∷ length rows ∷ length spare ∷ length counts ∷ []) → r ≡ Err TooShort → ⊥
  chained-words-enough {out = out} a l t =
      never-says [] (shape_of g) (shape-never g) (shape_of g ≡ fine) (λ e. e) (grid_need g) (lengths keys rows spare counts) (chained.WordsEnd g (length out))
      (λ f. let k = told g f (words_need g.d) (length out ∷ length keys ∷ length rows ∷ length spare ∷ length counts ∷ []) l in roomy_of (grid_need g) _ _ _ _ k.1)
      (λ f. let k = told g f (words_need g.d) (length out ∷ length keys ∷ length rows ∷ length spare ∷ length counts ∷ []) l in words-end g (length out) f k.0)
      a.comes t
