-- A gluing's number from 768 on is refused with 9, as a set is that names an axis outside the grid. Assumes nothing.
use Rattle.refusal.specs.declared.Refusal.TheVariants.{BadReflection}
use Rattle.refusal.specs.Says.{Answer}
use Rattle.std.specs.Prelude.{Err}
use mathlib.Core.Path.{◌≡◌, sym, ap, ◌∙◌}
use mathlib.Core.Bool.{true, false≢true}
use mathlib.Core.Logic.{⊎_elim}
use mathlib.Core.List.{List}
use Prim.Native.Nat.{ℕ, ◌+◌, ◌*◌, ◌≤◌, ◌<◌}
use native.Mathlib.Omega.{arith}
use lib.Ieee.{Float}
use borrow.Author.Tests.{lt-ltb, le-ltb}
use Rattle.refusal.specs.Limits.{most_dimension}
use Rattle.lists.proofs.Tables.{get_or-tab}
use Rattle.lists.proofs.Words.{first-before}
use Rattle.grid_sides.specs.Counts.{first_bad}
use Rattle.quotient.specs.declared.Axis.{Axis}
use Rattle.quotient.specs.declared.Grid.{Grid}
use Rattle.quotient.specs.Fold.{member}
use Rattle.quotient.specs.Shape.{no_axis, axis_of, mask_of, mask_at, bad_set, reflects_badly, bad_reflection, check_of, sides_check_of}
use Rattle.quotient.proofs.Laws.{lt-or-ge}
use Rattle.quotient.proofs.Masks.{bad-own}
use Rattle.planner_passing.specs.Given.{every_axis, entry, axis_given, sides_given, grid_given}
use Rattle.planner_passing.proofs.Laws.{glue-past}

-- the answer is 9, at axis k or one before it
abbrev pub NineBy : ℕ → Answer → Type 0
NineBy k a = (place : ℕ) × (place ≤ k) × (a ≡ Err (BadReflection place))

-- ---- a grid one of whose axes reflects itself or an axis outside

module _ (g : Grid) (k : ℕ) (u : g.d ≤ most_dimension) (h : k < g.d) (bad : reflects_badly g k ≡ true) where
  low : bad_reflection g ≤ k
  low =
      ⊎_elim
      (λ (l : k < bad_reflection g). absurd (false≢true (sym (first-before (reflects_badly g) g.d k l) ∙ bad)))
      (λ (l : bad_reflection g ≤ k). l)
      (lt-or-ge k (bad_reflection g))

  reflection-refused : NineBy k (check_of g)
  unfolding check_of
  reflection-refused = (bad_reflection g, low, rw (le-ltb g.d 1 (omega arith), le-ltb most_dimension g.d u, lt-ltb (bad_reflection g) g.d (omega (arith, low))))

  reflection-refused-sides : g.d ≤ first_bad g.sides g.d → NineBy k (sides_check_of g)
  unfolding sides_check_of
  reflection-refused-sides fit =
      (bad_reflection g, low, rw (le-ltb g.d 1 (omega arith), le-ltb most_dimension g.d u, le-ltb (first_bad g.sides g.d) g.d fit, lt-ltb (bad_reflection g) g.d (omega (arith, low))))

-- ---- a grid that is given with such a number

-- axis k has the numbers 2k and 2k + 1 of the list
pub axis-given : (d : ℕ) (axes : List ℕ) (sides : List Float) (k : ℕ) → k < most_dimension → axis_of (grid_given d axes sides) k ≡ axis_given axes (2 * k) (2 * k + 1)
unfolding axis_of grid_given
axis-given d axes sides k h = get_or-tab most_dimension (λ i. axis_given axes (2 * i) (2 * i + 1)) k no_axis h

-- the set of every axis has each axis that a grid may have
every-member : (k : ℕ) → k < most_dimension → member every_axis k ≡ true
every-member k h = sym (get_or-tab most_dimension (member every_axis) k true h) ∙ get_or-tab most_dimension (λ i. true) k true h

module _ (d : ℕ) (axes : List ℕ) (sides : List Float) (k : ℕ) (u : d ≤ most_dimension) (h : k < d) (past : 768 ≤ entry axes (2 * k + 1)) where
  masked : mask_at (grid_given d axes sides) k ≡ every_axis
  unfolding axis_given
  masked = ap (λ (a : Axis). mask_of a.glue) (axis-given d axes sides k (omega arith)) ∙ ap mask_of (sym (glue-past (entry axes (2 * k + 1)) past))

  bad : reflects_badly (grid_given d axes sides) k ≡ true
  unfolding grid_given
  bad = ap (bad_set d k) masked ∙ bad-own d k every_axis (omega arith) (every-member k (omega arith))

  -- 9 at axis k or before it, where no dimension is refused
  pub glue-beyond : NineBy k (check_of (grid_given d axes sides))
  unfolding grid_given
  glue-beyond = reflection-refused (grid_given d axes sides) k u h bad

  -- and where no side is, for a call that reads them
  pub glue-beyond-sides : d ≤ first_bad (sides_given sides) d → NineBy k (sides_check_of (grid_given d axes sides))
  unfolding grid_given
  glue-beyond-sides fit = reflection-refused-sides (grid_given d axes sides) k u h bad fit
