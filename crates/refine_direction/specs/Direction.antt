-- Document 02, "Children inherit direction": the parent's sign times the sign of the child's whole-number Jacobian determinant, which is +1 or -1, is coherent over the
-- children. Over the lists that a refinement hands out, each child as the call `child` reads it from them. Assumes nothing.
use Rattle.refusal.specs.declared.Refusal.{Refusal}
use Rattle.refusal.specs.declared.Refusal.TheVariants.{NoSigns}
use Rattle.refusal.specs.Says.{Verdict}
use Rattle.std.specs.Prelude.{List, ◌⊎◌, ◌≡◌, ℕ, suc, ◌+◌, ◌*◌, ◌<◌, ℤ, pos, negsuc, length, get_or, replicate, true, Err, Ok, Result}
use Rattle.lists.specs.Rows.{rows}
use Rattle.multiindex.specs.Sign.{Sign, plus, minus, times}
use Rattle.complex.specs.Cells.{cells_of}
use Rattle.orientation_signs.specs.Signs.{Coherent, sign_list}
use Rattle.orientation.specs.declared.Coherence.{Coherence}
use Rattle.orientation.specs.Promise.{counted_of}
use Rattle.orientation_laws.specs.Asked.{OrientByCalled, OrientationCalled}
use Rattle.ordering_words.specs.Order.{AgreeOnFacets}
use Rattle.refine_lattice.specs.Jacobian.{Matrix, laplace}
use Rattle.refine_jacobian.specs.Entries.{nought}
use Rattle.refine_results.specs.Says.{sizes}
use Rattle.refine_results.specs.Refined.{order_words}
use Rattle.refine_results.specs.Results.{Results}
use Rattle.refine_values.specs.declared.Child.{Child}
use Rattle.refine_values.specs.Reading.{child_of}
use Rattle.refine_laws.specs.Calls.{Refine, RefineWith}

-- what is read of a child: all zero where it is refused
abbrev pub child_said : Result Child Refusal → Child
child_said (Ok child) = child
child_said (Err why) = record { parent = 0; jacobian = replicate 9 nought; whole = replicate 9 (pos 0) }

-- child i of the lists h
abbrev pub child_in : Results → ℕ → Child
child_in h i = child_said (child_of i h.parents_out h.jacobians_out h.wholes_out)

-- the matrix that a child's entries hold: d columns of d entries, column by column
abbrev pub matrix_of : ℕ → List ℤ → Matrix
matrix_of d entries column row = get_or entries (column * d + row) (pos 0)

-- the determinant of child i's whole-number Jacobian; the empty one, in dimension 0, is 1
abbrev pub determinant_of : ℕ → Results → ℕ → ℤ
determinant_of d h i = laplace d (matrix_of d (child_in h i).whole)

-- the sign of a whole number
abbrev pub sign_of_whole : ℤ → Sign
sign_of_whole (pos n) = plus
sign_of_whole (negsuc n) = minus

-- the sign that child i has from its parent, where σ are the signs of the coarse cells
abbrev pub inherited : ℕ → Results → (ℕ → Sign) → ℕ → Sign
inherited d h σ i = times (σ (child_in h i).parent) (sign_of_whole (determinant_of d h i))

-- what holds of a refinement that said m children and handed out h
pub record Inherits (d m : ℕ) (h : Results) (σ : ℕ → Sign) : Type 0 where
  -- each determinant is 1 or -1
  pub unit : (i : ℕ) → i < m → (determinant_of d h i ≡ pos 1) ⊎ (determinant_of d h i ≡ negsuc 0)
  -- the inherited signs are coherent over the children
  pub coherent : Coherent d (cells_of d h.cells_out) (inherited d h σ)
  -- so `orient_by` says yes to them, above dimension 0, and `orientation` never says that there are none
  pub agreed : 0 < d → (r : Verdict) → OrientByCalled d h.cells_out (sign_list (inherited d h σ) m) r → r ≡ Ok true
  pub two_sided : (r : Result Coherence Refusal) → OrientationCalled d h.cells_out r → counted_of r ≡ Err NoSigns → ⊥
  -- where cell i of the children is row i of their cells
  pub cells : cells_of d h.cells_out ≡ rows (suc d) h.cells_out
  pub many : length (cells_of d h.cells_out) ≡ m

-- CHILDREN INHERIT DIRECTION, for an order that agrees on every facet and coherent signs σ of the coarse cells. The call is accepted, and so had room and result lists
-- that are long enough.
unfoldable pub InheritLaw : ℕ → ℕ → List ℕ → List ℕ → Type 0
InheritLaw d R ws os =
    (m N : ℕ) (h : Results) (σ : ℕ → Sign)
    → RefineWith d R ws os (sizes m N) h
    → AgreeOnFacets d (cells_of d ws) (order_words d ws os)
    → Coherent d (cells_of d ws) σ
    → Inherits d m h σ

-- and along the cells' sorted vertices, which always agree
unfoldable pub InheritLawSorted : ℕ → ℕ → List ℕ → Type 0
InheritLawSorted d R ws =
    (m N : ℕ) (h : Results) (σ : ℕ → Sign) → Refine d R ws (sizes m N) h → Coherent d (cells_of d ws) σ → Inherits d m h σ
