-- What the calls `corners` and `corners_stepping` come to, on every input. Assumes nothing.
use Rattle.refusal.specs.declared.Refusal.TheVariants.{BadDimension, BadRefinement, TooManyCells, TooShort}
use Rattle.refusal.specs.Says.{Answer, Counted, fine}
use Rattle.std.specs.Prelude.{◌≡◌, Bool, true, List, [], ℕ, zero, suc, ◌*◌, ◌^◌, ◌≤◌, ltb, length, Err, Ok}
use Rattle.refusal.specs.Limits.{most_dimension, most_cells, most_refinement}
use Rattle.refusal.specs.Refuse.{refuse}
use Rattle.refusal.specs.Lent.{onto}
use Rattle.lists.specs.Rows.{flat}
use Rattle.refine_lattice.specs.Pattern.{pattern_of}

-- R is no refinement number
abbrev pub outside : ℕ → Bool
outside zero = true
outside (suc R) = ltb most_refinement (suc R)

-- the checks in their order, where the result list has `len` numbers: R^d children have d + 1 corners of d + 1 weights each
abbrev pub answer_of : ℕ → ℕ → ℕ → Answer
answer_of d R len =
    refuse (ltb most_dimension d) BadDimension
    (refuse (outside R) BadRefinement
    (refuse (ltb most_cells (R ^ d)) TooManyCells
    (refuse (ltb len (R ^ d * (suc d * suc d))) TooShort fine)))

-- what is said and handed out after the checks: all rows, or the refusal and nothing
abbrev pub said : Answer → List (List ℕ) → Counted
said (Ok _) rows = Ok (length rows)
said (Err why) rows = Err why

abbrev pub handed : Answer → List (List ℕ) → List ℕ
handed (Ok _) rows = flat rows
handed (Err why) rows = []

-- the call says r, and the result list becomes that with '
pub record Corners (d R : ℕ) (r : Counted) (to to' : List ℕ) : Type 0 where
  pub says : r ≡ said (answer_of d R (length to)) (pattern_of d R)
  pub list : to' ≡ onto (handed (answer_of d R (length to)) (pattern_of d R)) to

-- a cell that may be refined
pub record Few (d R : ℕ) : Type 0 where
  pub axes : d ≤ most_dimension
  pub most : R ≤ most_refinement
  pub children : R ^ d ≤ most_cells
