-- The corners that a call works on, and the lengths of the four working lists as a list. Assumes nothing.
use Rattle.std.specs.Prelude.{cond, List, [], ◌∷◌, ◌≡◌, ℕ, suc, ◌*◌, ◌≤◌, ltb}
use Rattle.refusal.specs.declared.Room.{Room}
use Rattle.refusal.specs.Limits.{most_cells, most_dimension}

-- the corners that a call can come to work on: none where the dimension or the number of cells is refused before the lists are looked at
unfoldable pub worked : ℕ → ℕ → ℕ
worked d n = cond (ltb most_dimension d) 0 (cond (ltb (most_cells * suc d) n) 0 n)

-- r is that number, and within the limits
pub record Worked (d n r : ℕ) : Type 0 where
  pub is : r ≡ worked d n
  pub most : r ≤ most_cells * suc most_dimension
  pub keys : d * r ≤ most_dimension * (most_cells * suc most_dimension)

-- the four working lists
abbrev pub lists : Room → List ℕ
lists need = need.keys ∷ need.rows ∷ need.spare ∷ need.counts ∷ []
