-- The patterns that stand ready in a table, those of dimensions 2 and 3 refined by 2, 3 and 4; and how it holds them. Assumes nothing.
use Rattle.std.specs.Prelude.{◌≡◌, Bool, true, false, List, [], ◌∷◌, map, ℕ, zero, suc, ◌+◌, ◌*◌, ◌/◌, ◌%◌, ◌≤◌, ◌<◌, length, get_or}
use Rattle.multiindex.specs.Permutation.{gather}
use Rattle.refine_lattice.specs.Pattern.{pattern_of}

-- the weights of a corner in one number: w0 + 16 w1 + 256 w2 + 4096 w3
abbrev pub packed : List ℕ → ℕ
packed [] = 0
packed (w ∷ ws) = w + 16 * packed ws

-- n weights taken out of such a number
abbrev pub unpacked : ℕ → ℕ → List ℕ
unpacked zero corner = []
unpacked (suc n) corner = corner % 16 ∷ unpacked n (corner / 16)

-- the corners of the six patterns by the stepping rule, packed, one pattern after the other
unfoldable pub ready_corners : List ℕ
ready_corners = gather (λ d. gather (λ R. map packed (pattern_of d R)) (2 ∷ 3 ∷ 4 ∷ [])) (2 ∷ 3 ∷ [])

-- the pattern is one of the six
pub record InTable (d R : ℕ) : Type 0 where
  pub axes_from : 2 ≤ d
  pub axes_to : d ≤ 3
  pub least : 2 ≤ R
  pub most : R ≤ 4

-- whether the pattern is one of the six
pub record Tested (d R : ℕ) (answer : Bool) : Type 0 where
  pub yes : answer ≡ true → InTable d R
  pub no : answer ≡ false → InTable d R → ⊥

-- the pattern's corners stand in the table from there on
pub record Begins (d R start : ℕ) : Type 0 where
  pub within : start + length (pattern_of d R) ≤ length ready_corners
  pub corner : (i : ℕ) → i < length (pattern_of d R) → get_or ready_corners (start + i) 0 ≡ packed (get_or (pattern_of d R) i [])
