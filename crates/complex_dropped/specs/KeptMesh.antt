-- Document 02, K11, sentence by sentence, of a call that is not refused: what stays is the mesh that it was. Assumes nothing.
use Rattle.std.specs.Prelude.{true}
use Rattle.complex_dropped.specs.Says.{Dropping, kept_of}
use Rattle.refusal.specs.Says.{Verdict}
use Rattle.std.specs.Prelude.{Ok}
use Rattle.std.specs.Prelude.{List, map, ◌≡◌, ℕ, suc, ◌+◌, ◌/◌, ◌<◌, length, get_or}
use Rattle.lists.specs.Tables.{upto}
use Rattle.refusal.specs.Lent.{onto}
use Rattle.lists.specs.Words.{largest_of}
use Rattle.multiindex.specs.Sign.{Sign}
use Rattle.complex.specs.Check.{answer_of}
use Rattle.complex.specs.Cells.{cells_of}
use Rattle.complex.specs.Facets.{cell_at, Mates, Crowded}
use Rattle.orientation_signs.specs.Signs.{Coherent, sign_list}
use Rattle.orientation_laws.specs.Asked.{OrientByCalled}
use Rattle.complex_dropped.specs.Kept.{new_number, corners, cells_left}

-- the old number of the cell that is now cell c
abbrev pub old_cell : ℕ → List ℕ → List ℕ → ℕ → ℕ
old_cell d ws gone c = get_or (cells_left (cells_of d ws) gone) c 0

-- what holds of the words `out` and the old numbers `old` that are handed out for the words ws without the cells `gone`
pub record KeptMesh (d : ℕ) (ws gone out old : List ℕ) : Type 0 where
  -- the others keep their words: read by the old numbers they are those that were given
  pub words : map (λ v. get_or old v 0) out ≡ corners d ws gone
  -- vertices are numbered densely, in their old order
  pub dense : suc (largest_of out) ≡ length old
  pub rising : (i j : ℕ) → i < j → j < length old → get_or old i 0 < get_or old j 0
  -- the cells are the kept ones by their new numbers, in the same order
  pub cells : cells_of d out ≡ map (λ c. map (new_number (corners d ws gone)) (cell_at (cells_of d ws) c)) (cells_left (cells_of d ws) gone)
  -- a facet keeps at most its old cells: two cells that have one facet had it before
  pub facets : (c i c' i' : ℕ) → Mates d (cells_of d out) c i c' i' → Mates d (cells_of d ws) (old_cell d ws gone c) i (old_cell d ws gone c') i'
  -- so 7 cannot occur, and none of 1 to 6 either
  pub uncrowded : Crowded d (cells_of d out) → ⊥
  pub fine : answer_of d out ≡ Ok tt
  -- signs coherent before are coherent after, each kept cell with its own; so `orient_by` says yes to them, above dimension 0
  pub coherent : (σ : ℕ → Sign) → Coherent d (cells_of d ws) σ → Coherent d (cells_of d out) (λ c. σ (old_cell d ws gone c))
  pub agreed : (σ : ℕ → Sign) → Coherent d (cells_of d ws) σ → 0 < d → (r : Verdict)
      → OrientByCalled d out (sign_list (λ c. σ (old_cell d ws gone c)) (length (cells_of d out))) r → r ≡ Ok true

-- Removing nothing changes nothing: all words stay as they were given, and each vertex keeps its number.
pub record Unchanged (d : ℕ) (ws : List ℕ) (r : Dropping) (kept kept' old old' : List ℕ) : Type 0 where
  pub says : r ≡ kept_of (length ws / (d + 1)) (suc (largest_of ws))
  pub words : kept' ≡ onto ws kept
  pub numbers : old' ≡ onto (upto (suc (largest_of ws))) old
