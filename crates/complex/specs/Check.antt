-- What the check of a cell list answers, as document 01's table and its order of checks have it. Assumes nothing.
use Rattle.refusal.specs.declared.Refusal.TheVariants.{BadDimension, RaggedWords, TooManyCells, TooManyVertices, UnusedNumber, VertexTwice}
use Rattle.refusal.specs.Says.{Answer, fine}
use Rattle.std.specs.Prelude.{◌≡◌, ℕ, ◌+◌, ◌/◌, ◌%◌, ◌≤◌, ◌<◌, true, false, not, List, length, eqb, leb, ltb}
use Rattle.refusal.specs.Refuse.{refuse}
use Rattle.refusal.specs.Limits.{most_dimension, most_cells, most_vertices}
use Rattle.lists.specs.Rows.{row}
use Rattle.lists.specs.Words.{among, has_repeat, largest_of, first_where}

-- which word is the first that names a vertex twice: the number of words, where none does
abbrev pub first_repeat : ℕ → List ℕ → ℕ → ℕ
first_repeat n ws count = first_where (λ k. has_repeat (row ws n k)) count

-- the least number below the largest that no word has: the largest, where there is none
abbrev pub least_unused : List ℕ → ℕ
least_unused ws = first_where (λ v. not (among v ws)) (largest_of ws)

-- document 01: 1, 2, 3, 4, 6, 5, in this order
unfoldable pub answer_of : ℕ → List ℕ → Answer
answer_of d ws =
    let n = d + 1 in
    let count = length ws / n in
    refuse (ltb most_dimension d) BadDimension
    (refuse (eqb (length ws) 0) RaggedWords
    (refuse (not (eqb (length ws % n) 0)) RaggedWords
    (refuse (ltb most_cells count) TooManyCells
    (refuse (ltb (first_repeat n ws count) count) (VertexTwice (first_repeat n ws count))
    (refuse (leb most_vertices (largest_of ws)) TooManyVertices
    (refuse (ltb (least_unused ws) (largest_of ws)) (UnusedNumber (least_unused ws))
    fine))))))

-- what the answer fine tells of a list: none of the six refusals applies
pub record Passed (d : ℕ) (ws : List ℕ) : Type 0 where
  pub small : d ≤ most_dimension
  pub some_words : length ws ≡ 0 → ⊥
  pub whole : length ws % (d + 1) ≡ 0
  pub few : length ws / (d + 1) ≤ most_cells
  pub apart : (k : ℕ) → k < length ws / (d + 1) → has_repeat (row ws (d + 1) k) ≡ false
  pub low : largest_of ws < most_vertices
  pub used : (v : ℕ) → v < largest_of ws → among v ws ≡ true
