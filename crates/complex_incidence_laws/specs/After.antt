-- Document 02, K13 after K11: an index with the gone cells taken out. Assumes nothing.
use Rattle.std.specs.Prelude.{cond, not, List, [], ◌∷◌, map, ◌≡◌, ℕ, length, get_or}
use Rattle.refusal.specs.Lent.{onto}
use Rattle.lists.specs.Words.{among}
use Rattle.lists.specs.Rows.{flat}
use Rattle.complex.specs.Skeleton.{numbers}
use Rattle.complex_faces.specs.Index.{starts_of, word_index}
use Rattle.complex_dropped.specs.Kept.{kept_words, old_numbers}

-- the new number of cell c: how many of the cells below it stay
abbrev pub new_cell : List ℕ → ℕ → ℕ
new_cell gone c = length (numbers (λ b. not (among b gone)) c)

-- the cells of a list that do not go, by their new numbers
unfoldable pub without_gone : List ℕ → List ℕ → List ℕ
without_gone gone [] = []
without_gone gone (c ∷ cells) = cond (among c gone) (without_gone gone cells) (new_cell gone c ∷ without_gone gone cells)

-- an index without the gone cells, for the vertices that are left: `old` has the old number of each
abbrev pub index_left : List (List ℕ) → List ℕ → List ℕ → List (List ℕ)
index_left index gone old = map (λ v. without_gone gone (get_or index v [])) old

-- the index of the words that stay, built afresh, is the old index without the gone cells
abbrev pub IndexAfterDrop : ℕ → List ℕ → List ℕ → Type 0
IndexAfterDrop d ws gone = word_index d (kept_words d ws gone) ≡ index_left (word_index d ws) gone (old_numbers d ws gone)

-- the same over the calls: the lists that `incidence` hands out for the words that `drop_cells` handed out
pub record IndexAgain (d : ℕ) (ws gone touching touching' starts starts' : List ℕ) : Type 0 where
  pub cells : touching' ≡ onto (flat (index_left (word_index d ws) gone (old_numbers d ws gone))) touching
  pub places : starts' ≡ onto (starts_of (index_left (word_index d ws) gone (old_numbers d ws gone))) starts
