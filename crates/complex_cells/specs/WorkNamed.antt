-- A list of words as rows of a flat list, named by their numbers. Assumes nothing.
use Rattle.std.specs.Prelude.{List, [], ◌∷◌, ◌≡◌, ℕ, ◌+◌, ◌*◌, ◌<◌, ◌≤◌, length, get_or, take}
use Rattle.lists.specs.Rows.{row}

-- the rows of a flat list that a list of numbers names
abbrev pub row_list : List ℕ → ℕ → List ℕ → List (List ℕ)
row_list keys stride [] = []
row_list keys stride (x ∷ xs) = row keys stride x ∷ row_list keys stride xs

-- the first m of list are numbers of rows of keys
pub record Naming (stride m : ℕ) (keys list : List ℕ) : Type 0 where
  pub inside : (i : ℕ) → i < m → get_or list i 0 * stride + stride ≤ length keys
  pub long : m ≤ length list
  pub few : m < 4294967296
  pub fits : m * stride < 4294967296

-- and those rows are the words
pub record Named (words : List (List ℕ)) (stride m : ℕ) (keys list : List ℕ) : Type 0 where
  pub rows : Naming stride m keys list
  pub same : words ≡ row_list keys stride (take m list)
