-- The births of a refinement as a mesh file has them: a birth is given by its shares of the n vertices before it. Assumes nothing.
use Rattle.std.specs.Prelude.{List, [], ◌∷◌, ◌++◌, ◌≡◌, ℕ, suc, ◌≤◌, length}
use Rattle.lists.specs.Rows.{flat}
use Rattle.refine_lattice.specs.Refine.{positives, births}
use Rattle.refine_results.specs.Refined.{refined_words}
use Rattle.file_mesh.specs.Mesh.{Mesh}
use Rattle.refine_births.specs.Support.{supporters, shares, total}

-- the births by number, from `next` on: number, R, count of pairs
unfoldable pub numbered : ℕ → ℕ → List (List ℕ) → List ℕ
numbered R next [] = []
numbered R next (l ∷ ls) = next ∷ (R ∷ (positives l ∷ numbered R (suc next) ls))

-- vertices with their weights
unfoldable pub beside : List ℕ → List ℕ → List ℕ
beside [] ws = []
beside (v ∷ vs) [] = []
beside (v ∷ vs) (w ∷ ws) = v ∷ (w ∷ beside vs ws)

-- the pairs of all births: the vertices of the support, rising, each with its share
unfoldable pub pairs : List (List ℕ) → List ℕ
pairs [] = []
pairs (l ∷ ls) = beside (supporters 0 l) (shares l) ++ pairs ls

-- a birth between two or more of n vertices, with R shares in all
pub record Between (R n : ℕ) (l : List ℕ) : Type 0 where
  pub low : length l ≤ n
  pub many : 2 ≤ positives l
  pub sum : total l ≡ R

-- the mesh that n vertices and the words ks, refined by R, hand out
abbrev pub refined_mesh : ℕ → ℕ → ℕ → List (List ℕ) → Mesh
refined_mesh d R n ks = record { d = d; words = flat (refined_words d R n ks); births = numbered R n (births d R n ks); pairs = pairs (births d R n ks) }
