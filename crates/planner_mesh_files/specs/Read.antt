-- What reading a mesh file returns to C. Assumes nothing.
use Rattle.std.specs.Prelude.{List, [], ◌∷◌, ℕ, Result}
use Rattle.refusal.specs.declared.Refusal.{Refusal}
use Rattle.file_mesh_read.specs.declared.Reading.{Reading}
use Rattle.planner_passing.specs.Said.{answer_code, answer_list}

-- how many cells the file has
abbrev pub read_code : Result Reading Refusal → ℕ
read_code = answer_code (λ (mesh : Reading). mesh.cells)

-- the dimension, and how many births and pairs; on a refusal what stood there
abbrev pub read_shape : Result Reading Refusal → List ℕ → List ℕ
read_shape = answer_list (λ (mesh : Reading). mesh.dimension ∷ (mesh.births ∷ (mesh.pairs ∷ [])))
