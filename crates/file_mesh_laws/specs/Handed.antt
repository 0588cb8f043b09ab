-- The mesh in the lists that a refinement hands out. Assumes nothing.
use Rattle.std.specs.Prelude.{List, [], ◌∷◌, ℕ, zero, suc, ◌-◌, take, drop}
use Rattle.refine_lattice.specs.Refine.{positives}
use Rattle.refine_results.specs.Results.{Results}
use Rattle.file_mesh.specs.Mesh.{Mesh}

-- each vertex with its weight, where it has one
unfoldable pub named : List ℕ → List ℕ → List ℕ
named [] ws = []
named (v ∷ vs) [] = []
named (v ∷ vs) (zero ∷ ws) = named vs ws
named (v ∷ vs) (suc w ∷ ws) = v ∷ (suc w ∷ named vs ws)

-- many births from `next` on, whose weights stand in rows of `size` numbers
unfoldable pub birth_rows : ℕ → ℕ → ℕ → ℕ → List ℕ → List ℕ
birth_rows size R next zero ws = []
birth_rows size R next (suc many) ws = next ∷ (R ∷ (positives (take size ws) ∷ birth_rows size R (suc next) many (drop size ws)))

-- the mesh of a refinement by R from n vertices to N
abbrev pub mesh_from : ℕ → ℕ → ℕ → ℕ → Results → Mesh
mesh_from d R n N h =
    record {
      d = d;
      words = h.words_out;
      births = birth_rows (suc d) R n (N - n) h.birth_weights;
      pairs = named h.birth_vertices h.birth_weights;
    }
