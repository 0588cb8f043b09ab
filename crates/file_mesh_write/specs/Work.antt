-- What the inner functions ask and give. Assumes nothing.
use Rattle.refusal.specs.Says.{Counted}
use Rattle.std.specs.Prelude.{List, [], ◌∷◌, ◌≡◌, ℕ, ◌+◌, ◌≤◌, length, drop}
use Rattle.refusal.specs.Limits.{most_refinement}
use Rattle.refusal.specs.Lent.{onto}
use Rattle.file_mesh.specs.Mesh.{Mesh}
use Rattle.file_mesh_write.specs.Promise.{Writes}

-- each birth has its three numbers and its pairs, at most 64
unfoldable pub Whole : List ℕ → List ℕ → Type 0
Whole [] ps = Unit
Whole (n ∷ []) ps = ⊥
Whole (n ∷ (r ∷ [])) ps = ⊥
Whole (n ∷ (r ∷ (c ∷ bs))) ps = (c ≤ most_refinement) × (c + c ≤ length ps) × Whole bs (drop (c + c) ps)

-- the file is handed out, or not
pub record Handed (m : Mesh) (r : Counted) (bytes bytes' : List ℕ) : Type 0 where
  pub handed : List ℕ
  pub ends : Writes m (length bytes) r handed
  pub result : bytes' ≡ onto handed bytes
