-- The lengths for the file of a triangle, and for a file of a hundred bytes. Assumes nothing.
use mathlib.Core.List.{List, [], ◌∷◌}
use mathlib.Core.Path.{◌≡◌, refl}
use Prim.Native.Nat.{ℕ}
use Rattle.needs.specs.Needs.{worked}
use Rattle.planner_needs_files.specs.Needs.{within, written_need, read_need}

pub one-triangle : ◌≡◌ {A = List ℕ} (written_need 2 (worked 2 3) 0 0) (34 ∷ 6 ∷ 3 ∷ 3 ∷ 3 ∷ [])
unfolding worked within
one-triangle = refl

pub hundred-bytes : ◌≡◌ {A = List ℕ} (read_need 100) (25 ∷ 12 ∷ 33 ∷ 75 ∷ 25 ∷ 25 ∷ 25 ∷ [])
hundred-bytes = refl
