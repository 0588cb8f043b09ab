-- A triangle halved: the lists of its mesh. Assumes nothing.
use mathlib.Core.Bool.{true}
use mathlib.Core.List.{List, [], ◌∷◌}
use mathlib.Core.Path.{◌≡◌, refl}
use Prim.Native.Nat.{ℕ}
use Rattle.refine_lattice.specs.Refine.{births}
use Rattle.file_mesh.specs.Rules.{no_birth, begun, pairs_fit, weights_of, birth_fits, births_fit}
use Rattle.file_mesh_laws.specs.Births.{numbered, beside, pairs}

abbrev middles : List (List ℕ)
middles = births 2 2 3 ((0 ∷ 1 ∷ 2 ∷ []) ∷ [])

three-births : numbered 2 3 middles ≡ 3 ∷ 2 ∷ 2 ∷ 4 ∷ 2 ∷ 2 ∷ 5 ∷ 2 ∷ 2 ∷ []
unfolding numbered
three-births = refl

six-pairs : pairs middles ≡ 0 ∷ 1 ∷ 1 ∷ 1 ∷ 0 ∷ 1 ∷ 2 ∷ 1 ∷ 1 ∷ 1 ∷ 2 ∷ 1 ∷ []
unfolding pairs beside
six-pairs = refl

they-keep : births_fit 6 no_birth (3 ∷ 2 ∷ 2 ∷ 4 ∷ 2 ∷ 2 ∷ 5 ∷ 2 ∷ 2 ∷ []) (0 ∷ 1 ∷ 1 ∷ 1 ∷ 0 ∷ 1 ∷ 2 ∷ 1 ∷ 1 ∷ 1 ∷ 2 ∷ 1 ∷ []) ≡ true
unfolding births_fit birth_fits pairs_fit weights_of begun
they-keep = refl
