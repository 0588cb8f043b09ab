-- What it means that lists are long enough. Assumes nothing.
use Rattle.std.specs.Prelude.{List, [], ◌∷◌, ℕ, ◌≤◌}

-- as many lengths as are needed, each at least as long
abbrev pub Long : List ℕ → List ℕ → Type 0
Long [] have = Unit {0}
Long (n ∷ need) [] = ⊥
Long (n ∷ need) (m ∷ have) = (n ≤ m) × Long need have
