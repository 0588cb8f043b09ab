-- What the functions that read a part say, as the definition's words: where they stopped is what is left of the bytes. Assumes nothing.
use Rattle.std.specs.Prelude.{ℕ, Bool, false, List, [], ◌∷◌, drop, eqb, Option, None, Some}
use Rattle.bandsum_line.specs.declared.Part.{Part}
use Rattle.bandsum_line.specs.Grammar.{Front, nothing, front}

-- the bytes begin with b
unfoldable pub begins : ℕ → List ℕ → Bool
begins b [] = false
begins b (x ∷ r) = eqb x b

-- a part that was read of the bytes
abbrev pub read_of : {A : Type 0} → List ℕ → Option (Part A) → Front A
read_of bs None = nothing
read_of bs (Some part) = front part.value (drop part.end bs)
