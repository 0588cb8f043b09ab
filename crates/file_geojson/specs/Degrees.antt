-- Fractions of a degree, to six decimals (document 02, K1): exact, halves away from zero. Assumes nothing.
use Rattle.std.specs.Prelude.{ℕ, ◌+◌, ◌-◌, ◌*◌, ◌/◌, cond, List, ◌∷◌, ltb}
use Rattle.file_writing.specs.Six.{million, six_decimals}

-- the whole number nearest to x / den, and the greater one at a half
unfoldable pub nearest : ℕ → ℕ → ℕ
nearest x den = (2 * x + den) / (2 * den)

-- m / den, to six decimals
abbrev pub fraction_of : ℕ → ℕ → List ℕ
fraction_of m den = six_decimals (nearest (m * million) den)

-- (a - b) / den, to six decimals, with a minus sign (45) where it is below zero
unfoldable pub degrees_of : ℕ → ℕ → ℕ → List ℕ
degrees_of a b den = cond (ltb a b) (45 ∷ fraction_of (b - a) den) (fraction_of (a - b) den)
