-- Numbers in decimal, computed from the definition that the contracts cite. Assumes nothing.
use mathlib.Core.Path.{◌≡◌, refl}
use mathlib.Core.List.{[], ◌∷◌, map}
use Rattle.text.specs.Decimal.{digits_down, decimal_down, decimal}

-- 0, 7, 10, 4096 and the largest number of 32 bits
pub numbers : map decimal (0 ∷ 7 ∷ 10 ∷ 4096 ∷ 4294967295 ∷ [])
    ≡ (48 ∷ []) ∷ (55 ∷ []) ∷ (49 ∷ 48 ∷ []) ∷ (52 ∷ 48 ∷ 57 ∷ 54 ∷ []) ∷ (52 ∷ 50 ∷ 57 ∷ 52 ∷ 57 ∷ 54 ∷ 55 ∷ 50 ∷ 57 ∷ 53 ∷ []) ∷ []
unfolding digits_down decimal_down
numbers = refl
