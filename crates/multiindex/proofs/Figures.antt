-- Signs of small words, computed: the parity of their pairs out of order. Assumes nothing.
use mathlib.Core.List.{[], ◌∷◌}
use mathlib.Core.Path.{◌≡◌, refl}
use Prim.Native.Nat.{◌%◌}
use Rattle.multiindex.specs.Sort.{add_if, smaller, inversions}

pub sign-012 : inversions (0 ∷ 1 ∷ 2 ∷ []) % 2 ≡ 0
unfolding add_if smaller inversions
sign-012 = refl

pub sign-021 : inversions (0 ∷ 2 ∷ 1 ∷ []) % 2 ≡ 1
unfolding add_if smaller inversions
sign-021 = refl

pub sign-201 : inversions (2 ∷ 0 ∷ 1 ∷ []) % 2 ≡ 0
unfolding add_if smaller inversions
sign-201 = refl

pub sign-210 : inversions (2 ∷ 1 ∷ 0 ∷ []) % 2 ≡ 1
unfolding add_if smaller inversions
sign-210 = refl
