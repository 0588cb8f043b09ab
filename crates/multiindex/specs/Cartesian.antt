-- All lists of digits, as one list, and the step from each to the next. Assumes nothing.
use Rattle.std.specs.Prelude.{Bool, true, false, List, [], ◌∷◌, map, ℕ, zero, suc, ltb}
use Rattle.lists.specs.Tables.{upto}
use Rattle.multiindex.specs.Permutation.{gather}

-- the largest base in which lists of digits are counted: of as many digits as there are dimensions there are 2 ^ 48 at most, up to dimension 4
abbrev pub most_base : ℕ
most_base = 4096

-- all lists of d digits below n, the first digit fastest
abbrev pub digits : ℕ → ℕ → List (List ℕ)
digits zero n = [] ∷ []
digits (suc d) n = gather (λ s. map (λ x. x ∷ s) (upto n)) (digits d n)

abbrev pub carry : Bool → ℕ → List ℕ → List ℕ → List ℕ
carry true x s t = suc x ∷ s
carry false x s t = 0 ∷ t

-- the next list of digits below n: the first digit goes up by one, and past the last digit it is 0 again and the next digit goes up
abbrev pub raised : ℕ → List ℕ → List ℕ
raised n [] = []
raised n (x ∷ s) = carry (ltb (suc x) n) x s (raised n s)
