-- Document 02, K13: the faces of cells, by dimension, in colex order. Assumes nothing.
use Rattle.std.specs.Prelude.{List, [], ◌∷◌, ◌++◌, ℕ, zero, suc, length, get_or}
use Rattle.complex.specs.Skeleton.{in_colex}

-- each of the words with the number v after it
unfoldable pub each_then : ℕ → List (List ℕ) → List (List ℕ)
each_then v [] = []
each_then v (p ∷ ps) = (p ++ (v ∷ [])) ∷ each_then v ps

-- the ways to take s of the first n positions, in colex order: those without the last position, and then those with it
unfoldable pub places_of : ℕ → ℕ → List (List ℕ)
places_of zero zero = [] ∷ []
places_of zero (suc s) = []
places_of (suc n) zero = [] ∷ []
places_of (suc n) (suc s) = places_of n (suc s) ++ each_then n (places_of n s)

-- what stands in w at the places p
unfoldable pub sub_word : List ℕ → List ℕ → List ℕ
sub_word w [] = []
sub_word w (p ∷ ps) = get_or w p 0 ∷ sub_word w ps

unfoldable pub sub_words : List ℕ → List (List ℕ) → List (List ℕ)
sub_words w [] = []
sub_words w (p ∷ ps) = sub_word w p ∷ sub_words w ps

-- the sub-words of s numbers of a word
abbrev pub chosen : ℕ → List ℕ → List (List ℕ)
chosen s w = sub_words w (places_of (length w) s)

unfoldable pub all_chosen : ℕ → List (List ℕ) → List (List ℕ)
all_chosen s [] = []
all_chosen s (w ∷ cs) = chosen s w ++ all_chosen s cs

-- the faces of dimension k: all sub-words of k + 1 vertices of the cells, in colex order, without repeats
abbrev pub faces_of : List (List ℕ) → ℕ → List (List ℕ)
faces_of cs k = in_colex (suc k) (all_chosen (suc k) cs)
