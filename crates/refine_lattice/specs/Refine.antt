-- A complex refined, by lists: its points by their shares, births numbered after the first vertices by first visit, and the words. Assumes nothing.
use Rattle.std.specs.Prelude.{◌||◌, ℕ, zero, suc, ◌+◌, ◌*◌, ◌-◌, eqb, ltb, length, get_or}
use mathlib.Core.List.{List, [], ◌∷◌, ◌++◌, map, Memᴰ}
use Rattle.lists.specs.Tables.{tab}
use Rattle.refine_lattice.specs.Lattice.{weights}
use Rattle.lists.specs.Words.{same, same_word}
use Rattle.refine_lattice.specs.Complex.{Words, weigh, through, Alike}
use Rattle.refine_lattice.specs.Children.{gather, children, pick}

-- the shares of the point `s` of the cell with word `k`: its weight at each of n vertices
abbrev pub point : ℕ → ℕ → List ℕ → List ℕ → List ℕ
point R n k s = tab n (weigh k (weights R s))

-- all points in the order in which they are visited: parents, then children, then corners
abbrev pub visits : ℕ → ℕ → ℕ → List (List ℕ) → List (List ℕ)
visits d R n ks = gather (λ k. gather (λ c. map (point R n k) c) (children d R)) ks

-- how many shares are positive
abbrev pub positives : List ℕ → ℕ
positives [] = 0
positives (zero ∷ l) = positives l
positives (suc w ∷ l) = suc (positives l)

-- the first vertex with a positive share
abbrev pub first : List ℕ → ℕ
first [] = 0
first (zero ∷ l) = suc (first l)
first (suc w ∷ l) = 0

-- the place of `l`; past the end where it is not there
abbrev pub place : List (List ℕ) → List ℕ → ℕ
place [] l = 0
place (m ∷ ms) l = pick (same_word m l) 0 (suc (place ms l))

-- the births: each point that has not one positive share, where it is visited first
abbrev pub births_from : List (List ℕ) → List (List ℕ) → List (List ℕ)
births_from seen [] = seen
births_from seen (l ∷ ls) = births_from (pick (eqb (positives l) 1 || ltb (place seen l) (length seen)) seen (seen ++ (l ∷ []))) ls

abbrev pub births : ℕ → ℕ → ℕ → List (List ℕ) → List (List ℕ)
births d R n ks = births_from [] (visits d R n ks)

-- the number of a point: the vertex itself where only one share is positive, else after the first n vertices the place among the births
abbrev pub number : ℕ → List (List ℕ) → List ℕ → ℕ
number n bs l = pick (eqb (positives l) 1) (first l) (n + place bs l)

-- the words of the children, in the order in which they are visited
abbrev pub words : ℕ → ℕ → ℕ → List (List ℕ) → List (List ℕ)
words d R n ks = gather (λ k. map (map (λ s. number n (births d R n ks) (point R n k s))) (children d R)) ks

-- how many vertices there are then
abbrev pub vertices : ℕ → ℕ → ℕ → List (List ℕ) → ℕ
vertices d R n ks = n + length (births d R n ks)

-- the share of the vertex `v` in the vertex `x` of the refined complex, over R
abbrev pub share : ℕ → ℕ → ℕ → List (List ℕ) → ℕ → ℕ → ℕ
share d R n ks x v = pick (ltb x n) (R * same x v) (get_or (get_or (births d R n ks) (x - n) []) v 0)

-- the words of a list
abbrev pub In : List (List ℕ) → Words
In ks k = Memᴰ k ks

-- THE LAW: the complex refined by a and then, along its children's own words, by b is the complex refined by a * b, up to the numbers of the vertices.
-- A vertex of the double refinement is told by its shares over a * b: those by b of the vertices between, times theirs by a.
unfoldable pub WordsCompose : ℕ → ℕ → ℕ → ℕ → List (List ℕ) → Type 0
WordsCompose d a b n ks =
    let n₁ : ℕ = vertices d a n ks in
    let ks₁ : List (List ℕ) = words d a n ks in
    Alike d (In (words d b n₁ ks₁)) (In (words d (a * b) n ks)) (through n₁ (share d a n ks) (share d b n₁ ks₁)) (share d (a * b) n ks)
