-- Worked examples: the triangle refined by 2 and by 3, the tetrahedron by 2, a point. Assumes nothing.
use mathlib.Core.Path.{◌≡◌, refl}
use mathlib.Core.List.{[], ◌∷◌, map}
use lib.ListN.{take, drop}
use Rattle.refine_lattice.specs.Lattice.{weights}
use Rattle.refine_lattice.specs.Children.{children, orders}
use lib.IntN.{pos, negsuc}
use Rattle.refine_lattice.specs.Refine.{births, words, share}
use Rattle.refine_lattice.specs.Jacobian.{laplace, jacobian}

-- with 3 = {0,1}, 4 = {0,2} and 5 = {1,2} these are the words 034, 345, 315, 452
triangle :
    map (map (weights 2)) (children 2 2)
    ≡ ((2 ∷ 0 ∷ 0 ∷ []) ∷ (1 ∷ 1 ∷ 0 ∷ []) ∷ (1 ∷ 0 ∷ 1 ∷ []) ∷ [])
    ∷ ((1 ∷ 1 ∷ 0 ∷ []) ∷ (1 ∷ 0 ∷ 1 ∷ []) ∷ (0 ∷ 1 ∷ 1 ∷ []) ∷ [])
    ∷ ((1 ∷ 1 ∷ 0 ∷ []) ∷ (0 ∷ 2 ∷ 0 ∷ []) ∷ (0 ∷ 1 ∷ 1 ∷ []) ∷ [])
    ∷ ((1 ∷ 0 ∷ 1 ∷ []) ∷ (0 ∷ 1 ∷ 1 ∷ []) ∷ (0 ∷ 0 ∷ 2 ∷ []) ∷ [])
    ∷ []
triangle = refl

two : orders 2 ≡ (1 ∷ 0 ∷ []) ∷ (0 ∷ 1 ∷ []) ∷ []
two = refl

three : orders 3
    ≡ (2 ∷ 1 ∷ 0 ∷ []) ∷ (1 ∷ 2 ∷ 0 ∷ []) ∷ (2 ∷ 0 ∷ 1 ∷ []) ∷ (0 ∷ 2 ∷ 1 ∷ []) ∷ (1 ∷ 0 ∷ 2 ∷ []) ∷ (0 ∷ 1 ∷ 2 ∷ []) ∷ []
three = refl

point : map (map (weights 5)) (children 0 5) ≡ ((5 ∷ []) ∷ []) ∷ []
point = refl

-- the triangle 012 refined by 2: the births 3 = {0,1}, 4 = {0,2}, 5 = {1,2} and the words
triangle-births : births 2 2 3 ((0 ∷ 1 ∷ 2 ∷ []) ∷ []) ≡ (1 ∷ 1 ∷ 0 ∷ []) ∷ (1 ∷ 0 ∷ 1 ∷ []) ∷ (0 ∷ 1 ∷ 1 ∷ []) ∷ []
triangle-births = refl

triangle-words : words 2 2 3 ((0 ∷ 1 ∷ 2 ∷ []) ∷ []) ≡ (0 ∷ 3 ∷ 4 ∷ []) ∷ (3 ∷ 4 ∷ 5 ∷ []) ∷ (3 ∷ 1 ∷ 5 ∷ []) ∷ (4 ∷ 5 ∷ 2 ∷ []) ∷ []
triangle-words = refl

-- refined by 3: the births 5 = {0,1,2} and 6 = {0:1, 1:2} come in this order, which tells the sequence of the axis orders from the lexicographic one
triangle-thirds : take 2 (drop 2 (births 2 3 3 ((0 ∷ 1 ∷ 2 ∷ []) ∷ []))) ≡ (1 ∷ 1 ∷ 1 ∷ []) ∷ (1 ∷ 2 ∷ 0 ∷ []) ∷ []
triangle-thirds = refl

-- the tetrahedron 0123 refined by 2: 7 = {1,3} and 8 = {1,2}
tetrahedron : take 2 (drop 3 (births 3 2 4 ((0 ∷ 1 ∷ 2 ∷ 3 ∷ []) ∷ []))) ≡ (0 ∷ 1 ∷ 0 ∷ 1 ∷ []) ∷ (0 ∷ 1 ∷ 1 ∷ 0 ∷ []) ∷ []
tetrahedron = refl

-- refined by 1 it is the same word, and a point has one child
triangle-same : words 2 1 3 ((0 ∷ 1 ∷ 2 ∷ []) ∷ []) ≡ (0 ∷ 1 ∷ 2 ∷ []) ∷ []
triangle-same = refl

point-words : words 0 7 1 ((0 ∷ []) ∷ []) ≡ (0 ∷ []) ∷ []
point-words = refl

-- the determinants of its children's Jacobians
triangle-jacobians :
    map (λ m. laplace 2 (jacobian (share 2 2 3 ((0 ∷ 1 ∷ 2 ∷ []) ∷ [])) (0 ∷ 1 ∷ 2 ∷ []) m)) ((0 ∷ 3 ∷ 4 ∷ []) ∷ (1 ∷ 3 ∷ 5 ∷ []) ∷ (3 ∷ 4 ∷ 5 ∷ []) ∷ (2 ∷ 4 ∷ 5 ∷ []) ∷ [])
    ≡ pos 1 ∷ negsuc 0 ∷ negsuc 0 ∷ pos 1 ∷ []
triangle-jacobians = refl
