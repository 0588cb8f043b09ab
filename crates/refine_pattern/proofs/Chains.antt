-- A chain walked point by point: what is left of the test and of the weights after each step. Assumes nothing.
use mathlib.Core.Path.{◌≡◌, refl, sym, ap, ◌∙◌, subst}
use mathlib.Core.Bool.{Bool, true, false, ◌&&◌}
use mathlib.Core.List.{List, [], ◌∷◌, ◌++◌, Memᴰ}
use Prim.Native.Nat.{ℕ, zero, suc, ◌+◌, ◌*◌, ◌≤◌, ◌<◌}
use native.Mathlib.Numerals.{add-one}
use native.Mathlib.Nat.{not-suc-le-zero, le_of_suc-le-suc, suc-mul}
use native.Mathlib.Omega.{arith}
use lib.ListN.{length, get_or, take, drop, set, length-append, length-set, drop_of_length-le}
use lib.Seq.{drop-cons, take-set-lt, get_or-take, length-take-le}
use Rattle.multiindex.specs.Permutation.{orders, order_of}
use Rattle.refine_lattice.specs.Lattice.{weights, bump, chain, Order}
use Rattle.refine_lattice.specs.Children.{qualifies}
use Rattle.multiindex.proofs.Tables.{first_of}
use Rattle.refine_lattice.proofs.Weights.{length-weights}
use Rattle.refine_lattice.proofs.Enumerate.{order-of-mem}
use Rattle.refine_pattern.specs.WorkChains.{keeps, weighed}
use Rattle.refine_pattern.proofs.Points.{and-true, below-R}

-- an order by its number is an order
pub mem-get_or : {A : Type 0} (l : List A) (k : ℕ) (z : A) → k < length l → Memᴰ (get_or l k z) l
mem-get_or [] k z h = absurd (not-suc-le-zero h)
mem-get_or (x ∷ l) zero z h = Memᴰ.head refl
mem-get_or (x ∷ l) (suc k) z h = Memᴰ.tail (mem-get_or l k z (le_of_suc-le-suc h))

module _ (d k : ℕ) (h : k < length (orders d)) where
  is-order : Order d (order_of d k)
  is-order = order-of-mem d (order_of d k) (mem-get_or (orders d) k [] h)

  pub order_long : length (order_of d k) ≡ d
  order_long = is-order.long

  pub order_below : (i : ℕ) → i < d → get_or (order_of d k) i 0 < d
  order_below i l = is-order.perm.below i l

-- one step of a chain from the point t along the axes from place i on
chain-step : (t p : List ℕ) (i : ℕ) → i < length p → chain t (drop i p) ≡ t ∷ chain (bump t (get_or p i 0)) (drop (i + 1) p)
chain-step t p i h = ap (chain t) (drop-cons p i 0 h) ∙ ap (λ (n : ℕ). t ∷ chain (bump t (get_or p i 0)) (drop n p)) (sym (add-one i))

chain-end : (t p : List ℕ) (i : ℕ) → length p ≤ i → chain t (drop i p) ≡ t ∷ []
chain-end t p i h = ap (chain t) (drop_of_length-le p {i = i} h)

-- a step in a list that holds the point in its front
bumped : (d : ℕ) (s : List ℕ) (j : ℕ) → j < d → bump (take d s) j ≡ take d (set s j (get_or s j 0 + 1))
bumped d s j h =
    ap (λ (n : ℕ). set (take d s) j (suc n)) (get_or-take d s j 0 h)
    ∙ ap (set (take d s) j) (sym (add-one (get_or s j 0)))
    ∙ sym (take-set-lt d s j (get_or s j 0 + 1) h)

pub keeps-not : (R : ℕ) (t p : List ℕ) → qualifies R t ≡ false → keeps R (chain t p) ≡ false
keeps-not R t [] q = ap (λ (b : Bool). b && true) q
keeps-not R t (j ∷ p) q = ap (λ (b : Bool). b && keeps R (chain (bump t j) p)) q

pub keeps-first : (R : ℕ) (t p : List ℕ) → keeps R (chain t p) ≡ true → qualifies R t ≡ true
keeps-first R t [] q = first_of (qualifies R t) true q
keeps-first R t (j ∷ p) q = first_of (qualifies R t) (keeps R (chain (bump t j) p)) q

-- The walk stands at the list s, whose first d numbers are the point, with i axes of the order p stepped; j is the next axis.
module _ (d R : ℕ) (s p : List ℕ) (i j : ℕ) (h : i < length p) (is : j ≡ get_or p i 0) (l : j < d) where
  next-point : chain (take d s) (drop i p) ≡ take d s ∷ chain (take d (set s j (get_or s j 0 + 1))) (drop (i + 1) p)
  next-point =
      chain-step (take d s) p i h
      ∙ ap (λ (n : ℕ). take d s ∷ chain (bump (take d s) n) (drop (i + 1) p)) (sym is)
      ∙ ap (λ (t : List ℕ). take d s ∷ chain t (drop (i + 1) p)) (bumped d s j l)

  pub keeps-step : qualifies R (take d s) ≡ true → keeps R (chain (take d s) (drop i p)) ≡ keeps R (chain (take d (set s j (get_or s j 0 + 1))) (drop (i + 1) p))
  keeps-step q =
      ap (keeps R) next-point ∙ ap (λ (b : Bool). b && keeps R (chain (take d (set s j (get_or s j 0 + 1))) (drop (i + 1) p))) q

  pub weighed-step : weighed R (chain (take d s) (drop i p)) ≡ weights R (take d s) ++ weighed R (chain (take d (set s j (get_or s j 0 + 1))) (drop (i + 1) p))
  weighed-step = ap (weighed R) next-point

pub keeps-end : (R : ℕ) (t p : List ℕ) (i : ℕ) → length p ≤ i → keeps R (chain t (drop i p)) ≡ qualifies R t
keeps-end R t p i h = ap (keeps R) (chain-end t p i h) ∙ and-true (qualifies R t)

pub weighed-end : (R : ℕ) (t p : List ℕ) (i : ℕ) → length p ≤ i → weighed R (chain t (drop i p)) ≡ weights R t ++ []
weighed-end R t p i h = ap (weighed R) (chain-end t p i h)

-- as many numbers as points and weights
pub weighed-length : (R : ℕ) (t p : List ℕ) → length (weighed R (chain t p)) ≡ suc (length p) * suc (length t)
weighed-length R t [] = length-append (weights R t) [] ∙ omega (arith, length-weights R t)
weighed-length R t (j ∷ p) =
    length-append (weights R t) (weighed R (chain (bump t j) p))
    ∙ omega (
      arith,
      length-weights R t,
      weighed-length R (bump t j) p,
      ap (λ (n : ℕ). suc (length p) * suc n) (length-set t j (suc (get_or t j 0))),
      suc-mul (suc (length p)) (suc (length t)),
    )

-- the coordinate that is stepped is not above R
pub coordinate : (d R : ℕ) (s : List ℕ) (j : ℕ) → d ≤ length s → j < d → qualifies R (take d s) ≡ true → get_or s j 0 ≤ R
coordinate d R s j w l q =
    subst (λ (x : ℕ). x ≤ R) (get_or-take d s j 0 l) (below-R R (take d s) q j (omega (arith, length-take-le d s w)))
