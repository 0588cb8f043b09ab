-- A latitude read at a position of the bytes: what its definition says. Assumes nothing.
use mathlib.Core.Path.{◌≡◌, refl, sym, ap, subst, ◌∙◌}
use mathlib.Core.Bool.{Bool, true, false, cond}
use mathlib.Core.List.{List, [], ◌∷◌}
use Prim.Native.Nat.{ℕ, zero, suc, ◌+◌, ◌≤◌, ◌<◌}
use native.Mathlib.Omega.{arith}
use lib.Dec.{ltb, eqb}
use lib.IntN.{ℤ, pos, negsuc}
use lib.ListN.{drop}
use mir.Val.{SFits, to_z, of_z}
use mir.Facts.{to_z-of_z}
use mir.Syntax.{w32}
use borrow.Author.Tests.{lt-ltb, le-ltb, ltb-true}
use Rattle.quotient.specs.declared.Grid.{Grid}
use Rattle.bandsum_line.specs.Grammar.{Front, nothing, front, and_then, after, count_from}
use Rattle.bandsum_line.specs.WorkParts.{begins}
use Rattle.bandsum_line.proofs.Front.{begins-lt, after-here, after-not}
use Rattle.bandmap_line.proofs.Integers.{whole-cast, below-fits}
use Rattle.bandmap_line.specs.Grammar.{taken, three_digits, degrees_from, below_zero, above_zero, latitude_from, spaced_from}

-- ---- degrees
module _ (x : List ℕ) where
  pub degrees-none : nothing ≡ count_from x → nothing ≡ degrees_from x
  unfolding degrees_from and_then
  degrees-none e = rw (← e)

  module _ (n : ℕ) (r : List ℕ) (e : front n r ≡ count_from x) where
    pub degrees-few : n < 1000 → front n r ≡ degrees_from x
    unfolding degrees_from and_then
    degrees-few h = rw (← e, lt-ltb n 1000 h)

    pub degrees-many : 1000 ≤ n → nothing ≡ degrees_from x
    unfolding degrees_from and_then
    degrees-many h = rw (← e, le-ltb n 1000 h)

-- what is read has at most three digits
few : (a : Front ℕ) (n : ℕ) (r : List ℕ) → front n r ≡ and_then a three_digits → n < 1000
unfolding and_then
few nothing n r e = let z : ◌≡◌ {A = ℕ} 0 1 = ap (λ (f : Front ℕ). told f) e in absurd (omega arith)
  where
    told : Front ℕ → ℕ
    told nothing = 1
    told (front n r) = 0
few (front m s) n r e = go (ltb m 1000) refl e
  where
    told : Front ℕ → ℕ
    told nothing = 1
    told (front n r) = 0

    number : Front ℕ → ℕ
    number nothing = 0
    number (front n r) = n

    go : (b : Bool) → ltb m 1000 ≡ b → front n r ≡ cond b (front m s) nothing → n < 1000
    go true q f = let z : n ≡ m = ap number f in omega (arith, ltb-true m 1000 q)
    go false q f = let z : ◌≡◌ {A = ℕ} 0 1 = ap told f in absurd (omega arith)

pub degrees-small : (x : List ℕ) (n : ℕ) (r : List ℕ) → front n r ≡ degrees_from x → n < 1000
unfolding degrees_from
degrees-small x n r e = few (count_from x) n r e

-- ---- with a sign
module _ (x : List ℕ) where
  pub south-none : nothing ≡ degrees_from x → nothing ≡ and_then (degrees_from x) below_zero
  unfolding and_then
  south-none e = rw (← e)

  pub north-none : nothing ≡ degrees_from x → nothing ≡ and_then (degrees_from x) above_zero
  unfolding and_then
  north-none e = rw (← e)

  module _ (n : ℕ) (r : List ℕ) (e : front n r ≡ degrees_from x) where
    pub north-some : (z : ℤ) → z ≡ pos n → front z r ≡ and_then (degrees_from x) above_zero
    unfolding and_then
    north-some z q = rw (← e) (ap (λ (y : ℤ). front y r) q)

    pub south-zero : n ≡ 0 → nothing ≡ and_then (degrees_from x) below_zero
    unfolding and_then
    south-zero q = rw (← e) (ap (λ (m : ℕ). below_zero m r) (sym q))

    pub south-some : (z : ℤ) → (m : ℕ) → n ≡ suc m → z ≡ negsuc m → front z r ≡ and_then (degrees_from x) below_zero
    unfolding and_then
    south-some z m q f = rw (← e) (ap (λ (y : ℤ). front y r) f ∙ ap (λ (k : ℕ). below_zero k r) (sym q))

-- ---- a latitude, and one after a space
module _ (bs : List ℕ) (at : ℕ) where
  pub latitude-south : begins 45 (drop at bs) ≡ true → and_then (degrees_from (drop (at + 1) bs)) below_zero ≡ latitude_from (drop at bs)
  unfolding latitude_from
  latitude-south e = sym (choose (begins 45 (drop at bs)) _ _ e ∙ after-here 45 bs at (λ r. and_then (degrees_from r) below_zero) e)
    where
      choose : (b : Bool) (f g : Front ℤ) → b ≡ true → cond b f g ≡ f
      choose b f g q = ap (λ (t : Bool). cond t f g) q

  pub latitude-north : begins 45 (drop at bs) ≡ false → and_then (degrees_from (drop at bs)) above_zero ≡ latitude_from (drop at bs)
  unfolding latitude_from
  latitude-north e = sym (choose (begins 45 (drop at bs)) _ _ e)
    where
      choose : (b : Bool) (f g : Front ℤ) → b ≡ false → cond b f g ≡ g
      choose b f g q = ap (λ (t : Bool). cond t f g) q

  pub spaced-not : begins 32 (drop at bs) ≡ false → nothing ≡ spaced_from (drop at bs)
  unfolding spaced_from
  spaced-not e = sym (after-not 32 bs at latitude_from e)

  pub spaced-here : begins 32 (drop at bs) ≡ true → latitude_from (drop (at + 1) bs) ≡ spaced_from (drop at bs)
  unfolding spaced_from
  spaced-here e = sym (after-here 32 bs at latitude_from e)

-- ---- what is read fits a signed number of 32 bits
abbrev Small : Front ℤ → Type 0
Small nothing = Unit {0}
Small (front z r) = SFits w32 z

small-if : (b : Bool) (f g : Front ℤ) → Small f → Small g → Small (cond b f g)
small-if true f g p q = p
small-if false f g p q = q

small-below : (a : Front ℕ) → ((n : ℕ) (r : List ℕ) → front n r ≡ a → n < 1000) → Small (and_then a below_zero)
unfolding and_then
small-below nothing f = tt
small-below (front zero r) f = tt
small-below (front (suc n) r) f = record { sfits = omega (arith, f (suc n) r refl) }

small-above : (a : Front ℕ) → ((n : ℕ) (r : List ℕ) → front n r ≡ a → n < 1000) → Small (and_then a above_zero)
unfolding and_then
small-above nothing f = tt
small-above (front n r) f = record { sfits = omega (arith, f n r refl) }

small-after : (b : ℕ) (f : List ℕ → Front ℤ) → ((x : List ℕ) → Small (f x)) → (x : List ℕ) → Small (after b f x)
unfolding after
small-after b f h [] = tt
small-after b f h (c ∷ x) = small-if (eqb c b) (f x) nothing (h x) tt

small-latitude : (x : List ℕ) → Small (latitude_from x)
unfolding latitude_from
small-latitude x =
    small-if (begins 45 x) (after 45 (λ r. and_then (degrees_from r) below_zero) x) (and_then (degrees_from x) above_zero)
    (small-after 45 (λ r. and_then (degrees_from r) below_zero) (λ r. small-below (degrees_from r) (degrees-small r)) x)
    (small-above (degrees_from x) (degrees-small x))

pub spaced-fits : (x : List ℕ) (z : ℤ) (r : List ℕ) → front z r ≡ spaced_from x → SFits w32 z
unfolding spaced_from
spaced-fits x z r e = subst Small (sym e) (small-after 32 latitude_from small-latitude x)

pub taken-same : (g : Grid) (south north : ℤ) → SFits w32 south → SFits w32 north → taken g (to_z w32 (of_z w32 south)) (to_z w32 (of_z w32 north)) ≡ taken g south north
taken-same g south north fs fn = ap (λ (z : ℤ). taken g z (to_z w32 (of_z w32 north))) (to_z-of_z fs) ∙ ap (λ (z : ℤ). taken g south z) (to_z-of_z fn)

-- ---- what the functions that read a part cite
pub ruleset degrees_rules = (degrees-none, degrees-few, degrees-many)

pub ruleset south_rules = (degrees-small, south-none, south-zero, whole-cast, below-fits)

pub ruleset north_rules = (degrees-small, north-none, whole-cast)

pub ruleset signed_rules = (begins-lt, latitude-south, latitude-north)

pub ruleset spaced_rules = (begins-lt, spaced-not, spaced-here)
