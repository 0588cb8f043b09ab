-- The corners of a child in one cell: each vertex of the cell weighs at some corner, and at most one vertex weighs nothing on a facet of the child.
-- Assumes nothing.
use mathlib.Core.Path.{◌≡◌, refl, sym, ap, ◌∙◌, subst}
use mathlib.Core.Logic.{◌≢◌}
use mathlib.Core.List.{◌∷◌}
use Prim.Native.Nat.{ℕ, zero, suc, ◌+◌, ◌*◌, ◌-◌, ◌≤◌, ◌<◌, suc-le-suc}
use native.Mathlib.Nat.{le_of_suc-le-suc}
use native.Mathlib.Decide.{ℕ_discrete, dec_lt}
use native.Mathlib.Omega.{arith}
use lib.ListN.{get_or}
use Rattle.lists.specs.Tables.{sum}
use Rattle.refine_lattice.specs.Lattice.{weights, Perm}
use Rattle.lists.specs.Words.{same}
use Rattle.lists.proofs.Tables.{get_or-tab}
use Rattle.refine_lattice.proofs.Tab.{step, step-le, step-yes, step-no}
use Rattle.refine_lattice.proofs.Perms.{one_place, onto}
use Rattle.lists.proofs.Words.{same-yes, same-no}
use Rattle.lists.proofs.Sums.{sum-ext, sum-add, sum-zero, sum-pick}
use Rattle.refine_lattice.proofs.Codes.{Code, corner, falls-corner}
use Rattle.refine_lattice.proofs.Weights.{weights-at, falls-next, past}

pub step-up : (t i j : ℕ) → i ≤ j → step t i ≤ step t j
step-up t i j h =
    elim (dec_lt t i) [ yes l ↦ omega (arith, step-le t i, step-yes t j (omega arith)) | no l ↦ omega (arith, step-no t i (omega arith)) ]

-- the step is where it changes
pub step-here : (t i : ℕ) → step t i < step t (suc i) → t ≡ i
step-here t i h =
    elim (dec_lt t i) [
      | yes l ↦ omega (arith, step-yes t i l, step-le t (suc i))
      | no l ↦ elim (dec_lt i t) [ yes m ↦ omega (arith, step-no t (suc i) m) | no m ↦ omega arith ]
    ]

module _ (d R : ℕ) (base t : ℕ → ℕ) (c : Code d R base t) where
  -- the coordinate of corner i at place l, and the one before it
  abbrev pub low : ℕ → ℕ → ℕ
  low l i = get_or (corner d base t i) l 0

  abbrev pub high : ℕ → ℕ → ℕ
  high l i = get_or (R ∷ corner d base t i) l 0

  -- the weight of corner i at place l
  abbrev pub load : ℕ → ℕ → ℕ
  load l i = get_or (weights R (corner d base t i)) l 0

  pub low-in : (l i : ℕ) → l < d → low l i ≡ base l + step (t l) i
  low-in l i h = get_or-tab d (λ j. base j + step (t j) i) l 0 h

  pub low-out : (l i : ℕ) → d ≤ l → low l i ≡ 0
  low-out l i h = past d (λ j. base j + step (t j) i) l h

  pub load_is : (l i : ℕ) → load l i + low l i ≡ high l i
  load_is l i = omega (arith, weights-at R (corner d base t i) l, falls-next R (corner d base t i) (falls-corner d R base t c i) l)

  pub low_up : (l i j : ℕ) → i ≤ j → low l i ≤ low l j
  low_up l i j h =
      elim (dec_lt l d) [
        | yes m ↦ omega (arith, low-in l i m, low-in l j m, step-up (t l) i j h)
        | no m ↦ omega (arith, low-out l i (omega arith))
      ]

  high-up : (l i j : ℕ) → i ≤ j → high l i ≤ high l j
  high-up zero i j h = omega arith
  high-up (suc l) i j h = low_up l i j h

  -- the corner where the place l weighs
  pub weighs : 0 < R → (l : ℕ) → l < suc d → (i : ℕ) × (i < suc d) × (0 < load l i)
  weighs r zero h =
      elim (dec_lt 0 d) [
        | yes m ↦ (0, omega arith, omega (arith, load_is 0 0, low-in 0 0 m, c.top 0 m))
        | no m ↦ (0, omega arith, omega (arith, load_is 0 0, low-out 0 0 (omega arith)))
      ]
  weighs r (suc j) h =
      let i : ℕ = suc (t j) in
      let b : j < d = le_of_suc-le-suc h in
      let e : low j i ≡ base j + step (t j) i = low-in j i b in
      let s : step (t j) i ≡ 1 = step-yes (t j) i (omega arith) in
      elim (dec_lt (suc j) d) [
        | yes m ↦ (
          i,
          omega (arith, c.perm.below j b),
          elim (dec_lt (base (suc j)) (base j)) [
            | yes q ↦ omega (arith, load_is (suc j) i, low-in (suc j) i m, step-le (t (suc j)) i)
            | no q ↦
                let f : base j ≡ base (suc j) = omega (arith, c.falls j (suc j) (omega arith) m) in
                omega (
                  arith,
                  load_is (suc j) i,
                  low-in (suc j) i m,
                  step-no (t (suc j)) i (omega (arith, c.ties j (suc j) (omega arith) m f)),
                )
          ],
        )
        | no m ↦ (i, omega (arith, c.perm.below j b), omega (arith, load_is (suc j) i, low-out (suc j) i (omega arith)))
      ]

  -- a place that weighs nothing at the next corner is stepped there
  pub falls-here : (l i : ℕ) → 0 < load l i → load l (suc i) ≡ 0 → (l < d) × (t l ≡ i)
  falls-here l i h e =
      elim (dec_lt l d) [
        | yes m ↦ (
          m,
          step-here (t l) i
              (omega (arith, load_is l i, load_is l (suc i), high-up l i (suc i) (omega arith), low-in l i m, low-in l (suc i) m)),
        )
        | no m ↦ absurd (omega (arith, load_is l i, load_is l (suc i), high-up l i (suc i) (omega arith), low-out l i (omega arith), low-out l (suc i) (omega arith)))
      ]

  pub rises-here : (l i : ℕ) → l < suc d → load l i ≡ 0 → 0 < load l (suc i) → (j : ℕ) × (j < d) × (l ≡ suc j) × (t j ≡ i)
  rises-here zero i b e h = absurd (omega (arith, load_is 0 i, load_is 0 (suc i), low_up 0 i (suc i) (omega arith)))
  rises-here (suc j) i b e h =
      let m : j < d = le_of_suc-le-suc b in (
        j,
        m,
        refl,
        step-here (t j) i
            (omega (arith, load_is (suc j) i, load_is (suc j) (suc i), low_up (suc j) i (suc i) (omega arith), low-in j i m, low-in j (suc i) m)),
      )

  -- the place l weighs nothing but at corner i
  unfoldable pub Flat : ℕ → ℕ → Type 0
  Flat l i = (x : ℕ) → x < suc d → x ≢ i → load l x ≡ 0

  pub tip : 0 < R → (l i : ℕ) → l < suc d → Flat l i → 0 < load l i
  unfolding Flat
  tip r l i h f =
      let (x, b, p) = weighs r l h in
      elim (ℕ_discrete x i) [ yes e ↦ subst (λ (y : ℕ). 0 < load l y) e p | no e ↦ absurd (omega (arith, f x b e)) ]

  -- there is one such place at most
  pub one-flat : 0 < R → (l m i : ℕ) → l < suc d → m < suc d → i < suc d → Flat l i → Flat m i → l ≡ m
  unfolding Flat
  one-flat r l m i a b h f g =
      elim (dec_lt i d) [
        | yes q ↦
            let p = falls-here l i (tip r l i a f) (f (suc i) (suc-le-suc q) (omega arith)) in
            let p' = falls-here m i (tip r m i b g) (g (suc i) (suc-le-suc q) (omega arith)) in
            one_place c.perm l m p.0 p'.0 (p.1 ∙ sym p'.1)
        | no q ↦ last d (omega arith) (omega arith)
      ]
    where
      last : (e : ℕ) → i ≡ e → e ≡ d → l ≡ m
      last zero u w = omega arith
      last (suc e) u w =
          let p = rises-here l e a (f e (omega arith) (omega arith)) (subst (λ (y : ℕ). 0 < load l y) u (tip r l i a f)) in
          let p' = rises-here m e b (g e (omega arith) (omega arith)) (subst (λ (y : ℕ). 0 < load m y) u (tip r m i b g)) in
          p.2 ∙ ap suc (one_place c.perm p.0 p'.0 p.1 p'.1 (p.3 ∙ sym p'.3)) ∙ sym p'.2

-- how far the corners have gone: corner x is x steps from the base
pub step-next : (t x : ℕ) → step t (suc x) ≡ step t x + same t x
step-next zero zero = refl
step-next zero (suc x) = refl
step-next (suc t) zero = step-no t 0 (omega arith)
step-next (suc t) (suc x) = step-next t x

module _ (d : ℕ) (t : ℕ → ℕ) (p : Perm d t) where
  pub once : (x : ℕ) → x < d → sum d (λ j. same (t j) x) ≡ 1
  once x h =
      let (a, b, e) = onto d t p x h in
      sum-ext d (λ j. same (t j) x) (λ j. same j a * 1)
      (λ j l.
      elim (ℕ_discrete j a) [
        | yes q ↦ omega (arith, same-yes (t j) x (ap t q ∙ e), same-yes j a q)
        | no q ↦ omega (arith, same-no (t j) x (λ f. q (one_place p j a l b (f ∙ sym e))), same-no j a q)
      ])
      ∙ sum-pick d a (λ j. 1) b

  pub gone : (x : ℕ) → x ≤ d → sum d (λ j. step (t j) x) ≡ x
  gone zero h = sum-zero d
  gone (suc x) h =
      sum-ext d (λ j. step (t j) (suc x)) (λ j. step (t j) x + same (t j) x) (λ j l. step-next (t j) x)
      ∙ sum-add d (λ j. step (t j) x) (λ j. same (t j) x)
      ∙ omega (arith, gone x (omega arith), once x h)

  pub level-of : (base : ℕ → ℕ) (x : ℕ) → x ≤ d → sum d (λ j. base j + step (t j) x) ≡ sum d base + x
  level-of base x h = sum-add d base (λ j. step (t j) x) ∙ omega (arith, gone x h)
