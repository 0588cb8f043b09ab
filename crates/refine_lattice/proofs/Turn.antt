-- Two different children of one cell with a common facet have opposite signs there. Assumes nothing.
use mathlib.Core.Path.{◌≡◌, sym, ap, ◌∙◌, subst}
use mathlib.Core.Logic.{◌≢◌}
use Prim.Native.Nat.{ℕ, suc, ◌+◌, ◌-◌, ◌≤◌, ◌<◌, suc-le-suc}
use native.Mathlib.Decide.{ℕ_discrete, dec_lt}
use native.Mathlib.Omega.{arith}
use Rattle.refine_lattice.specs.Lattice.{Perm}
use Rattle.refine_lattice.specs.Signs.{Odd}
use Rattle.refine_lattice.proofs.Tab.{step, step-yes, step-no, step-one}
use Rattle.refine_lattice.proofs.Perms.{one_place, onto}
use Rattle.refine_lattice.proofs.Mirror.{Spot, Facing, alike, above, under, lie}
use Rattle.refine_lattice.proofs.Parity.{inverse, skip, skip-not, skip_below, compare}

pub step-zero : (t k : ℕ) → step t k ≡ 0 → k ≤ t
step-zero t k h = elim (dec_lt t k) [ yes l ↦ omega (arith, step-yes t k l) | no l ↦ omega arith ]

module _ (e : ℕ) where
  abbrev d : ℕ
  d = suc e

  -- dropped at the same place: the axes stepped there trade times
  module _ (base t base' t' : ℕ → ℕ) (p : Perm d t) (p' : Perm d t') (i : ℕ) (b : i < d)
      (s : (x : ℕ) → x < suc d → x ≢ i → Spot d base t x base' t' x) (n : Spot d base t i base' t' i → ⊥) where
    same_base : (l : ℕ) → l < d → base l ≡ base' l
    same_base l h =
        elim (ℕ_discrete i 0) [
          | yes q ↦
              omega (
                arith,
                s d (omega arith) (omega arith) l h,
                step-yes (t l) d (p.below l h),
                step-yes (t' l) d (p'.below l h),
              )
          | no q ↦ omega (arith, s 0 (omega arith) (λ w. q (sym w)) l h)
        ]

    same_step : (x : ℕ) → x < suc d → x ≢ i → (l : ℕ) → l < d → step (t l) x ≡ step (t' l) x
    same_step x h q l k = omega (arith, s x h q l k, same_base l k)

    -- the axis stepped at i
    module _ (a : ℕ) (h : a < d) (f : t a ≡ i) where
      elsewhere : (l : ℕ) → l < d → l ≢ a → t l ≢ i
      elsewhere l k q w = q (one_place p l a k h (w ∙ sym f))

      moves : t' a ≢ i
      moves w =
          n (λ l k.
          elim (ℕ_discrete l a) [
            | yes q ↦
                omega (
                  arith,
                  same_base l k,
                  step-no (t l) i (omega (arith, ap t q)),
                  step-no (t' l) i (omega (arith, ap t' q)),
                )
            | no q ↦
                omega (
                  arith,
                  same_base l k,
                  same_step (suc i) (suc-le-suc b) (omega arith) l k,
                  late (t l) (elsewhere l k q),
                  late (t' l) (λ z. q (one_place p' l a k h (z ∙ sym w))),
                )
          ])
        where
          late : (τ : ℕ) → τ ≢ i → step τ i ≡ step τ (suc i)
          late τ q =
              elim (dec_lt τ i) [
                | yes l ↦ step-yes τ i l ∙ sym (step-yes τ (suc i) (omega arith))
                | no l ↦ step-no τ i (omega arith) ∙ sym (step-no τ (suc i) (omega arith))
              ]

      earlier : suc (t' a) ≡ i
      earlier =
          let u : t' a < suc i =
          step-one (t' a) (suc i)
          (sym (same_step (suc i) (suc-le-suc b) (omega arith) a h) ∙ step-yes (t a) (suc i) (omega arith)) in
          let low : i - 1 ≤ t' a =
          elim (ℕ_discrete i 0) [
            | yes q ↦ omega arith
            | no q ↦
                step-zero (t' a) (i - 1)
                (sym (same_step (i - 1) (omega arith) (omega arith) a h) ∙ step-no (t a) (i - 1) (omega arith))
          ] in
          omega (arith, moves)

      kept : (x y : ℕ) → x < e → y < e → t (skip a y) < t (skip a x) → t' (skip a y) < t' (skip a x)
      kept x y k l w =
          let lx : skip a x < d = skip_below a x e k in
          let ly : skip a y < d = skip_below a y e l in
          let z : ℕ = t (skip a x) in
          let zb : z < suc d = omega (arith, p.below (skip a x) lx) in
          let zn : z ≢ i = elsewhere (skip a x) lx (skip-not a x) in
          omega (
            arith,
            step-zero (t' (skip a x)) z (sym (same_step z zb zn (skip a x) lx) ∙ step-no z z (omega arith)),
            step-one (t' (skip a y)) z (sym (same_step z zb zn (skip a y) ly) ∙ step-yes (t (skip a y)) z w),
          )

      traded-odd : Odd (inverse d t + i + (inverse d t' + i))
      unfolding Odd
      traded-odd =
          let (x, y, g) = compare e t t' p p' a a h h kept in
          (inverse d t' + y + i - x, omega (arith, earlier))

  -- dropped at the end and at the beginning: the last step comes first
  module _ (base t base' t' : ℕ → ℕ) (p : Perm d t) (p' : Perm d t') (s : (x : ℕ) → x < d → Spot d base t x base' t' (suc x))
      (a : ℕ) (h : a < d) (f : t a ≡ e) where
    soon : (l : ℕ) → l < d → l ≢ a → t l < e
    soon l k q =
        let n : t l ≢ e = λ w. q (one_place p l a k h (w ∙ sym f)) in
        omega (arith, p.below l k)

    full : (l : ℕ) → l < d → step (t' l) d ≡ 1
    full l k = step-yes (t' l) d (p'.below l k)

    first : t' a ≡ 0
    first =
        omega (
          arith,
          step-one (t' a) 1
              (omega (
                arith,
                s e (omega arith) a h,
                s 0 (omega arith) a h,
                full a h,
                step-no (t a) e (omega arith),
              )),
        )

    base_kept : (l : ℕ) → l < d → l ≢ a → base l ≡ base' l
    base_kept l k q = omega (arith, s e (omega arith) l k, full l k, step-yes (t l) e (soon l k q))

    kept_on : (x y : ℕ) → x < e → y < e → t (skip a y) < t (skip a x) → t' (skip a y) < t' (skip a x)
    kept_on x y k l w =
        let lx : skip a x < d = skip_below a x e k in
        let ly : skip a y < d = skip_below a y e l in
        let z : ℕ = t (skip a x) in
        let zb : z < d = p.below (skip a x) lx in
        omega (
          arith,
          step-zero (t' (skip a x)) (suc z)
              (omega (arith, s z zb (skip a x) lx, base_kept (skip a x) lx (skip-not a x), step-no z z (omega arith))),
          step-one (t' (skip a y)) (suc z)
              (omega (arith, s z zb (skip a y) ly, base_kept (skip a y) ly (skip-not a y), step-yes (t (skip a y)) z w)),
        )

    turned-odd : Odd (inverse d t + d + (inverse d t' + 0))
    unfolding Odd
    turned-odd =
        let (x, y, g) = compare e t t' p p' a a h h kept_on in
        (inverse d t' + y + e - x, omega (arith, first))

  round : (base t base' t' : ℕ → ℕ) (p : Perm d t) (p' : Perm d t') → ((x : ℕ) → x < d → Spot d base t x base' t' (suc x))
      → Odd (inverse d t + d + (inverse d t' + 0))
  round base t base' t' p p' s =
      let (a, h, f) = onto d t p e (omega arith) in
      turned-odd base t base' t' p p' s a h f

  -- children of one cell
  pub turn : (base t base' t' : ℕ → ℕ) (p : Perm d t) (p' : Perm d t') (i j : ℕ) (b : i < suc d) (c : j < suc d)
      → Facing d base t i base' t' j → (Spot d base t i base' t' j → ⊥) → Odd (inverse d t + i + (inverse d t' + j))
  turn base t base' t' p p' i j b c f n =
      elim (lie d base t base' t' p p' i j b c f (omega arith)) [
        | alike q s ↦
            elim (dec_lt i d) [
              | yes h ↦
                  let (a, k, g) = onto d t p i h in
                  subst (λ (y : ℕ). Odd (inverse d t + i + (inverse d t' + y))) q
                  (traded-odd base t base' t' p p' i h s (λ w. n (subst (Spot d base t i base' t') q w)) a k g)
              | no h ↦
                  absurd (n (λ l k.
                  let u : i ≡ d = omega arith in
                  omega (
                    arith,
                    s 0 (omega arith) (omega arith) l k,
                    step-yes (t l) i (omega (arith, p.below l k)),
                    step-yes (t' l) j (omega (arith, p'.below l k)),
                  )))
            ]
        | above u v s ↦
            subst (λ (y : ℕ). Odd (inverse d t + i + (inverse d t' + y))) (sym v)
            (subst (λ (y : ℕ). Odd (inverse d t + y + (inverse d t' + 0))) (sym u) (round base t base' t' p p' s))
        | under u v s ↦
            flip (inverse d t' + j) (inverse d t + i)
            (subst (λ (y : ℕ). Odd (inverse d t' + j + (inverse d t + y))) (sym u)
            (subst (λ (y : ℕ). Odd (inverse d t' + y + (inverse d t + 0))) (sym v)
            (round base' t' base t p' p (λ x h l k. sym (s x h l k)))))
      ]
    where
      flip : (x y : ℕ) → Odd (x + y) → Odd (y + x)
      flip x y o = subst Odd (omega arith) o
