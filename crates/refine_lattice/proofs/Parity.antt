-- Inversions of a map of the numbers below d: its inverse has as many, and without one place there are as many up to the place, its value and an even number.
-- Assumes nothing.
use mathlib.Core.Path.{◌≡◌, refl, sym, ap, ◌∙◌}
use mathlib.Core.Logic.{◌≢◌}
use Prim.Native.Nat.{ℕ, zero, suc, ◌+◌, ◌*◌, ◌-◌, ◌<◌, suc-le-suc}
use native.Mathlib.Nat.{not-suc-le-zero, le_of_suc-le-suc, suc_inj}
use native.Mathlib.Decide.{ℕ_discrete, dec_lt}
use native.Mathlib.Omega.{arith}
use Rattle.refine_lattice.specs.Lattice.{Perm}
use Rattle.lists.specs.Tables.{sum}
use Rattle.lists.specs.Words.{same}
use Rattle.refine_lattice.specs.Signs.{less}
use Rattle.refine_lattice.specs.Jacobian.{beside}
use Rattle.refine_lattice.proofs.Tab.{step, step-yes, step-no, step-one}
use Rattle.refine_lattice.proofs.Perms.{one_place}
use Rattle.lists.proofs.Words.{same-yes, same-no}
use Rattle.lists.proofs.Sums.{sum-ext, sum-add, sum-scale, sum-swap, sum-pick, sum-front}
use Rattle.refine_lattice.proofs.Span.{once, gone}

pub less-step : (m n : ℕ) → less m n ≡ step m n
less-step m zero = refl
less-step zero (suc n) = refl
less-step (suc m) (suc n) = less-step m n

-- pairs i < j with t j < t i
abbrev pub falling : (ℕ → ℕ) → ℕ → ℕ → ℕ
falling t i j = step i j * step (t j) (t i)

abbrev pub inverse : ℕ → (ℕ → ℕ) → ℕ
inverse d t = sum d (λ i. sum d (λ j. falling t i j))

pub sum-2 : (d e : ℕ) (f g : ℕ → ℕ → ℕ) → ((i j : ℕ) → i < d → j < e → f i j ≡ g i j) → sum d (λ i. sum e (λ j. f i j)) ≡ sum d (λ i. sum e (λ j. g i j))
sum-2 d e f g h = sum-ext d (λ i. sum e (λ j. f i j)) (λ i. sum e (λ j. g i j)) (λ i a. sum-ext e (λ j. f i j) (λ j. g i j) (λ j b. h i j a b))

-- a sum in another sequence
pub sum-perm : (d : ℕ) (g : ℕ → ℕ) → Perm d g → (f : ℕ → ℕ) → sum d (λ a. f (g a)) ≡ sum d f
sum-perm d g p f =
    sum-ext d (λ a. f (g a)) (λ a. sum d (λ j. same j (g a) * f j)) (λ a h. sym (sum-pick d (g a) f (p.below a h)))
    ∙ sum-swap d d (λ a j. same j (g a) * f j)
    ∙ sum-ext d (λ j. sum d (λ a. same j (g a) * f j)) f
    (λ j h.
    sum-ext d (λ a. same j (g a) * f j) (λ a. f j * same (g a) j)
    (λ a b. ap (λ (y : ℕ). y * f j) (flip j (g a)) ∙ omega arith)
    ∙ sum-scale d (f j) (λ a. same (g a) j)
    ∙ ap (λ (y : ℕ). f j * y) (once d g p j h)
    ∙ omega arith)
  where
    flip : (m n : ℕ) → same m n ≡ same n m
    flip m n =
        elim (ℕ_discrete m n) [ yes e ↦ same-yes m n e ∙ sym (same-yes n m (sym e)) | no e ↦ same-no m n e ∙ sym (same-no n m (λ w. e (sym w))) ]

-- the inverse has as many inversions
pub undone : (d : ℕ) (t g : ℕ → ℕ) → Perm d g → ((i : ℕ) → i < d → t (g i) ≡ i) → inverse d g ≡ inverse d t
undone d t g p e =
    sum-swap d d (falling g)
    ∙ sum-2 d d (λ b a. falling g a b) (λ b a. falling t (g b) (g a))
    (λ b a h k. cc (commute (step a b) (step (g b) (g a)), e b h, e a k))
    ∙ sum-ext d (λ b. sum d (λ a. falling t (g b) (g a))) (λ b. sum d (λ j. falling t (g b) j)) (λ b h. sum-perm d g p (falling t (g b)))
    ∙ sum-perm d g p (λ i. sum d (λ j. falling t i j))
  where
    commute : (x y : ℕ) → x * y ≡ y * x
    commute x y = omega arith

-- the numbers other than q
abbrev pub skip : ℕ → ℕ → ℕ
skip q a = beside q a

pub skip-not : (q a : ℕ) → skip q a ≢ q
skip-not zero a e = omega arith
skip-not (suc q) zero e = omega arith
skip-not (suc q) (suc a) e = skip-not q a (suc_inj e)

pub skip_below : (q a e : ℕ) → a < e → skip q a < suc e
skip_below zero a e h = suc-le-suc h
skip_below (suc q) zero e h = omega arith
skip_below (suc q) (suc a) zero h = absurd (not-suc-le-zero h)
skip_below (suc q) (suc a) (suc e) h = suc-le-suc (skip_below q a e (le_of_suc-le-suc h))

pub skip-low : (q a : ℕ) → a < q → skip q a ≡ a
skip-low zero a h = absurd (not-suc-le-zero h)
skip-low (suc q) zero h = refl
skip-low (suc q) (suc a) h = ap suc (skip-low q a (le_of_suc-le-suc h))

pub step_skip : (q a b : ℕ) → step (skip q a) (skip q b) ≡ step a b
step_skip zero a b = refl
step_skip (suc q) zero zero = refl
step_skip (suc q) zero (suc b) = refl
step_skip (suc q) (suc a) zero = refl
step_skip (suc q) (suc a) (suc b) = step_skip q a b

pub sum-skip : (e q : ℕ) (f : ℕ → ℕ) → q < suc e → sum (suc e) f ≡ sum e (λ a. f (skip q a)) + f q
sum-skip e zero f h = omega (arith, sum-front e f)
sum-skip zero (suc q) f h = absurd (not-suc-le-zero (le_of_suc-le-suc h))
sum-skip (suc e) (suc q) f h =
    omega (
      arith,
      sum-front (suc e) f,
      sum-skip e q (λ i. f (suc i)) (le_of_suc-le-suc h),
      sum-front e (λ a. f (skip (suc q) a)),
    )

-- one place left out, of a map that takes no value twice
module _ (e : ℕ) (t : ℕ → ℕ) (p : (i j : ℕ) → i < suc e → j < suc e → t i ≡ t j → i ≡ j) (q : ℕ) (h : q < suc e) where
  abbrev d : ℕ
  d = suc e

  abbrev rest : ℕ → ℕ
  rest a = t (skip q a)

  -- below q, with a value below that of q
  pub lower : ℕ
  lower = sum d (λ i. step i q * step (t i) (t q))

  self : falling t q q ≡ 0
  self = ap (λ (y : ℕ). y * step (t q) (t q)) (step-no q q (omega arith)) ∙ omega arith

  either : (i : ℕ) → i < d → i ≢ q → (step i q + step q i ≡ 1) × (step (t i) (t q) + step (t q) (t i) ≡ 1)
  either i b n =
      let w : t i ≢ t q = λ y. n (p i q b h y) in
      (two i q n, two (t i) (t q) w)
    where
      two : (x y : ℕ) → x ≢ y → step x y + step y x ≡ 1
      two x y n =
          elim (dec_lt x y) [
            | yes a ↦ omega (arith, step-yes x y a, step-no y x (omega arith))
            | no a ↦ omega (arith, step-no x y (omega arith), step-yes y x (omega arith))
          ]

  one_of : (x y u : ℕ) → x + y ≡ 1 → x * u + y * u ≡ u
  one_of x y u w = omega (arith, ap (λ (z : ℕ). z * u) w)

  one-of' : (x y u : ℕ) → x + y ≡ 1 → u * x + u * y ≡ u
  one-of' x y u w = omega (arith, ap (λ (z : ℕ). u * z) w)

  -- how many values are below that of q
  unfoldable pub beneath : ℕ
  beneath = sum d (λ j. step (t j) (t q))

  first-row : sum d (λ j. falling t q j) + lower ≡ beneath
  unfolding lower beneath
  first-row =
      sym (sum-add d (λ j. step q j * step (t j) (t q)) (λ i. step i q * step (t i) (t q)))
      ∙ sum-ext d (λ j. step q j * step (t j) (t q) + step j q * step (t j) (t q)) (λ j. step (t j) (t q))
      (λ j b.
      elim (ℕ_discrete j q) [
        | yes w ↦
            let z : step (t j) (t q) ≡ 0 = step-no (t j) (t q) (omega (arith, ap t w)) in
            omega (arith, ap (λ (y : ℕ). step q j * y) z, ap (λ (y : ℕ). step j q * y) z)
        | no w ↦ one_of (step q j) (step j q) (step (t j) (t q)) (omega (arith, (either j b w).0))
      ])

  first-column : sum d (λ i. falling t i q) + lower ≡ q
  unfolding lower
  first-column =
      sym (sum-add d (λ i. step i q * step (t q) (t i)) (λ i. step i q * step (t i) (t q)))
      ∙ sum-ext d (λ i. step i q * step (t q) (t i) + step i q * step (t i) (t q)) (λ i. step i q)
      (λ i b.
      elim (ℕ_discrete i q) [
        | yes w ↦
            let z : step i q ≡ 0 = step-no i q (omega arith) in
            omega (arith, ap (λ (y : ℕ). y * step (t q) (t i)) z, ap (λ (y : ℕ). y * step (t i) (t q)) z)
        | no w ↦ one-of' (step (t q) (t i)) (step (t i) (t q)) (step i q) (omega (arith, (either i b w).1))
      ])
      ∙ gone d (λ i. i) (record { below = λ i b. b; apart = λ i j a b w. omega arith }) q (omega arith)

  pub minor : inverse (suc e) t + (lower + lower) ≡ inverse e rest + (q + beneath)
  minor =
      omega (
        arith,
        sum-skip e q (λ i. sum d (λ j. falling t i j)) h,
        sum-ext e (λ a. sum d (λ j. falling t (skip q a) j)) (λ a. sum e (λ b. falling t (skip q a) (skip q b)) + falling t (skip q a) q)
            (λ a b. sum-skip e q (λ j. falling t (skip q a) j) h),
        sum-add e (λ a. sum e (λ b. falling t (skip q a) (skip q b))) (λ a. falling t (skip q a) q),
        sum-skip e q (λ i. falling t i q) h,
        self,
        first-row,
        first-column,
        sum-2 e e (λ a b. falling t (skip q a) (skip q b)) (falling rest)
            (λ a b x y. ap (λ (z : ℕ). z * step (t (skip q b)) (t (skip q a))) (step_skip q a b)),
      )

-- maps whose values stand in the same sequence have as many inversions
pub same-inverse : (e : ℕ) (t r : ℕ → ℕ) → ((a b : ℕ) → a < e → b < e → a ≢ b → t a ≢ t b)
    → ((a b : ℕ) → a < e → b < e → t b < t a → r b < r a) → inverse e t ≡ inverse e r
same-inverse e t r n h =
    sum-2 e e (falling t) (falling r)
    (λ i j a b.
    elim (ℕ_discrete i j) [
      | yes q ↦
          let z : step i j ≡ 0 = step-no i j (omega arith) in
          ap (λ (y : ℕ). y * step (t j) (t i)) z ∙ omega arith ∙ sym (ap (λ (y : ℕ). y * step (r j) (r i)) z)
      | no q ↦
          ap (λ (y : ℕ). step i j * y)
          (elim (dec_lt (t j) (t i)) [
            | yes l ↦ step-yes (t j) (t i) l ∙ sym (step-yes (r j) (r i) (h i j a b l))
            | no l ↦
                step-no (t j) (t i) (omega arith)
                ∙ sym (step-no (r j) (r i) (omega (arith, h j i b a (omega (arith, n i j a b q)))))
          ])
    ])

skip-rises : (q a b : ℕ) → a < b → skip q a < skip q b
skip-rises q a b h = step-one (skip q a) (skip q b) (step_skip q a b ∙ step-yes a b h)

pub skip-apart : (q a b : ℕ) → a ≢ b → skip q a ≢ skip q b
skip-apart q a b n e =
    elim (dec_lt a b) [ yes h ↦ omega (arith, skip-rises q a b h) | no h ↦ omega (arith, skip-rises q b a (omega arith)) ]

-- two maps, each with one place left out, whose other values stand in the same sequence
pub compare : (e : ℕ) (t r : ℕ → ℕ) → Perm (suc e) t → Perm (suc e) r → (q u : ℕ) → q < suc e → u < suc e
    → ((a b : ℕ) → a < e → b < e → t (skip q b) < t (skip q a) → r (skip u b) < r (skip u a))
    → (x : ℕ) × (y : ℕ) × (inverse (suc e) t + (x + x) + (u + r u) ≡ inverse (suc e) r + (y + y) + (q + t q))
unfolding beneath
compare e t r p w q u h k f = (
  lower e t (one_place p) q h,
  lower e r (one_place w) u k,
  omega (
    arith,
    minor e t (one_place p) q h,
    minor e r (one_place w) u k,
    gone (suc e) t p (t q) (omega (arith, p.below q h)),
    gone (suc e) r w (r u) (omega (arith, w.below u k)),
    same-inverse e (λ a. t (skip q a)) (λ a. r (skip u a))
        (λ a b i j n z. skip-apart q a b n (one_place p (skip q a) (skip q b) (skip_below q a e i) (skip_below q b e j) z))
        f,
  ),
)
