-- The children are the codes: a base and a time for each axis. Corner k has coordinate j one above its base exactly when axis j was stepped before k.
-- Assumes nothing.
use mathlib.Core.Path.{◌≡◌, refl, sym, ap, ◌∙◌, subst}
use mathlib.Core.Logic.{◌≢◌}
use mathlib.Core.List.{List, [], ◌∷◌}
use Prim.Native.Nat.{ℕ, zero, suc, ◌+◌, ◌-◌, ◌≤◌, ◌<◌, suc-le-suc}
use native.Mathlib.Nat.{not-suc-le-zero, le_of_suc-le-suc}
use native.Mathlib.Decide.{dec_lt}
use native.Mathlib.Omega.{arith}
use lib.ListN.{length, get_or, length-set}
use lib.Seq.{get_or-set_same, get_or-set_other}
use Rattle.lists.specs.Tables.{tab}
use Rattle.refine_lattice.specs.Lattice.{Falls, bump, chain, Perm, Order, Child}
use Rattle.lists.proofs.Tables.{length-tab, get_or-tab, tab-ext, list-tab}
use Rattle.refine_lattice.proofs.Tab.{step, step-le, step-yes, step-one}
use Rattle.refine_lattice.proofs.Perms.{Undoes, back, undoes, step-mono}

-- what it is to qualify, place by place
pub falls-top : (R : ℕ) (s : List ℕ) → Falls R s → (j : ℕ) → get_or s j 0 ≤ R
falls-top R [] h j = omega arith
falls-top R (x ∷ s) h zero = h.0
falls-top R (x ∷ s) h (suc j) = omega (arith, falls-top x s h.1 j)

pub falls_at : (R : ℕ) (s : List ℕ) → Falls R s → (i j : ℕ) → i < j → get_or s j 0 ≤ get_or s i 0
falls_at R [] h i j l = omega arith
falls_at R (x ∷ s) h i zero l = absurd (not-suc-le-zero l)
falls_at R (x ∷ s) h zero (suc j) l = falls-top x s h.1 j
falls_at R (x ∷ s) h (suc i) (suc j) l = falls_at x s h.1 i j (le_of_suc-le-suc l)

pub to-falls : (n : ℕ) (f : ℕ → ℕ) (R : ℕ) → ((j : ℕ) → j < n → f j ≤ R) → ((i j : ℕ) → i < j → j < n → f j ≤ f i) → Falls R (tab n f)
to-falls zero f R h m = tt
to-falls (suc n) f R h m = (
  h zero (omega arith),
  to-falls n (λ k. f (suc k)) (f zero) (λ j l. m zero (suc j) (omega arith) (suc-le-suc l)) (λ i j k l. m (suc i) (suc j) (suc-le-suc k) (suc-le-suc l)),
)

-- the points of a chain
pub length-chain : (p s : List ℕ) → length (chain s p) ≡ suc (length p)
length-chain [] s = refl
length-chain (x ∷ p) s = ap suc (length-chain p (bump s x))

length-point : (p s : List ℕ) (k : ℕ) → k ≤ length p → length (get_or (chain s p) k []) ≡ length s
length-point [] s zero h = refl
length-point [] s (suc k) h = absurd (not-suc-le-zero h)
length-point (x ∷ p) s zero h = refl
length-point (x ∷ p) s (suc k) h = length-point p (bump s x) k (le_of_suc-le-suc h) ∙ length-set s x (suc (get_or s x 0))

-- an axis that the order leaves out keeps its coordinate
stays : (p s : List ℕ) (j k : ℕ) → ((i : ℕ) → i < length p → get_or p i 0 ≢ j) → k ≤ length p → get_or (get_or (chain s p) k []) j 0 ≡ get_or s j 0
stays [] s j zero n h = refl
stays [] s j (suc k) n h = absurd (not-suc-le-zero h)
stays (x ∷ p) s j zero n h = refl
stays (x ∷ p) s j (suc k) n h =
    stays p (bump s x) j k (λ i l. n (suc i) (suc-le-suc l)) (le_of_suc-le-suc h)
    ∙ get_or-set_other s x j (suc (get_or s x 0)) 0 (λ e. n zero (omega arith) (sym e))

-- (1) axis j, stepped at time t, has its coordinate one higher from corner t + 1 on
stepped : (p s : List ℕ) (j t k : ℕ)
    → t < length p → get_or p t 0 ≡ j
    → ((i i' : ℕ) → i < i' → i' < length p → get_or p i 0 ≢ get_or p i' 0)
    → j < length s → k ≤ length p
    → get_or (get_or (chain s p) k []) j 0 ≡ get_or s j 0 + step t k
stepped [] s j t k l e n m h = absurd (not-suc-le-zero l)
stepped (x ∷ p) s j t zero l e n m h = omega arith
stepped (x ∷ p) s j zero (suc k) l e n m h =
    stays p (bump s x) j k (λ i a b. n zero (suc i) (omega arith) (suc-le-suc a) (e ∙ sym b)) (le_of_suc-le-suc h)
    ∙ rw e (get_or-set_same s j (suc (get_or s j 0)) 0 m ∙ omega arith)
stepped (x ∷ p) s j (suc t) (suc k) l e n m h =
    stepped p (bump s x) j t k (le_of_suc-le-suc l) e (λ i i' a b. n (suc i) (suc i') (suc-le-suc a) (suc-le-suc b))
    (rw length-set m) (le_of_suc-le-suc h)
    ∙ ap (λ (y : ℕ). y + step t k) (get_or-set_other s x j (suc (get_or s x 0)) 0 (λ a. n zero (suc t) (omega arith) l (sym a ∙ sym e)))

-- a code: for each axis its base and the time at which it is stepped; it falls as the points do, and where two bases are equal the lower axis is first
pub record Code (d R : ℕ) (base t : ℕ → ℕ) : Type 0 where
  pub perm : Perm d t
  pub top : (j : ℕ) → j < d → base j < R
  pub falls : (i j : ℕ) → i < j → j < d → base j ≤ base i
  pub ties : (i j : ℕ) → i < j → j < d → base i ≡ base j → t i < t j

abbrev pub corner : ℕ → (ℕ → ℕ) → (ℕ → ℕ) → ℕ → List ℕ
corner d base t k = tab d (λ j. base j + step (t j) k)

abbrev pub corners : ℕ → (ℕ → ℕ) → (ℕ → ℕ) → List (List ℕ)
corners d base t = tab (suc d) (corner d base t)

pub corner-ext : (d : ℕ) (base t base' t' : ℕ → ℕ) → ((j : ℕ) → j < d → base j ≡ base' j) → ((j : ℕ) → j < d → t j ≡ t' j)
    → (k : ℕ) → corner d base t k ≡ corner d base' t' k
corner-ext d base t base' t' e f k =
    tab-ext d (λ j. base j + step (t j) k) (λ j. base' j + step (t' j) k) (λ j h. cc (e j h, f j h))

pub corners-ext : (d : ℕ) (base t base' t' : ℕ → ℕ) → ((j : ℕ) → j < d → base j ≡ base' j) → ((j : ℕ) → j < d → t j ≡ t' j)
    → corners d base t ≡ corners d base' t'
corners-ext d base t base' t' e f =
    tab-ext (suc d) (corner d base t) (corner d base' t') (λ k h. corner-ext d base t base' t' e f k)

-- (1) the chain of a base and an order, whose times are t
chain-corners : (d : ℕ) (s p : List ℕ) (t : ℕ → ℕ) → length s ≡ d → Order d p → Undoes d (λ i. get_or p i 0) t
    → chain s p ≡ corners d (λ j. get_or s j 0) t
chain-corners d s p t l o u =
    list-tab (suc d) (chain s p) (corner d (λ j. get_or s j 0) t) []
    (length-chain p s ∙ ap suc o.long)
    (λ k h. list-tab d (get_or (chain s p) k []) (λ j. get_or s j 0 + step (t j) k) 0
    (length-point p s k (omega (arith, o.long)) ∙ l)
    (λ j m. stepped p s j (t j) k (omega (arith, o.long, u.perm.below j m)) (u.right j m)
    (λ i i' a b. o.perm.apart i i' a (omega (arith, o.long))) (omega arith) (omega (arith, o.long))))

module _ (d R : ℕ) (w : List (List ℕ)) (c : Child d R w) where
  base-of : ℕ → ℕ
  base-of j = get_or c.base j 0

  time-of : ℕ → ℕ
  time-of = back d (λ i. get_or c.order i 0) c.axes.perm

  time-undoes : Undoes d (λ i. get_or c.order i 0) time-of
  unfolding time-of
  time-undoes = undoes d (λ i. get_or c.order i 0) c.axes.perm

  is-corners : w ≡ corners d base-of time-of
  unfolding base-of
  is-corners = c.steps ∙ chain-corners d c.base c.order time-of c.long c.axes time-undoes

  falls-there : (k : ℕ) → k < suc d → Falls R (corner d base-of time-of k)
  falls-there k h =
      subst (Falls R)
      (ap (λ (v : List (List ℕ)). get_or v k []) is-corners ∙ get_or-tab (suc d) (corner d base-of time-of) k [] h)
      (c.kept k (rw is-corners (rw length-tab h)))

  value : (k j : ℕ) → j < d → get_or (corner d base-of time-of k) j 0 ≡ base-of j + step (time-of j) k
  value k j h = get_or-tab d (λ i. base-of i + step (time-of i) k) j 0 h

  under : (k j : ℕ) → k < suc d → j < d → base-of j + step (time-of j) k ≤ R
  under k j h l = omega (arith, value k j l, falls-top R (corner d base-of time-of k) (falls-there k h) j)

  drops : (k i j : ℕ) → k < suc d → i < j → j < d → base-of j + step (time-of j) k ≤ base-of i + step (time-of i) k
  drops k i j h l m =
      omega (arith, value k i (omega arith), value k j m, falls_at R (corner d base-of time-of k) (falls-there k h) i j l)

  code_of : Code d R base-of time-of
  code_of = record {
    perm = time-undoes.perm;
    top = λ j h. omega (arith, under d j (omega arith) h, step-yes (time-of j) d (time-undoes.perm.below j h));
    falls = λ i j h l. omega (arith, drops 0 i j (omega arith) h l);
    ties = λ i j h l e.
        let k : ℕ = suc (time-of j) in
        let one : step (time-of i) k ≡ 1 =
        omega (
          arith,
          drops k i j (omega (arith, time-undoes.perm.below j l)) h l,
          step-yes (time-of j) k (omega arith),
          step-le (time-of i) k,
        ) in
        omega (arith, step-one (time-of i) k one, time-undoes.perm.apart i j h l);
  }

-- (2) every child is a code's corners
pub of-child : {d R : ℕ} {w : List (List ℕ)} → Child d R w → (base : ℕ → ℕ) × (t : ℕ → ℕ) × Code d R base t × (w ≡ corners d base t)
of-child {d} {R} {w} c = (base-of d R w c, time-of d R w c, code_of d R w c, is-corners d R w c)

module _ (d R : ℕ) (base t : ℕ → ℕ) (c : Code d R base t) where
  order-of : ℕ → ℕ
  order-of = back d t c.perm

  order-undoes : Undoes d t order-of
  unfolding order-of
  order-undoes = undoes d t c.perm

  order-at : (i : ℕ) → i < d → get_or (tab d order-of) i 0 ≡ order-of i
  order-at i h = get_or-tab d order-of i 0 h

  is-order : Order d (tab d order-of)
  is-order = record {
    long = length-tab d order-of;
    perm = record {
      below = λ i h. omega (arith, order-at i h, order-undoes.perm.below i h);
      apart = λ i j h l. omega (arith, order-at i (omega arith), order-at j l, order-undoes.perm.apart i j h l);
    };
  }

  times-undo : Undoes d (λ i. get_or (tab d order-of) i 0) t
  times-undo = record {
    perm = c.perm;
    right = λ i h. order-at (t i) (c.perm.below i h) ∙ order-undoes.left i h;
    left = λ i h. ap t (order-at i h) ∙ order-undoes.right i h;
  }

  lower : (k i j : ℕ) → i < j → j < d → base j + step (t j) k ≤ base i + step (t i) k
  lower k i j h l =
      elim (dec_lt (base j) (base i)) [
        | yes a ↦ omega (arith, step-le (t j) k)
        | no a ↦
            let e : base i ≡ base j = omega (arith, c.falls i j h l) in
            omega (arith, step-mono (t i) (t j) k (omega (arith, c.ties i j h l e)))
      ]

  pub falls-corner : (k : ℕ) → Falls R (corner d base t k)
  falls-corner k =
      to-falls d (λ j. base j + step (t j) k) R (λ j h. omega (arith, c.top j h, step-le (t j) k)) (lower k)

  child-of : Child d R (corners d base t)
  child-of = record {
    base = tab d base;
    order = tab d order-of;
    long = length-tab d base;
    digits = λ j h. omega (arith, get_or-tab d base j 0 h, c.top j h);
    axes = is-order;
    steps =
        sym
        (chain-corners d (tab d base) (tab d order-of) t (length-tab d base) is-order times-undo
        ∙ corners-ext d (λ j. get_or (tab d base) j 0) t base t (λ j h. get_or-tab d base j 0 h) (λ j h. refl));
    kept = λ k h. rw (get_or-tab (suc d) (corner d base t) k [] (rw length-tab at h)) (falls-corner k);
  }

-- (2) and the corners of every code are a child
pub to-child : {d R : ℕ} {base t : ℕ → ℕ} → Code d R base t → Child d R (corners d base t)
to-child {d} {R} {base} {t} c = child-of d R base t c

-- its times undo the order of its axes
pub of-order : {d R : ℕ} {w : List (List ℕ)} (c : Child d R w) → Undoes d (λ i. get_or c.order i 0) (of-child c).1
unfolding of-child
of-order {d} {R} {w} c = time-undoes d R w c
