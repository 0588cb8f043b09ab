-- Points by their shares of all vertices: the support tells the point, and a point with weights over a word has no more vertices than the word. Assumes nothing.
use mathlib.Core.Path.{◌≡◌, refl, sym, ap, ◌∙◌, subst}
use mathlib.Core.List.{List, [], ◌∷◌}
use Prim.Native.Nat.{ℕ, zero, suc, ◌+◌, ◌*◌, ◌-◌, ◌≤◌, ◌<◌, suc-le-suc}
use native.Mathlib.Nat.{not-suc-le-zero, le_of_suc-le-suc, le_refl, mul-le-mul_left}
use native.Mathlib.Decide.{dec_lt, ℕ_discrete}
use native.Mathlib.Omega.{arith}
use lib.ListN.{length, get_or, length-append, get_or-append, get_or-eq_default}
use lib.Seq.{ext_get_or, get_or-append-add}
use Rattle.lists.specs.Tables.{tab}
use Rattle.lists.specs.Words.{same}
use Rattle.refine_lattice.specs.Complex.{weigh}
use Rattle.refine_lattice.specs.Refine.{positives, first}
use Rattle.lists.proofs.Tables.{length-tab, get_or-tab}
use Rattle.lists.proofs.Words.{same-yes, same-no}
use Rattle.refine_births.specs.Support.{supporters, shares, padded, row_of, total}

-- ---- the support of a list of shares
pub supporters-long : (v : ℕ) (l : List ℕ) → length (supporters v l) ≡ positives l
supporters-long v [] = refl
supporters-long v (zero ∷ l) = supporters-long (suc v) l
supporters-long v (suc w ∷ l) = ap suc (supporters-long (suc v) l)

pub shares-long : (l : List ℕ) → length (shares l) ≡ positives l
shares-long [] = refl
shares-long (zero ∷ l) = shares-long l
shares-long (suc w ∷ l) = ap suc (shares-long l)

pub supporters-low : (v : ℕ) (l : List ℕ) (j z : ℕ) → j < positives l → v ≤ get_or (supporters v l) j z
supporters-low v [] j z h = absurd (not-suc-le-zero h)
supporters-low v (zero ∷ l) j z h = omega (arith, supporters-low (suc v) l j z h)
supporters-low v (suc w ∷ l) zero z h = le_refl v
supporters-low v (suc w ∷ l) (suc j) z h = omega (arith, supporters-low (suc v) l j z (le_of_suc-le-suc h))

pub supporters-high : (v : ℕ) (l : List ℕ) (j z : ℕ) → j < positives l → get_or (supporters v l) j z < v + length l
supporters-high v [] j z h = absurd (not-suc-le-zero h)
supporters-high v (zero ∷ l) j z h = omega (arith, supporters-high (suc v) l j z h)
supporters-high v (suc w ∷ l) zero z h = omega arith
supporters-high v (suc w ∷ l) (suc j) z h = omega (arith, supporters-high (suc v) l j z (le_of_suc-le-suc h))

pub supporters-past : (v : ℕ) (l : List ℕ) (j z : ℕ) → positives l ≤ j → get_or (supporters v l) j z ≡ z
supporters-past v l j z h = get_or-eq_default (supporters v l) z (omega (arith, supporters-long v l))

pub shares-past : (l : List ℕ) (j z : ℕ) → positives l ≤ j → get_or (shares l) j z ≡ z
shares-past l j z h = get_or-eq_default (shares l) z (omega (arith, shares-long l))

-- the first of a support
pub supporters-first : (v : ℕ) (l : List ℕ) (z : ℕ) → 0 < positives l → get_or (supporters v l) 0 z ≡ v + first l
supporters-first v [] z h = absurd (not-suc-le-zero h)
supporters-first v (zero ∷ l) z h = omega (arith, supporters-first (suc v) l z h)
supporters-first v (suc w ∷ l) z h = omega arith

pub shares-most : (l : List ℕ) (b j : ℕ) → ((i : ℕ) → get_or l i 0 ≤ b) → get_or (shares l) j 0 ≤ b
shares-most [] b j h = h j
shares-most (zero ∷ l) b j h = shares-most l b j (λ i. h (suc i))
shares-most (suc w ∷ l) b zero h = h zero
shares-most (suc w ∷ l) b (suc j) h = shares-most l b j (λ i. h (suc i))

-- a support that starts later is not this one
later : (v : ℕ) (l m : List ℕ) → v ∷ m ≡ supporters (suc v) l → ⊥
later v l m e =
    elim (dec_lt 0 (positives l)) [
      | yes h ↦ omega (arith, supporters-low (suc v) l 0 0 h, ap (λ (k : List ℕ). get_or k 0 0) e)
      | no h ↦ omega (arith, supporters-long (suc v) l, ap length e)
    ]

-- the support tells the point
pub told : (v : ℕ) (l m : List ℕ) → length l ≡ length m → supporters v l ≡ supporters v m → shares l ≡ shares m → l ≡ m
told v [] [] n e s = refl
told v [] (y ∷ m) n e s = absurd (omega arith)
told v (x ∷ l) [] n e s = absurd (omega arith)
told v (zero ∷ l) (zero ∷ m) n e s = ap (λ (k : List ℕ). 0 ∷ k) (told (suc v) l m (omega arith) e s)
told v (zero ∷ l) (suc y ∷ m) n e s = absurd (later v l (supporters (suc v) m) (sym e))
told v (suc x ∷ l) (zero ∷ m) n e s = absurd (later v m (supporters (suc v) l) e)
told v (suc x ∷ l) (suc y ∷ m) n e s =
    let a : supporters (suc v) l ≡ supporters (suc v) m = cc in
    let b : shares l ≡ shares m = cc in
    let c : suc x ≡ suc y = cc in
    cc (told (suc v) l m (omega arith) a b)

-- ---- rows
pub row-long : (size n : ℕ) (l : List ℕ) → length (row_of size n l) ≡ size + size
row-long size n l =
    omega (
      arith,
      length-append (padded size n (supporters 0 l)) (padded size 0 (shares l)),
      length-tab size (λ j. get_or (supporters 0 l) j n),
      length-tab size (λ j. get_or (shares l) j 0),
    )

pub row-vertex : (size n : ℕ) (l : List ℕ) (j : ℕ) → j < size → get_or (row_of size n l) j 0 ≡ get_or (supporters 0 l) j n
row-vertex size n l j h =
    get_or-append (padded size n (supporters 0 l)) (padded size 0 (shares l)) 0 j (omega (arith, length-tab size (λ j. get_or (supporters 0 l) j n)))
    ∙ get_or-tab size (λ j. get_or (supporters 0 l) j n) j 0 h

pub row-weight : (size n : ℕ) (l : List ℕ) (j : ℕ) → j < size → get_or (row_of size n l) (size + j) 0 ≡ get_or (shares l) j 0
row-weight size n l j h =
    ap (λ (s : ℕ). get_or (row_of size n l) (s + j) 0) (sym (length-tab size (λ j. get_or (supporters 0 l) j n)))
    ∙ get_or-append-add (padded size n (supporters 0 l)) (padded size 0 (shares l)) j 0
    ∙ get_or-tab size (λ j. get_or (shares l) j 0) j 0 h

-- where the support ends
module _ (n : ℕ) (l m : List ℕ) (el : length l ≡ n) (em : length m ≡ n) where
  no-shorter : (size : ℕ) → positives l ≤ size → ((j : ℕ) → j < size → get_or (supporters 0 l) j n ≡ get_or (supporters 0 m) j n) → positives m < positives l → ⊥
  no-shorter size fl e h =
      omega (arith, e (positives m) (omega arith), supporters-past 0 m (positives m) n (le_refl (positives m)), supporters-high 0 l (positives m) n h)

-- equal rows are rows of one point
pub row_told : (size n : ℕ) (l m : List ℕ) → length l ≡ n → length m ≡ n → positives l ≤ size → positives m ≤ size → row_of size n l ≡ row_of size n m → l ≡ m
row_told size n l m el em fl fm e =
    let v : (j : ℕ) → j < size → get_or (supporters 0 l) j n ≡ get_or (supporters 0 m) j n =
    λ j h. sym (row-vertex size n l j h) ∙ ap (λ (r : List ℕ). get_or r j 0) e ∙ row-vertex size n m j h in
    let w : (j : ℕ) → j < size → get_or (shares l) j 0 ≡ get_or (shares m) j 0 =
    λ j h. sym (row-weight size n l j h) ∙ ap (λ (r : List ℕ). get_or r (size + j) 0) e ∙ row-weight size n m j h in
    let p : positives l ≡ positives m =
    elim (dec_lt (positives m) (positives l)) [
      | yes h ↦ absurd (no-shorter n l m el em size fl v h)
      | no h ↦ elim (dec_lt (positives l) (positives m)) [
        | yes k ↦ absurd (no-shorter n m l em el size fm (λ j g. sym (v j g)) k)
        | no k ↦ omega arith
      ]
    ] in
    told 0 l m (el ∙ sym em)
    (ext_get_or n (supporters 0 l) (supporters 0 m) (supporters-long 0 l ∙ p ∙ sym (supporters-long 0 m)) (λ j h. v j (omega (arith, supporters-long 0 l))))
    (ext_get_or 0 (shares l) (shares m) (shares-long l ∙ p ∙ sym (shares-long m)) (λ j h. w j (omega (arith, shares-long l))))

-- no number of a row is large
pub row_below : (size n b : ℕ) (l : List ℕ) (j : ℕ) → length l ≡ n → ((i : ℕ) → get_or l i 0 ≤ b) → j < size + size → get_or (row_of size n l) j 0 < n + b + 1
row_below size n b l j e h k =
    elim (dec_lt j size) [
      | yes g ↦ elim (dec_lt j (positives l)) [
        | yes i ↦ omega (arith, row-vertex size n l j g, supporters-high 0 l j n i)
        | no i ↦ omega (arith, row-vertex size n l j g, supporters-past 0 l j n (omega arith))
      ]
      | no g ↦
          let q : size + (j - size) ≡ j = omega arith in
          omega (arith, ap (λ (i : ℕ). get_or (row_of size n l) i 0) q, row-weight size n l (j - size) (omega arith), shares-most l b (j - size) h)
    ]

-- ---- weights over a word
pub weigh-past : (k ws : List ℕ) (v : ℕ) → length ws ≡ length k → ((i : ℕ) → i < length k → get_or k i 0 ≡ v → get_or ws i 0 ≡ 0) → weigh k ws v ≡ 0
weigh-past [] [] v e h = refl
weigh-past [] (w ∷ ws) v e h = absurd (omega arith)
weigh-past (x ∷ k) [] v e h = absurd (omega arith)
weigh-past (x ∷ k) (w ∷ ws) v e h =
    let r : weigh k ws v ≡ 0 = weigh-past k ws v (omega arith) (λ i l. h (suc i) (suc-le-suc l)) in
    elim (ℕ_discrete x v) [
      | yes q ↦ omega (arith, r, ap (λ (y : ℕ). y * same v x) (h 0 (omega arith) q))
      | no q ↦ omega (arith, r, ap (λ (y : ℕ). w * y) (same-no v x (λ t. q (sym t))))
    ]

pub weigh-least : (k ws : List ℕ) (v i : ℕ) → length ws ≡ length k → i < length k → get_or k i 0 ≡ v → get_or ws i 0 ≤ weigh k ws v
weigh-least [] ws v i e h q = absurd (not-suc-le-zero h)
weigh-least (x ∷ k) [] v i e h q = absurd (omega arith)
weigh-least (x ∷ k) (w ∷ ws) v zero e h q = omega (arith, ap (λ (y : ℕ). w * y) (same-yes v x (sym q)))
weigh-least (x ∷ k) (w ∷ ws) v (suc i) e h q = omega (arith, weigh-least k ws v i (omega arith) (le_of_suc-le-suc h) q)

same-le : (m n : ℕ) → same m n ≤ 1
same-le zero zero = omega arith
same-le zero (suc n) = omega arith
same-le (suc m) zero = omega arith
same-le (suc m) (suc n) = same-le m n

pub weigh-most : (k ws : List ℕ) (v : ℕ) → weigh k ws v ≤ total ws
weigh-most k [] v = omega arith
weigh-most [] (w ∷ ws) v = omega arith
weigh-most (x ∷ k) (w ∷ ws) v = omega (arith, weigh-most k ws v, mul-le-mul_left w (same-le v x))

-- sums of shares
positives-cons : (a : ℕ) (l : List ℕ) → positives (a ∷ l) ≤ suc (positives l)
positives-cons zero l = omega arith
positives-cons (suc a) l = omega arith

positives-keep : (a : ℕ) (l : List ℕ) → positives l ≤ positives (a ∷ l)
positives-keep zero l = omega arith
positives-keep (suc a) l = omega arith

positives-step : (a b : ℕ) (l f g : List ℕ) → positives l ≤ positives f + positives g → positives ((a + b) ∷ l) ≤ positives (a ∷ f) + positives (b ∷ g)
positives-step zero zero l f g h = h
positives-step zero (suc b) l f g h =
    let e : positives (suc b ∷ g) ≡ suc (positives g) = refl in
    let k : positives (0 ∷ f) ≡ positives f = refl in
    omega (arith, positives-cons (0 + suc b) l)
positives-step (suc a) b l f g h =
    let e : positives (suc a ∷ f) ≡ suc (positives f) = refl in
    omega (arith, positives-cons (suc a + b) l, positives-keep b g)

positives-add : (n : ℕ) (f g : ℕ → ℕ) → positives (tab n (λ v. f v + g v)) ≤ positives (tab n f) + positives (tab n g)
positives-add zero f g = omega arith
positives-add (suc n) f g =
    positives-step (f 0) (g 0) (tab n (λ v. f (suc v) + g (suc v))) (tab n (λ v. f (suc v))) (tab n (λ v. g (suc v)))
    (positives-add n (λ v. f (suc v)) (λ v. g (suc v)))

positives-none : (n : ℕ) (f : ℕ → ℕ) → ((v : ℕ) → f v ≡ 0) → positives (tab n f) ≡ 0
positives-none zero f h = refl
positives-none (suc n) f h = subst (λ (y : ℕ). positives (y ∷ tab n (λ v. f (suc v))) ≡ 0) (sym (h 0)) (positives-none n (λ v. f (suc v)) (λ v. h (suc v)))

mul-zero' : (w : ℕ) → w * 0 ≡ 0
mul-zero' w = omega arith

positives-one : (n w x : ℕ) → positives (tab n (λ v. w * same v x)) ≤ 1
positives-one zero w x = omega arith
positives-one (suc n) w zero =
    omega (arith, positives-cons (w * same 0 0) (tab n (λ v. w * same (suc v) 0)), positives-none n (λ v. w * same (suc v) 0) (λ v. mul-zero' w))
positives-one (suc n) w (suc x) = subst (λ (y : ℕ). positives (y ∷ tab n (λ v. w * same v x)) ≤ 1) (sym (mul-zero' w)) (positives-one n w x)

pub positives-most : (n : ℕ) (k ws : List ℕ) → positives (tab n (weigh k ws)) ≤ length k
positives-most n k [] = omega (arith, positives-none n (λ v. 0) (λ v. refl))
positives-most n [] (w ∷ ws) = omega (arith, positives-none n (λ v. 0) (λ v. refl))
positives-most n (x ∷ k) (w ∷ ws) = omega (arith, positives-add n (λ v. w * same v x) (weigh k ws), positives-one n w x, positives-most n k ws)

pub point-most : (n : ℕ) (k ws : List ℕ) (i : ℕ) → get_or (tab n (weigh k ws)) i 0 ≤ total ws
point-most n k ws i =
    elim (dec_lt i n) [
      | yes h ↦ omega (arith, get_or-tab n (weigh k ws) i 0 h, weigh-most k ws i)
      | no h ↦
          let q : length (tab n (weigh k ws)) ≤ i = omega (arith, length-tab n (weigh k ws)) in
          omega (arith, get_or-eq_default (tab n (weigh k ws)) 0 q)
    ]
