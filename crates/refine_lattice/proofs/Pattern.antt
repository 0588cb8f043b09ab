-- Laws of the pattern of a refined cell: how many rows, their length and sum, that the corners of a child differ, and its ends R = 1 and d = 0; and how a
-- complex is visited along it. Assumes nothing.
use mathlib.Core.Path.{◌≡◌, refl, sym, ap, ◌∙◌, subst}
use mathlib.Core.Logic.{◌≢◌, ⊎_elim}
use mathlib.Core.List.Memᴰ
use mathlib.Core.List.{List, [], ◌∷◌, ◌++◌, map, append-nil, head-eq_of_cons-eq, tail-eq_of_cons-eq, Memᴰ}
use Prim.Native.Nat.{ℕ, zero, suc, ◌+◌, ◌*◌, ◌-◌, ◌^◌, ◌≤◌, ◌<◌, suc-le-suc}
use native.Mathlib.Nat.{not-suc-le-zero, le_of_suc-le-suc, suc-mul, zero-mul, mul_assoc, pow-zero, pow-suc}
use native.Mathlib.Omega.{arith}
use lib.ListN.{length, get_or, take, drop, length-append, length-map}
use Rattle.lists.specs.Rows.{flat}
use Rattle.lists.proofs.Flat.{flat-length, flat-at}
use Rattle.lists.specs.Tables.{tab}
use Rattle.refine_lattice.specs.Lattice.{Falls, weights}
use Rattle.lists.specs.Words.{same}
use Rattle.refine_lattice.specs.Complex.{weigh}
use Rattle.refine_lattice.specs.Children.{gather, children}
use Rattle.refine_lattice.specs.Pattern.{pattern_of}
use Rattle.refine_lattice.specs.Refine.{point, visits}
use Rattle.lists.proofs.Tables.{length-tab, get_or-tab, tab-ext, map-tab}
use Rattle.refine_lattice.proofs.Tab.{step, step-yes, step-no}
use Rattle.refine_lattice.proofs.Perms.{Undoes, back, undoes}
use Rattle.refine_lattice.proofs.Codes.{Code, corner, corners, of-child, to-child, length-chain}
use Rattle.refine_lattice.proofs.Weights.{length-weights}
use Rattle.refine_lattice.proofs.Enumerate.{of-gather, child-of-mem, mem-of-child}
use Rattle.refine_lattice.proofs.Count.{count}

-- the corners of a child
module _ (d R : ℕ) (w : List (List ℕ)) (m : Memᴰ w (children d R)) where
  pub child-corners : length w ≡ suc d
  child-corners =
      let c = child-of-mem d R w m in
      ap length c.steps ∙ length-chain c.order c.base ∙ ap suc c.axes.long

  -- corner k has d coordinates, and qualifies
  pub corner-long : (k : ℕ) → k < suc d → length (get_or w k []) ≡ d
  corner-long k h =
      let (base, t, c, e) = of-child (child-of-mem d R w m) in
      ap (λ (v : List (List ℕ)). length (get_or v k [])) e
      ∙ ap length (get_or-tab (suc d) (corner d base t) k [] h)
      ∙ length-tab d (λ j. base j + step (t j) k)

  pub corner-falls : (k : ℕ) → k < suc d → Falls R (get_or w k [])
  corner-falls k h = (child-of-mem d R w m).kept k (omega (arith, child-corners))

  -- two corners differ, at the axis that is stepped between them
  pub corners-differ : (i k : ℕ) → i < k → k < suc d → get_or w i [] ≢ get_or w k []
  corners-differ i k l h q =
      let (base, t, c, e) = of-child (child-of-mem d R w m) in
      let u : Undoes d t (back d t c.perm) = undoes d t c.perm in
      let j : ℕ = back d t c.perm i in
      let b : j < d = u.perm.below i (omega arith) in
      let r : t j ≡ i = u.right i (omega arith) in
      let at : (n : ℕ) → n < suc d → get_or (get_or w n []) j 0 ≡ base j + step (t j) n =
      λ n a.
      ap (λ (v : List (List ℕ)). get_or (get_or v n []) j 0) e
      ∙ ap (λ (s : List ℕ). get_or s j 0) (get_or-tab (suc d) (corner d base t) n [] a)
      ∙ get_or-tab d (λ o. base o + step (t o) n) j 0 b in
      omega (
        arith,
        at i (omega arith),
        at k h,
        ap (λ (s : List ℕ). get_or s j 0) q,
        step-no (t j) i (omega arith),
        step-yes (t j) k (omega arith),
      )

-- weights tell the point
pub weights-tell : (R : ℕ) (s r : List ℕ) → Falls R s → Falls R r → length s ≡ length r → weights R s ≡ weights R r → s ≡ r
weights-tell R [] [] f g n e = refl
weights-tell R [] (y ∷ r) f g n e = absurd (omega arith)
weights-tell R (x ∷ s) [] f g n e = absurd (omega arith)
weights-tell R (x ∷ s) (y ∷ r) f g n e =
    let q : x ≡ y = omega (arith, head-eq_of_cons-eq e, f.0, g.0) in
    let t : s ≡ r =
    weights-tell x s r f.1 (subst (λ (z : ℕ). Falls z r) (sym q) g.1) (omega arith)
    (tail-eq_of_cons-eq e ∙ ap (λ (z : ℕ). weights z r) (sym q)) in
    cc (q, t)

pub rows-differ : (d R : ℕ) (w : List (List ℕ)) → Memᴰ w (children d R) → (i k : ℕ) → i < k → k < suc d
    → weights R (get_or w i []) ≢ weights R (get_or w k [])
rows-differ d R w m i k l h e =
    corners-differ d R w m i k l h
    (weights-tell R (get_or w i []) (get_or w k []) (corner-falls d R w m i (omega arith)) (corner-falls d R w m k h)
    (corner-long d R w m i (omega arith) ∙ sym (corner-long d R w m k h)) e)

-- the sum of a row
abbrev pub added : List ℕ → ℕ
added [] = 0
added (x ∷ l) = x + added l

weights-sum : (R : ℕ) (s : List ℕ) → Falls R s → added (weights R s) ≡ R
weights-sum R [] h = omega arith
weights-sum R (x ∷ s) h = omega (arith, h.0, weights-sum x s h.1)

mem-place : {A : Type 0} (l : List A) (z x : A) → Memᴰ x l → (i : ℕ) × (i < length l) × (get_or l i z ≡ x)
mem-place [] z x m = absurd (Memᴰ.not-nil m)
mem-place (y ∷ l) z x m =
    ⊎_elim (λ e. (0, omega arith, sym e)) (λ r. let q = mem-place l z x r in (suc q.0, suc-le-suc q.1, q.2)) (Memᴰ.cases_cons m)

-- each row has d + 1 weights, of sum R
module _ (d R : ℕ) (r : List ℕ) (m : Memᴰ r (pattern_of d R)) where
  row_of : (w : List (List ℕ)) × (s : List ℕ) × (length s ≡ d) × Falls R s × (weights R s ≡ r)
  row_of =
      let (w, h, l) = of-gather (map (weights R)) (children d R) m in
      let (s, k, e) = Memᴰ.of_map (weights R) w l in
      let (i, b, q) = mem-place w [] s k in
      let c : i < suc d = omega (arith, child-corners d R w h) in (
        w,
        s,
        subst (λ (x : List ℕ). length x ≡ d) q (corner-long d R w h i c),
        subst (Falls R) q (corner-falls d R w h i c),
        e,
      )

  pub row-long : length r ≡ suc d
  row-long = let (w, s, l, f, e) = row_of in ap length (sym e) ∙ length-weights R s ∙ ap suc l

  pub row-sum : added r ≡ R
  row-sum = let (w, s, l, f, e) = row_of in ap added (sym e) ∙ weights-sum R s f

-- R^d (d + 1) rows
gather-long : {A B : Type 0} (f : A → List B) (n : ℕ) (l : List A) → ((x : A) → Memᴰ x l → length (f x) ≡ n) → length (gather f l) ≡ length l * n
gather-long f n [] h = sym (zero-mul n)
gather-long f n (x ∷ l) h =
    length-append (f x) (gather f l)
    ∙ omega (arith, h x (Memᴰ.head refl), gather-long f n l (λ y m. h y (Memᴰ.tail m)), suc-mul (length l) n)

pub row_count : (d R : ℕ) → length (pattern_of d R) ≡ R ^ d * suc d
row_count d R =
    gather-long (map (weights R)) (suc d) (children d R) (λ w m. length-map w (weights R) ∙ child-corners d R w m) ∙ ap (λ (n : ℕ). n * suc d) (count d R)

-- rows of one length, by number
pub gather-at : {A B : Type 0} (f : A → List B) (n : ℕ) (z : B) (y : A) (l : List A) → ((x : A) → Memᴰ x l → length (f x) ≡ n) → (c i : ℕ) → c < length l → i < n
    → get_or (gather f l) (c * n + i) z ≡ get_or (f (get_or l c y)) i z
gather-at f n z y [] h c i b a = absurd (not-suc-le-zero b)
gather-at {A} {B} f n z y (x ∷ l) h zero i b a =
    ap (λ (o : ℕ). get_or (f x ++ gather f l) o z) {x = zero * n + i} {y = i} (omega (arith, zero-mul n))
    ∙ front (f x) (gather f l) i (omega (arith, h x (Memᴰ.head refl)))
  where
    front : (p q : List B) (i : ℕ) → i < length p → get_or (p ++ q) i z ≡ get_or p i z
    front [] q i h = absurd (not-suc-le-zero h)
    front (y ∷ p) q zero h = refl
    front (y ∷ p) q (suc i) h = front p q i (le_of_suc-le-suc h)
gather-at {A} {B} f n z y (x ∷ l) h (suc c) i b a =
    ap (λ (o : ℕ). get_or (f x ++ gather f l) o z) {x = suc c * n + i} {y = length (f x) + (c * n + i)} (omega (arith, suc-mul c n, h x (Memᴰ.head refl)))
    ∙ behind (f x) (gather f l) (c * n + i)
    ∙ gather-at f n z y l (λ u m. h u (Memᴰ.tail m)) c i (le_of_suc-le-suc b) a
  where
    behind : (p q : List B) (i : ℕ) → get_or (p ++ q) (length p + i) z ≡ get_or q i z
    behind [] q i = ap (λ (o : ℕ). get_or q o z) {x = 0 + i} {y = i} (omega arith)
    behind (y ∷ p) q i = ap (λ (o : ℕ). get_or (y ∷ (p ++ q)) o z) {x = suc (length p) + i} {y = suc (length p + i)} (omega arith) ∙ behind p q i

-- corner i of child c
pub row_at : (d R c i : ℕ) → c < R ^ d → i < suc d → get_or (pattern_of d R) (c * suc d + i) [] ≡ get_or (map (weights R) (get_or (children d R) c [])) i []
row_at d R c i h l =
    gather-at (map (weights R)) (suc d) [] [] (children d R) (λ w m. length-map w (weights R) ∙ child-corners d R w m) c i (omega (arith, count d R)) l

-- row m of the flat list
pub flat-row : (d R m : ℕ) → m < R ^ d * suc d → take (suc d) (drop (m * suc d) (flat (pattern_of d R))) ≡ get_or (pattern_of d R) m []
flat-row d R m h = flat-at (suc d) (pattern_of d R) (row-long d R) m (omega (arith, row_count d R))

pub flat-count : (d R : ℕ) → length (flat (pattern_of d R)) ≡ R ^ d * (suc d * suc d)
flat-count d R =
    flat-length (suc d) (pattern_of d R) (row-long d R) ∙ ap (λ (n : ℕ). n * suc d) (row_count d R) ∙ mul_assoc (R ^ d) (suc d) (suc d)

-- a complex is visited along the pattern, word by word
map-gather : {A B C : Type 0} (g : B → C) (f : A → List B) (l : List A) → map g (gather f l) ≡ gather (λ x. map g (f x)) l
map-gather g f [] = refl
map-gather {A} {B} {C} g f (x ∷ l) = over (f x) ∙ ap (λ (r : List C). map g (f x) ++ r) (map-gather g f l)
  where
    over : (p : List B) → map g (p ++ gather f l) ≡ map g p ++ map g (gather f l)
    over [] = refl
    over (y ∷ p) = ap (λ (r : List C). g y ∷ r) (over p)

map-map : {A B C : Type 0} (g : B → C) (f : A → B) (l : List A) → map g (map f l) ≡ map (λ x. g (f x)) l
map-map g f [] = refl
map-map {A} {B} {C} g f (x ∷ l) = ap (λ (r : List C). g (f x) ∷ r) (map-map g f l)

gather_ext : {A B : Type 0} (f g : A → List B) (l : List A) → ((x : A) → f x ≡ g x) → gather f l ≡ gather g l
gather_ext f g [] h = refl
gather_ext f g (x ∷ l) h = cc (h x, gather_ext f g l h)

pub visits-pattern : (d R n : ℕ) (ks : List (List ℕ)) → visits d R n ks ≡ gather (λ k. map (λ ws. tab n (weigh k ws)) (pattern_of d R)) ks
visits-pattern d R n ks =
    gather_ext (λ k. gather (λ c. map (point R n k) c) (children d R)) (λ k. map (λ ws. tab n (weigh k ws)) (pattern_of d R)) ks
    (λ k.
    gather_ext (λ c. map (point R n k) c) (λ c. map (λ ws. tab n (weigh k ws)) (map (weights R) c)) (children d R)
    (λ c. sym (map-map (λ ws. tab n (weigh k ws)) (weights R) c))
    ∙ sym (map-gather (λ ws. tab n (weigh k ws)) (map (weights R)) (children d R)))

-- R = 1: one child, whose corner k has weight 1 at place k only
alone : {A : Type 0} (l : List A) (x : A) → length l ≡ 1 → Memᴰ x l → l ≡ x ∷ []
alone [] x n m = absurd (Memᴰ.not-nil m)
alone (y ∷ z ∷ l) x n m = absurd (omega arith)
alone {A} (y ∷ []) x n m = ap (λ (z : A). z ∷ []) (⊎_elim (λ e. sym e) (λ r. absurd (Memᴰ.not-nil r)) (Memᴰ.cases_cons m))

one_power : (d : ℕ) → 1 ^ d ≡ 1
one_power zero = pow-zero 1
one_power (suc d) = pow-suc 1 d ∙ omega (arith, one_power d)

plain : (d : ℕ) → Code d 1 (λ j. 0) (λ j. j)
plain d = record {
  perm = record { below = λ i h. h; apart = λ i j h l e. omega arith };
  top = λ j h. omega arith;
  falls = λ i j h l. omega arith;
  ties = λ i j h l e. h;
}

weights-none : (d : ℕ) → weights 0 (tab d (λ j. 0)) ≡ tab (suc d) (λ j. 0)
weights-none zero = refl
weights-none (suc d) = ap (λ (r : List ℕ). 0 ∷ r) (weights-none d)

weights-one : (d k : ℕ) → k ≤ d → weights 1 (tab d (λ j. step j k)) ≡ tab (suc d) (λ j. same j k)
weights-one zero zero h = refl
weights-one zero (suc k) h = absurd (not-suc-le-zero h)
weights-one (suc d) zero h = ap (λ (r : List ℕ). 1 ∷ r) (weights-none d)
weights-one (suc d) (suc k) h = ap (λ (r : List ℕ). 0 ∷ r) (weights-one d k (le_of_suc-le-suc h))

pub unrefined : (d : ℕ) → pattern_of d 1 ≡ tab (suc d) (λ k. tab (suc d) (λ j. same j k))
unrefined d =
    ap (gather (map (weights 1)))
    (alone (children d 1) (corners d (λ j. 0) (λ j. j)) (count d 1 ∙ one_power d) (mem-of-child d 1 (corners d (λ j. 0) (λ j. j)) (to-child (plain d))))
    ∙ append-nil (map (weights 1) (corners d (λ j. 0) (λ j. j)))
    ∙ map-tab (weights 1) (suc d) (corner d (λ j. 0) (λ j. j))
    ∙ tab-ext (suc d) (λ k. weights 1 (corner d (λ j. 0) (λ j. j) k)) (λ k. tab (suc d) (λ j. same j k))
    (λ k h.
    ap (weights 1) (tab-ext d (λ j. 0 + step j k) (λ j. step j k) (λ j l. omega arith)) ∙ weights-one d k (le_of_suc-le-suc h))

-- dimension 0: one child, one corner, of weight R
pub pointwise : (R : ℕ) → pattern_of 0 R ≡ (R ∷ []) ∷ []
pointwise R = refl
