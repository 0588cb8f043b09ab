-- The falling points: the other bases give no child, and each point follows from the one before it. Assumes nothing.
use mathlib.Core.Path.{◌≡◌, refl, sym, ap, ◌∙◌, subst}
use mathlib.Core.Bool.{Bool, true, false, ◌&&◌}
use mathlib.Core.List.Memᴰ
use mathlib.Core.List.{List, [], ◌∷◌, ◌++◌, map, append_assoc, Memᴰ}
use Prim.Native.Nat.{ℕ, zero, suc, ◌+◌, ◌-◌, ◌≤◌, ◌<◌}
use native.Mathlib.Nat.{not-suc-le-zero, le_of_suc-le-suc}
use native.Mathlib.Decide.{dec_lt}
use native.Mathlib.Omega.{arith}
use lib.Dec.{leb, ltb}
use lib.ListN.{length, get_or, replicate}
use borrow.Author.Tests.{lt-ltb, le-ltb, leb-true, le-leb, lt-leb}
use Rattle.lists.specs.Tables.{tab, upto}
use Rattle.lists.proofs.Tables.{tab-ext}
use Rattle.multiindex.specs.Permutation.{gather}
use Rattle.multiindex.specs.Cartesian.{digits}
use Rattle.multiindex.proofs.Tables.{first_of, second-of}
use Rattle.refine_lattice.specs.Children.{qualifies, pick}
use Rattle.refine_lattice.proofs.Enumerate.{of-gather, of-tab}
use Rattle.refine_pattern.specs.WorkChains.{top, falling, risen}

-- what is gathered from gathered lists
gather_append : {A B : Type 0} (f : A → List B) (l m : List A) → gather f (l ++ m) ≡ gather f l ++ gather f m
gather_append f [] m = refl
gather_append f (x ∷ l) m = ap (λ k. f x ++ k) (gather_append f l m) ∙ sym (append_assoc (f x) (gather f l) (gather f m))

pub gather-gather : {A B C : Type 0} (f : B → List C) (g : A → List B) (l : List A) → gather f (gather g l) ≡ gather (λ x. gather f (g x)) l
gather-gather f g [] = refl
gather-gather f g (x ∷ l) = gather_append f (g x) (gather g l) ∙ ap (λ k. gather f (g x) ++ k) (gather-gather f g l)

gather-same : {A B : Type 0} (f g : A → List B) (l : List A) → ((x : A) → f x ≡ g x) → gather f l ≡ gather g l
gather-same f g [] h = refl
gather-same f g (x ∷ l) h = ap (λ k. k ++ gather f l) (h x) ∙ ap (λ k. g x ++ k) (gather-same f g l h)

pub gather_none : {A B C : Type 0} (f : B → List C) (g : A → B) (l : List A) → ((x : A) → f (g x) ≡ []) → gather f (map g l) ≡ []
gather_none f g [] h = refl
gather_none f g (x ∷ l) h = ap (λ k. k ++ gather f (map g l)) (h x) ∙ gather_none f g l h

-- a point that falls from x falls from any R above it
higher : (R x : ℕ) (s : List ℕ) → x ≤ R → qualifies x s ≡ true → qualifies R s ≡ true
higher R x [] h q = refl
higher R x (y ∷ s) h q =
    let l : y ≤ x = leb-true y x (first_of (leb y x) (qualifies y s) q) in
    ap (λ (b : Bool). b && qualifies y s) (le-leb y R (omega arith)) ∙ second-of (leb y x) (qualifies y s) q

never : (b : Bool) → b ≡ true → b ≡ false → ⊥
never true e f = let z : ◌≡◌ {A = ℕ} 0 1 = cc in omega arith
never false e f = let z : ◌≡◌ {A = ℕ} 0 1 = cc in omega arith

lower : (R x : ℕ) (s : List ℕ) → x ≤ R → qualifies R s ≡ false → qualifies x s ≡ false
lower R x s h q = go (qualifies x s) refl
  where
    go : (b : Bool) → qualifies x s ≡ b → qualifies x s ≡ false
    go true e = absurd (never (qualifies R s) (higher R x s h e) q)
    go false e = e

-- so none falls behind a point that does not
behind : (R x : ℕ) (s : List ℕ) → qualifies R s ≡ false → qualifies R (x ∷ s) ≡ false
behind R x s q =
    elim (dec_lt R x) [
      | yes h ↦ ap (λ (b : Bool). b && qualifies x s) (lt-leb x R h)
      | no h ↦ ap (λ (b : Bool). b && qualifies x s) (le-leb x R (omega arith)) ∙ lower R x s (omega arith) q
    ]

-- nor in front of one that is higher
under : (R x : ℕ) (s : List ℕ) → x < top s → qualifies R (x ∷ s) ≡ false
under R x [] h = absurd (omega arith)
under R x (y ∷ s) h = go (leb x R)
  where
    go : (b : Bool) → (b && (leb y x && qualifies y s)) ≡ false
    go true = ap (λ (b : Bool). b && qualifies y s) (lt-leb y x h)
    go false = refl

top-low : (R : ℕ) (s : List ℕ) → qualifies R s ≡ true → top s ≤ R
top-low R [] q = omega arith
top-low R (y ∷ s) q = leb-true y R (first_of (leb y R) (qualifies y s) q)

-- THE OTHER BASES: what is gathered from all bases is gathered from the falling ones, where nothing comes from the others
module _ {B : Type 0} (f : List ℕ → List B) (s : List ℕ) where
  abbrev front : ℕ → (ℕ → ℕ) → List B
  front n h = gather f (map (λ x. x ∷ s) (tab n h))

  front-none : (n : ℕ) (h : ℕ → ℕ) → ((x : ℕ) → f (x ∷ s) ≡ []) → front n h ≡ []
  front-none zero h e = refl
  front-none (suc n) h e = ap (λ (k : List B). k ++ front n (λ i. h (suc i))) (e (h zero)) ∙ front-none n (λ i. h (suc i)) e

  front-past : (n m k : ℕ) (h g : ℕ → ℕ) → k ≡ n + m → ((i : ℕ) → i < n → f (h i ∷ s) ≡ []) → ((i : ℕ) → h (n + i) ≡ g i) → front k h ≡ front m g
  front-past zero m k h g l e q =
      let c : k ≡ m = omega arith in
      ap (λ (n : ℕ). front n h) c
      ∙ ap (λ (t : List ℕ). gather f (map (λ x. x ∷ s) t))
      (tab-ext m h g (λ i b. ap h {x = i} {y = 0 + i} (omega arith) ∙ q i))
  front-past (suc n) m zero h g l e q = absurd (omega arith)
  front-past (suc n) m (suc k) h g l e q =
      ap (λ (t : List B). t ++ front k (λ i. h (suc i))) (e 0 (omega arith))
      ∙ front-past n m k (λ i. h (suc i)) g (omega arith) (λ i b. e (suc i) (omega arith)) (λ i. ap h {x = suc (n + i)} {y = suc n + i} (omega arith) ∙ q i)

module _ {B : Type 0} (R : ℕ) (f : List ℕ → List B) (h : (s : List ℕ) → qualifies R s ≡ false → f s ≡ []) where
  fronts : (s : List ℕ) → front f s (suc R) (λ i. i) ≡ front f s (suc (R - top s)) (λ i. top s + i)
  fronts s = go (qualifies R s) refl
    where
      go : (b : Bool) → qualifies R s ≡ b → front f s (suc R) (λ i. i) ≡ front f s (suc (R - top s)) (λ i. top s + i)
      go true e =
          let l : top s ≤ R = top-low R s e in
          front-past f s (top s) (suc (R - top s)) (suc R) (λ i. i) (λ i. top s + i) (omega arith) (λ i b. h (i ∷ s) (under R i s b)) (λ i. refl)
      go false e =
          front-none f s (suc R) (λ i. i) (λ x. h (x ∷ s) (behind R x s e))
          ∙ sym (front-none f s (suc (R - top s)) (λ i. top s + i) (λ x. h (x ∷ s) (behind R x s e)))

pub by-falling : {B : Type 0} (d R : ℕ) (f : List ℕ → List B) → ((s : List ℕ) → qualifies R s ≡ false → f s ≡ []) → gather f (digits d (suc R)) ≡ gather f (falling d R)
by-falling zero R f h = refl
by-falling (suc d) R f h =
    gather-gather f (λ s. map (λ x. x ∷ s) (upto (suc R))) (digits d (suc R))
    ∙ by-falling d R (λ s. front f s (suc R) (λ i. i)) (λ s q. front-none f s (suc R) (λ i. i) (λ x. h (x ∷ s) (behind R x s q)))
    ∙ gather-same (λ s. front f s (suc R) (λ i. i)) (λ s. front f s (suc (R - top s)) (λ i. top s + i)) (falling d R) (fronts R f h)
    ∙ sym (gather-gather f (λ s. map (λ x. x ∷ s) (tab (suc (R - top s)) (λ i. top s + i))) (falling d R))

-- EACH FROM THE ONE BEFORE IT
low : (d R : ℕ) (s : List ℕ) → Memᴰ s (falling d R) → top s ≤ R
low zero R s m = let e : s ≡ [] = Memᴰ.eq_of_singleton m in omega (arith, ap top e)
low (suc d) R s m =
    let (t, a, b) = of-gather (λ s. map (λ x. x ∷ s) (tab (suc (R - top s)) (λ i. top s + i))) (falling d R) m in
    let (z, k, e) = Memᴰ.of_map (λ x. x ∷ t) (tab (suc (R - top t)) (λ i. top t + i)) b in
    let (i, l, q) = of-tab (suc (R - top t)) (λ i. top t + i) k in
    omega (arith, ap top e, q, l, low d R t a)

-- the list goes on from x, each entry made of the one before it
abbrev Runs : {A : Type 0} → (A → A) → A → List A → Type 0
Runs f x [] = Unit {0}
Runs f x (y ∷ l) = (y ≡ f x) × Runs f y l

abbrev last : {A : Type 0} → A → List A → A
last x [] = x
last x (y ∷ l) = last y l

run-append : {A : Type 0} (f : A → A) (x : A) (l : List A) (z : A) (m : List A) → Runs f x l → last x l ≡ z → Runs f z m → Runs f x (l ++ m)
run-append f x [] z m r e q = subst (λ y. Runs f y m) (sym e) q
run-append f x (y ∷ l) z m r e q = (r.0, run-append f y l z m r.1 e q)

run_at : {A : Type 0} (f : A → A) (x : A) (l : List A) → Runs f x l → (b : ℕ) (z : A) → b < length l → get_or (x ∷ l) (suc b) z ≡ f (get_or (x ∷ l) b z)
run_at f x [] r b z h = absurd (not-suc-le-zero h)
run_at f x (y ∷ l) r zero z h = r.0
run_at f x (y ∷ l) r (suc b) z h = run_at f y l r.1 b z (le_of_suc-le-suc h)

-- the first coordinate goes up to R
module _ (R : ℕ) (s : List ℕ) where
  abbrev rise-to : Bool → ℕ → List ℕ
  rise-to b x = pick b (suc x ∷ s) (top (risen R s) ∷ risen R s)

  ups : (x m : ℕ) (g : ℕ → ℕ) → ((i : ℕ) → g i ≡ suc (x + i)) → x + m ≤ R
      → Runs (risen R) (x ∷ s) (map (λ y. y ∷ s) (tab m g)) × (last (x ∷ s) (map (λ y. y ∷ s) (tab m g)) ≡ (x + m) ∷ s)
  ups x zero g h l = (tt, ap (λ (y : ℕ). y ∷ s) {x = x} {y = x + 0} (omega arith))
  ups x (suc m) g h l =
      let e : g zero ≡ suc x = h zero ∙ omega arith in
      let r = ups (g zero) m (λ i. g (suc i)) (λ i. h (suc i) ∙ omega (arith, e)) (omega (arith, e)) in (
        (ap (λ (y : ℕ). y ∷ s) e ∙ sym (ap (λ b. rise-to b x) (lt-ltb x R (omega arith))), r.0),
        r.1 ∙ ap (λ (y : ℕ). y ∷ s) {x = g zero + m} {y = x + suc m} (omega (arith, e)),
      )

-- block after block
abbrev pub block : ℕ → List ℕ → List (List ℕ)
block R s = map (λ x. x ∷ s) (tab (suc (R - top s)) (λ i. top s + i))

abbrev after : ℕ → List ℕ → List (List ℕ)
after R s = map (λ x. x ∷ s) (tab (R - top s) (λ i. top s + suc i))

blocks : (R : ℕ) (s : List ℕ) (l : List (List ℕ)) → top s ≤ R → ((t : List ℕ) → Memᴰ t l → top t ≤ R) → Runs (risen R) s l
    → Runs (risen R) ((top s + 0) ∷ s) (after R s ++ gather (block R) l)
blocks R s [] h a r =
    let u = ups R s (top s + 0) (R - top s) (λ i. top s + suc i) (λ i. omega arith) (omega arith) in
    run-append (risen R) ((top s + 0) ∷ s) (after R s) _ [] u.0 u.1 tt
blocks R s (t ∷ l) h a r =
    let u = ups R s (top s + 0) (R - top s) (λ i. top s + suc i) (λ i. omega arith) (omega arith) in
    let full : R ≤ top s + 0 + (R - top s) = omega arith in
    let plain : top t + 0 ≡ top t = omega arith in
    run-append (risen R) ((top s + 0) ∷ s) (after R s) _ _ u.0 u.1 (
      ap (λ (x : ℕ). x ∷ t) plain
          ∙ ap (λ (v : List ℕ). top v ∷ v) r.0
          ∙ sym (ap (λ b. rise-to R s b (top s + 0 + (R - top s))) (le-ltb (top s + 0 + (R - top s)) R full)),
      blocks R t l (a t (Memᴰ.head refl)) (λ v m. a v (Memᴰ.tail m)) r.1,
    )

-- all falling points: from zeros on, each risen
record Listed (d R : ℕ) : Type 0 where
  others : List (List ℕ)
  is : falling d R ≡ replicate d 0 ∷ others
  runs : Runs (risen R) (replicate d 0) others

top-zero : (d : ℕ) → top (replicate d 0) ≡ 0
top-zero zero = refl
top-zero (suc d) = refl

listed : (d R : ℕ) → Listed d R
listed zero R = record { others = []; is = refl; runs = tt }
listed (suc d) R =
    let r = listed d R in
    let z : List ℕ = replicate d 0 in
    let rest : List (List ℕ) = after R z ++ gather (block R) r.others in
    let e : top z + 0 ≡ 0 = omega (arith, top-zero d) in
    let under-R : (t : List ℕ) → Memᴰ t (z ∷ r.others) → top t ≤ R = λ t m. low d R t (subst (λ (l : List (List ℕ)). Memᴰ t l) (sym r.is) m) in
    record {
      others = rest;
      is = ap (gather (block R)) r.is ∙ ap (λ (x : ℕ). (x ∷ z) ∷ rest) e;
      runs =
          subst (λ (x : ℕ). Runs (risen R) (x ∷ z) rest) e
          (blocks R z r.others (omega (arith, top-zero d)) (λ t m. under-R t (Memᴰ.tail m)) r.runs);
    }

module _ (d R : ℕ) where
  pub falling-first : get_or (falling d R) 0 [] ≡ replicate d 0
  falling-first = ap (λ (l : List (List ℕ)). get_or l 0 []) (listed d R).is

  pub falling-next : (b : ℕ) → suc b < length (falling d R) → get_or (falling d R) (suc b) [] ≡ risen R (get_or (falling d R) b [])
  falling-next b h =
      let r = listed d R in
      ap (λ (l : List (List ℕ)). get_or l (suc b) []) r.is
      ∙ run_at (risen R) (replicate d 0) r.others r.runs b [] (omega (arith, ap length r.is))
      ∙ ap (λ (l : List (List ℕ)). risen R (get_or l b [])) (sym r.is)

pub risen-length : (R : ℕ) (s : List ℕ) → length (risen R s) ≡ length s
risen-length R [] = refl
risen-length R (x ∷ s) = go (ltb x R) (risen-length R s)
  where
    go : (b : Bool) → length (risen R s) ≡ length s → length (pick b (suc x ∷ s) (top (risen R s) ∷ risen R s)) ≡ suc (length s)
    go true e = refl
    go false e = ap suc e
