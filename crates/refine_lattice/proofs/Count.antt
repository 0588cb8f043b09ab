-- There are R to the d children: each is told by the base of the axis that it steps at each time. Assumes nothing.
use mathlib.Core.Path.{◌≡◌, refl, sym, ap, ◌∙◌, subst}
use mathlib.Core.Logic.{◌≢◌, ◌⊎◌, inl, inr, ⊎_elim}
use mathlib.Core.Bool.{Bool, true, false}
use mathlib.Core.List.Memᴰ
use mathlib.Core.List.{List, [], ◌∷◌, ◌++◌, map, reverse, reverse-reverse, head-eq_of_cons-eq, tail-eq_of_cons-eq, Memᴰ}
use Prim.Native.Nat.{ℕ, zero, suc, ◌+◌, ◌*◌, ◌-◌, ◌^◌, ◌≤◌, ◌<◌, suc-le-suc}
use native.Mathlib.Nat.{suc_inj, pow-suc, pow-zero}
use native.Mathlib.Decide.{dec_lt, ℕ_discrete}
use native.Mathlib.Omega.{arith}
use lib.ListN.{length, get_or, length-append, length-map, length-set}
use lib.Seq.{get_or-set_same, get_or-set_other, ext_get_or}
use Rattle.lists.specs.Tables.{tab, upto}
use Rattle.refine_lattice.specs.Lattice.{bump, chain, Perm}
use Rattle.lists.specs.Words.{same, skip, without}
use Rattle.refine_lattice.specs.Children.{gather, digits, bases, arrange, orders, qualifies, every, pick, select, chains, children}
use Rattle.lists.proofs.Tables.{length-tab, get_or-tab}
use Rattle.refine_lattice.proofs.Tab.{step}
use Rattle.refine_lattice.proofs.Tab.{step-yes, step-no}
use Rattle.refine_lattice.proofs.Perms.{Undoes, back, undoes, rank, rank-le, rank-perm}
use Rattle.refine_lattice.proofs.Codes.{Code, corner, corners, corners-ext, of-child, to-child}
use Rattle.refine_lattice.proofs.Compose.{key-lt}
use Rattle.refine_lattice.proofs.Enumerate.{of-gather, of-select, of-tab, Digits, of-digits, to-digits, order-of-mem, child-of-mem, mem-of-child}

-- no entry twice
abbrev pub Nodup : {A : Type 0} → List A → Type 0
Nodup [] = Unit {0}
Nodup (x ∷ l) = (Memᴰ x l → ⊥) × Nodup l

module _ {A : Type 0} where
  pub nodup_append : (a b : List A) → Nodup a → Nodup b → ((x : A) → Memᴰ x a → Memᴰ x b → ⊥) → Nodup (a ++ b)
  nodup_append [] b h l n = l
  nodup_append (x ∷ a) b h l n = (
    (λ m. ⊎_elim h.0 (n x (Memᴰ.head refl)) (Memᴰ.append_cases a m)),
    nodup_append a b h.1 l (λ y p q. n y (Memᴰ.tail p) q),
  )

  nodup-select : (t : A → Bool) (l : List A) → Nodup l → Nodup (select t l)
  nodup-select t [] h = tt
  nodup-select t (x ∷ l) h = go (t x) (nodup-select t l h.1)
    where
      go : (b : Bool) → Nodup (select t l) → Nodup (pick b (x ∷ select t l) (select t l))
      go true r = ((λ m. h.0 (of-select t l x m).0), r)
      go false r = r

module _ {A B : Type 0} where
  pub nodup-map : (f : A → B) (l : List A) → Nodup l → ((x y : A) → Memᴰ x l → Memᴰ y l → f x ≡ f y → x ≡ y) → Nodup (map f l)
  nodup-map f [] h n = tt
  nodup-map f (x ∷ l) h n = (
    (λ m. let r = Memᴰ.of_map f l m in h.0 (Memᴰ.cast (n x r.0 (Memᴰ.head refl) (Memᴰ.tail r.1) (sym r.2)) r.1)),
    nodup-map f l h.1 (λ y z p q. n y z (Memᴰ.tail p) (Memᴰ.tail q)),
  )

  pub nodup-gather : (f : A → List B) (l : List A) → Nodup l → ((x : A) → Memᴰ x l → Nodup (f x))
      → ((x y : A) (z : B) → Memᴰ x l → Memᴰ y l → Memᴰ z (f x) → Memᴰ z (f y) → x ≡ y) → Nodup (gather f l)
  nodup-gather f [] h e n = tt
  nodup-gather f (x ∷ l) h e n =
      nodup_append (f x) (gather f l) (e x (Memᴰ.head refl))
      (nodup-gather f l h.1 (λ y m. e y (Memᴰ.tail m)) (λ y z u p q. n y z u (Memᴰ.tail p) (Memᴰ.tail q)))
      (λ z p q.
      let r = of-gather f l q in
      h.0 (Memᴰ.cast (n x r.0 z (Memᴰ.head refl) (Memᴰ.tail r.1) p r.2) r.1))

  pub length-gather : (f : A → List B) (n : ℕ) (l : List A) → ((x : A) → length (f x) ≡ n) → length (gather f l) ≡ length l * n
  length-gather f n [] h = omega arith
  length-gather f n (x ∷ l) h = length-append (f x) (gather f l) ∙ omega (arith, h x, length-gather f n l h)

-- a list without the entry that a membership points at
removed : {A : Type 0} (l : List A) (y : A) → Memᴰ y l
    → (r : List A) × (length l ≡ suc (length r)) × ((z : A) → Memᴰ z l → (z ≡ y) ⊎ Memᴰ z r)
removed [] y m = absurd (Memᴰ.not-nil m)
removed (x ∷ l) y m =
    ⊎_elim
    (λ e. (l, refl, λ z h. ⊎_elim (λ q. inl (q ∙ sym e)) inr (Memᴰ.cases_cons h)))
    (λ k.
    let (r, n, g) = removed l y k in
    (x ∷ r, ap suc n, λ z h. ⊎_elim (λ q. inr (Memᴰ.head q)) (λ p. ⊎_elim inl (λ q. inr (Memᴰ.tail q)) (g z p)) (Memᴰ.cases_cons h)))
    (Memᴰ.cases_cons m)

-- a list without repeats is no longer than one that has, for each entry, an entry that no other has
pub no_longer : {A B : Type 0} (Rel : A → B → Type 0) (l : List A) (k : List B) → Nodup l
    → ((x : A) → Memᴰ x l → (y : B) × Memᴰ y k × Rel x y)
    → ((x x' : A) (y : B) → Rel x y → Rel x' y → x ≡ x') → length l ≤ length k
no_longer Rel [] k h f u = omega arith
no_longer {A} {B} Rel (x ∷ l) k h f u =
    let (y, m, e) = f x (Memᴰ.head refl) in
    let (r, n, g) = removed k y m in
    omega (
      arith,
      no_longer Rel l r h.1
          (λ z p.
          let (y', m', e') = f z (Memᴰ.tail p) in (
            y',
            ⊎_elim (λ q. absurd (h.0 (Memᴰ.cast (u x z y e (subst (Rel z) q e')) p))) (λ q. q) (g y' m'),
            e',
          ))
          u,
    )

-- the lists that the children are made from have no repeats
nodup-tab : (n : ℕ) (f : ℕ → ℕ) → ((i j : ℕ) → f i ≡ f j → i ≡ j) → Nodup (tab n f)
nodup-tab zero f h = tt
nodup-tab (suc n) f h = (
  (λ m. let r = of-tab n (λ k. f (suc k)) m in omega (arith, h 0 (suc r.0) r.2)),
  nodup-tab n (λ k. f (suc k)) (λ i j e. suc_inj (h (suc i) (suc j) e)),
)

pub nodup-upto : (n : ℕ) → Nodup (upto n)
nodup-upto n = nodup-tab n (λ i. i) (λ i j e. e)

nodup-digits : (d n : ℕ) → Nodup (digits d n)
nodup-digits zero n = (Memᴰ.not-nil, tt)
nodup-digits (suc d) n =
    nodup-gather (λ s. map (λ x. x ∷ s) (upto n)) (digits d n) (nodup-digits d n)
    (λ s m. nodup-map (λ x. x ∷ s) (upto n) (nodup-upto n) (λ x y p q e. head-eq_of_cons-eq e))
    (λ s r z m k p q.
    tail-eq_of_cons-eq ((Memᴰ.of_map (λ x. x ∷ s) (upto n) p).2 ∙ sym (Memᴰ.of_map (λ x. x ∷ r) (upto n) q).2))

pub length_digits : (d n : ℕ) → length (digits d n) ≡ n ^ d
length_digits zero n = sym (pow-zero n)
length_digits (suc d) n =
    length-gather (λ s. map (λ x. x ∷ s) (upto n)) n (digits d n) (λ s. length-map (upto n) (λ x. x ∷ s) ∙ length-tab n (λ i. i))
    ∙ ap (λ (m : ℕ). m * n) (length_digits d n)
    ∙ sym (pow-suc n d)

of-without : (x : ℕ) (l : List ℕ) {z : ℕ} → Memᴰ z (without x l) → Memᴰ z l
of-without x [] m = m
of-without x (y ∷ l) {z} m = go (same x y) (of-without x l) m
  where
    go : (n : ℕ) → (Memᴰ z (without x l) → Memᴰ z l) → Memᴰ z (skip n y (without x l)) → Memᴰ z (y ∷ l)
    go zero below m = ⊎_elim (λ e. Memᴰ.head e) (λ r. Memᴰ.tail (below r)) (Memᴰ.cases_cons m)
    go (suc n) below m = Memᴰ.tail (below m)

nodup-without : (x : ℕ) (l : List ℕ) → Nodup l → Nodup (without x l)
nodup-without x [] h = tt
nodup-without x (y ∷ l) h = go (same x y) (nodup-without x l h.1)
  where
    go : (n : ℕ) → Nodup (without x l) → Nodup (skip n y (without x l))
    go zero r = ((λ m. h.0 (of-without x l m)), r)
    go (suc n) r = r

nodup-arrange : (n : ℕ) (l : List ℕ) → Nodup l → Nodup (arrange n l)
nodup-arrange zero l h = (Memᴰ.not-nil, tt)
nodup-arrange (suc n) l h =
    nodup-gather (λ x. map (λ p. x ∷ p) (arrange n (without x l))) l h
    (λ x m. nodup-map (λ p. x ∷ p) (arrange n (without x l)) (nodup-arrange n (without x l) (nodup-without x l h)) (λ p q i j e. tail-eq_of_cons-eq e))
    (λ x y z m k p q.
    head-eq_of_cons-eq ((Memᴰ.of_map (λ p. x ∷ p) (arrange n (without x l)) p).2 ∙ sym (Memᴰ.of_map (λ p. y ∷ p) (arrange n (without y l)) q).2))

pub nodup-orders : (d : ℕ) → Nodup (orders d)
nodup-orders d =
    nodup-map reverse (arrange d (upto d)) (nodup-arrange d (upto d) (nodup-upto d))
    (λ p q i j e. sym (reverse-reverse p) ∙ ap reverse e ∙ reverse-reverse q)

-- a chain tells its base and its order
chain-base : (s p : List ℕ) → get_or (chain s p) 0 [] ≡ s
chain-base s [] = refl
chain-base s (x ∷ p) = refl

bump-axis : (s : List ℕ) (x y : ℕ) → x < length s → bump s x ≡ bump s y → x ≡ y
bump-axis s x y h e =
    elim (ℕ_discrete x y) [
      | yes q ↦ q
      | no q ↦
          absurd
          (omega (
            arith,
            ap (λ (r : List ℕ). get_or r x 0) e,
            get_or-set_same s x (suc (get_or s x 0)) 0 h,
            get_or-set_other s y x (suc (get_or s y 0)) 0 q,
          ))
    ]

chain-order : (p q s : List ℕ) → length p ≡ length q → ((i : ℕ) → i < length p → get_or p i 0 < length s) → chain s p ≡ chain s q → p ≡ q
chain-order [] [] s h b e = refl
chain-order [] (y ∷ q) s h b e = absurd (omega arith)
chain-order (x ∷ p) [] s h b e = absurd (omega arith)
chain-order (x ∷ p) (y ∷ q) s h b e =
    let t : chain (bump s x) p ≡ chain (bump s y) q = tail-eq_of_cons-eq e in
    let u : bump s x ≡ bump s y = sym (chain-base (bump s x) p) ∙ ap (λ (w : List (List ℕ)). get_or w 0 []) t ∙ chain-base (bump s y) q in
    let v : x ≡ y = bump-axis s x y (b 0 (omega arith)) u in
    let r : p ≡ q =
    chain-order p q (bump s x) (suc_inj h)
    (λ i l. subst (λ (n : ℕ). get_or p i 0 < n) (sym (length-set s x (suc (get_or s x 0)))) (b (suc i) (suc-le-suc l)))
    (t ∙ ap (λ (r : List ℕ). chain r q) (sym u)) in
    cc (v, r)

pub nodup-children : (d R : ℕ) → Nodup (children d R)
nodup-children d R =
    nodup-select (every (qualifies R)) (chains d R)
    (nodup-gather (λ s. map (chain s) (orders d)) (bases d R) (nodup-digits d (suc R))
    (λ s m.
    let g : Digits d (suc R) s = of-digits d (suc R) s m in
    nodup-map (chain s) (orders d) (nodup-orders d)
    (λ p q i j e.
    let o = order-of-mem d p i in
    let o' = order-of-mem d q j in
    chain-order p q s (o.long ∙ sym o'.long) (λ k l. omega (arith, g.0, o.perm.below k (omega (arith, o.long)))) e))
    (λ s r z m k p q.
    let a = Memᴰ.of_map (chain s) (orders d) p in
    let b = Memᴰ.of_map (chain r) (orders d) q in
    sym (chain-base s a.0) ∙ ap (λ (w : List (List ℕ)). get_or w 0 []) (a.2 ∙ sym b.2) ∙ chain-base r b.0))

-- a map of the numbers below d that rises is the identity
module _ (d : ℕ) (σ : ℕ → ℕ) (below : (i : ℕ) → i < d → σ i < d) (rises : (i j : ℕ) → i < j → j < d → σ i < σ j) where
  low : (j : ℕ) → j < d → j ≤ σ j
  low zero h = omega arith
  low (suc j) h = omega (arith, low j (omega arith), rises j (suc j) (omega arith) h)

  high : (j r : ℕ) → j + r < d → σ j + r ≤ σ (j + r)
  high j zero h = omega (arith, ap σ {x = j + 0} {y = j} (omega arith))
  high j (suc r) h =
      omega (arith, high j r (omega arith), rises (j + r) (suc (j + r)) (omega arith) (omega arith), ap σ {x = j + suc r} {y = suc (j + r)} (omega arith))

  identity : (j : ℕ) → j < d → σ j ≡ j
  identity j h = omega (arith, low j h, high j (d - suc j) (omega arith), below (j + (d - suc j)) (omega arith))

-- `f` tells the child `w`: at each time the base of the axis that is stepped then
pub record Told (d R : ℕ) (w : List (List ℕ)) (f : List ℕ) : Type 0 where
  pub base : ℕ → ℕ
  pub time : ℕ → ℕ
  pub code : Code d R base time
  pub is : w ≡ corners d base time
  pub long : length f ≡ d
  pub tells : (j : ℕ) → j < d → base j ≡ get_or f (time j) 0

-- each child is told by digits below R
digits_of : (d R : ℕ) (w : List (List ℕ)) → Memᴰ w (children d R) → (f : List ℕ) × Memᴰ f (digits d R) × Told d R w f
digits_of d R w m =
    let (base, time, c, e) = of-child (child-of-mem d R w m) in
    let u : Undoes d time (back d time c.perm) = undoes d time c.perm in
    let g : ℕ → ℕ = λ i. base (back d time c.perm i) in (
      tab d g,
      to-digits d R (tab d g) (length-tab d g, λ j h. omega (arith, get_or-tab d g j 0 h, c.top (back d time c.perm j) (u.perm.below j h))),
      record {
        base = base;
        time = time;
        code = c;
        is = e;
        long = length-tab d g;
        tells = λ j h. sym (get_or-tab d g (time j) 0 (c.perm.below j h) ∙ ap base (u.left j h));
      },
    )

-- digits below R tell a child: the axes go by the digits, and of equals the earlier time first
module _ (d R : ℕ) (f : List ℕ) (g : Digits d R f) where
  key : ℕ → ℕ
  key i = get_or f i 0 * d + (d - suc i)

  key_above : (i j : ℕ) → i < d → get_or f i 0 < get_or f j 0 → key i < key j
  unfolding key
  key_above i j h l = key-lt d (get_or f i 0) (get_or f j 0) (d - suc i) (d - suc j) (omega arith) l

  key-digit : (i j : ℕ) → j < d → key i < key j → get_or f i 0 ≤ get_or f j 0
  key-digit i j h l = elim (dec_lt (get_or f j 0) (get_or f i 0)) [ yes m ↦ omega (arith, key_above j i h m) | no m ↦ omega arith ]

  key-time : (i j : ℕ) → i < d → j < d → key i < key j → get_or f i 0 ≡ get_or f j 0 → j < i
  unfolding key
  key-time i j h l m e = omega (arith, ap (λ (x : ℕ). x * d) e)

  key_apart : (i j : ℕ) → i < j → j < d → key i ≢ key j
  unfolding key
  key_apart i j h l =
      elim (dec_lt (get_or f i 0) (get_or f j 0)) [
        | yes m ↦ omega (arith, key-lt d (get_or f i 0) (get_or f j 0) (d - suc i) (d - suc j) (omega arith) m)
        | no m ↦
            elim (dec_lt (get_or f j 0) (get_or f i 0)) [
              | yes n ↦ omega (arith, key-lt d (get_or f j 0) (get_or f i 0) (d - suc j) (d - suc i) (omega arith) n)
              | no n ↦ omega (arith, ap (λ (x : ℕ). x * d) {x = get_or f i 0} {y = get_or f j 0} (omega arith))
            ]
      ]

  axis-perm : Perm d (rank d key)
  axis-perm = rank-perm d key key_apart

  time : ℕ → ℕ
  time = back d (rank d key) axis-perm

  time-undoes : Undoes d (rank d key) time
  unfolding time
  time-undoes = undoes d (rank d key) axis-perm

  key-falls : (i j : ℕ) → i < j → j < d → key (time j) < key (time i)
  key-falls i j h l =
      elim (dec_lt (key (time j)) (key (time i))) [
        | yes m ↦ m
        | no m ↦
            omega (arith, rank-le d key (time j) (time i) (omega arith), time-undoes.right i (omega arith), time-undoes.right j l)
      ]

  told-code : Code d R (λ j. get_or f (time j) 0) time
  told-code = record {
    perm = time-undoes.perm;
    top = λ j h. g.1 (time j) (time-undoes.perm.below j h);
    falls = λ i j h l. key-digit (time j) (time i) (time-undoes.perm.below i (omega arith)) (key-falls i j h l);
    ties = λ i j h l e.
        key-time (time j) (time i) (time-undoes.perm.below j l) (time-undoes.perm.below i (omega arith)) (key-falls i j h l) (sym e);
  }

  told : Told d R (corners d (λ j. get_or f (time j) 0) time) f
  told = record { base = λ j. get_or f (time j) 0; time = time; code = told-code; is = refl; long = g.0; tells = λ j h. refl }

child-of-digits : (d R : ℕ) (f : List ℕ) → Memᴰ f (digits d R) → (w : List (List ℕ)) × Memᴰ w (children d R) × Told d R w f
child-of-digits d R f m =
    let g : Digits d R f = of-digits d R f m in
    let w : List (List ℕ) = corners d (λ j. get_or f (time d R f g j) 0) (time d R f g) in
    (w, mem-of-child d R w (to-child (told-code d R f g)), told d R f g)

-- digits tell one child only
module _ (d R : ℕ) (w w' : List (List ℕ)) (f : List ℕ) (a : Told d R w f) (b : Told d R w' f) where
  abbrev ax : ℕ → ℕ
  ax = back d b.time b.code.perm

  ax-undoes : Undoes d b.time ax
  ax-undoes = undoes d b.time b.code.perm

  -- the axes of the one order, by the times of the other
  σ : ℕ → ℕ
  σ j = ax (a.time j)

  σ-below : (j : ℕ) → j < d → σ j < d
  unfolding σ
  σ-below j h = ax-undoes.perm.below (a.time j) (a.code.perm.below j h)

  σ-time : (j : ℕ) → j < d → b.time (σ j) ≡ a.time j
  unfolding σ
  σ-time j h = ax-undoes.right (a.time j) (a.code.perm.below j h)

  σ-base : (j : ℕ) → j < d → b.base (σ j) ≡ a.base j
  σ-base j h = b.tells (σ j) (σ-below j h) ∙ ap (λ (i : ℕ). get_or f i 0) (σ-time j h) ∙ sym (a.tells j h)

  σ-rises : (i j : ℕ) → i < j → j < d → σ i < σ j
  σ-rises i j h l =
      let p : i < d = omega arith in
      elim (dec_lt (σ i) (σ j)) [
        | yes m ↦ m
        | no m ↦
            elim (ℕ_discrete (σ j) (σ i)) [
              | yes e ↦
                  absurd (a.code.perm.apart i j h l (sym (σ-time i p) ∙ ap b.time (sym e) ∙ σ-time j l))
              | no e ↦
                  let n : σ j < σ i = omega arith in
                  let q : a.base i ≡ a.base j =
                  omega (arith, a.code.falls i j h l, b.code.falls (σ j) (σ i) n (σ-below i p), σ-base i p, σ-base j l) in
                  omega (
                    arith,
                    a.code.ties i j h l q,
                    b.code.ties (σ j) (σ i) n (σ-below i p) (omega (arith, σ-base i p, σ-base j l)),
                    σ-time i p,
                    σ-time j l,
                  )
            ]
      ]

  σ-is : (j : ℕ) → j < d → σ j ≡ j
  σ-is = identity d σ σ-below σ-rises

  one_child : w ≡ w'
  one_child =
      a.is
      ∙ corners-ext d a.base a.time b.base b.time
      (λ j h. sym (σ-base j h) ∙ ap b.base (σ-is j h))
      (λ j h. sym (σ-time j h) ∙ ap b.time (σ-is j h))
      ∙ sym b.is

-- and a child has one list of digits only
module _ (d R : ℕ) (w : List (List ℕ)) (f f' : List ℕ) (a : Told d R w f) (b : Told d R w f') where
  coordinate : (c : Told d R w f) (k j : ℕ) → k < suc d → j < d → get_or (get_or w k []) j 0 ≡ c.base j + step (c.time j) k
  coordinate c k j h l =
      ap (λ (v : List (List ℕ)). get_or (get_or v k []) j 0) c.is
      ∙ ap (λ (s : List ℕ). get_or s j 0) (get_or-tab (suc d) (corner d c.base c.time) k [] h)
      ∙ get_or-tab d (λ i. c.base i + step (c.time i) k) j 0 l

  coordinate' : (k j : ℕ) → k < suc d → j < d → get_or (get_or w k []) j 0 ≡ b.base j + step (b.time j) k
  coordinate' k j h l =
      ap (λ (v : List (List ℕ)). get_or (get_or v k []) j 0) b.is
      ∙ ap (λ (s : List ℕ). get_or s j 0) (get_or-tab (suc d) (corner d b.base b.time) k [] h)
      ∙ get_or-tab d (λ i. b.base i + step (b.time i) k) j 0 l

  base_same : (j : ℕ) → j < d → a.base j ≡ b.base j
  base_same j h = omega (arith, coordinate a 0 j (omega arith) h, coordinate' 0 j (omega arith) h)

  time-same : (j : ℕ) → j < d → a.time j ≡ b.time j
  time-same j h =
      elim (dec_lt (a.time j) (b.time j)) [
        | yes m ↦
            let k : ℕ = suc (a.time j) in
            let l : k < suc d = suc-le-suc (a.code.perm.below j h) in
            omega (
              arith,
              base_same j h,
              coordinate a k j l h,
              coordinate' k j l h,
              step-yes (a.time j) k (omega arith),
              step-no (b.time j) k (omega arith),
            )
        | no m ↦
            elim (dec_lt (b.time j) (a.time j)) [
              | yes n ↦
                  let k : ℕ = suc (b.time j) in
                  let l : k < suc d = suc-le-suc (b.code.perm.below j h) in
                  omega (
                    arith,
                    base_same j h,
                    coordinate a k j l h,
                    coordinate' k j l h,
                    step-yes (b.time j) k (omega arith),
                    step-no (a.time j) k (omega arith),
                  )
              | no n ↦ omega arith
            ]
      ]

  one_list : f ≡ f'
  one_list =
      ext_get_or 0 f f' (a.long ∙ sym b.long)
      (λ i h.
      let l : i < d = omega (arith, a.long) in
      let u = undoes d a.time a.code.perm in
      let j : ℕ = back d a.time a.code.perm i in
      let k : j < d = u.perm.below i l in
      ap (λ (n : ℕ). get_or f n 0) (sym (u.right i l))
      ∙ sym (a.tells j k)
      ∙ base_same j k
      ∙ b.tells j k
      ∙ ap (λ (n : ℕ). get_or f' n 0) (sym (time-same j k) ∙ u.right i l))

-- R to the d children
pub count : (d R : ℕ) → length (children d R) ≡ R ^ d
count d R =
    omega (
      arith,
      length_digits d R,
      no_longer (Told d R) (children d R) (digits d R) (nodup-children d R) (digits_of d R) (one_child d R),
      no_longer (λ f w. Told d R w f) (digits d R) (children d R) (nodup-digits d R) (child-of-digits d R) (λ f f' w a b. one_list d R w f f' a b),
    )
