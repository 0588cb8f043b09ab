-- The list of the children holds exactly the children. Assumes nothing.
use mathlib.Core.Path.{◌≡◌, refl, sym, ap, ◌∙◌, subst}
use mathlib.Core.Logic.{◌≢◌, ◌↔◌, ◌⊎◌, inl, inr, ⊎_elim}
use mathlib.Core.Bool.{Bool, true, false, ◌&&◌}
use mathlib.Core.List.Memᴰ
use mathlib.Core.List.{List, [], ◌∷◌, map, reverse, reverse_aux, reverse-reverse, Memᴰ}
use Prim.Native.Nat.{ℕ, zero, suc, ◌+◌, ◌≤◌, ◌<◌, suc-le-suc}
use native.Mathlib.Nat.{not-suc-le-zero, le_of_suc-le-suc, suc_inj}
use native.Mathlib.Decide.{dec_lt, ℕ_discrete}
use native.Mathlib.Omega.{arith}
use lib.Dec.{T, leb, leb→le, le→leb}
use lib.ListN.{length, get_or, length-reverse}
use Rattle.lists.specs.Tables.{tab, upto}
use Rattle.refine_lattice.specs.Lattice.{Falls, chain, Order, Child}
use Rattle.lists.specs.Words.{same, skip, without}
use Rattle.refine_lattice.specs.Complex.{occurrences}
use Rattle.refine_lattice.specs.Children.{gather, digits, bases, arrange, orders, qualifies, every, pick, select, chains, children}
use Rattle.lists.proofs.Words.{same_self, same-yes, same-no, same-eq}

module _ {A B : Type 0} where
  pub to-gather : (f : A → List B) (l : List A) {x : A} {y : B} → Memᴰ x l → Memᴰ y (f x) → Memᴰ y (gather f l)
  to-gather f [] m h = absurd (Memᴰ.not-nil m)
  to-gather f (z ∷ l) {x} {y} m h =
      ⊎_elim (λ e. Memᴰ.append_left (gather f l) (subst (λ (u : A). Memᴰ y (f u)) e h)) (λ r. Memᴰ.append_right (f z) (to-gather f l r h))
      (Memᴰ.cases_cons m)

  pub of-gather : (f : A → List B) (l : List A) {y : B} → Memᴰ y (gather f l) → (x : A) × Memᴰ x l × Memᴰ y (f x)
  of-gather f [] m = absurd (Memᴰ.not-nil m)
  of-gather f (z ∷ l) {y} m =
      ⊎_elim (λ h. (z, Memᴰ.head refl, h)) (λ h. let r = of-gather f l h in (r.0, Memᴰ.tail r.1, r.2))
      (Memᴰ.append_cases (f z) m)

pub both : (a b : Bool) → T (a && b) → T a × T b
both true true h = (tt, tt)
both true false h = absurd h
both false true h = absurd h
both false false h = absurd h

pub and : (a b : Bool) → T a → T b → T (a && b)
and true true h l = tt
and true false h l = absurd l
and false true h l = absurd h
and false false h l = absurd h

module _ {A : Type 0} (t : A → Bool) where
  pub of-select : (l : List A) (x : A) → Memᴰ x (select t l) → Memᴰ x l × T (t x)
  of-select [] x m = absurd (Memᴰ.not-nil m)
  of-select (y ∷ l) x m = go (t y) refl (of-select l x) m
    where
      go : (b : Bool) → t y ≡ b → (Memᴰ x (select t l) → Memᴰ x l × T (t x))
          → Memᴰ x (pick b (y ∷ select t l) (select t l)) → Memᴰ x (y ∷ l) × T (t x)
      go true e below m =
          ⊎_elim (λ q. (Memᴰ.head q, subst T (sym (ap t q ∙ e)) tt)) (λ r. (Memᴰ.tail (below r).0, (below r).1)) (Memᴰ.cases_cons m)
      go false e below m = (Memᴰ.tail (below m).0, (below m).1)

  pub to-select : (l : List A) (x : A) → Memᴰ x l → T (t x) → Memᴰ x (select t l)
  to-select [] x m h = absurd (Memᴰ.not-nil m)
  to-select (y ∷ l) x m h = go (t y) refl (λ r. to-select l x r h) (Memᴰ.cases_cons m)
    where
      go : (b : Bool) → t y ≡ b → (Memᴰ x l → Memᴰ x (select t l)) → (x ≡ y) ⊎ Memᴰ x l
          → Memᴰ x (pick b (y ∷ select t l) (select t l))
      go true e below (inl q) = Memᴰ.head q
      go true e below (inr r) = Memᴰ.tail (below r)
      go false e below (inl q) = absurd (subst T (ap t q ∙ e) h)
      go false e below (inr r) = below r

-- the tests
qualifies-falls : (R : ℕ) (s : List ℕ) → T (qualifies R s) → Falls R s
qualifies-falls R [] h = tt
qualifies-falls R (x ∷ s) h = (leb→le x R (both (leb x R) (qualifies x s) h).0, qualifies-falls x s (both (leb x R) (qualifies x s) h).1)

falls-qualifies : (R : ℕ) (s : List ℕ) → Falls R s → T (qualifies R s)
falls-qualifies R [] h = tt
falls-qualifies R (x ∷ s) h = and (leb x R) (qualifies x s) (le→leb x R h.0) (falls-qualifies x s h.1)

module _ (R : ℕ) where
  of-every : (w : List (List ℕ)) → T (every (qualifies R) w) → (k : ℕ) → k < length w → Falls R (get_or w k [])
  of-every [] h k l = absurd (not-suc-le-zero l)
  of-every (s ∷ w) h zero l = qualifies-falls R s (both (qualifies R s) (every (qualifies R) w) h).0
  of-every (s ∷ w) h (suc k) l = of-every w (both (qualifies R s) (every (qualifies R) w) h).1 k (le_of_suc-le-suc l)

  to-every : (w : List (List ℕ)) → ((k : ℕ) → k < length w → Falls R (get_or w k [])) → T (every (qualifies R) w)
  to-every [] h = tt
  to-every (s ∷ w) h =
      and (qualifies R s) (every (qualifies R) w) (falls-qualifies R s (h 0 (omega arith))) (to-every w (λ k l. h (suc k) (suc-le-suc l)))

-- the numbers below n
pub of-tab : {A : Type 0} (n : ℕ) (f : ℕ → A) {y : A} → Memᴰ y (tab n f) → (i : ℕ) × (i < n) × (y ≡ f i)
of-tab zero f m = absurd (Memᴰ.not-nil m)
of-tab (suc n) f m =
    ⊎_elim (λ e. (0, omega arith, e)) (λ r. let q = of-tab n (λ k. f (suc k)) r in (suc q.0, suc-le-suc q.1, q.2)) (Memᴰ.cases_cons m)

pub to-tab : {A : Type 0} (n : ℕ) (f : ℕ → A) (i : ℕ) → i < n → Memᴰ (f i) (tab n f)
to-tab zero f i h = absurd (not-suc-le-zero h)
to-tab (suc n) f zero h = Memᴰ.head refl
to-tab (suc n) f (suc i) h = Memᴰ.tail (to-tab n (λ k. f (suc k)) i (le_of_suc-le-suc h))

-- lists of digits
abbrev pub Digits : ℕ → ℕ → List ℕ → Type 0
Digits d n s = (length s ≡ d) × ((j : ℕ) → j < d → get_or s j 0 < n)

digits-cons : (d n x : ℕ) (s : List ℕ) → x < n → Digits d n s → Digits (suc d) n (x ∷ s)
digits-cons d n x s h l = (ap suc l.0, go)
  where
    go : (j : ℕ) → j < suc d → get_or (x ∷ s) j 0 < n
    go zero m = h
    go (suc j) m = l.1 j (le_of_suc-le-suc m)

pub of-digits : (d n : ℕ) (s : List ℕ) → Memᴰ s (digits d n) → Digits d n s
of-digits zero n s m =
    ⊎_elim (λ e. subst (Digits 0 n) (sym e) (refl, λ j h. absurd (not-suc-le-zero h))) (λ r. absurd (Memᴰ.not-nil r)) (Memᴰ.cases_cons m)
of-digits (suc d) n s m =
    let (r, h, l) = of-gather (λ r. map (λ y. y ∷ r) (upto n)) (digits d n) m in
    let (x, k, e) = Memᴰ.of_map (λ y. y ∷ r) (upto n) l in
    let (i, g, q) = of-tab n (λ i. i) k in
    subst (Digits (suc d) n) e (digits-cons d n x r (omega arith) (of-digits d n r h))

pub to-digits : (d n : ℕ) (s : List ℕ) → Digits d n s → Memᴰ s (digits d n)
to-digits zero n [] h = Memᴰ.head refl
to-digits zero n (x ∷ s) h = absurd (omega (arith, h.0))
to-digits (suc d) n [] h = absurd (omega (arith, h.0))
to-digits (suc d) n (x ∷ s) h =
    to-gather (λ r. map (λ y. y ∷ r) (upto n)) (digits d n) (to-digits d n s (suc_inj h.0, λ j l. h.1 (suc j) (suc-le-suc l)))
    (Memᴰ.map (λ y. y ∷ s) (to-tab n (λ i. i) x (h.1 0 (omega arith))))

-- membership as a count
pub times-of-mem : (l : List ℕ) (x : ℕ) → Memᴰ x l → 0 < occurrences l x
times-of-mem [] x m = absurd (Memᴰ.not-nil m)
times-of-mem (y ∷ l) x m =
    ⊎_elim (λ e. omega (arith, same-yes x y e)) (λ r. omega (arith, times-of-mem l x r)) (Memᴰ.cases_cons m)

pub mem-of-times : (l : List ℕ) (x : ℕ) → 0 < occurrences l x → Memᴰ x l
mem-of-times [] x h = absurd (omega arith)
mem-of-times (y ∷ l) x h =
    elim (ℕ_discrete x y) [ yes e ↦ Memᴰ.head e | no e ↦ Memᴰ.tail (mem-of-times l x (omega (arith, same-no x y e))) ]

skip-no : (n y : ℕ) (r : List ℕ) → n ≡ 0 → skip n y r ≡ y ∷ r
skip-no zero y r h = refl
skip-no (suc n) y r h = absurd (omega arith)

skip-yes : (n y : ℕ) (r : List ℕ) → 0 < n → skip n y r ≡ r
skip-yes zero y r h = absurd (omega arith)
skip-yes (suc n) y r h = refl

without-self : (x : ℕ) (l : List ℕ) → occurrences (without x l) x ≡ 0
without-self x [] = refl
without-self x (y ∷ l) =
    elim (dec_lt 0 (same x y)) [
      | yes m ↦ ap (λ (r : List ℕ). occurrences r x) (skip-yes (same x y) y (without x l) m) ∙ without-self x l
      | no m ↦
          ap (λ (r : List ℕ). occurrences r x) (skip-no (same x y) y (without x l) (omega arith)) ∙ omega (arith, without-self x l)
    ]

without_other : (x v : ℕ) (l : List ℕ) → v ≢ x → occurrences (without x l) v ≡ occurrences l v
without_other x v [] n = refl
without_other x v (y ∷ l) n =
    elim (dec_lt 0 (same x y)) [
      | yes m ↦
          ap (λ (r : List ℕ). occurrences r v) (skip-yes (same x y) y (without x l) m)
          ∙ omega (arith, without_other x v l n, same-no v y (λ e. n (e ∙ sym (same-eq x y m))))
      | no m ↦
          ap (λ (r : List ℕ). occurrences r v) (skip-no (same x y) y (without x l) (omega arith)) ∙ omega (arith, without_other x v l n)
    ]

-- an arrangement of n entries of the list: none twice
pub record Arranged (n : ℕ) (l p : List ℕ) : Type 0 where
  pub long : length p ≡ n
  pub from : (v : ℕ) → 0 < occurrences p v → 0 < occurrences l v
  pub once : (v : ℕ) → occurrences p v ≤ 1

arranged-cons : (n x : ℕ) (l p : List ℕ) → 0 < occurrences l x → Arranged n (without x l) p → Arranged (suc n) l (x ∷ p)
arranged-cons n x l p h a = record {
  long = ap suc a.long;
  from = λ v i.
      elim (ℕ_discrete v x) [
        | yes e ↦ omega (arith, ap (occurrences l) e)
        | no e ↦ omega (arith, a.from v (omega (arith, same-no v x e)), without_other x v l e)
      ];
  once = λ v.
      elim (ℕ_discrete v x) [
        | yes e ↦
            elim (dec_lt 0 (occurrences p v)) [
              | yes m ↦ omega (arith, a.from v m, without-self x l, ap (occurrences (without x l)) e)
              | no m ↦ omega (arith, same-yes v x e)
            ]
        | no e ↦ omega (arith, same-no v x e, a.once v)
      ];
}

arranged-rest : (n x : ℕ) (l p : List ℕ) → Arranged (suc n) l (x ∷ p) → Arranged n (without x l) p
arranged-rest n x l p a = record {
  long = suc_inj a.long;
  from = λ v h.
      let e : v ≢ x = λ q. omega (arith, a.once v, same-yes v x q) in
      omega (arith, a.from v (omega arith), without_other x v l e);
  once = λ v. omega (arith, a.once v);
}

pub of-arrange : (n : ℕ) (l p : List ℕ) → Memᴰ p (arrange n l) → Arranged n l p
of-arrange zero l p m =
    ⊎_elim
    (λ e. subst (Arranged 0 l) (sym e) (record { long = refl; from = λ v h. omega arith; once = λ v. omega arith }))
    (λ r. absurd (Memᴰ.not-nil r))
    (Memᴰ.cases_cons m)
of-arrange (suc n) l p m =
    let (x, h, k) = of-gather (λ x. map (λ p. x ∷ p) (arrange n (without x l))) l m in
    let (q, i, e) = Memᴰ.of_map (λ p. x ∷ p) (arrange n (without x l)) k in
    subst (Arranged (suc n) l) e (arranged-cons n x l q (times-of-mem l x h) (of-arrange n (without x l) q i))

pub to-arrange : (n : ℕ) (l p : List ℕ) → Arranged n l p → Memᴰ p (arrange n l)
to-arrange zero l [] a = Memᴰ.head refl
to-arrange zero l (x ∷ p) a = absurd (omega (arith, a.long))
to-arrange (suc n) l [] a = absurd (omega (arith, a.long))
to-arrange (suc n) l (x ∷ p) a =
    to-gather (λ x. map (λ p. x ∷ p) (arrange n (without x l))) l (mem-of-times l x (a.from x (omega (arith, same_self x))))
    (Memᴰ.map (λ p. x ∷ p) (to-arrange n (without x l) p (arranged-rest n x l p a)))

-- places and counts
pub times-at : (p : List ℕ) (i : ℕ) → i < length p → 0 < occurrences p (get_or p i 0)
times-at [] i h = absurd (not-suc-le-zero h)
times-at (x ∷ p) zero h = omega (arith, same_self x)
times-at (x ∷ p) (suc i) h = omega (arith, times-at p i (le_of_suc-le-suc h))

pub times-two : (p : List ℕ) (i j : ℕ) → i < j → j < length p → get_or p i 0 ≡ get_or p j 0 → 2 ≤ occurrences p (get_or p j 0)
times-two [] i j h l e = absurd (not-suc-le-zero l)
times-two (x ∷ p) i zero h l e = absurd (not-suc-le-zero h)
times-two (x ∷ p) zero (suc j) h l e = omega (arith, same-yes (get_or p j 0) x (sym e), times-at p j (le_of_suc-le-suc l))
times-two (x ∷ p) (suc i) (suc j) h l e = omega (arith, times-two p i j (le_of_suc-le-suc h) (le_of_suc-le-suc l) e)

pub place-of : (p : List ℕ) (v : ℕ) → 0 < occurrences p v → (i : ℕ) × (i < length p) × (get_or p i 0 ≡ v)
place-of [] v h = absurd (omega arith)
place-of (x ∷ p) v h =
    elim (ℕ_discrete v x) [
      | yes e ↦ (0, omega arith, sym e)
      | no e ↦ let r = place-of p v (omega (arith, same-no v x e)) in (suc r.0, suc-le-suc r.1, r.2)
    ]

pub once-of-apart : (p : List ℕ) → ((i j : ℕ) → i < j → j < length p → get_or p i 0 ≢ get_or p j 0) → (v : ℕ) → occurrences p v ≤ 1
once-of-apart [] n v = omega arith
once-of-apart (x ∷ p) n v =
    elim (ℕ_discrete v x) [
      | yes e ↦
          elim (dec_lt 0 (occurrences p v)) [
            | yes m ↦
                let r = place-of p v m in
                absurd (n 0 (suc r.0) (omega arith) (suc-le-suc r.1) (sym e ∙ sym r.2))
            | no m ↦ omega (arith, same-yes v x e)
          ]
      | no e ↦ omega (arith, same-no v x e, once-of-apart p (λ i j h l. n (suc i) (suc j) (suc-le-suc h) (suc-le-suc l)) v)
    ]

-- read backwards it is an arrangement of the same entries
times-aux : (p r : List ℕ) (v : ℕ) → occurrences (reverse_aux p r) v ≡ occurrences p v + occurrences r v
times-aux [] r v = omega arith
times-aux (x ∷ p) r v = omega (arith, times-aux p (x ∷ r) v)

pub times-reverse : (p : List ℕ) (v : ℕ) → occurrences (reverse p) v ≡ occurrences p v
times-reverse p v = omega (arith, times-aux p [] v)

arranged-reverse : (n : ℕ) (l p : List ℕ) → Arranged n l p → Arranged n l (reverse p)
arranged-reverse n l p a = record {
  long = length-reverse p ∙ a.long;
  from = λ v h. a.from v (omega (arith, times-reverse p v));
  once = λ v. omega (arith, times-reverse p v, a.once v);
}

-- the list of the orders holds exactly the orders
pub order-of-mem : (d : ℕ) (p : List ℕ) → Memᴰ p (orders d) → Order d p
order-of-mem d p m =
    let (q, k, e) = Memᴰ.of_map reverse (arrange d (upto d)) m in
    let a = subst (Arranged d (upto d)) e (arranged-reverse d (upto d) q (of-arrange d (upto d) q k)) in
    record {
      long = a.long;
      perm = record {
        below = λ i h.
            let v : ℕ = get_or p i 0 in
            let r = of-tab d (λ i. i) (mem-of-times (upto d) v (a.from v (times-at p i (omega (arith, a.long))))) in
            omega arith;
        apart = λ i j h l e. omega (arith, times-two p i j h (omega (arith, a.long)) e, a.once (get_or p j 0));
      };
    }

pub mem-of-order : (d : ℕ) (p : List ℕ) → Order d p → Memᴰ p (orders d)
mem-of-order d p o =
    let a : Arranged d (upto d) p =
    record {
      long = o.long;
      from = λ v h.
          let r = place-of p v h in
          let b : v < d = omega (arith, o.perm.below r.0 (omega (arith, o.long))) in
          times-of-mem (upto d) v (to-tab d (λ i. i) v b);
      once = once-of-apart p (λ i j h l. o.perm.apart i j h (omega (arith, o.long)));
    } in
    Memᴰ.cast (sym (reverse-reverse p)) (Memᴰ.map reverse (to-arrange d (upto d) (reverse p) (arranged-reverse d (upto d) p a)))

-- the list of the children holds exactly the children
pub child-of-mem : (d R : ℕ) (w : List (List ℕ)) → Memᴰ w (children d R) → Child d R w
child-of-mem d R w m =
    let (n, test) = of-select (every (qualifies R)) (chains d R) w m in
    let (s, h, l) = of-gather (λ s. map (chain s) (orders d)) (bases d R) n in
    let (p, k, e) = Memᴰ.of_map (chain s) (orders d) l in
    let g : Digits d (suc R) s = of-digits d (suc R) s h in
    record {
      base = s;
      order = p;
      long = g.0;
      digits = λ j i. le_of_suc-le-suc (g.1 j i);
      axes = order-of-mem d p k;
      steps = sym e;
      kept = of-every R w test;
    }

pub mem-of-child : (d R : ℕ) (w : List (List ℕ)) → Child d R w → Memᴰ w (children d R)
mem-of-child d R w c =
    to-select (every (qualifies R)) (chains d R) w
    (to-gather (λ s. map (chain s) (orders d)) (bases d R)
    (to-digits d (suc R) c.base (c.long, λ j h. suc-le-suc (c.digits j h)))
    (Memᴰ.cast c.steps (Memᴰ.map (chain c.base) (mem-of-order d c.order c.axes))))
    (to-every R w c.kept)

pub listed : (d R : ℕ) (w : List (List ℕ)) → Memᴰ w (children d R) ↔ Child d R w
listed d R w = (child-of-mem d R w, mem-of-child d R w)
