-- Counting the least points before a class's own numbers the classes in the order of their least points. Assumes nothing.
use mathlib.Core.Path.{◌≡◌, refl, sym, ap, subst, ◌∙◌}
use mathlib.Core.Bool.{Bool, true, false}
use mathlib.Core.Logic.{⊎_elim}
use mathlib.Core.List.{List}
use Prim.Native.Nat.{ℕ, zero, suc, ◌+◌, ◌≤◌, ◌<◌}
use native.Mathlib.Nat.{not-suc-le-zero, le_refl}
use native.Mathlib.Omega.{arith}
use native.Mathlib.Numerals.{add-one}
use lib.ListN.{length, set, length-set}
use lib.Seq.{get_or-set_same, get_or-set_other}
use borrow.Author.Tests.{eqb-true, eq-eqb, ne_eqb}
use Rattle.quotient.specs.declared.Grid.{Grid}
use Rattle.quotient.specs.Fold.{count}
use Rattle.quotient.specs.Points.{points_of}
use Rattle.quotient.specs.Chain.{Joined, same}
use Rattle.quotient.proofs.Laws.{lt-or-ge}
use Rattle.quotient.proofs.Chain.{joined-trans, joined-sym}
use Rattle.grid_chained.specs.Classing.{Least, Classing}
use Rattle.grid_chained.specs.WorkNumber.{leads, class_by, Labelled, Leading, Numbered}
use Rattle.grid_chained.specs.Classing.{at, Classes}

module _ (f : ℕ → Bool) where
  one_more : (n : ℕ) → f n ≡ true → count f (suc n) ≡ suc (count f n)
  unfolding count
  one_more n e = rw e (omega arith)

  none_more : (n : ℕ) → f n ≡ false → count f (suc n) ≡ count f n
  unfolding count
  none_more n e = rw e (omega arith)

  count-step : (n : ℕ) → count f n ≤ count f (suc n)
  unfolding count
  count-step n = omega arith

  count-mono : (m n : ℕ) → m ≤ n → count f m ≤ count f n
  count-mono m zero h = let e : m ≡ zero = omega arith in subst (λ (x : ℕ). count f x ≤ count f zero) (sym e) (le_refl (count f zero))
  count-mono m (suc n) h =
      ⊎_elim
      (λ (l : m < suc n). let x : count f m ≤ count f n = count-mono m n (omega arith) in let y : count f n ≤ count f (suc n) = count-step n in omega arith)
      (λ (l : suc n ≤ m). let e : m ≡ suc n = omega arith in subst (λ (x : ℕ). count f x ≤ count f (suc n)) (sym e) (le_refl (count f (suc n))))
      (lt-or-ge m (suc n))

  pub count-strict : (m n : ℕ) → f m ≡ true → m < n → count f m < count f n
  count-strict m n e l = let x : count f (suc m) ≤ count f n = count-mono (suc m) n l in let y : count f (suc m) ≡ suc (count f m) = one_more m e in omega arith

  pub count-each : (n x : ℕ) → x < count f n → (q : ℕ) × (q < n) × (f q ≡ true) × (count f q ≡ x)
  unfolding count
  count-each zero x h = absurd (let w : ⊥ = omega arith in w)
  count-each (suc n) x h =
      ⊎_elim
      (λ (l : x < count f n). let w = count-each n x l in let k : w.0 < n = w.1 in (w.0, omega arith, w.2, w.3))
      (λ (l : count f n ≤ x). by-test (f n) refl l)
      (lt-or-ge x (count f n))
    where
      by-test : (b : Bool) → f n ≡ b → count f n ≤ x → (q : ℕ) × (q < suc n) × (f q ≡ true) × (count f q ≡ x)
      by-test true e l = let y : count f (suc n) ≡ suc (count f n) = one_more n e in (n, omega arith, e, omega arith)
      by-test false e l = let y : count f (suc n) ≡ count f n = none_more n e in absurd (let w : ⊥ = omega arith in w)

module _ (g : Grid) where
  -- joined points have one least point
  pub least-one : {p q x y : ℕ} → Joined g p q → Least g p x → Least g q y → x ≡ y
  least-one {p} {q} {x} {y} j a b =
      let u : x ≤ y = a.first y b.within (joined-trans j b.chain) in
      let v : y ≤ x = b.first x a.within (joined-trans (joined-sym j) a.chain) in
      omega arith

  module _ (l : ℕ → ℕ) (low : (p : ℕ) → p < points_of g → Least g p (l p)) where
    -- a least point leads to itself
    pub lead-twice : (p : ℕ) → p < points_of g → l (l p) ≡ l p
    lead-twice p h = let a : Least g p (l p) = low p h in sym (least-one a.chain a (low (l p) a.within))

    pub lead-le : (p : ℕ) → p < points_of g → l p ≤ p
    lead-le p h = (low p h).first p h same

    lead-true : (p : ℕ) → p < points_of g → leads l (l p) ≡ true
    lead-true p h = eq-eqb (l (l p)) (l p) (lead-twice p h)

    apart : (p q : ℕ) → p < points_of g → q < points_of g → l p < l q → class_by l p ≡ class_by l q → ⊥
    apart p q hp hq n e = let x : count (leads l) (l p) < count (leads l) (l q) = count-strict (leads l) (l p) (l q) (lead-true p hp) n in omega arith

    one-lead : (p q : ℕ) → p < points_of g → q < points_of g → class_by l p ≡ class_by l q → l p ≡ l q
    one-lead p q hp hq e =
        ⊎_elim
        (λ (n : l p < l q). absurd (apart p q hp hq n e))
        (λ (n : l q ≤ l p). ⊎_elim (λ (o : l q < l p). absurd (apart q p hq hp o (sym e))) (λ (o : l p ≤ l q). omega arith) (lt-or-ge (l q) (l p)))
        (lt-or-ge (l p) (l q))

    self : (p : ℕ) → Least g p p → l p ≡ p
    self p a = sym (least-one same a (low p a.within))

    pub numbering : Classing g (class_by l) (count (leads l) (points_of g))
    numbering =
        record {
          classes = λ p q hp hq. (
            λ e. joined-trans (low p hp).chain (subst (λ (x : ℕ). Joined g x q) (sym (one-lead p q hp hq e)) (joined-sym (low q hq).chain)),
            λ j. ap (count (leads l)) (least-one j (low p hp) (low q hq)),
          );
          below = λ p h. count-strict (leads l) (l p) (points_of g) (lead-true p h) (low p h).within;
          each = λ x h. let w = count-each (leads l) (points_of g) x h in (w.0, w.1, ap (count (leads l)) (eqb-true (l w.0) w.0 w.2) ∙ w.3);
          rising = λ p q a b n.
              let x : l p ≡ p = self p a in
              let y : l q ≡ q = self q b in
              count-strict (leads l) (l p) (l q) (lead-true p a.within) (let z : l p < l q = omega arith in z);
        }

-- a Classing is one of every function that agrees with it on the points
pub classing-along : (g : Grid) (c c' : ℕ → ℕ) (m : ℕ) → ((p : ℕ) → p < points_of g → c' p ≡ c p) → Classing g c m → Classing g c' m
classing-along g c c' m e k =
    record {
      classes = λ p q hp hq. (λ s. (k.classes p q hp hq).0 (sym (e p hp) ∙ s ∙ e q hq), λ j. e p hp ∙ (k.classes p q hp hq).1 j ∙ sym (e q hq));
      below = λ p h. let x : c p < m = k.below p h in let y : c' p ≡ c p = e p h in omega arith;
      each = λ x h. let w = k.each x h in (w.0, w.1, e w.0 w.1 ∙ w.2);
      rising = λ p q a b n.
          let x : c p < c q = k.rising p q a b n in
          let y : c' p ≡ c p = e p a.within in
          let z : c' q ≡ c q = e q b.within in
          omega arith;
    }

-- the numbers made of labels are the classes
pub labelled-classes : (g : Grid) (labels numbers : List ℕ) (m : ℕ) → Labelled g labels → Numbered labels numbers m → Classes g numbers m
labelled-classes g labels numbers m k n =
    record {
      long = n.long ∙ k.long;
      classing =
          classing-along g (class_by (at labels)) (at numbers) m (λ p h. n.each p (let e : length labels ≡ points_of g = k.long in omega arith))
          (subst (λ (x : ℕ). Classing g (class_by (at labels)) x) (sym (n.many ∙ ap (count (leads (at labels))) k.long)) (numbering g (at labels) k.least));
    }

-- what the numbering asks of labels
pub labelled-leading : (g : Grid) (labels : List ℕ) → Labelled g labels → Leading labels
labelled-leading g labels k p h =
    let u : p < points_of g = subst (λ (x : ℕ). p < x) k.long h in
    (lead-le g (at labels) k.least p u, lead-twice g (at labels) k.least p u)

-- ---- the numbering, point by point

-- the points below v have their numbers, the others still their least points, and m classes are met
pub record Going (l numbers : List ℕ) (m v : ℕ) : Type 0 where
  pub leading : Leading l
  pub upto : v ≤ length l
  pub long : length numbers ≡ length l
  pub done : (p : ℕ) → p < v → at numbers p ≡ class_by (at l) p
  pub rest : (p : ℕ) → v ≤ p → at numbers p ≡ at l p
  pub met : m ≡ count (leads (at l)) v
  pub few : m ≤ v

pub going-none : (l : List ℕ) → Leading l → Going l l 0 0
unfolding count
going-none l k = record { leading = k; upto = omega arith; long = refl; done = λ p h. absurd (not-suc-le-zero h); rest = λ p h. refl; met = refl; few = omega arith }

module _ (l numbers : List ℕ) (m v : ℕ) (k : Going l numbers m v) (h : v < length l) where
  pub here : at numbers v ≡ at l v
  here = k.rest v (le_refl v)

  -- what is written at v: its number
  going-write : (x n : ℕ) → x ≡ class_by (at l) v → n ≡ count (leads (at l)) (v + 1) → n ≤ v + 1 → Going l (set numbers v x) n (v + 1)
  going-write x n e q u =
      record {
        leading = k.leading;
        upto = omega arith;
        long = length-set numbers v x ∙ k.long;
        done = λ p o.
            ⊎_elim
            (λ (w : p < v). get_or-set_other numbers v p x 0 (λ z. omega arith) ∙ k.done p w)
            (λ (w : v ≤ p).
            let z : p ≡ v = omega arith in
            subst (λ (y : ℕ). at (set numbers v x) y ≡ class_by (at l) y) (sym z) (get_or-set_same numbers v x 0 (subst (λ (y : ℕ). v < y) (sym k.long) h) ∙ e))
            (lt-or-ge p v);
        rest = λ p o. get_or-set_other numbers v p x 0 (λ z. omega arith) ∙ k.rest p (omega arith);
        met = q;
        few = u;
      }

  pub going-lead : at numbers v ≡ v → Going l (set numbers v m) (m + 1) (v + 1)
  going-lead e =
      let z : at l v ≡ v = sym here ∙ e in
      let t : leads (at l) v ≡ true = eq-eqb (at l v) v z in
      let o : count (leads (at l)) (suc v) ≡ suc (count (leads (at l)) v) = one_more (leads (at l)) v t in
      let a : m ≡ count (leads (at l)) v = k.met in
      let b : m ≤ v = k.few in
      going-write m (m + 1) (a ∙ ap (count (leads (at l))) (sym z)) (rw (add-one v, add-one m) (ap suc a ∙ sym o)) (omega arith)

  pub back-less : (at numbers v ≡ v → ⊥) → at numbers v < v
  back-less n =
      let a : at l v ≤ v = (k.leading v h).0 in
      let b : at numbers v ≡ at l v = here in
      ⊎_elim (λ (w : at numbers v < v). w) (λ (w : v ≤ at numbers v). absurd (n (omega arith))) (lt-or-ge (at numbers v) v)

  pub going-follow : (at numbers v ≡ v → ⊥) → Going l (set numbers v (at numbers (at numbers v))) m (v + 1)
  going-follow n =
      let f : leads (at l) v ≡ false = ne_eqb (at l v) v (λ z. n (here ∙ z)) in
      let o : count (leads (at l)) (suc v) ≡ count (leads (at l)) v = none_more (leads (at l)) v f in
      let w : at numbers (at numbers v) ≡ class_by (at l) (at numbers v) = k.done (at numbers v) (back-less n) in
      let x : class_by (at l) (at numbers v) ≡ class_by (at l) v = ap (class_by (at l)) here ∙ ap (count (leads (at l))) (k.leading v h).1 in
      let b : m ≤ v = k.few in
      going-write (at numbers (at numbers v)) m (w ∙ x) (rw (add-one v) (k.met ∙ sym o)) (omega arith)

pub going_done : (l numbers : List ℕ) (m v : ℕ) → Going l numbers m v → length l ≤ v → Numbered l numbers m
going_done l numbers m v k h =
    let u : v ≤ length l = k.upto in
    let e : v ≡ length l = omega arith in
    record { long = k.long; each = λ p o. k.done p (omega arith); many = k.met ∙ ap (count (leads (at l))) e }
