-- The orders of the axes, as the sets of axes that have been stepped along: two orders that differ at one corner alone, and where to turn an order so that the axes
-- of one kind come later. Computed tests over the orders of up to three axes. Assumes nothing.
use mathlib.Core.Path.{◌≡◌, refl, sym, ap, ◌∙◌}
use mathlib.Core.Bool.{Bool, true, false, cond, not, ◌&&◌, ◌||◌, false≢true}
use mathlib.Core.Logic.{◌⊎◌, inl, inr, ⊎_elim}
use mathlib.Core.List.{[], ◌∷◌}
use Prim.Native.Nat.{ℕ, zero, suc, ◌≤◌, ◌<◌, suc-le-suc}
use native.Mathlib.Nat.{le_of_suc-le-suc}
use native.Mathlib.Decide.{ℕ_discrete}
use native.Mathlib.Omega.{arith}
use lib.Dec.{eqb, ltb}
use lib.ListN.{length, get_or, take}
use lib.Seq.{take_all}
use borrow.Author.Tests.{eqb-true, eqb-false, ltb-true, not-true, ne_eqb, eq-eqb}
use Rattle.multiindex.specs.Permutation.{orders, order_of}
use Rattle.multiindex.proofs.Tables.{all_below, at-below, first_of, second-of}
use Rattle.quotient.specs.Fold.{some}
use Rattle.lists.specs.Tables.{sum}
use Rattle.grid_words.proofs.Corners.{times_in, times-take, times-all, order_long, order-once}

-- whether axis k is among the first i of order number t: 1 or 0
abbrev pub up : ℕ → ℕ → ℕ → ℕ → ℕ
up d t i k = times_in k (take i (order_of d t))

-- the sets of the first axes of orders t and u are the same but for the first i
abbrev same_but : ℕ → ℕ → ℕ → ℕ → Bool
same_but d t i u = all_below (suc d) (λ j. eqb j i || all_below d (λ k. eqb (up d u j k) (up d t j k)))

-- and there they differ
abbrev turn_test : ℕ → ℕ → ℕ → ℕ → Bool
turn_test d t i u = same_but d t i u && not (all_below d (λ k. eqb (up d u i k) (up d t i k)))

-- the kinds of the axes, by number
abbrev pub kinds : ℕ → ℕ → ℕ → ℕ → ℕ
kinds a b c k = get_or (a ∷ b ∷ c ∷ []) k 0

-- how early the axes of kind 1 come
abbrev pub earliness : ℕ → ℕ → (ℕ → ℕ) → ℕ
earliness d t s = sum (suc d) (λ i. sum d (λ k. cond (eqb (s k) 1) (up d t i k) 0))

-- after i steps no axis of kind 1 and each of kind 2 has been stepped along
abbrev parted_at : ℕ → ℕ → (ℕ → ℕ) → ℕ → Bool
parted_at d t s i = all_below d (λ k. (not (eqb (s k) 1) || eqb (up d t i k) 0) && (not (eqb (s k) 2) || eqb (up d t i k) 1))

-- after i steps some axis of kind 1 has been stepped along and one of kind 2 has not, and the order can be turned there so that those of kind 1 come later
abbrev later_at : ℕ → ℕ → (ℕ → ℕ) → ℕ → Bool
later_at d t s i =
    some (λ a. eqb (s a) 1 && eqb (up d t i a) 1) d
    && (some (λ b. eqb (s b) 2 && eqb (up d t i b) 0) d && some (λ u. turn_test d t i u && ltb (earliness d u s) (earliness d t s)) (length (orders d)))

abbrev place_test : ℕ → ℕ → (ℕ → ℕ) → Bool
place_test d t s = some (parted_at d t s) (suc d) || some (later_at d t s) d

places : all_below 4 (λ d. all_below (length (orders d)) (λ t. all_below 3 (λ a. all_below 3 (λ b. all_below 3 (λ c. place_test d t (kinds a b c)))))) ≡ true
unfolding some
places = refl

turns : all_below 4 (λ d. all_below (length (orders d)) (λ t. all_below d (λ i. eqb i 0 || some (turn_test d t i) (length (orders d))))) ≡ true
unfolding some
turns = refl

sizes : all_below 4 (λ d. all_below (length (orders d)) (λ t. all_below (suc d) (λ l. eqb (sum d (up d t l)) l))) ≡ true
sizes = refl

-- of three orders that are the same but for one set two are the same
abbrev three_test : ℕ → ℕ → ℕ → ℕ → ℕ → Bool
three_test d t u v i = not (same_but d t i u && same_but d t i v) || (eqb t u || (eqb t v || eqb u v))

threes : all_below 4 (λ d. all_below (length (orders d)) (λ t. all_below (length (orders d)) (λ u. all_below (length (orders d)) (λ v. all_below (suc d) (three_test d t u v))))) ≡ true
threes = refl

-- ---- reading the tests
or-either : (a b : Bool) → (a || b) ≡ true → (a ≡ true) ⊎ (b ≡ true)
or-either true b e = inl refl
or-either false b e = inr e

pub some-found : (p : ℕ → Bool) (n : ℕ) → some p n ≡ true → (k : ℕ) × (k < n) × (p k ≡ true)
unfolding some
some-found p zero e = absurd (false≢true e)
some-found p (suc n) e =
    ⊎_elim
    (λ (l : some p n ≡ true). let r = some-found p n l in (r.0, omega (arith, r.1), r.2))
    (λ (l : p n ≡ true). (n, omega arith, l))
    (or-either (some p n) (p n) e)

not-all : (n : ℕ) (t : ℕ → Bool) → all_below n t ≡ false → (k : ℕ) × (k < n) × (t k ≡ false)
not-all zero t e = absurd (false≢true (sym e))
not-all (suc n) t e = go (t 0) refl (not-all n (λ i. t (suc i)))
  where
    go : (b : Bool) → t 0 ≡ b → (all_below n (λ i. t (suc i)) ≡ false → (k : ℕ) × (k < n) × (t (suc k) ≡ false)) → (k : ℕ) × (k < suc n) × (t k ≡ false)
    go true q r = let w = r (rw q at e) in (suc w.0, omega (arith, w.1), w.2)
    go false q r = (0, omega arith, q)

-- order u is order t but for the set of its first i axes
pub record Turned (d t i u : ℕ) : Type 0 where
  pub order-in : u < length (orders d)
  pub same : (j k : ℕ) → j ≤ d → (j ≡ i → ⊥) → k < d → up d u j k ≡ up d t j k
  pub axis : ℕ
  pub axis-in : axis < d
  pub other : up d u i axis ≡ up d t i axis → ⊥

turned-of : (d t i u : ℕ) → u < length (orders d) → turn_test d t i u ≡ true → Turned d t i u
turned-of d t i u h e =
    let a : Bool = same_but d t i u in
    let b : Bool = all_below d (λ k. eqb (up d u i k) (up d t i k)) in
    let r = not-all d (λ k. eqb (up d u i k) (up d t i k)) (not-true b (second-of a (not b) e)) in
    record {
      order-in = h;
      same =
          λ j k l ne m.
          let q : (eqb j i || all_below d (λ k. eqb (up d u j k) (up d t j k))) ≡ true = at-below (suc d) (λ j. eqb j i || all_below d (λ k. eqb (up d u j k) (up d t j k))) (first_of a (not b) e) j (suc-le-suc l) in
          eqb-true _ _ (at-below d (λ k. eqb (up d u j k) (up d t j k)) (rw (ne_eqb j i ne) at q) k m);
      axis = r.0;
      axis-in = r.1;
      other = eqb-false _ _ r.2;
    }

pub turn : (d t i : ℕ) → d ≤ 3 → t < length (orders d) → 0 < i → i < d → (u : ℕ) × Turned d t i u
turn d t i h l s m =
    let q : (eqb i 0 || some (turn_test d t i) (length (orders d))) ≡ true =
    at-below d (λ i. eqb i 0 || some (turn_test d t i) (length (orders d)))
    (at-below (length (orders d)) (λ t. all_below d (λ i. eqb i 0 || some (turn_test d t i) (length (orders d))))
    (at-below 4 (λ d. all_below (length (orders d)) (λ t. all_below d (λ i. eqb i 0 || some (turn_test d t i) (length (orders d))))) turns d (suc-le-suc h)) t l) i m in
    let r = some-found (turn_test d t i) (length (orders d)) (rw (ne_eqb i 0 (λ e. omega arith)) at q) in
    (r.0, turned-of d t i r.0 r.1 r.2)

-- after `at` steps no axis of kind 1 and each of kind 2 has been stepped along
pub record Parted (d t : ℕ) (s : ℕ → ℕ) : Type 0 where
  pub at : ℕ
  pub at_in : at ≤ d
  pub none : (k : ℕ) → k < d → s k ≡ 1 → up d t at k ≡ 0
  pub each : (k : ℕ) → k < d → s k ≡ 2 → up d t at k ≡ 1

-- after `at` steps an axis of kind 1 has been stepped along and one of kind 2 has not, and the order can be turned there so that those of kind 1 come later
pub record Later (d t : ℕ) (s : ℕ → ℕ) : Type 0 where
  pub at : ℕ
  pub at_in : at < d
  pub first : ℕ
  pub first-in : first < d
  pub first_kind : s first ≡ 1
  pub first-up : up d t at first ≡ 1
  pub second : ℕ
  pub second-in : second < d
  pub second-kind : s second ≡ 2
  pub second-down : up d t at second ≡ 0
  pub order : ℕ
  pub turned : Turned d t at order
  pub less : earliness d order s < earliness d t s

module _ (d t : ℕ) (s : ℕ → ℕ) where
  parted-of : (i : ℕ) → i ≤ d → parted_at d t s i ≡ true → Parted d t s
  parted-of i h e =
      record {
        at = i;
        at_in = h;
        none = λ k l q. one_way (s k) 1 (up d t i k) 0 (first_of (not (eqb (s k) 1) || eqb (up d t i k) 0) (not (eqb (s k) 2) || eqb (up d t i k) 1) (both k l)) q;
        each = λ k l q. one_way (s k) 2 (up d t i k) 1 (second-of (not (eqb (s k) 1) || eqb (up d t i k) 0) (not (eqb (s k) 2) || eqb (up d t i k) 1) (both k l)) q;
      }
    where
      both : (k : ℕ) → k < d → ((not (eqb (s k) 1) || eqb (up d t i k) 0) && (not (eqb (s k) 2) || eqb (up d t i k) 1)) ≡ true
      both k l = at-below d (λ k. (not (eqb (s k) 1) || eqb (up d t i k) 0) && (not (eqb (s k) 2) || eqb (up d t i k) 1)) e k l

      one_way : (x y a b : ℕ) → (not (eqb x y) || eqb a b) ≡ true → x ≡ y → a ≡ b
      one_way x y a b e q = eqb-true a b (rw (eq-eqb x y q) at e)

  later_of : (i : ℕ) → i < d → later_at d t s i ≡ true → Later d t s
  later_of i h e =
      let A : Bool = some (λ a. eqb (s a) 1 && eqb (up d t i a) 1) d in
      let B : Bool = some (λ b. eqb (s b) 2 && eqb (up d t i b) 0) d in
      let C : Bool = some (λ u. turn_test d t i u && ltb (earliness d u s) (earliness d t s)) (length (orders d)) in
      let a = some-found (λ a. eqb (s a) 1 && eqb (up d t i a) 1) d (first_of A (B && C) e) in
      let b = some-found (λ b. eqb (s b) 2 && eqb (up d t i b) 0) d (first_of B C (second-of A (B && C) e)) in
      let c = some-found (λ u. turn_test d t i u && ltb (earliness d u s) (earliness d t s)) (length (orders d)) (second-of B C (second-of A (B && C) e)) in
      record {
        at = i;
        at_in = h;
        first = a.0;
        first-in = a.1;
        first_kind = eqb-true _ _ (first_of (eqb (s a.0) 1) (eqb (up d t i a.0) 1) a.2);
        first-up = eqb-true _ _ (second-of (eqb (s a.0) 1) (eqb (up d t i a.0) 1) a.2);
        second = b.0;
        second-in = b.1;
        second-kind = eqb-true _ _ (first_of (eqb (s b.0) 2) (eqb (up d t i b.0) 0) b.2);
        second-down = eqb-true _ _ (second-of (eqb (s b.0) 2) (eqb (up d t i b.0) 0) b.2);
        order = c.0;
        turned = turned-of d t i c.0 c.1 (first_of (turn_test d t i c.0) (ltb (earliness d c.0 s) (earliness d t s)) c.2);
        less = ltb-true _ _ (second-of (turn_test d t i c.0) (ltb (earliness d c.0 s) (earliness d t s)) c.2);
      }

-- in each order there is a place of one of the two sorts
pub place : (d t a b c : ℕ) → d ≤ 3 → t < length (orders d) → a < 3 → b < 3 → c < 3 → Parted d t (kinds a b c) ⊎ Later d t (kinds a b c)
place d t a b c h l ha hb hc =
    ⊎_elim
    (λ (q : some (parted_at d t (kinds a b c)) (suc d) ≡ true). let r = some-found (parted_at d t (kinds a b c)) (suc d) q in inl (parted-of d t (kinds a b c) r.0 (le_of_suc-le-suc r.1) r.2))
    (λ (q : some (later_at d t (kinds a b c)) d ≡ true). let r = some-found (later_at d t (kinds a b c)) d q in inr (later_of d t (kinds a b c) r.0 r.1 r.2))
    (or-either (some (parted_at d t (kinds a b c)) (suc d)) (some (later_at d t (kinds a b c)) d)
    (at-below 3 (λ c. place_test d t (kinds a b c))
    (at-below 3 (λ b. all_below 3 (λ c. place_test d t (kinds a b c)))
    (at-below 3 (λ a. all_below 3 (λ b. all_below 3 (λ c. place_test d t (kinds a b c))))
    (at-below (length (orders d)) (λ t. all_below 3 (λ a. all_below 3 (λ b. all_below 3 (λ c. place_test d t (kinds a b c)))))
    (at-below 4 (λ d. all_below (length (orders d)) (λ t. all_below 3 (λ a. all_below 3 (λ b. all_below 3 (λ c. place_test d t (kinds a b c)))))) places d (suc-le-suc h)) t l) a ha) b hb) c hc))

-- ---- orders that are the same but for one set
all-below : (n : ℕ) (t : ℕ → Bool) → ((i : ℕ) → i < n → t i ≡ true) → all_below n t ≡ true
all-below zero t f = refl
all-below (suc n) t f = rw (f 0 (omega arith)) (all-below n (λ i. t (suc i)) (λ i l. f (suc i) (suc-le-suc l)))

same-but : (d t i u : ℕ) → ((j k : ℕ) → j ≤ d → (j ≡ i → ⊥) → k < d → up d u j k ≡ up d t j k) → same_but d t i u ≡ true
same-but d t i u f =
    all-below (suc d) (λ j. eqb j i || all_below d (λ k. eqb (up d u j k) (up d t j k)))
    (λ j l.
    elim (ℕ_discrete j i) [
      | yes e ↦ rw (eq-eqb j i e)
      | no e ↦ rw (ne_eqb j i e) (all-below d (λ k. eqb (up d u j k) (up d t j k)) (λ k m. eq-eqb _ _ (f j k (le_of_suc-le-suc l) e m)))
    ])

pub three : (d t u v i : ℕ) → d ≤ 3 → t < length (orders d) → u < length (orders d) → v < length (orders d) → i ≤ d → ((j k : ℕ) → j ≤ d → (j ≡ i → ⊥) → k < d → up d u j k ≡ up d t j k)
    → ((j k : ℕ) → j ≤ d → (j ≡ i → ⊥) → k < d → up d v j k ≡ up d t j k) → (t ≡ u) ⊎ ((t ≡ v) ⊎ (u ≡ v))
three d t u v i h ht hu hv hi f f' =
    let e : three_test d t u v i ≡ true =
    at-below (suc d) (three_test d t u v)
    (at-below (length (orders d)) (λ v. all_below (suc d) (three_test d t u v))
    (at-below (length (orders d)) (λ u. all_below (length (orders d)) (λ v. all_below (suc d) (three_test d t u v)))
    (at-below (length (orders d)) (λ t. all_below (length (orders d)) (λ u. all_below (length (orders d)) (λ v. all_below (suc d) (three_test d t u v))))
    (at-below 4 (λ d. all_below (length (orders d)) (λ t. all_below (length (orders d)) (λ u. all_below (length (orders d)) (λ v. all_below (suc d) (three_test d t u v))))) threes d (suc-le-suc h)) t ht) u hu) v hv) i (suc-le-suc hi) in
    ⊎_elim
    (λ (q : eqb t u ≡ true). inl (eqb-true t u q))
    (λ (q : (eqb t v || eqb u v) ≡ true). inr (⊎_elim (λ (z : eqb t v ≡ true). inl (eqb-true t v z)) (λ (z : eqb u v ≡ true). inr (eqb-true u v z)) (or-either (eqb t v) (eqb u v) q)))
    (or-either (eqb t u) (eqb t v || eqb u v) (rw (same-but d t i u f, same-but d t i v f') at e))

-- ---- each axis is stepped along once
module _ (d t : ℕ) (h : d ≤ 3) (l : t < length (orders d)) where
  pub up-most : (i k : ℕ) → k < d → up d t i k ≤ 1
  up-most i k m = omega (arith, times-all k (order_of d t) i, order-once d t k h l m)

  pub up_none : (k : ℕ) → up d t 0 k ≡ 0
  up_none k = refl

  pub up-each : (k : ℕ) → k < d → up d t d k ≡ 1
  up-each k m = ap (times_in k) (take_all d (order_of d t) (omega (arith, order_long d t h l))) ∙ order-once d t k h l m

  pub up-rises : (i j k : ℕ) → i ≤ j → up d t i k ≤ up d t j k
  up-rises i j k m = times-take k (order_of d t) i j m

  -- after i steps i axes are up
  pub up-sum : (i : ℕ) → i ≤ d → sum d (up d t i) ≡ i
  up-sum i m =
      eqb-true _ _
      (at-below (suc d) (λ i. eqb (sum d (up d t i)) i)
      (at-below (length (orders d)) (λ t. all_below (suc d) (λ i. eqb (sum d (up d t i)) i)) (at-below 4 (λ d. all_below (length (orders d)) (λ t. all_below (suc d) (λ i. eqb (sum d (up d t i)) i))) sizes d (suc-le-suc h)) t l) i (suc-le-suc m))
