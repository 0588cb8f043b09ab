-- Where no side is refused, the longest is taken and no side is above it, so each count is at most what is asked for. Assumes nothing.
use Rattle.std.proofs.Common.{◌≡◌, ℕ, zero, suc, ◌-◌, ◌*◌, ◌^◌, ◌<◌, ◌≤◌, max, Bool, true, false, cond, T, ◌⊎◌, sym, refl, subst, inl, inr, ⊎_elim, le_refl, arith, ltb-false}
use native.Mathlib.Decide.{dec_lt}
use borrow.Author.Tests.{not-false}
use lib.Ieee.{Float, nan, inf, fin, up, down, le, lt}
use lib.Ieee.Positive.{positive, num, den, cross→le, le_trans_positive}
use Rattle.grid_sides.specs.declared.Sides.{Sides}
use Rattle.grid_sides.specs.Counts.{side_fits, side_of, unfit, first_bad, larger_of, longest_to, longest_of, nearest_whole, share, axis_count}
use Rattle.lists.proofs.Words.{first-full}
use Rattle.grid_sides.proofs.Share.{fits-positive, share-le, S-positive}
use Rattle.grid_sides.proofs.Nearest.{Nearest, whole_is}

lt-or-ge : (k n : ℕ) → (k < n) ⊎ (n ≤ k)
lt-or-ge k n = elim (dec_lt k n) [ yes l ↦ inl l | no l ↦ inr (omega arith) ]

-- ---- the order of two values above zero
le_of_lt : (a b : Float) → lt a b ≡ true → T (le a b)
unfolding le
le_of_lt a b e = rw e tt

le_of_not_lt : (a b : Float) → T (positive a) → T (positive b) → lt a b ≡ false → T (le b a)
unfolding lt
le_of_not_lt nan b p q e = absurd p
le_of_not_lt (inf s) b p q e = absurd p
le_of_not_lt (fin true m x) b p q e = absurd p
le_of_not_lt (fin false m x) nan p q e = absurd q
le_of_not_lt (fin false m x) (inf t) p q e = absurd q
le_of_not_lt (fin false m x) (fin true n y) p q e = absurd q
le_of_not_lt (fin false m x) (fin false n y) p q e =
    cross→le (fin false n y) (fin false m x) q p (ltb-false (m * up x * down y) (n * up y * down x) e)

le-self : (a : Float) → T (positive a) → T (le a a)
le-self a p = cross→le a a p p (le_refl (num a * den a))

-- ---- the larger of two
module _ (a b : Float) (ha : T (side_fits a)) (hb : T (side_fits b)) where
  larger-by : (t : Bool) → lt a b ≡ t → T (side_fits (cond t b a)) × T (le a (cond t b a)) × T (le b (cond t b a))
  larger-by true e = (hb, le_of_lt a b e, le-self b (fits-positive b hb))
  larger-by false e = (ha, le-self a (fits-positive a ha), le_of_not_lt a b (fits-positive a ha) (fits-positive b hb) e)

  larger-is : T (side_fits (larger_of a b)) × T (le a (larger_of a b)) × T (le b (larger_of a b))
  larger-is = larger-by (lt a b) refl

module _ (s : Sides) (d : ℕ) (ok : d ≤ first_bad s d) where
  pub side-ok : (i : ℕ) → i < d → T (side_fits (side_of s i))
  side-ok i h =
      let e : side_fits (side_of s i) ≡ true = not-false (side_fits (side_of s i)) (first-full (unfit s) d ok i h) in
      subst T (sym e) tt

  longest-ok : (k : ℕ) → k < d → T (side_fits (longest_to s k))
  unfolding longest_to
  longest-ok zero h = side-ok 0 h
  longest-ok (suc k) h = (larger-is (longest_to s k) (side_of s (suc k)) (longest-ok k (omega arith)) (side-ok (suc k) h)).0

  longest-ge : (k i : ℕ) → k < d → i ≤ k → T (le (side_of s i) (longest_to s k))
  unfolding longest_to
  longest-ge zero i h l = let e : i ≡ 0 = omega arith in rw e (le-self (side_of s 0) (fits-positive (side_of s 0) (side-ok 0 h)))
  longest-ge (suc k) i h l =
      let kd : k < d = omega arith in
      let x = larger-is (longest_to s k) (side_of s (suc k)) (longest-ok k kd) (side-ok (suc k) h) in
      ⊎_elim
      (λ (m : i < suc k).
      let id : i < d = omega arith in
      le_trans_positive (side_of s i) (longest_to s k) (larger_of (longest_to s k) (side_of s (suc k)))
      (fits-positive (side_of s i) (side-ok i id)) (fits-positive (longest_to s k) (longest-ok k kd)) (fits-positive (larger_of (longest_to s k) (side_of s (suc k))) x.0)
      (longest-ge k i kd (omega arith)) x.1)
      (λ (m : suc k ≤ i). let e : i ≡ suc k = omega arith in rw e x.2)
      (lt-or-ge i (suc k))

  -- a count is at most the number asked for, 1 or the floor
  pub count-le : (i n f : ℕ) → i < d → n ≤ 2 ^ 53 → axis_count (side_of s i) (longest_of s d) n f ≤ max (max n 1) f
  unfolding axis_count
  count-le i n f h b =
      let kd : d - 1 < d = omega arith in
      let ik : i ≤ d - 1 = omega arith in
      let w : nearest_whole (share (side_of s i) (longest_of s d) n) ≤ n = share-le (side_of s i) (longest_of s d) (side-ok i h) (longest-ok (d - 1) kd) (longest-ge (d - 1) i kd ik) n b in
      omega arith

  -- where any are asked for, a count before it is raised is the whole number nearest to the exact value of the rounded share
  pub count-nearest : (i n : ℕ) → i < d → 0 < n → n ≤ 2 ^ 53 → Nearest (num (share (side_of s i) (longest_of s d) n)) (den (share (side_of s i) (longest_of s d) n)) (nearest_whole (share (side_of s i) (longest_of s d) n))
  count-nearest i n h p b =
      let kd : d - 1 < d = omega arith in
      let ik : i ≤ d - 1 = omega arith in
      let w : nearest_whole (share (side_of s i) (longest_of s d) n) ≤ n = share-le (side_of s i) (longest_of s d) (side-ok i h) (longest-ok (d - 1) kd) (longest-ge (d - 1) i kd ik) n b in
      whole_is (share (side_of s i) (longest_of s d) n) (S-positive (side_of s i) (longest_of s d) (side-ok i h) (longest-ok (d - 1) kd) (longest-ge (d - 1) i kd ik) n p b) (omega arith)
