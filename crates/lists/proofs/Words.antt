-- Laws of `specs/Words.antt`: each function over `drop i ws`, one element at a time, and what a search has shown. Assumes nothing.
use mathlib.Core.Path.{◌≡◌, refl, sym, ap, ◌∙◌}
use mathlib.Core.Bool.{Bool, true, false, not, ◌&&◌, ◌||◌}
use mathlib.Core.Logic.{◌≢◌}
use mathlib.Core.List.{List, [], ◌∷◌}
use Prim.Native.Nat.{ℕ, zero, suc, ◌+◌, ◌*◌, ◌-◌, ◌≤◌, ◌<◌, max, zero-le, suc-le-suc}
use native.Mathlib.Numerals.{add-one}
use native.Mathlib.Nat.{le_of_eq, le_trans, lt_of_lt_of_le, suc-mul, mul-le-mul_right}
use native.Mathlib.Omega.{arith}
use lib.Dec.{eqb}
use lib.ListN.{length, get_or, take, drop, set, drop_of_length-le, length-drop, length-replicate, replicate, get_or-replicate}
use lib.Seq.{drop-cons, take_all, get_or-set_same, get_or-set_other, lt-length-set}
use borrow.Author.Tests.{eq-eqb, lt-ltb, le-ltb, eqb-true, eqb-false}
use native.Mathlib.Decide.{dec_lt}
use lib.Seq.{length-take-le, get_or-take}
use Rattle.std.specs.Prelude.{unwrap_or}
use Rattle.std.specs.List.{fold, list_any, position, position_or_len}
use Rattle.std.proofs.lemmas.List.Sums.{fails_before_first, passes_at_first}
use Rattle.lists.specs.Words.{same_word, same, among, has_repeat, largest_of, found_at, first_where, marked}

-- the same as std's words
pub among_any : (v : ℕ) (ws : List ℕ) → list_any (λ y. eqb y v) ws ≡ among v ws
unfolding among
among_any v [] = refl
among_any v (x ∷ ws) = ap (λ (b : Bool). eqb x v || b) (among_any v ws)

pub repeat-step : (ws : List ℕ) (i : ℕ) → i < length ws → has_repeat (drop i ws) ≡ (among (get_or ws i 0) (drop (i + 1) ws) || has_repeat (drop (i + 1) ws))
unfolding has_repeat
repeat-step ws i h = rw add-one (ap has_repeat (drop-cons ws i 0 h))

pub repeat-end : (ws : List ℕ) (i : ℕ) → length ws ≤ i → has_repeat (drop i ws) ≡ false
unfolding has_repeat
repeat-end ws i h = ap has_repeat (drop_of_length-le ws h)

pub largest_step : (ws : List ℕ) (i : ℕ) → i < length ws → largest_of (drop i ws) ≡ max (get_or ws i 0) (largest_of (drop (i + 1) ws))
unfolding largest_of
largest_step ws i h = rw add-one (ap largest_of (drop-cons ws i 0 h))

pub largest-end : (ws : List ℕ) (i : ℕ) → length ws ≤ i → largest_of (drop i ws) ≡ 0
unfolding largest_of
largest-end ws i h = ap largest_of (drop_of_length-le ws h)

-- the largest as a fold of `max`
pub folded_from : (a : ℕ) (ws : List ℕ) → fold max a ws ≡ max a (largest_of ws)
unfolding largest_of
folded_from a [] = omega arith
folded_from a (x ∷ ws) = omega (arith, folded_from (max a x) ws)

pub largest_folded : (ws : List ℕ) → fold max 0 ws ≡ largest_of ws
largest_folded ws = omega (arith, folded_from 0 ws)

pub marked_step : (l ws : List ℕ) (i : ℕ) → i < length ws → marked l (drop i ws) ≡ marked (set l (get_or ws i 0) 1) (drop (i + 1) ws)
unfolding marked
marked_step l ws i h = rw add-one (ap (marked l) (drop-cons ws i 0 h))

pub marked-end : (l ws : List ℕ) (i : ℕ) → length ws ≤ i → marked l (drop i ws) ≡ l
unfolding marked
marked-end l ws i h = ap (marked l) (drop_of_length-le ws h)

-- no number of the list is above its largest
pub below-largest : (ws : List ℕ) (i : ℕ) → get_or ws i 0 ≤ largest_of ws
unfolding largest_of
below-largest [] i = zero-le
below-largest (x ∷ ws) zero = omega arith
below-largest (x ∷ ws) (suc i) = omega (arith, below-largest ws i)

-- a search that no number passes ends at its bound
pub first-none : (p : ℕ → Bool) (m : ℕ) → ((k : ℕ) → k < m → p k ≡ false) → first_where p m ≡ m
unfolding first_where found_at
first-none p zero h = refl
first-none p (suc m) h = rw (h 0 (suc-le-suc zero-le)) (ap suc (first-none (λ k. p (suc k)) m (λ k l. h (suc k) (suc-le-suc l))))

-- the first number that passes is what the search finds
pub first-at : (p : ℕ → Bool) (m k : ℕ) → k < m → ((j : ℕ) → j < k → p j ≡ false) → p k ≡ true → first_where p m ≡ k
unfolding first_where found_at
first-at p zero k l h t = omega arith
first-at p (suc m) zero l h t = rw t
first-at p (suc m) (suc k) l h t = rw (h 0 (suc-le-suc zero-le)) (ap suc (first-at (λ k. p (suc k)) m k (omega arith) (λ j q. h (suc j) (suc-le-suc q)) t))

-- a search through the first m numbers of a list is std's search
pub first_position : (p : ℕ → Bool) (l : List ℕ) (m : ℕ) → m ≤ length l → first_where (λ v. p (get_or l v 0)) m ≡ unwrap_or (position p (take m l)) m
first_position p l m h = go (position_or_len p (take m l)) refl (dec_lt (position_or_len p (take m l)) m)
  where
    long : length (take m l) ≡ m
    long = length-take-le m l h

    at : (j : ℕ) → j < m → get_or (take m l) j 0 ≡ get_or l j 0
    at j q = get_or-take m l j 0 q

    misses : (j : ℕ) → j < m → j < position_or_len p (take m l) → p (get_or l j 0) ≡ false
    misses j q r = rw (at j q) at (fails_before_first p (take m l) j 0 r)

    hits : position_or_len p (take m l) < m → p (get_or l (position_or_len p (take m l)) 0) ≡ true
    hits q = rw (at (position_or_len p (take m l)) q) at (passes_at_first p (take m l) 0 (omega (arith, long)))

    go : (i : ℕ) → position_or_len p (take m l) ≡ i → Dec (i < m) → first_where (λ v. p (get_or l v 0)) m ≡ unwrap_or (position p (take m l)) m
    go i e (yes q) =
        rw (lt-ltb (position_or_len p (take m l)) (length (take m l)) (omega (arith, long)))
        (first-at _ m (position_or_len p (take m l)) (omega arith) (λ j r. misses j (omega arith) r) (hits (omega arith)))
    go i e (no q) =
        rw (le-ltb (position_or_len p (take m l)) (length (take m l)) (omega (arith, long))) (first-none _ m (λ j r. misses j r (omega arith)))

-- a search ends at its bound or before it
pub first-most : (p : ℕ → Bool) (m : ℕ) → first_where p m ≤ m
unfolding first_where found_at
first-most p zero = zero-le
first-most p (suc m) = go (p zero) (first-most (λ k. p (suc k)) m)
  where
    go : (t : Bool) → first_where (λ k. p (suc k)) m ≤ m → found_at t (first_where (λ k. p (suc k)) m) ≤ suc m
    go true h = zero-le
    go false h = suc-le-suc h

-- a search that reaches its bound: no number below it passes
pub first-full : (p : ℕ → Bool) (m : ℕ) → m ≤ first_where p m → (k : ℕ) → k < m → p k ≡ false
unfolding first_where found_at
first-full p zero h k l = absurd (omega arith)
first-full p (suc m) h k l = go (p zero) refl h k l (first-full (λ j. p (suc j)) m)
  where
    go : (t : Bool) → p zero ≡ t → suc m ≤ found_at t (first_where (λ j. p (suc j)) m) → (k : ℕ) → k < suc m → (m ≤ first_where (λ j. p (suc j)) m → (k : ℕ) → k < m → p (suc k) ≡ false) → p k ≡ false
    go true e h k l r = absurd (omega arith)
    go false e h zero l r = e
    go false e h (suc k) l r = r (omega arith) k (omega arith)

-- a search that stops below its bound: the number it stops at passes, and none before it does
pub first_found : (p : ℕ → Bool) (m : ℕ) → first_where p m < m → p (first_where p m) ≡ true
unfolding first_where found_at
first_found p zero h = absurd (omega arith)
first_found p (suc m) h = go (p zero) refl h (first_found (λ j. p (suc j)) m)
  where
    go : (t : Bool) → p zero ≡ t → found_at t (first_where (λ j. p (suc j)) m) < suc m → (first_where (λ j. p (suc j)) m < m → p (suc (first_where (λ j. p (suc j)) m)) ≡ true) → p (found_at t (first_where (λ j. p (suc j)) m)) ≡ true
    go true e h r = e
    go false e h r = r (omega arith)

pub first-before : (p : ℕ → Bool) (m k : ℕ) → k < first_where p m → p k ≡ false
unfolding first_where found_at
first-before p zero k h = absurd (omega arith)
first-before p (suc m) k h = go (p zero) refl k h (first-before (λ j. p (suc j)) m)
  where
    go : (t : Bool) → p zero ≡ t → (k : ℕ) → k < found_at t (first_where (λ j. p (suc j)) m) → ((k : ℕ) → k < first_where (λ j. p (suc j)) m → p (suc k) ≡ false) → p k ≡ false
    go true e k h r = absurd (omega arith)
    go false e zero h r = e
    go false e (suc k) h r = r k (omega arith)

-- the number at i stands again after i, or it does not
pub repeat-hit : (ws : List ℕ) (i : ℕ) → i < length ws → among (get_or ws i 0) (drop (i + 1) ws) ≡ true → has_repeat (drop i ws) ≡ true
repeat-hit ws i h e = repeat-step ws i h ∙ rw e

pub repeat-miss : (ws : List ℕ) (i : ℕ) → i < length ws → among (get_or ws i 0) (drop (i + 1) ws) ≡ false → has_repeat (drop i ws) ≡ has_repeat (drop (i + 1) ws)
repeat-miss ws i h e = repeat-step ws i h ∙ rw e

-- the part &ws[i..] is what is left after the first i
pub tail-part : (ws : List ℕ) (i : ℕ) → take (length ws - i) (drop i ws) ≡ drop i ws
tail-part ws i = take_all (length ws - i) (drop i ws) (le_of_eq (length-drop i ws))

-- word k of count words of n numbers ends within the list
pub word-within : (k n count len : ℕ) → k < count → count * n ≤ len → k * n + n ≤ len
word-within k n count len h f = rw (← suc-mul k n) (le_trans (mul-le-mul_right n h) f)

-- two tests that agree below m find the same
pub first-same : (p q : ℕ → Bool) (m : ℕ) → ((k : ℕ) → k < m → p k ≡ q k) → first_where p m ≡ first_where q m
unfolding first_where
first-same p q zero h = refl
first-same p q (suc m) h =
    rw (h 0 (suc-le-suc zero-le), first-same (λ k. p (suc k)) (λ k. q (suc k)) m (λ k l. h (suc k) (suc-le-suc l)))

-- a place is empty after the marks where it was empty before them and none of them falls on it
abbrev pub free_after : Bool → Bool → Bool
free_after true b = false
free_after false b = b

free-false : (t : Bool) → free_after t false ≡ false
free-false true = refl
free-false false = refl

pub marked-at : (ws l : List ℕ) (v : ℕ) → v < length l → eqb (get_or (marked l ws) v 0) 0 ≡ free_after (among v ws) (eqb (get_or l v 0) 0)
unfolding marked among
marked-at [] l v h = refl
marked-at (x ∷ ws) l v h = marked-at ws (set l x 1) v (lt-length-set l x 1 h) ∙ go (eqb x v) refl
  where
    go : (t : Bool) → eqb x v ≡ t → free_after (among v ws) (eqb (get_or (set l x 1) v 0) 0) ≡ free_after (t || among v ws) (eqb (get_or l v 0) 0)
    go true e = rw (eqb-true x v e, get_or-set_same l v 1 0 h) (free-false (among v ws))
    go false e = rw (get_or-set_other l x v 1 0 (λ s. eqb-false x v e (sym s)))

-- over an empty table the free places are the numbers that are not among those marked
pub free-unused : (n : ℕ) (ws : List ℕ) (m : ℕ) → m ≤ n → first_where (λ v. eqb (get_or (marked (replicate n 0) ws) v 0) 0) m ≡ first_where (λ v. not (among v ws)) m
free-unused n ws m h = first-same _ _ m λ k l.
    let b : k < n = lt_of_lt_of_le l h in
    marked-at ws (replicate n 0) k (rw length-replicate b) ∙ rw (get_or-replicate {A = ℕ} n k 0 0 b) (free-not (among k ws))
  where
    free-not : (t : Bool) → free_after t true ≡ not t
    free-not true = refl
    free-not false = refl

-- ---- equal numbers, as 1 and 0
pub same_self : (n : ℕ) → same n n ≡ 1
same_self zero = refl
same_self (suc n) = same_self n

pub same-yes : (m n : ℕ) → m ≡ n → same m n ≡ 1
same-yes m n e = ap (same m) (sym e) ∙ same_self m

pub same-no : (m n : ℕ) → m ≢ n → same m n ≡ 0
same-no zero zero h = absurd (h refl)
same-no zero (suc n) h = refl
same-no (suc m) zero h = refl
same-no (suc m) (suc n) h = same-no m n (λ e. h (ap suc e))

pub same-eq : (m n : ℕ) → 0 < same m n → m ≡ n
same-eq zero zero h = refl
same-eq zero (suc n) h = omega arith
same-eq (suc m) zero h = omega arith
same-eq (suc m) (suc n) h = ap suc (same-eq m n h)

-- ---- equal words, as a test
pub same_word_lem : (v w : List ℕ) → same_word v w ≡ true → v ≡ w
same_word_lem [] [] e = refl
same_word_lem [] (y ∷ w) e = let z : ◌≡◌ {A = ℕ} 0 1 = cc in absurd (omega arith)
same_word_lem (x ∷ v) [] e = let z : ◌≡◌ {A = ℕ} 0 1 = cc in absurd (omega arith)
same_word_lem (x ∷ v) (y ∷ w) e = go (eqb x y) refl e (same_word_lem v w)
  where
    go : (t : Bool) → eqb x y ≡ t → (t && same_word v w) ≡ true → (same_word v w ≡ true → v ≡ w) → x ∷ v ≡ y ∷ w
    go true p e r = let a = eqb-true x y p in let b = r e in cc
    go false p e r = let z : ◌≡◌ {A = ℕ} 0 1 = cc in absurd (omega arith)

pub word_same : (v : List ℕ) → same_word v v ≡ true
word_same [] = refl
word_same (x ∷ v) = rw (eq-eqb x x refl) (word_same v)

pub word-true : (v w : List ℕ) → v ≡ w → same_word v w ≡ true
word-true v w e = ap (λ (z : List ℕ). same_word v z) (sym e) ∙ word_same v

pub word-false : (v w : List ℕ) → (v ≡ w → ⊥) → same_word v w ≡ false
word-false v w n = go (same_word v w) refl
  where
    go : (t : Bool) → same_word v w ≡ t → same_word v w ≡ false
    go true e = absurd (n (same_word_lem v w e))
    go false e = e

-- where neither test holds, each fails
pub or-false : (a b : Bool) → (a || b) ≡ false → (a ≡ false) × (b ≡ false)
or-false true b e = let z : ◌≡◌ {A = ℕ} 0 1 = cc in absurd (omega arith)
or-false false b e = (refl, e)
