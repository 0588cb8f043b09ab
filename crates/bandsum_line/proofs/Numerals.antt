-- Digits one by one: the numbers and the sets that they say so far, and the line from its first digit on. Assumes nothing.
use Rattle.refusal.specs.declared.Refusal.TheVariants.{BadDimension, Unreadable}
use Rattle.std.specs.Prelude.{Err, Ok}
use mathlib.Core.Path.{◌≡◌, refl, sym, ap, subst, ◌∙◌}
use mathlib.Core.Bool.{Bool, true, false, ◌&&◌, false≢true}
use mathlib.Core.List.{List, [], ◌∷◌}
use Prim.Native.Nat.{ℕ, zero, suc, ◌+◌, ◌-◌, ◌≤◌, ◌<◌, ◌^◌, ◌*◌, ◌/◌, ◌%◌}
use native.Mathlib.Omega.{arith}
use lib.ListN.{length, get_or, drop}
use lib.Dec.{leb}
use borrow.Author.Tests.{leb-true, le-leb, lt-leb, eqb-false}
use Rattle.quotient.specs.declared.Grid.{Grid}
use Rattle.quotient.specs.Fold.{member}
use Rattle.bandsum_line.specs.Grammar.{Front, nothing, front, is_digit, is_axis_digit, digits_from, set_from, grid_from, line_ends, ended, read_line}
use Rattle.bandsum_line.proofs.Front.{here, gone}

-- ---- the digits themselves

both : (a b : Bool) → (a && b) ≡ true → (a ≡ true) × (b ≡ true)
both true b e = (refl, e)
both false b e = absurd (false≢true e)

pub digit-from : (b : ℕ) → is_digit b ≡ true → 48 ≤ b
digit-from b e = leb-true 48 b (both (leb 48 b) (leb b 57) e).0

pub digit-to : (b : ℕ) → is_digit b ≡ true → b ≤ 57
digit-to b e = leb-true b 57 (both (leb 48 b) (leb b 57) e).1

pub digit-small : (b : ℕ) → is_digit b ≡ true → b - 48 < 10
digit-small b e = omega (arith, digit-to b e)

pub axis-from : (b : ℕ) → is_axis_digit b ≡ true → 48 ≤ b
axis-from b e = leb-true 48 b (both (leb 48 b) (leb b 55) e).0

pub axis-to : (b : ℕ) → is_axis_digit b ≡ true → b ≤ 55
axis-to b e = leb-true b 55 (both (leb 48 b) (leb b 55) e).1

pub axis-small : (b : ℕ) → is_axis_digit b ≡ true → b - 48 < 8
axis-small b e = omega (arith, axis-to b e)

-- ---- a number of at most four digits: with k digits after the first it is below 10 ^ (k + 1)

pub below : (k n : ℕ) → k < 3 → n < 10 ^ suc k → n < 1000
below zero n h l = omega arith
below (suc zero) n h l = omega arith
below (suc (suc zero)) n h l = l
below (suc (suc (suc k))) n h l = absurd (omega arith)

pub below_next : (k n x : ℕ) → k < 3 → n < 10 ^ suc k → x < 10 → n * 10 + x < 10 ^ suc (k + 1)
below_next zero n x h l m = omega arith
below_next (suc zero) n x h l m = omega arith
below_next (suc (suc zero)) n x h l m = omega arith
below_next (suc (suc (suc k))) n x h l m = absurd (omega arith)

module _ (bs : List ℕ) where
  pub digits-gone : (k n i : ℕ) → length bs ≤ i → digits_from k n (drop i bs) ≡ front n (drop i bs)
  unfolding digits_from
  digits-gone zero n i h = refl
  digits-gone (suc k) n i h = rw (gone bs i h)

  pub digits-stop : (k n i : ℕ) → i < length bs → is_digit (get_or bs i 0) ≡ false → digits_from k n (drop i bs) ≡ front n (drop i bs)
  unfolding digits_from
  digits-stop zero n i h e = refl
  digits-stop (suc k) n i h e = rw (here bs i h, e)

  digits_more : (k n i : ℕ) → i < length bs → is_digit (get_or bs i 0) ≡ true →
      digits_from (suc k) n (drop i bs) ≡ digits_from k (n * 10 + (get_or bs i 0 - 48)) (drop (i + 1) bs)
  unfolding digits_from
  digits_more k n i h e = rw (here bs i h, e)

  pub digits-turn : (k n i : ℕ) (x : Front ℕ) → k < 3 → i < length bs → is_digit (get_or bs i 0) ≡ true → digits_from (3 - k) n (drop i bs) ≡ x →
      digits_from (3 - (k + 1)) (n * 10 + (get_or bs i 0 - 48)) (drop (i + 1) bs) ≡ x
  digits-turn k n i x h l e inv =
      let f : 3 - k ≡ suc (3 - (k + 1)) = omega arith in
      sym (digits_more (3 - (k + 1)) n i l e) ∙ subst (λ (z : ℕ). digits_from z n (drop i bs) ≡ x) f inv

  pub digits-done : (k n i : ℕ) (x : Front ℕ) → 3 ≤ k → digits_from (3 - k) n (drop i bs) ≡ x → front n (drop i bs) ≡ x
  unfolding digits_from
  digits-done k n i x h inv =
      let f : 3 - k ≡ 0 = omega arith in
      subst (λ (z : ℕ). digits_from z n (drop i bs) ≡ x) f inv

-- ---- a set of axes

set-fits : (m j : ℕ) → m < 256 → j < 8 → member m j ≡ false → m + 2 ^ j < 256
set-fits m zero h l e = omega (arith, eqb-false (m / 2 ^ 0 % 2) 1 e)
set-fits m (suc zero) h l e = omega (arith, eqb-false (m / 2 ^ 1 % 2) 1 e)
set-fits m (suc (suc zero)) h l e = omega (arith, eqb-false (m / 2 ^ 2 % 2) 1 e)
set-fits m (suc (suc (suc zero))) h l e = omega (arith, eqb-false (m / 2 ^ 3 % 2) 1 e)
set-fits m (suc (suc (suc (suc zero)))) h l e = omega (arith, eqb-false (m / 2 ^ 4 % 2) 1 e)
set-fits m (suc (suc (suc (suc (suc zero))))) h l e = omega (arith, eqb-false (m / 2 ^ 5 % 2) 1 e)
set-fits m (suc (suc (suc (suc (suc (suc zero)))))) h l e = omega (arith, eqb-false (m / 2 ^ 6 % 2) 1 e)
set-fits m (suc (suc (suc (suc (suc (suc (suc zero))))))) h l e = omega (arith, eqb-false (m / 2 ^ 7 % 2) 1 e)
set-fits m (suc (suc (suc (suc (suc (suc (suc (suc j)))))))) h l e = absurd (omega arith)

-- the mask of the set of one axis, as the code makes it: a one moved by j digits of eight
shifted : (j : ℕ) → j < 8 → 1 * 2 ^ j % 256 ≡ 2 ^ j
shifted zero h = refl
shifted (suc zero) h = refl
shifted (suc (suc zero)) h = refl
shifted (suc (suc (suc zero))) h = refl
shifted (suc (suc (suc (suc zero)))) h = refl
shifted (suc (suc (suc (suc (suc zero))))) h = refl
shifted (suc (suc (suc (suc (suc (suc zero)))))) h = refl
shifted (suc (suc (suc (suc (suc (suc (suc zero))))))) h = refl
shifted (suc (suc (suc (suc (suc (suc (suc (suc j)))))))) h = absurd (omega arith)

pub set-fits-shifted : (m j : ℕ) → m < 256 → j < 8 → member m j ≡ false → m + 1 * 2 ^ j % 256 < 256
set-fits-shifted m j h l e = subst (λ (x : ℕ). m + x < 256) (sym (shifted j l)) (set-fits m j h l e)

module _ (bs : List ℕ) (m i : ℕ) where
  pub set-gone : length bs ≤ i → set_from m (drop i bs) ≡ front m (drop (length bs) bs)
  unfolding set_from
  set-gone h = rw (gone bs i h, gone bs (length bs) (omega arith))

  module _ (h : i < length bs) where
    pub set-stop : is_axis_digit (get_or bs i 0) ≡ false → set_from m (drop i bs) ≡ front m (drop i bs)
    unfolding set_from
    set-stop e = rw (here bs i h, e)

    pub set_twice : is_axis_digit (get_or bs i 0) ≡ true → member m (get_or bs i 0 - 48) ≡ true → set_from m (drop i bs) ≡ nothing
    unfolding set_from
    set_twice e t = rw (here bs i h, e, t)

    set_more : is_axis_digit (get_or bs i 0) ≡ true → member m (get_or bs i 0 - 48) ≡ false →
        set_from m (drop i bs) ≡ set_from (m + 2 ^ (get_or bs i 0 - 48)) (drop (i + 1) bs)
    unfolding set_from
    set_more e t = rw (here bs i h, e, t)

    pub set-turn : (x : Front ℕ) → is_axis_digit (get_or bs i 0) ≡ true → member m (get_or bs i 0 - 48) ≡ false → set_from m (drop i bs) ≡ x →
        set_from (m + 1 * 2 ^ (get_or bs i 0 - 48) % 256) (drop (i + 1) bs) ≡ x
    set-turn x e t inv =
        ap (λ (y : ℕ). set_from (m + y) (drop (i + 1) bs)) (shifted (get_or bs i 0 - 48) (axis-small (get_or bs i 0) e)) ∙ sym (set_more e t) ∙ inv

-- ---- the line

pub read-gone : (bs : List ℕ) → length bs ≡ 0 → read_line bs ≡ Err Unreadable
unfolding read_line
read-gone [] h = refl
read-gone (b ∷ r) h = absurd (omega arith)

pub read-odd : (bs : List ℕ) → (length bs ≡ 0 → ⊥) → is_digit (get_or bs 0 0) ≡ false → read_line bs ≡ Err Unreadable
unfolding read_line
read-odd [] n e = absurd (n refl)
read-odd (b ∷ r) n e = rw e

pub read-zero : (bs : List ℕ) → (length bs ≡ 0 → ⊥) → is_digit (get_or bs 0 0) ≡ true → get_or bs 0 0 - 48 < 1 → read_line bs ≡ Err BadDimension
unfolding read_line
read-zero [] n e h = absurd (n refl)
read-zero (b ∷ r) n e h = rw (e, lt-leb 1 (b - 48) h)

pub read-many : (bs : List ℕ) → (length bs ≡ 0 → ⊥) → is_digit (get_or bs 0 0) ≡ true → 1 ≤ get_or bs 0 0 - 48 → 3 < get_or bs 0 0 - 48 → read_line bs ≡ Err BadDimension
unfolding read_line
read-many [] n e l h = absurd (n refl)
read-many (b ∷ r) n e l h = rw (e, le-leb 1 (b - 48) l, lt-leb (b - 48) 3 h)

rest_of : (bs : List ℕ) → (length bs ≡ 0 → ⊥) → is_digit (get_or bs 0 0) ≡ true → 1 ≤ get_or bs 0 0 - 48 → get_or bs 0 0 - 48 ≤ 3 →
    read_line bs ≡ ended (grid_from (get_or bs 0 0 - 48) (drop 1 bs))
unfolding read_line
rest_of [] n e l h = absurd (n refl)
rest_of (b ∷ r) n e l h = rw (e, le-leb 1 (b - 48) l, le-leb (b - 48) 3 h)

module _ (bs : List ℕ) (n : length bs ≡ 0 → ⊥) (e : is_digit (get_or bs 0 0) ≡ true) (l : 1 ≤ get_or bs 0 0 - 48) (h : get_or bs 0 0 - 48 ≤ 3) where
  read-rest : read_line bs ≡ ended (grid_from (get_or bs 0 0 - 48) (drop 1 bs))
  read-rest = rest_of bs n e l h

  pub read_none : nothing ≡ grid_from (get_or bs 0 0 - 48) (drop 1 bs) → read_line bs ≡ Err Unreadable
  unfolding ended
  read_none f = rw (← f) at read-rest

  module _ (g : Grid) (r : List ℕ) (f : front g r ≡ grid_from (get_or bs 0 0 - 48) (drop 1 bs)) where
    pub read_taken : line_ends r ≡ true → read_line bs ≡ Ok g
    unfolding ended
    read_taken t = read-rest ∙ rw (← f, t)

    pub read-not-ended : line_ends r ≡ false → read_line bs ≡ Err Unreadable
    unfolding ended
    read-not-ended t = read-rest ∙ rw (← f, t)

-- ---- what the functions that read digits, a set and the line cite
pub ruleset digits_rules = (below, below_next, digit-small, digits-gone, digits-stop, digits-turn, digits-done)

pub ruleset set_rules = (axis-from, axis-to, axis-small, set-fits-shifted, set-gone, set-stop, set_twice, set-turn)

pub ruleset read_rules = (read-gone, read-odd, read-zero, read-many, read_none, read_taken, read-not-ended)
