-- Each part of the line read at a position of the bytes: what its definition says where a byte stands there, and where none does. Assumes nothing.
use mathlib.Core.Path.{◌≡◌, refl, sym, ◌∙◌}
use mathlib.Core.Bool.{true, false}
use mathlib.Core.List.{List, [], ◌∷◌}
use Prim.Native.Nat.{ℕ, ◌+◌, ◌-◌, ◌≤◌, ◌<◌}
use native.Mathlib.Numerals.{add-one}
use native.Mathlib.Omega.{arith}
use lib.ListN.{length, get_or, drop, drop_of_length-le}
use lib.Seq.{drop-cons}
use lib.Dec.{eqb}
use lib.Ieee.{of_bits, binary64, fin}
use lib.IntN.{pos}
use native.Mathlib.Decide.{dec_lt}
use mathlib.Core.Bool.{false≢true}
use borrow.Author.Tests.{eq-eqb, ne_eqb, lt-ltb, le-ltb}
use Rattle.quotient.specs.declared.Glue.{Glue}
use Rattle.quotient.specs.declared.Glue.TheVariants.{Open, Periodic, Twisted}
use Rattle.quotient.specs.declared.Axis.{Axis}
use Rattle.quotient.specs.Shape.{no_axis}
use Rattle.bandsum_line.specs.Grammar.{Front, nothing, front, is_digit, and_then, after, digits_from, count_from, set_from, glue_from, glued_from, axis_from, axis_at, grid_from, line_ends, unit_sides}
use Rattle.bandsum_line.specs.WorkParts.{begins}

module _ (bs : List ℕ) (at : ℕ) where
  -- the byte at the position, and those after it; past the end there is none
  pub here : at < length bs → drop at bs ≡ get_or bs at 0 ∷ drop (at + 1) bs
  here h = rw (add-one at) (drop-cons bs at 0 h)

  pub gone : length bs ≤ at → drop at bs ≡ []
  gone h = drop_of_length-le bs h

-- ---- one byte

not-begun : {A : Type 0} (b : ℕ) (f : List ℕ → Front A) (l : List ℕ) → begins b l ≡ false → after b f l ≡ nothing
unfolding begins after
not-begun b f [] e = refl
not-begun b f (x ∷ r) e = rw e

module _ (b : ℕ) (bs : List ℕ) (at : ℕ) where
  pub begins-here : at < length bs → begins b (drop at bs) ≡ eqb (get_or bs at 0) b
  unfolding begins
  begins-here h = rw (here bs at h)

  pub begins-gone : length bs ≤ at → begins b (drop at bs) ≡ false
  unfolding begins
  begins-gone h = rw (gone bs at h)

  pub begins-lt : begins b (drop at bs) ≡ true → at < length bs
  begins-lt e = elim (dec_lt at (length bs)) [ yes h ↦ h | no h ↦ absurd (false≢true (sym (begins-gone (omega arith)) ∙ e)) ]

  pub after-here : {A : Type 0} (f : List ℕ → Front A) → begins b (drop at bs) ≡ true → after b f (drop at bs) ≡ f (drop (at + 1) bs)
  unfolding after
  after-here f e = rw (here bs at (begins-lt e), sym (begins-here (begins-lt e)) ∙ e)

  pub after-not : {A : Type 0} (f : List ℕ → Front A) → begins b (drop at bs) ≡ false → after b f (drop at bs) ≡ nothing
  after-not f e = not-begun b f (drop at bs) e

-- ---- a count

module _ (bs : List ℕ) (at : ℕ) where
  pub count-gone : length bs ≤ at → count_from (drop at bs) ≡ nothing
  unfolding count_from
  count-gone h = rw (gone bs at h)

  pub count-zero : at < length bs → get_or bs at 0 ≡ 48 → count_from (drop at bs) ≡ front 0 (drop (at + 1) bs)
  unfolding count_from
  count-zero h e = rw (here bs at h, eq-eqb (get_or bs at 0) 48 e)

  pub count_none : at < length bs → (get_or bs at 0 ≡ 48 → ⊥) → is_digit (get_or bs at 0) ≡ false → count_from (drop at bs) ≡ nothing
  unfolding count_from
  count_none h n e = rw (here bs at h, ne_eqb (get_or bs at 0) 48 n, e)

  pub count-digits : at < length bs → (get_or bs at 0 ≡ 48 → ⊥) → is_digit (get_or bs at 0) ≡ true →
      count_from (drop at bs) ≡ digits_from 3 (get_or bs at 0 - 48) (drop (at + 1) bs)
  unfolding count_from
  count-digits h n e = rw (here bs at h, ne_eqb (get_or bs at 0) 48 n, e)

-- ---- how an axis is glued

module _ (bs : List ℕ) (at : ℕ) where
  pub glue-gone : length bs ≤ at → glue_from (drop at bs) ≡ nothing
  unfolding glue_from
  glue-gone h = rw (gone bs at h)

  module _ (h : at < length bs) where
    pub glue-open : get_or bs at 0 ≡ 79 → glue_from (drop at bs) ≡ front Open (drop (at + 1) bs)
    unfolding glue_from
    glue-open e = rw (here bs at h, eq-eqb (get_or bs at 0) 79 e)

    pub glue-periodic : (get_or bs at 0 ≡ 79 → ⊥) → get_or bs at 0 ≡ 80 → glue_from (drop at bs) ≡ front Periodic (drop (at + 1) bs)
    unfolding glue_from
    glue-periodic o e = rw (here bs at h, ne_eqb (get_or bs at 0) 79 o, eq-eqb (get_or bs at 0) 80 e)

    pub glue-none : (get_or bs at 0 ≡ 79 → ⊥) → (get_or bs at 0 ≡ 80 → ⊥) → (get_or bs at 0 ≡ 84 → ⊥) → glue_from (drop at bs) ≡ nothing
    unfolding glue_from
    glue-none o p t = rw (here bs at h, ne_eqb (get_or bs at 0) 79 o, ne_eqb (get_or bs at 0) 80 p, ne_eqb (get_or bs at 0) 84 t)

    module _ (o : get_or bs at 0 ≡ 79 → ⊥) (p : get_or bs at 0 ≡ 80 → ⊥) (t : get_or bs at 0 ≡ 84) where
      glue-set : glue_from (drop at bs) ≡ and_then (set_from 0 (drop (at + 1) bs)) (λ m r. front (Twisted m) r)
      unfolding glue_from
      glue-set = rw (here bs at h, ne_eqb (get_or bs at 0) 79 o, ne_eqb (get_or bs at 0) 80 p, eq-eqb (get_or bs at 0) 84 t)

      pub glue-twisted : (m : ℕ) (r : List ℕ) → front m r ≡ set_from 0 (drop (at + 1) bs) → front (Twisted m) r ≡ glue_from (drop at bs)
      unfolding and_then
      glue-twisted m r e = sym (rw (← e) at glue-set)

      pub glue-untwisted : nothing ≡ set_from 0 (drop (at + 1) bs) → nothing ≡ glue_from (drop at bs)
      unfolding and_then
      glue-untwisted e = sym (rw (← e) at glue-set)

-- ---- an axis

module _ (bs : List ℕ) (at : ℕ) where
  pub glued-not : (n : ℕ) → begins 32 (drop at bs) ≡ false → glued_from n (drop at bs) ≡ nothing
  unfolding glued_from
  glued-not n e = after-not 32 bs at _ e

  pub axis-not : begins 32 (drop at bs) ≡ false → axis_from (drop at bs) ≡ nothing
  unfolding axis_from
  axis-not e = after-not 32 bs at _ e

  module _ (n : ℕ) (e : begins 32 (drop at bs) ≡ true) where
    glued-here : glued_from n (drop at bs) ≡ and_then (glue_from (drop (at + 1) bs)) (λ g t. front (record { count = n; glue = g }) t)
    unfolding glued_from
    glued-here = after-here 32 bs at (λ r. and_then (glue_from r) (λ g t. front (record { count = n; glue = g }) t)) e

    pub glued-some : (g : Glue) (r : List ℕ) → front g r ≡ glue_from (drop (at + 1) bs) → front (record { count = n; glue = g }) r ≡ glued_from n (drop at bs)
    unfolding and_then
    glued-some g r f = sym (rw (← f) at glued-here)

    pub glued-none : nothing ≡ glue_from (drop (at + 1) bs) → nothing ≡ glued_from n (drop at bs)
    unfolding and_then
    glued-none f = sym (rw (← f) at glued-here)

  module _ (e : begins 32 (drop at bs) ≡ true) where
    axis-here : axis_from (drop at bs) ≡ and_then (count_from (drop (at + 1) bs)) glued_from
    unfolding axis_from
    axis-here = after-here 32 bs at (λ r. and_then (count_from r) glued_from) e

    pub axis-some : (n : ℕ) (r : List ℕ) → front n r ≡ count_from (drop (at + 1) bs) → glued_from n r ≡ axis_from (drop at bs)
    unfolding and_then
    axis-some n r f = sym (rw (← f) at axis-here)

    pub axis-none : nothing ≡ count_from (drop (at + 1) bs) → nothing ≡ axis_from (drop at bs)
    unfolding and_then
    axis-none f = sym (rw (← f) at axis-here)

-- ---- the axes of a grid

module _ (d i : ℕ) (bs : List ℕ) where
  pub axis-below : i < d → axis_from bs ≡ axis_at d i bs
  unfolding axis_at
  axis-below h = rw (lt-ltb i d h)

  pub axis-past : d ≤ i → front no_axis bs ≡ axis_at d i bs
  unfolding axis_at
  axis-past h = rw (le-ltb i d h)

-- the number 1 as the code has it, and as the definition does
pub one-side : of_bits binary64 4607182418800017408 ≡ fin false 1 (pos 0)
unfolding of_bits
one-side = refl

module _ (d : ℕ) (bs : List ℕ) where
  pub grid-no-first : nothing ≡ axis_at d 0 bs → nothing ≡ grid_from d bs
  unfolding grid_from and_then
  grid-no-first e = rw (← e)

  module _ (a : Axis) (r : List ℕ) (e : front a r ≡ axis_at d 0 bs) where
    pub grid-no-second : nothing ≡ axis_at d 1 r → nothing ≡ grid_from d bs
    unfolding grid_from and_then
    grid-no-second f = rw (← e, ← f)

    module _ (b : Axis) (s : List ℕ) (f : front b s ≡ axis_at d 1 r) where
      pub grid-no-third : nothing ≡ axis_at d 2 s → nothing ≡ grid_from d bs
      unfolding grid_from and_then
      grid-no-third g = rw (← e, ← f, ← g)

      pub grid-whole : (c : Axis) (t : List ℕ) → front c t ≡ axis_at d 2 s →
          front (record { d = d; first = a; second = b; third = c; sides = unit_sides }) t ≡ grid_from d bs
      unfolding grid_from and_then
      grid-whole c t g = rw (← e, ← f, ← g)

-- ---- the line's end

module _ (bs : List ℕ) (at : ℕ) where
  pub ends-gone : length bs ≤ at → line_ends (drop at bs) ≡ false
  unfolding line_ends
  ends-gone h = rw (gone bs at h)

  pub ends-here : at < length bs → length bs - at ≡ 1 → line_ends (drop at bs) ≡ eqb (get_or bs at 0) 10
  unfolding line_ends
  ends-here h e = rw (here bs at h, gone bs (at + 1) (omega arith))

  pub ends-not : at < length bs → (length bs - at ≡ 1 → ⊥) → line_ends (drop at bs) ≡ false
  unfolding line_ends
  ends-not h n =
      let k : at + 1 < length bs = omega arith in
      rw (here bs at h, here bs (at + 1) k)

-- ---- what the functions that read a part cite
pub ruleset byte_rules = (begins-here, begins-gone)

pub ruleset count_rules = (count-gone, count-zero, count_none, count-digits)

pub ruleset end_rules = (ends-gone, ends-here, ends-not)

pub ruleset glue_rules = (glue-gone, glue-open, glue-periodic, glue-none, glue-twisted, glue-untwisted)

pub ruleset glued_rules = (begins-lt, glued-not, glued-some, glued-none)

pub ruleset axis_rules = (begins-lt, axis-not, axis-some, axis-none)

pub ruleset axis_at_rules = (axis-below, axis-past)

pub ruleset grid_rules = (one-side, grid-no-first, grid-no-second, grid-no-third, grid-whole)
