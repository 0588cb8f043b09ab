-- A line that is taken has at most 47 bytes: a digit, three times a space, four digits, a space, T and eight digits, and the line feed. So 48 bytes tell what a line
-- says, however many follow. Assumes nothing.
use Rattle.refusal.specs.declared.Refusal.TheVariants.{BadDimension, Unreadable}
use Rattle.bandsum_line.specs.Says.{Line}
use Rattle.std.specs.Prelude.{Err, Ok}
use mathlib.Core.Path.{◌≡◌, refl, sym, ap, ◌∙◌}
use mathlib.Core.Bool.{Bool, true, false, cond, not, ◌&&◌, false≢true}
use mathlib.Core.List.{List, [], ◌∷◌}
use Prim.Native.Nat.{ℕ, zero, suc, ◌+◌, ◌-◌, ◌*◌, ◌^◌, ◌≤◌, ◌<◌}
use native.Mathlib.Omega.{arith}
use native.Mathlib.Decide.{dec_lt}
use lib.Dec.{eqb, leb, ltb}
use lib.ListN.{length, take, length-take}
use lib.Seq.{take_all}
use borrow.Author.Tests.{ltb-true, leb-true, eqb-true, not-false}
use Rattle.quotient.specs.declared.Glue.{Glue}
use Rattle.quotient.specs.declared.Glue.TheVariants.{Open, Periodic, Twisted}
use Rattle.quotient.specs.declared.Grid.{Grid}
use Rattle.quotient.specs.Fold.{member, some, count}
use Rattle.quotient.specs.Shape.{no_axis}
use Rattle.quotient.proofs.Sets.{size_of}
use Rattle.quotient.proofs.Laws.{some-true}
use Rattle.refusal.specs.Limits.{most_dimension}
use Rattle.bandsum_line.specs.Grammar.{Front, nothing, front, zero_digit, space, is_digit, is_axis_digit, and_then, after, digits_from, count_from, set_from, glue_from, glued_from, axis_from, axis_at, grid_from, line_ends, ended, read_line}

-- a part that takes at most k bytes off the front of bs
abbrev AtMost : {A : Type 0} → ℕ → List ℕ → Front A → Type 0
AtMost k bs nothing = Unit {0}
AtMost k bs (front x r) = length bs ≤ k + length r

module _ {A : Type 0} where
  weaker : (k j : ℕ) (bs : List ℕ) (f : Front A) → k ≤ j → AtMost k bs f → AtMost j bs f
  weaker k j bs nothing h a = tt
  weaker k j bs (front x r) h a = omega arith

  further : (k j : ℕ) (bs r : List ℕ) (f : Front A) → length bs ≤ k + length r → AtMost j r f → AtMost (k + j) bs f
  further k j bs r nothing h a = tt
  further k j bs r (front x t) h a = omega arith

  if-most : (k : ℕ) (bs : List ℕ) (b : Bool) (f g : Front A) → (b ≡ true → AtMost k bs f) → (b ≡ false → AtMost k bs g) → AtMost k bs (cond b f g)
  if-most k bs true f g x y = x refl
  if-most k bs false f g x y = y refl

  after-most : (k b : ℕ) (f : List ℕ → Front A) → ((r : List ℕ) → AtMost k r (f r)) → (bs : List ℕ) → AtMost (1 + k) bs (after b f bs)
  unfolding after
  after-most k b f h [] = tt
  after-most k b f h (x ∷ r) = if-most (1 + k) (x ∷ r) (eqb x b) (f r) nothing (λ e. further 1 k (x ∷ r) r (f r) (omega arith) (h r)) (λ e. tt)

then-most : {A B : Type 0} (k j : ℕ) (bs : List ℕ) (f : Front A) (h : A → List ℕ → Front B) → AtMost k bs f → ((x : A) (r : List ℕ) → AtMost j r (h x r)) → AtMost (k + j) bs (and_then f h)
unfolding and_then
then-most k j bs nothing h a b = tt
then-most k j bs (front x r) h a b = further k j bs r (h x r) a (b x r)

-- ---- a count: at most four digits
digits-most : (k n : ℕ) (bs : List ℕ) → AtMost k bs (digits_from k n bs)
unfolding digits_from
digits-most zero n bs = omega arith
digits-most (suc k) n [] = omega arith
digits-most (suc k) n (b ∷ r) =
    if-most (suc k) (b ∷ r) (is_digit b) (digits_from k (n * 10 + (b - zero_digit)) r) (front n (b ∷ r))
    (λ e.
    let next : Front ℕ = digits_from k (n * 10 + (b - zero_digit)) r in
    weaker (1 + k) (suc k) (b ∷ r) next (omega arith) (further 1 k (b ∷ r) r next (omega arith) (digits-most k (n * 10 + (b - zero_digit)) r)))
    (λ e. omega arith)

count_most : (bs : List ℕ) → AtMost 4 bs (count_from bs)
unfolding count_from
count_most [] = tt
count_most (b ∷ r) =
    if-most 4 (b ∷ r) (eqb b zero_digit) (front 0 r) (cond (is_digit b) (digits_from 3 (b - zero_digit) r) nothing) (λ e. omega arith)
    (λ e. if-most 4 (b ∷ r) (is_digit b) (digits_from 3 (b - zero_digit) r) nothing (λ f. further 1 3 (b ∷ r) r (digits_from 3 (b - zero_digit) r) (omega arith) (digits-most 3 (b - zero_digit) r)) (λ f. tt))

-- ---- a set: at most eight digits. A digit that is new makes the set larger by one: one test that antt computes over the 256 masks and eight digits
unchanged : ℕ → ℕ → Bool
unchanged m j = cond (member m j) false (not (eqb (size_of (m + 2 ^ j)) (suc (size_of m)) && ltb (m + 2 ^ j) 256))

some-unchanged : ℕ → Bool
some-unchanged m = some (unchanged m) 8

computed : some some-unchanged 256 ≡ false
unfolding count some unchanged some-unchanged
computed = refl

none : (p : ℕ → Bool) (n k : ℕ) → some p n ≡ false → k < n → p k ≡ false
none p n k e h = go (p k) refl
  where
    go : (b : Bool) → p k ≡ b → b ≡ false
    go true f = absurd (false≢true (sym e ∙ some-true p n k h f))
    go false f = refl

both : (a b : Bool) → a && b ≡ true → (a ≡ true) × (b ≡ true)
both true true e = (refl, refl)
both true false e = absurd (false≢true e)
both false b e = absurd (false≢true e)

grown : (m j : ℕ) → m < 256 → j < 8 → member m j ≡ false → (size_of (m + 2 ^ j) ≡ suc (size_of m)) × (m + 2 ^ j < 256)
unfolding unchanged some-unchanged
grown m j h l e =
    let t : unchanged m j ≡ false = none (unchanged m) 8 j (none some-unchanged 256 m computed h) l in
    let u : not (eqb (size_of (m + 2 ^ j)) (suc (size_of m)) && ltb (m + 2 ^ j) 256) ≡ false = ap (λ (b : Bool). cond b false (not (eqb (size_of (m + 2 ^ j)) (suc (size_of m)) && ltb (m + 2 ^ j) 256))) (sym e) ∙ t in
    let v = both (eqb (size_of (m + 2 ^ j)) (suc (size_of m))) (ltb (m + 2 ^ j) 256) (not-false _ u) in
    (eqb-true _ _ v.0, ltb-true _ _ v.1)

count-bound : (p : ℕ → Bool) (n : ℕ) → count p n ≤ n
unfolding count
count-bound p zero = omega arith
count-bound p (suc n) = step (p n) (count-bound p n)
  where
    step : (b : Bool) → count p n ≤ n → count p n + cond b 1 0 ≤ suc n
    step true h = omega arith
    step false h = omega arith

axis-digit : (b : ℕ) → is_axis_digit b ≡ true → b - zero_digit < 8
axis-digit b e = let l : b ≤ 55 = leb-true _ _ (both (leb 48 b) (leb b 55) e).1 in omega arith

set-most : (m : ℕ) (bs : List ℕ) → m < 256 → AtMost (8 - size_of m) bs (set_from m bs)
unfolding set_from
set-most m [] h = omega arith
set-most m (b ∷ r) h =
    if-most (8 - size_of m) (b ∷ r) (is_axis_digit b) (cond (member m (b - zero_digit)) nothing (set_from (m + 2 ^ (b - zero_digit)) r)) (front m (b ∷ r))
    (λ e. if-most (8 - size_of m) (b ∷ r) (member m (b - zero_digit)) nothing (set_from (m + 2 ^ (b - zero_digit)) r) (λ f. tt)
    (λ f.
    let j = b - zero_digit in
    let w = grown m j h (axis-digit b e) f in
    let z : size_of (m + 2 ^ j) ≤ 8 = count-bound (member (m + 2 ^ j)) 8 in
    weaker (1 + (8 - size_of (m + 2 ^ j))) (8 - size_of m) (b ∷ r) (set_from (m + 2 ^ j) r) (omega (arith, w.0))
    (further 1 (8 - size_of (m + 2 ^ j)) (b ∷ r) r (set_from (m + 2 ^ j) r) (omega arith) (set-most (m + 2 ^ j) r w.1))))
    (λ e. omega arith)

-- ---- an axis, the grid
glue-most : (bs : List ℕ) → AtMost 9 bs (glue_from bs)
unfolding glue_from count
glue-most [] = tt
glue-most (b ∷ r) =
    let o : Bool = eqb b 79 in
    let p : Bool = eqb b 80 in
    let t : Bool = eqb b 84 in
    let set : Front Glue = and_then (set_from 0 r) (λ m t. front (Twisted m) t) in
    if-most 9 (b ∷ r) o (front Open r) (cond p (front Periodic r) (cond t set nothing)) (λ e. omega arith)
    (λ e. if-most 9 (b ∷ r) p (front Periodic r) (cond t set nothing) (λ f. omega arith)
    (λ f. if-most 9 (b ∷ r) t set nothing
    (λ h. further 1 8 (b ∷ r) r set (omega arith) (then-most 8 0 r (set_from 0 r) (λ m t. front (Twisted m) t) (set-most 0 r (omega arith)) (λ x r. omega arith))) (λ h. tt)))

glued-most : (n : ℕ) (bs : List ℕ) → AtMost 10 bs (glued_from n bs)
unfolding glued_from
glued-most n bs = after-most 9 space _ (λ r. then-most 9 0 r (glue_from r) _ (glue-most r) (λ g t. omega arith)) bs

axis-most : (bs : List ℕ) → AtMost 15 bs (axis_from bs)
unfolding axis_from
axis-most bs = after-most 14 space _ (λ r. then-most 4 10 r (count_from r) glued_from (count_most r) glued-most) bs

at_most : (d i : ℕ) (bs : List ℕ) → AtMost 15 bs (axis_at d i bs)
unfolding axis_at
at_most d i bs = if-most 15 bs (ltb i d) (axis_from bs) (front no_axis bs) (λ e. axis-most bs) (λ e. omega arith)

grid-most : (d : ℕ) (bs : List ℕ) → AtMost 45 bs (grid_from d bs)
unfolding grid_from
grid-most d bs =
    then-most 15 30 bs (axis_at d 0 bs) _ (at_most d 0 bs)
    (λ a r. then-most 15 15 r (axis_at d 1 r) _ (at_most d 1 r)
    (λ b s. then-most 15 0 s (axis_at d 2 s) _ (at_most d 2 s) (λ c t. omega arith)))

-- ---- the line
-- what a line says that is too long for a grid
abbrev long : ℕ → Line
long b = cond (is_digit b) (cond (leb 1 (b - zero_digit) && leb (b - zero_digit) most_dimension) (Err Unreadable) (Err BadDimension)) (Err Unreadable)

ends-long : (r : List ℕ) → 2 ≤ length r → line_ends r ≡ false
unfolding line_ends
ends-long [] h = absurd (let x : ⊥ = omega arith in x)
ends-long (b ∷ []) h = absurd (let x : ⊥ = omega arith in x)
ends-long (b ∷ (c ∷ r)) h = refl

ended-long : (bs : List ℕ) (f : Front Grid) → 47 ≤ length bs → AtMost 45 bs f → ended f ≡ Err Unreadable
unfolding ended
ended-long bs nothing h a = refl
ended-long bs (front g r) h a = rw (ends-long r (omega arith))

pub too_long : (b : ℕ) (r : List ℕ) → 47 ≤ length r → read_line (b ∷ r) ≡ long b
unfolding read_line
too_long b r h = ap (λ (l : Line). cond (is_digit b) (cond (leb 1 (b - zero_digit) && leb (b - zero_digit) most_dimension) l (Err BadDimension)) (Err Unreadable)) (ended-long r (grid_from (b - zero_digit) r) h (grid-most (b - zero_digit) r))

long-refused : (b : ℕ) (g : Grid) → long b ≡ Ok g → ⊥
long-refused b g e = go (is_digit b) (leb 1 (b - zero_digit) && leb (b - zero_digit) most_dimension) e
  where
    go : (x y : Bool) → cond x (cond y (Err Unreadable) (Err BadDimension)) (Err Unreadable) ≡ Ok g → ⊥
    go true true f = let z : ◌≡◌ {A = ℕ} 0 1 = cc in omega arith
    go true false f = let z : ◌≡◌ {A = ℕ} 0 1 = cc in omega arith
    go false y f = let z : ◌≡◌ {A = ℕ} 0 1 = cc in omega arith

-- a line that is taken has at most 47 bytes
pub taken-short : (bs : List ℕ) (g : Grid) → read_line bs ≡ Ok g → length bs ≤ 47
taken-short [] g e = omega arith
taken-short (b ∷ r) g e =
    elim (dec_lt 46 (length r)) [
      | yes h ↦ absurd (long-refused b g (sym (too_long b r (omega arith)) ∙ e))
      | no h ↦ omega arith
    ]

-- the first 48 bytes tell what the line says
pub enough : (bs : List ℕ) → read_line (take 48 bs) ≡ read_line bs
enough bs = elim (dec_lt 48 (length bs)) [ yes h ↦ more bs h | no h ↦ ap read_line (take_all 48 bs (omega arith)) ]
  where
    more : (l : List ℕ) → 48 < length l → read_line (take 48 l) ≡ read_line l
    more [] h = absurd (let x : ⊥ = omega arith in x)
    more (b ∷ r) h = too_long b (take 47 r) (omega (arith, length-take 47 r)) ∙ sym (too_long b r (omega arith))
