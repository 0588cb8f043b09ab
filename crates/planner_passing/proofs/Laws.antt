-- Coded answers and grids from their parts. Assumes nothing.
use mathlib.Core.Path.{◌≡◌, refl, sym, ap, ◌∙◌}
use Prim.Native.Nat.{ℕ, zero, suc, ◌-◌, ◌<◌, ◌≤◌}
use native.Mathlib.Nat.{not-suc-le-zero, le_of_suc-le-suc}
use mathlib.Core.Bool.{Bool, false, cond}
use mathlib.Core.List.{List, [], ◌∷◌}
use native.Mathlib.Omega.{arith}
use lib.Dec.{ltb}
use lib.ListN.{length, get_or, get_or-eq_default}
use borrow.Author.Tests.{lt-ltb, le-ltb}
use lib.IntN.{pos}
use lib.Ieee.{Float, fin}
use Rattle.grid_sides.specs.declared.Sides.{Sides}
use Rattle.quotient.specs.declared.Glue.{Glue}
use Rattle.quotient.specs.declared.Glue.TheVariants.{Open, Periodic, Twisted}
use Rattle.quotient.specs.declared.Axis.{Axis}
use Rattle.quotient.specs.declared.Grid.{Grid}
use Rattle.planner_passing.specs.Given.{every_axis, glue_of, axis_given, sides_given, grid_given, entry, side_given, glues_given, glue_code, axes_of}

-- a list's element does not turn on what stands past its end
pub within : {A : Type 0} (xs : List A) (i : ℕ) (a b : A) → i < length xs → get_or xs i a ≡ get_or xs i b
within [] i a b h = absurd (not-suc-le-zero h)
within (x ∷ xs) zero a b h = refl
within (x ∷ xs) (suc i) a b h = within xs i a b (le_of_suc-le-suc h)

pub entry-there : (xs : List ℕ) (i : ℕ) → i < length xs → get_or xs i 0 ≡ entry xs i
unfolding entry
entry-there xs i h = refl

pub entry_past : (xs : List ℕ) (i : ℕ) → length xs ≤ i → 0 ≡ entry xs i
unfolding entry
entry_past xs i h = sym (get_or-eq_default xs 0 h)

pub side-there : (xs : List Float) (i : ℕ) (a : Float) → i < length xs → get_or xs i a ≡ side_given xs i
unfolding side_given
side-there xs i a h = within xs i a (fin false 0 (pos 0)) h

pub side-past : (xs : List Float) (i : ℕ) → length xs ≤ i → fin false 0 (pos 0) ≡ side_given xs i
unfolding side_given
side-past xs i h = sym (get_or-eq_default xs (fin false 0 (pos 0)) h)

-- a gluing from 512 on, and one from 256 on
abbrev twist_of : ℕ → Glue
twist_of code = cond (ltb code 768) (Twisted (code - 512)) (Twisted every_axis)

abbrev closed_by : ℕ → Glue
closed_by code = cond (ltb code 512) Periodic (twist_of code)

pub glue-open : (code : ℕ) → code < 256 → Open ≡ glue_of code
unfolding glue_of
glue-open code h = sym (ap (λ (t : Bool). cond t Open (closed_by code)) (lt-ltb code 256 h))

glue-closed : (code : ℕ) → 256 ≤ code → closed_by code ≡ glue_of code
unfolding glue_of
glue-closed code h = sym (ap (λ (t : Bool). cond t Open (closed_by code)) (le-ltb code 256 h))

pub glue-periodic : (code : ℕ) → 256 ≤ code → code < 512 → Periodic ≡ glue_of code
glue-periodic code h k = sym (ap (λ (t : Bool). cond t Periodic (twist_of code)) (lt-ltb code 512 k)) ∙ glue-closed code h

glue-twists : (code : ℕ) → 512 ≤ code → twist_of code ≡ glue_of code
glue-twists code h = sym (ap (λ (t : Bool). cond t Periodic (twist_of code)) (le-ltb code 512 h)) ∙ glue-closed code (omega arith)

pub glue-twisted : (code : ℕ) → 512 ≤ code → code < 768 → Twisted (code - 512) ≡ glue_of code
glue-twisted code h k = sym (ap (λ (t : Bool). cond t (Twisted (code - 512)) (Twisted every_axis)) (lt-ltb code 768 k)) ∙ glue-twists code h

pub glue-past : (code : ℕ) → 768 ≤ code → Twisted every_axis ≡ glue_of code
glue-past code h = sym (ap (λ (t : Bool). cond t (Twisted (code - 512)) (Twisted every_axis)) (le-ltb code 768 h)) ∙ glue-twists code (omega arith)

pub axis-made : (xs : List ℕ) (i k : ℕ) {n m : ℕ} {g : Glue} → n ≡ entry xs i → m ≡ entry xs k → g ≡ glue_of m → record { count = n; glue = g } ≡ axis_given xs i k
unfolding axis_given
axis-made xs i k e f h = rw (e, h, f)

pub sides-made : (xs : List Float) {a b c : Float} → a ≡ side_given xs 0 → b ≡ side_given xs 1 → c ≡ side_given xs 2 → record { first = a; second = b; third = c } ≡ sides_given xs
unfolding sides_given
sides-made xs e f h = rw (e, f, h)

pub grid-made : (d : ℕ) (axes : List ℕ) (lengths : List Float) {a b c : Axis} {s : Sides} → a ≡ axis_given axes 0 1 → b ≡ axis_given axes 2 3 → c ≡ axis_given axes 4 5
    → s ≡ sides_given lengths → record { d = d; first = a; second = b; third = c; sides = s } ≡ grid_given d axes lengths
unfolding grid_given
grid-made d axes lengths e f h k = rw (e, f, h, k)

-- the sides of an empty list
pub no_sides : record { first = fin false 0 (pos 0); second = fin false 0 (pos 0); third = fin false 0 (pos 0) } ≡ sides_given []
unfolding sides_given side_given
no_sides = refl

pub glues-made : (xs : List ℕ) {k m n : ℕ} {a b c : Glue} → k ≡ entry xs 0 → m ≡ entry xs 1 → n ≡ entry xs 2 → a ≡ glue_of k → b ≡ glue_of m → c ≡ glue_of n
    → record { first = a; second = b; third = c } ≡ glues_given xs
unfolding glues_given
glues-made xs e f h p q r = rw (p, q, r, e, f, h)

pub axes-made : (g : Grid) {a b c : ℕ} → a ≡ glue_code g.first.glue → b ≡ glue_code g.second.glue → c ≡ glue_code g.third.glue
    → g.first.count ∷ a ∷ g.second.count ∷ b ∷ g.third.count ∷ c ∷ [] ≡ axes_of g
unfolding axes_of
axes-made g e f h = rw (e, f, h)
