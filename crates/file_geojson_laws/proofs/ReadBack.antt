-- What is printed reads back: six decimals as their millionths, a longitude and a latitude as what Map says of them; and -0.000000 is never printed. Assumes nothing.
use mathlib.Core.Path.{◌≡◌, refl, sym, ap, ◌∙◌}
use mathlib.Core.Bool.{true}
use mathlib.Core.Logic.{⊎_elim}
use mathlib.Core.List.{List, [], ◌∷◌, ◌++◌}
use mathlib.Core.Option.{Option, none, some}
use Prim.Native.Nat.{ℕ, zero, suc, ◌+◌, ◌-◌, ◌*◌, ◌/◌, ◌%◌, ◌≤◌, ◌<◌, ◌^◌}
use native.Mathlib.Nat.{mod-eq_of_lt, mod-lt, pow-succ', mul_assoc, add-mul, div-add-mod', div-lt_iff_lt-mul, zero-add, zero-mul, mul-le-mul_left, mul-le-mul_right}
use native.Mathlib.Omega.{arith}
use borrow.Author.Tests.{lt-ltb, le-ltb, le-leb, ne_eqb}
use lib.ListN.{get_or, drop}
use lib.Arith.{mod-mul}
use Rattle.text.proofs.Decimals.{power_pos}
use Rattle.text.specs.Decimal.{digits_down, decimal_down}
use Rattle.quotient.specs.declared.Grid.{Grid}
use Rattle.quotient.specs.Shape.{cells_on}
use Rattle.quotient.specs.Reduce.{coord_at}
use Rattle.quotient.proofs.Points.{coord-le}
use Rattle.quotient.proofs.Laws.{lt-or-ge}
use Rattle.file_writing.specs.Six.{million, six_decimals}
use Rattle.file_geojson.specs.Degrees.{nearest, degrees_of}
use Rattle.file_geojson.specs.File.{longitude_of, latitude_of}
use Rattle.file_geojson.specs.Kind.{Mapped}
use Rattle.file_geojson.proofs.Angles.{columns-some, rows-some, columns-few, rows_few, degrees-below, degrees-above}
use Rattle.file_geojson_laws.specs.Reading.{is_digit, read_digits, read_fixed, read_millionths, westward, eastward, read_degrees, minus_zero}
use Rattle.file_geojson_laws.specs.Map.{printed_of, printed_east, printed_north}
use Rattle.file_geojson_laws.proofs.Rounding.{nearest-some, nearest-most}

-- ---- digits
is_digit_lem : (b : ℕ) → 48 ≤ b → b < 58 → is_digit b ≡ true
is_digit_lem b h l = rw (le-leb 48 b h, lt-ltb b 58 l)

digit-less : (d : ℕ) → 48 + d - 48 ≡ d
digit-less d = omega arith

exact-digit : (k n d : ℕ) (l : List ℕ) → d < 10 → read_digits (suc k) n ((48 + d) ∷ l) ≡ read_digits k (n * 10 + d) l
unfolding read_digits
exact-digit k n d l h = rw (is_digit_lem (48 + d) (omega arith) (omega arith)) (ap (λ (x : ℕ). read_digits k (n * 10 + x) l) (digit-less d))

fixed-digit : (n d : ℕ) (l : List ℕ) → d < 10 → read_fixed n ((48 + d) ∷ l) ≡ read_fixed (n * 10 + d) l
unfolding read_fixed
fixed-digit n d l h = rw (ne_eqb (48 + d) 46 (λ e. omega arith), is_digit_lem (48 + d) (omega arith) (omega arith)) (ap (λ (x : ℕ). read_fixed (n * 10 + x) l) (digit-less d))

last-lt : (n : ℕ) → n % 10 < 10
last-lt n = mod-lt n {m = 10} (omega arith)

-- a number's digits from 10 ^ (k + 1) down make it, after the number m
digits_sum : (k m n : ℕ) → (m * 10 + n / 10 ^ suc k % 10) * 10 ^ suc k + n % 10 ^ suc k ≡ m * 10 ^ suc (suc k) + n % 10 ^ suc (suc k)
digits_sum k m n =
    let e : 10 ^ suc (suc k) ≡ 10 * 10 ^ suc k = pow-succ' 10 (suc k) in
    let f : n % (10 * 10 ^ suc k) ≡ (n / 10 ^ suc k % 10) * 10 ^ suc k + n % 10 ^ suc k = mod-mul n {m = 10} {c = 10 ^ suc k} (omega arith) (power_pos (suc k) (10 ^ suc k) refl) in
    let a : (m * 10 + n / 10 ^ suc k % 10) * 10 ^ suc k ≡ m * 10 * 10 ^ suc k + (n / 10 ^ suc k % 10) * 10 ^ suc k = add-mul (m * 10) (n / 10 ^ suc k % 10) (10 ^ suc k) in
    let b : m * 10 * 10 ^ suc k ≡ m * (10 * 10 ^ suc k) = mul_assoc m 10 (10 ^ suc k) in
    (let g : (m * 10 + n / 10 ^ suc k % 10) * 10 ^ suc k + n % 10 ^ suc k ≡ m * (10 * 10 ^ suc k) + n % (10 * 10 ^ suc k) = omega arith in g)
    ∙ ap (λ (x : ℕ). m * x + n % x) (sym e)

exact-digits : (k m n : ℕ) → read_digits (suc k) m (digits_down k n) ≡ some (m * 10 ^ suc k + n % 10 ^ suc k)
unfolding digits_down read_digits
exact-digits zero m n = exact-digit 0 m (n % 10) [] (last-lt n)
exact-digits (suc k) m n =
    exact-digit (suc k) m (n / 10 ^ suc k % 10) (digits_down k n) (last-lt (n / 10 ^ suc k))
    ∙ exact-digits k (m * 10 + n / 10 ^ suc k % 10) n
    ∙ ap some (digits_sum k m n)

fixed-digits : (k m n : ℕ) (l : List ℕ) → read_fixed m (digits_down k n ++ l) ≡ read_fixed (m * 10 ^ suc k + n % 10 ^ suc k) l
unfolding digits_down
fixed-digits zero m n l = fixed-digit m (n % 10) l (last-lt n)
fixed-digits (suc k) m n l =
    fixed-digit m (n / 10 ^ suc k % 10) (digits_down k n ++ l) (last-lt (n / 10 ^ suc k))
    ∙ fixed-digits k (m * 10 + n / 10 ^ suc k % 10) n l
    ∙ ap (λ (x : ℕ). read_fixed x l) (digits_sum k m n)

fixed-decimal : (k n : ℕ) (l : List ℕ) → n < 10 ^ suc k → read_fixed 0 (decimal_down k n ++ l) ≡ read_fixed n l
unfolding decimal_down
fixed-decimal zero n l h =
    fixed-digits zero 0 n l ∙ ap (λ (x : ℕ). read_fixed x l) (let e : 0 * 10 ^ 1 + n % 10 ^ 1 ≡ n = ap (λ (x : ℕ). 0 + x) (mod-eq_of_lt h) ∙ zero-add n in e)
fixed-decimal (suc k) n l h =
    ⊎_elim
    (λ (q : n < 10 ^ suc k). rw (lt-ltb n (10 ^ suc k) q) (fixed-decimal k n l q))
    (λ (q : 10 ^ suc k ≤ n).
    rw (le-ltb n (10 ^ suc k) q)
    (fixed-digits (suc k) 0 n l
    ∙ ap (λ (x : ℕ). read_fixed x l) (ap (λ (x : ℕ). 0 * 10 ^ suc (suc k) + x) (mod-eq_of_lt h) ∙ ap (λ (x : ℕ). x + n) (zero-mul (10 ^ suc (suc k))) ∙ zero-add n)))
    (lt-or-ge n (10 ^ suc k))

-- a number begins with a digit
digits-first : (k n : ℕ) (l : List ℕ) → (48 ≤ get_or (digits_down k n ++ l) 0 0) × (get_or (digits_down k n ++ l) 0 0 < 58)
unfolding digits_down
digits-first zero n l = (omega arith, omega (arith, last-lt n))
digits-first (suc k) n l = (omega arith, omega (arith, last-lt (n / 10 ^ suc k)))

decimal-first : (k n : ℕ) (l : List ℕ) → (48 ≤ get_or (decimal_down k n ++ l) 0 0) × (get_or (decimal_down k n ++ l) 0 0 < 58)
unfolding decimal_down
decimal-first zero n l = digits-first zero n l
decimal-first (suc k) n l =
    ⊎_elim
    (λ (q : n < 10 ^ suc k). rw (lt-ltb n (10 ^ suc k) q) (decimal-first k n l))
    (λ (q : 10 ^ suc k ≤ n). rw (le-ltb n (10 ^ suc k) q) (digits-first (suc k) n l))
    (lt-or-ge n (10 ^ suc k))

six-first : (m : ℕ) → (48 ≤ get_or (six_decimals m) 0 0) × (get_or (six_decimals m) 0 0 < 58)
six-first m = decimal-first 9 (m / million) (46 ∷ digits_down 5 (m % million))

-- six decimals read back as the number of millionths
fixed-six : (m : ℕ) → m < 10000000000 * million → read_fixed 0 (six_decimals m) ≡ some m
unfolding read_fixed
fixed-six m h =
    fixed-decimal 9 (m / million) (46 ∷ digits_down 5 (m % million)) ((div-lt_iff_lt-mul {k = million} {x = m} {y = 10000000000} (omega arith)).1 h)
    ∙ exact-digits 5 (m / million) (m % million)
    ∙ ap some (ap (λ (x : ℕ). m / million * million + x) (mod-eq_of_lt (mod-lt m {m = million} (omega arith))) ∙ div-add-mod' m million)

pub six-read : (m : ℕ) → m < 10000000000 * million → read_millionths (six_decimals m) ≡ some m
six-read m h = rw (is_digit_lem (get_or (six_decimals m) 0 0) (six-first m).0 (six-first m).1) (fixed-six m h)

-- ---- an angle with its sign
module _ (m : ℕ) (h : m ≤ 180 * million) where
  read-west : read_degrees (45 ∷ six_decimals m) ≡ some (180 * million - m)
  unfolding read_degrees
  read-west = ap westward (six-read m (omega arith)) ∙ (rw (le-leb m (180 * million) h))

  read-east : read_degrees (six_decimals m) ≡ some (180 * million + m)
  unfolding read_degrees
  read-east = rw (ne_eqb (get_or (six_decimals m) 0 0) 45 (λ e. omega (arith, (six-first m).0))) (ap eastward (six-read m (omega arith)))

pub read-degrees : (a b den : ℕ) → 0 < den → a ≤ b + 180 * den → b ≤ a + 180 * den → read_degrees (degrees_of a b den) ≡ some (printed_of a b den)
unfolding printed_of
read-degrees a b den h l w =
    ⊎_elim
    (λ (p : a < b).
    let u : nearest ((b - a) * million) den ≤ 180 * million = nearest-most den h (b - a) (omega arith) in
    rw (lt-ltb a b p) (ap read_degrees (sym (degrees-below a b den p)) ∙ read-west (nearest ((b - a) * million) den) u))
    (λ (p : b ≤ a).
    let u : nearest ((a - b) * million) den ≤ 180 * million = nearest-most den h (a - b) (omega arith) in
    rw (le-ltb a b p) (ap read_degrees (sym (degrees-above a b den p)) ∙ read-east (nearest ((a - b) * million) den) u))
    (lt-or-ge a b)

-- ---- no minus sign before zero
zero-read : read_millionths (drop 1 minus_zero) ≡ some 0
unfolding read_fixed read_digits
zero-read = refl

pub never-minus-zero : (a b den : ℕ) → 0 < den → den ≤ million → a ≤ b + 180 * den → b ≤ a + 180 * den → degrees_of a b den ≡ minus_zero → ⊥
never-minus-zero a b den h f l w e =
    ⊎_elim
    (λ (p : a < b).
    let q : ℕ = nearest ((b - a) * million) den in
    let u : nearest ((b - a) * million) den ≤ 180 * million = nearest-most den h (b - a) (omega arith) in
    let v : 1 ≤ nearest ((b - a) * million) den = nearest-some den h ((b - a) * million) (omega arith) in
    let r : read_millionths (six_decimals (nearest ((b - a) * million) den)) ≡ some 0 = ap (λ (t : List ℕ). read_millionths (drop 1 t)) (degrees-below a b den p ∙ e) ∙ zero-read in
    let z : nearest ((b - a) * million) den ≡ 0 = ap value_of (sym (six-read (nearest ((b - a) * million) den) (omega arith)) ∙ r) in
    omega arith)
    (λ (p : b ≤ a).
    let q : get_or (six_decimals (nearest ((a - b) * million) den)) 0 0 ≡ 45 = ap (λ (t : List ℕ). get_or t 0 0) (degrees-above a b den p ∙ e) in
    omega (arith, (six-first (nearest ((a - b) * million) den)).0))
    (lt-or-ge a b)
  where
    value_of : Option ℕ → ℕ
    value_of none = 0
    value_of (some n) = n

module _ (g : Grid) (low high : ℕ) (m : Mapped g low high) (v : ℕ) where
  pub longitude-read : read_degrees (longitude_of g v) ≡ some (printed_east g v)
  longitude-read = read-degrees (360 * coord_at g v 0) (180 * cells_on g 0) (cells_on g 0) (columns-some g low high m) (omega (arith, coord-le g v 0)) (omega arith)

  pub longitude-never-minus-zero : longitude_of g v ≡ minus_zero → ⊥
  longitude-never-minus-zero e =
      never-minus-zero (360 * coord_at g v 0) (180 * cells_on g 0) (cells_on g 0) (columns-some g low high m) (omega (arith, columns-few g low high m)) (omega (arith, coord-le g v 0)) (omega arith) e

  north-most : low * cells_on g 1 + (high - low) * coord_at g v 1 ≤ 180 * cells_on g 1
  north-most =
      let a : (high - low) * coord_at g v 1 ≤ (high - low) * cells_on g 1 = mul-le-mul_left (high - low) (coord-le g v 1) in
      let b : (low + (high - low)) * cells_on g 1 ≡ low * cells_on g 1 + (high - low) * cells_on g 1 = add-mul low (high - low) (cells_on g 1) in
      let d : (low + (high - low)) * cells_on g 1 ≤ 180 * cells_on g 1 = mul-le-mul_right (cells_on g 1) (omega (arith, m.between, m.most)) in
      omega arith

  pub latitude-read : read_degrees (latitude_of g low high v) ≡ some (printed_north g low high v)
  latitude-read =
      read-degrees (low * cells_on g 1 + (high - low) * coord_at g v 1) (90 * cells_on g 1) (cells_on g 1) (rows-some g low high m) (omega (arith, north-most)) (omega arith)

  pub latitude-never-minus-zero : latitude_of g low high v ≡ minus_zero → ⊥
  latitude-never-minus-zero e =
      never-minus-zero (low * cells_on g 1 + (high - low) * coord_at g v 1) (90 * cells_on g 1) (cells_on g 1) (rows-some g low high m) (omega (arith, rows_few g low high m)) (omega (arith, north-most)) (omega arith) e
