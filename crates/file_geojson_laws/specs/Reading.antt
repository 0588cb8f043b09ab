-- Printed angles read back, as a reader of the file does. Assumes nothing.
use Rattle.std.specs.Prelude.{Bool, cond, ◌&&◌, List, [], ◌∷◌, ℕ, zero, suc, ◌+◌, ◌-◌, ◌*◌, leb, ltb, eqb, get_or, drop}
use Rattle.std.proofs.Math.Option.{Option, none, some}
use Rattle.file_writing.specs.Six.{million}

-- a digit, 48 to 57
abbrev pub is_digit : ℕ → Bool
is_digit b = leb 48 b && ltb b 58

-- exactly k digits and nothing after them, which go on with the number n
unfoldable pub read_digits : ℕ → ℕ → List ℕ → Option ℕ
read_digits zero n [] = some n
read_digits zero n (b ∷ l) = none
read_digits (suc k) n [] = none
read_digits (suc k) n (b ∷ l) = cond (is_digit b) (read_digits k (n * 10 + (b - 48)) l) none

-- digits, which go on with the number n, then one point (46) and exactly six digits
unfoldable pub read_fixed : ℕ → List ℕ → Option ℕ
read_fixed n [] = none
read_fixed n (b ∷ l) = cond (eqb b 46) (read_digits 6 n l) (cond (is_digit b) (read_fixed (n * 10 + (b - 48)) l) none)

-- the same with a digit before the point: a number of millionths
abbrev pub read_millionths : List ℕ → Option ℕ
read_millionths l = cond (is_digit (get_or l 0 0)) (read_fixed 0 l) none

-- an angle with its sign (45 is the minus), in millionths of a degree and with 180 degrees added; nothing where that is no number, or below -180 degrees
abbrev pub westward : Option ℕ → Option ℕ
westward none = none
westward (some m) = cond (leb m (180 * million)) (some (180 * million - m)) none

abbrev pub eastward : Option ℕ → Option ℕ
eastward none = none
eastward (some m) = some (180 * million + m)

unfoldable pub read_degrees : List ℕ → Option ℕ
read_degrees l = cond (eqb (get_or l 0 0) 45) (westward (read_millionths (drop 1 l))) (eastward (read_millionths l))

-- -0.000000
abbrev pub minus_zero : List ℕ
minus_zero = 45 ∷ 48 ∷ 46 ∷ 48 ∷ 48 ∷ 48 ∷ 48 ∷ 48 ∷ 48 ∷ []
