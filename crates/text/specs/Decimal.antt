-- Numbers in decimal, as bytes. Assumes nothing.
use Rattle.std.specs.Prelude.{ℕ, zero, suc, ◌+◌, ◌/◌, ◌%◌, ◌^◌, cond, List, [], ◌∷◌, ◌++◌, ltb}

-- the digit of n at 10 ^ k, as a byte: 48 is the digit 0
abbrev pub digit_at : ℕ → ℕ → ℕ
digit_at k n = 48 + n / 10 ^ k % 10

-- the digits of n from 10 ^ k down
unfoldable pub digits_down : ℕ → ℕ → List ℕ
digits_down zero n = (48 + n % 10) ∷ []
digits_down (suc k) n = digit_at (suc k) n ∷ digits_down k n

-- the same without a 0 before others
unfoldable pub decimal_down : ℕ → ℕ → List ℕ
decimal_down zero n = digits_down zero n
decimal_down (suc k) n = cond (ltb n (10 ^ suc k)) (decimal_down k n) (digits_down (suc k) n)

-- a number of 32 bits in decimal: at most ten digits, and no 0 before others
abbrev pub decimal : ℕ → List ℕ
decimal n = decimal_down 9 n

-- a word, a number and a line feed
abbrev pub line_of : List ℕ → ℕ → List ℕ
line_of w n = w ++ (decimal n ++ (10 ∷ []))
