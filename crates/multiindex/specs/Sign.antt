-- Signs and their product; the induced sign of a facet. Assumes nothing.
use Rattle.std.specs.Prelude.{ℕ, zero, suc, ℤ, pos, negsuc}

pub data Sign : Type 0 where
  plus : Sign
  minus : Sign

abbrev pub opposite : Sign → Sign
opposite plus = minus
opposite minus = plus

abbrev pub times : Sign → Sign → Sign
times plus t = t
times minus t = opposite t

-- the induced sign of the facet without position i
abbrev pub induced : ℕ → Sign
induced zero = plus
induced (suc i) = opposite (induced i)

-- + as 1 and - as -1
abbrev pub sign_number : Sign → ℤ
sign_number plus = pos 1
sign_number minus = negsuc 0
