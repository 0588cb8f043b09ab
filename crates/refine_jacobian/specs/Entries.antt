-- A share as a float, and a matrix of at most `most_dimension` columns as `square_most` numbers, in whole numbers and in floats. Assumes nothing.
use Rattle.std.specs.Prelude.{cond, false, List, ℕ, suc, ◌*◌, ◌/◌, ◌%◌, ltb, ℤ, pos, get_or, Float}
use Rattle.std.specs.Float.{fin, binary64}
use Rattle.std.specs.Float.Ieee.{sub, mul, div, of_int}
use Rattle.refusal.specs.Limits.{square_most}
use Rattle.lists.specs.Tables.{tab}
use Rattle.refine_lattice.specs.Jacobian.{jacobian}

-- 1 and 0 as floats
abbrev pub one : Float
one = fin false 1 (pos 0)

abbrev pub nought : Float
nought = fin false 0 (pos 0)

-- weight w over R as a float: w times (1 / R), each operation rounded once
abbrev pub share_of : ℕ → ℕ → Float
share_of R w = mul binary64 (of_int binary64 (pos w)) (div binary64 one (of_int binary64 (pos R)))

-- `square_most` numbers: the d columns of d entries, column by column, and then `none`
abbrev pub square_of : {A : Type 0} → ℕ → A → (ℕ → ℕ → A) → List A
square_of d none entry = tab square_most (λ e. cond (ltb e (d * d)) (entry (e / d) (e % d)) none)

-- The Jacobian, over R, of a cell with the sorted vertices c in the local coordinates of one with the sorted vertices p: column j is corner j + 1 minus corner 0,
-- and row l the share of p's vertex l + 1, where `share x v` is the weight of v in x.
abbrev pub whole_of : ℕ → (ℕ → ℕ → ℕ) → List ℕ → List ℕ → List ℤ
whole_of d share p c = square_of d (pos 0) (jacobian share p c)

-- the same in floats: the difference of two shares, rounded once more
abbrev pub float_step : ℕ → (ℕ → ℕ → ℕ) → List ℕ → List ℕ → ℕ → ℕ → Float
float_step R share p c j l = sub binary64 (share_of R (share (get_or c (suc j) 0) (get_or p (suc l) 0))) (share_of R (share (get_or c 0 0) (get_or p (suc l) 0)))

abbrev pub float_of : ℕ → ℕ → (ℕ → ℕ → ℕ) → List ℕ → List ℕ → List Float
float_of d R share p c = square_of d nought (float_step R share p c)
