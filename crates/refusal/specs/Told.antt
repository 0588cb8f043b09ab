-- What an answer holds. Assumes nothing.
use Rattle.std.specs.Prelude.{ℕ, Ok, Err}
use Rattle.refusal.specs.Says.{Counted}

-- how many rows a call hands out: none where it refuses
abbrev pub count_of : Counted → ℕ
count_of (Ok n) = n
count_of (Err why) = 0
