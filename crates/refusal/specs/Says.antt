-- What calls say: their answer, or the refusal. Assumes nothing.
use Rattle.std.specs.Prelude.{ℕ, Bool, Result, Ok}
use Rattle.refusal.specs.declared.Refusal.{Refusal}

-- what a check says
abbrev pub Answer : Type 0
Answer = Result (Unit {0}) Refusal

-- the check refuses nothing
abbrev pub fine : Answer
fine = Ok tt

-- what a call says that hands out a list: how many rows of it
abbrev pub Counted : Type 0
Counted = Result ℕ Refusal

-- what a question says: true for yes
abbrev pub Verdict : Type 0
Verdict = Result Bool Refusal
