-- What `drop_cells` says: how much stays, or the refusal. Assumes nothing.
use Rattle.std.specs.Prelude.{ℕ, Result, Ok}
use Rattle.refusal.specs.declared.Refusal.{Refusal}
use Rattle.complex_dropped.specs.declared.Dropped.{Dropped}

-- what the call says
abbrev pub Dropping : Type 0
Dropping = Result Dropped Refusal

-- so many words stay, and they have so many vertices
abbrev pub kept_of : ℕ → ℕ → Dropping
kept_of words vertices = Ok (record { words = words; vertices = vertices })
