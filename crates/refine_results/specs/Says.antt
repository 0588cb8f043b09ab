-- What a refinement says. Assumes nothing.
use Rattle.std.specs.Prelude.{ℕ, Result, Ok}
use Rattle.refusal.specs.declared.Refusal.{Refusal}
use Rattle.refine_results.specs.declared.Refinement.{Refinement}

-- it made this many children, and there are this many vertices
abbrev pub sizes : ℕ → ℕ → Result Refinement Refusal
sizes children vertices = Ok (record { children = children; vertices = vertices })
