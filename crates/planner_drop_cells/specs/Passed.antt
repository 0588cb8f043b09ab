-- How what `drop_cells` says is returned to C. Assumes nothing.
use Rattle.std.specs.Prelude.{List, ℕ, set, Ok, Err}
use Rattle.complex_dropped.specs.declared.Dropped.{Dropped}
use Rattle.complex_dropped.specs.Says.{Dropping}
use Rattle.planner_passing.specs.Said.{answer_code}

-- how many words stay
abbrev pub dropped_code : Dropping → ℕ
dropped_code = answer_code (λ (kept : Dropped). kept.words)

-- the number of vertices that is handed out; on a refusal what stood there
abbrev pub dropped_vertices : Dropping → List ℕ → List ℕ
dropped_vertices (Ok kept) list = set list 0 kept.vertices
dropped_vertices (Err why) list = list
