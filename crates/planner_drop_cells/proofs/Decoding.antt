-- What is returned of dropped cells decodes: the header's macros give back the refusal's number and place, or 0 and the number of words kept. Assumes nothing.
use Rattle.complex_dropped.specs.declared.Dropped.{Dropped}
use Rattle.complex_dropped.specs.Says.{Dropping}
use Rattle.planner_passing.specs.Decoding.{Told, InRange, Decodes, told_answer}
use Rattle.planner_passing.proofs.Decoding.{answer-decodes}
use Rattle.planner_drop_cells.specs.Passed.{dropped_code}

-- what it tells: the words kept
abbrev pub told_dropped : Dropping → Told
told_dropped = told_answer (λ (kept : Dropped). kept.words)

pub dropped-decodes : (said : Dropping) → InRange (told_dropped said) → Decodes (dropped_code said) (told_dropped said)
dropped-decodes = answer-decodes (λ (kept : Dropped). kept.words)
