-- A returned class decodes: the header's macros give back the refusal's number and place, or 0 and the class. Assumes nothing.
use Rattle.grid_chained.specs.declared.ClassVertex.{ClassVertex}
use Rattle.grid_chained.specs.Says.{Classed}
use Rattle.planner_passing.specs.Decoding.{Told, InRange, Decodes, told_answer}
use Rattle.planner_passing.proofs.Decoding.{answer-decodes}
use Rattle.planner_chained.specs.Said.{classed_code}

-- what a class tells
abbrev pub told_classed : Classed → Told
told_classed = told_answer (λ (v : ClassVertex). v.0)

pub classed-decodes : (said : Classed) → InRange (told_classed said) → Decodes (classed_code said) (told_classed said)
classed-decodes = answer-decodes (λ (v : ClassVertex). v.0)
