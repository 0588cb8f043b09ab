-- What is returned of a file that was read decodes: the header's macros give back the refusal's number and place, or 0 and the number of cells. Assumes nothing.
use Rattle.std.specs.Prelude.{Result}
use Rattle.refusal.specs.declared.Refusal.{Refusal}
use Rattle.file_mesh_read.specs.declared.Reading.{Reading}
use Rattle.planner_passing.specs.Decoding.{Told, InRange, Decodes, told_answer}
use Rattle.planner_passing.proofs.Decoding.{answer-decodes}
use Rattle.planner_mesh_files.specs.Read.{read_code}

-- what it tells: the cells
abbrev pub told_read : Result Reading Refusal → Told
told_read = told_answer (λ (mesh : Reading). mesh.cells)

pub read-decodes : (said : Result Reading Refusal) → InRange (told_read said) → Decodes (read_code said) (told_read said)
read-decodes = answer-decodes (λ (mesh : Reading). mesh.cells)
