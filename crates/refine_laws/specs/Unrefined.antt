-- Document 01: with R = 1 the same words, and in dimension 0 one child for any R. Assumes nothing.
use Rattle.std.specs.Prelude.{List, ◌≡◌, ℕ}
use Rattle.refine_lattice.specs.Refine.{vertices}
use Rattle.refine_results.specs.Refined.{refined_cells, refined_words}

-- refinement hands out what it was given: cells cs with the words ks over n vertices
pub record Same (d R n : ℕ) (cs ks : List (List ℕ)) : Type 0 where
  pub vertices : vertices d R n ks ≡ n
  pub cells : refined_cells d R n ks ≡ cs
  pub words : refined_words d R n ks ≡ ks
