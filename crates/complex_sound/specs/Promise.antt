-- What the checks of a cell list come to, on every input. Assumes nothing.
use Rattle.refusal.specs.declared.Refusal.TheVariants.{CrowdedFacet}
use Rattle.refusal.specs.Says.{Answer, fine}
use Rattle.std.specs.Prelude.{Err}
use Rattle.std.specs.Prelude.{List, ℕ, length}
use Rattle.refusal.specs.declared.Room.{Room}
use Rattle.refusal.specs.Lent.{lengths, Cleared}
use Rattle.refusal.specs.Call.{Comes}
use Rattle.complex.specs.Check.{answer_of}
use Rattle.complex.specs.Cells.{cells_of}
use Rattle.complex.specs.Facets.{Crowded}
use Rattle.complex.specs.Room.{need_of}

-- after the room's test: 7, or nothing to refuse
pub data Facets (d : ℕ) (cs : List (List ℕ)) : Answer → Unit {0} → Type 0 where
  crowded : Crowded d cs → Facets d cs (Err CrowdedFacet) (tt {0})
  free : (Crowded d cs → ⊥) → Facets d cs fine (tt {0})

-- the promise of `check`: r is what it says, and a list with ' is what it holds at exit
pub record Checked (d : ℕ) (ws : List ℕ) (r : Answer) (keys keys' rows rows' spare spare' counts counts' : List ℕ) : Type 0 where
  pub used : Room
  pub comes : Comes Err (tt {0}) (answer_of d ws) (need_of d (length ws)) (lengths keys rows spare counts) (Facets d (cells_of d ws)) r (tt {0}) used
  pub room : Cleared used keys keys' rows rows' spare spare' counts counts'
