-- Calls of `orient_by` and of `orientation`, by their promises, whatever stands in the lists that they are lent. Assumes nothing.
use Rattle.refusal.specs.declared.Refusal.{Refusal}
use Rattle.refusal.specs.Says.{Verdict}
use Rattle.std.specs.Prelude.{Result}
use Rattle.std.specs.Prelude.{List, ℕ, ℤ, length}
use Rattle.refusal.specs.Lent.{lengths, Roomy}
use Rattle.complex_facets.specs.Records.{record_need}
use Rattle.orientation.specs.declared.Coherence.{Coherence}
use Rattle.orientation.specs.Promise.{Orientation}
use Rattle.orientation_by.specs.Promise.{OrientBy}

-- a call of `orient_by` that says r, with working lists that are long enough
pub record OrientByCalled (d : ℕ) (ws : List ℕ) (signs : List ℤ) (r : Verdict) : Type 0 where
  pub keys : List ℕ
  pub keys' : List ℕ
  pub rows : List ℕ
  pub rows' : List ℕ
  pub spare : List ℕ
  pub spare' : List ℕ
  pub counts : List ℕ
  pub counts' : List ℕ
  pub promised : OrientBy d ws signs r keys keys' rows rows' spare spare' counts counts'
  pub roomy : Roomy (record_need (length ws)) (lengths keys rows spare counts)

-- a call of `orientation` that says r
pub record OrientationCalled (d : ℕ) (ws : List ℕ) (r : Result Coherence Refusal) : Type 0 where
  pub signs : List ℤ
  pub signs' : List ℤ
  pub keys : List ℕ
  pub keys' : List ℕ
  pub rows : List ℕ
  pub rows' : List ℕ
  pub spare : List ℕ
  pub spare' : List ℕ
  pub counts : List ℕ
  pub counts' : List ℕ
  pub promised : Orientation d ws r signs signs' keys keys' rows rows' spare spare' counts counts'
