-- `replay_towers::rows::only` meets its contract: the first that is equal, and none after it. Assumes nothing.
use native.Mathlib.Omega.{arith}
use Rattle.replay_towers.proofs.Naming.{only_one, only_none}
use Rattle.replay_towers.proofs.rows.only.Goals as goal

pub returns-then-found-count : goal.returns-then-found-count
returns-then-found-count c = only_none _ _ _ _

pub returns-then-first-count : goal.returns-then-first-count
returns-then-first-count c = only_none _ _ _ _

pub returns : goal.returns
returns c = only_one _ _ _ _ _ _ c.first-found.ensures (omega arith) c.first.ensures (λ h. absurd (omega arith))
