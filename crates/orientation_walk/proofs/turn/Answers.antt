-- `orientation_walk::turn` meets its contract. Assumes nothing.
use Rattle.orientation_walk.proofs.Lemmas.{turned_same, turned-other}
use Rattle.orientation_walk.proofs.turn.Goals as goal

pub returns-then-f-eq0 : goal.returns-then-f-eq0
returns-then-f-eq0 c = turned_same _ _ c.if-f-eq0.true

pub returns : goal.returns
returns c = turned-other _ _ c.if-f-eq0.false
