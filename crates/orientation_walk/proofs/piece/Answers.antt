-- `orientation_walk::piece` meets its contract. Assumes nothing.
use Rattle.orientation_walk.proofs.Lemmas.{start-draining}
use Rattle.orientation_walk.proofs.piece.Goals as goal

pub drain-requires : goal.drain-requires
drain-requires c = start-draining c.requires
