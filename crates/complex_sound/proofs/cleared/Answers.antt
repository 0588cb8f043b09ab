-- `complex_sound::cleared` meets its contract: what was found stands, and the lists keep their lengths until they are cleared. Assumes nothing.
use Rattle.lists.proofs.Laws.{zero_along}
use Rattle.complex_sound.proofs.cleared.Goals as goal

pub returns : goal.returns
returns c = record { work = c.sound-said.ensures; room = zero_along _ _ _ _ _ _ _ _ _ _ _ _ c.sound-said.auto.keys c.sound-said.auto.rows c.sound-said.auto.spare c.sound-said.auto.counts c.clear_four.ensures }
