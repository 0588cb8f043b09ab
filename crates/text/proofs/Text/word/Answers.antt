-- `text::Text::word` meets its contract. The invariant: the first bytes of the word, as many as the loop has passed, are added. Assumes nothing.
use native.Mathlib.Omega.{arith}
use Rattle.text.proofs.Adding.{room_in, adds_none, adds-byte, word_room, word-done}
use Rattle.text.proofs.Text.word.Goals as goal

pub loop-b-init : goal.loop-b-init
loop-b-init c = adds_none _

pub push-t-requires : goal.push-t-requires
push-t-requires c = word_room _ _ c.loop-b-test.true c.loop-b.invariant c.requires

pub loop-b-preserved : goal.loop-b-preserved
loop-b-preserved c = adds-byte _ _ (omega (arith, c.requires, room_in c.args.self c.well_formed.0.1.1.0.1.0.1)) c.loop-b-test.true c.loop-b.invariant c.push-t.ensures

pub returns : goal.returns
returns c = word-done _ _ c.loop-b-test.false c.loop-b.invariant
