-- `text::Text::word` meets its contract. The invariant: the first bytes of the word, as many as the loop has passed, are added. Assumes nothing.
use lib.ListN.{take}
use Rattle.text.specs.Adds.{Adds}
use Rattle.text.proofs.Text.word.Given as goal

abbrev pub invariant-loop-b : goal.invariant-loop-b
invariant-loop-b l = Adds (take l.b-index l.w) l.initial.t l.t
