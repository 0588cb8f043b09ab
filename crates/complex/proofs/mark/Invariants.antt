-- What is marked so far, and the marks to come, are all of them. Assumes nothing.
use mathlib.Core.Path.{◌≡◌}
use lib.ListN.{drop}
use Rattle.lists.specs.Words.{marked}
use Rattle.complex.proofs.mark.Given as goal

abbrev pub invariant-loop-v : goal.invariant-loop-v
invariant-loop-v l = marked l.initial.seen l.ws ≡ marked l.seen (drop l.v-index l.ws)
