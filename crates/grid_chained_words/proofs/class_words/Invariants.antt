-- `grid_chained_words::class_words` meets its contract. The invariant: the first i numbers of the words are written. Assumes nothing.
use mathlib.Core.Path.{◌≡◌}
use mathlib.Core.List.{◌++◌}
use lib.ListN.{take, drop}
use Rattle.grid_chained.specs.Classing.{at}
use Rattle.grid_chained_words.specs.Words.{flat_by}
use Rattle.grid_chained_words.proofs.class_words.Given as goal

abbrev pub invariant-loop-i : goal.invariant-loop-i
invariant-loop-i l = l.words ≡ take l.i (flat_by l.grid (at l.numbers)) ++ drop l.i l.initial.words
