-- `bandsum_line::set` meets its contract. The invariant: the digits still to come, after those of the value, say what all of them say. Assumes nothing.
use mathlib.Core.Path.{◌≡◌}
use Prim.Native.Nat.{◌<◌}
use lib.ListN.{drop}
use Rattle.bandsum_line.specs.Grammar.{set_from}
use Rattle.bandsum_line.proofs.set.Given as goal

abbrev pub invariant-loop-end : goal.invariant-loop-end
invariant-loop-end l = (l.value < 256) × (set_from l.value (drop l.end l.bytes) ≡ set_from 0 (drop l.at l.bytes))
