-- `bandsum_line::digits` meets its contract. The invariant: the digits still to come, after those of the value, say what all of them say after the first; after `digit` of them the value is below 10 ^ (digit + 1). Assumes nothing.
use mathlib.Core.Path.{◌≡◌}
use Prim.Native.Nat.{◌<◌, ◌-◌, ◌^◌, suc}
use lib.ListN.{drop}
use Rattle.bandsum_line.specs.Grammar.{digits_from}
use Rattle.bandsum_line.proofs.digits.Given as goal

abbrev pub invariant-loop-digit : goal.invariant-loop-digit
invariant-loop-digit l = (l.value < 10 ^ suc l._digit) × (digits_from (3 - l._digit) l.value (drop l.end l.bytes) ≡ digits_from 3 l.first (drop l.at l.bytes))
