-- `file_bytes::read_fours` meets its contract. The invariant: the first i numbers are read, and the rest of the list is as it was. Assumes nothing.
use mathlib.Core.Path.{◌≡◌, refl, ap, ◌∙◌}
use mathlib.Core.List.{List, ◌++◌}
use Prim.Native.Nat.{ℕ, ◌-◌}
use lib.ListN.{drop, set, length-set}
use Rattle.file_bytes.specs.Bytes.{fours_of}
use Rattle.file_bytes.proofs.Steps.{read_more, read-end}
use native.Mathlib.Omega.{arith}
use Rattle.file_bytes.proofs.read_fours.Goals as goal

drop-none : (bs to : List ℕ) → to ≡ fours_of 0 bs ++ drop 0 to
unfolding fours_of
drop-none bs to = refl

pub loop-i-init : goal.loop-i-init
loop-i-init c = drop-none c.args.from.now c.args.to.now

pub loop-i-preserved : goal.loop-i-preserved
loop-i-preserved c =
    ap (λ (x : List ℕ). set x c.loop-i.i c.four.result) c.loop-i.invariant
    ∙ read_more c.args.from.now c.args.to.now c.loop-i.i c.four.result (omega arith) c.four.ensures

pub returns : goal.returns
returns c = c.loop-i.invariant ∙ read-end c.args.from.now c.args.to.now c.loop-i.i (omega arith)
