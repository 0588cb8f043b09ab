-- `grid_lengths::hand_each` meets its contract. The invariant: the first i lengths are written. Assumes nothing.
use mathlib.Core.Path.{◌≡◌, refl, sym, ap, ◌∙◌}
use mathlib.Core.List.{List, ◌++◌}
use Prim.Native.Nat.{ℕ, ◌-◌, ◌<◌}
use native.Mathlib.Omega.{arith}
use lib.ListN.{length, get_or, take, drop, set}
use lib.Ieee.{Float}
use Rattle.lists.specs.Tables.{tab}
use Rattle.lists.proofs.Tables.{length-tab, get_or-tab}
use Rattle.grid_lengths.specs.Edges.{square_at}
use Rattle.grid_lengths.proofs.Steps.{store_length, stored-lengths}
use Rattle.grid_lengths.proofs.hand_each.Goals as goal

pub loop-i-init : goal.loop-i-init
loop-i-init c = refl

pub bounds-last-i : goal.bounds-last-i
bounds-last-i c = omega (arith, c.requires.1.long, c.loop-i-test.true, c.loop-i.auto.lengths)

pub overflow_sub-last : goal.overflow_sub-last
overflow_sub-last c = omega (arith, c.requires.1.some c.loop-i.i (omega (arith, c.loop-i-test.true, c.loop-i.auto.lengths)))

pub value-requires : goal.value-requires
value-requires c = (c.requires.0, omega (arith, c.requires.1.some c.loop-i.i (omega (arith, c.loop-i-test.true, c.loop-i.auto.lengths)), c.requires.1.low c.loop-i.i (omega (arith, c.loop-i-test.true, c.loop-i.auto.lengths))))

pub loop-i-preserved : goal.loop-i-preserved
loop-i-preserved c = let g = c.args.grid in let h : c.loop-i.i < length c.args.lengths.now = omega (arith, c.loop-i-test.true, c.loop-i.auto.lengths) in
    let F : ℕ → Float = λ k. square_at g (get_or c.args.last.now k 0 - 1) in
    let e : c.value.result ≡ get_or (tab (length c.args.lengths.now) F) c.loop-i.i c.value.result = c.value.ensures ∙ sym (get_or-tab (length c.args.lengths.now) F c.loop-i.i c.value.result h) in
    ap (λ (x : List Float). set x c.loop-i.i c.value.result) c.loop-i.invariant ∙ ap (λ (x : Float). set (take c.loop-i.i (tab (length c.args.lengths.now) F) ++ drop c.loop-i.i c.args.lengths.now) c.loop-i.i x) e ∙ store_length c.value.result _ _ c.loop-i.i (omega (arith, length-tab (length c.args.lengths.now) F)) h

pub returns : goal.returns
returns c = let g = c.args.grid in let F : ℕ → Float = λ k. square_at g (get_or c.args.last.now k 0 - 1) in c.loop-i.invariant ∙ stored-lengths (tab (length c.args.lengths.now) F) c.args.lengths.now c.loop-i.i (omega (arith, length-tab (length c.args.lengths.now) F, c.loop-i.auto.lengths, c.loop-i-test.false)) (omega (arith, c.loop-i.auto.lengths, c.loop-i-test.false))
