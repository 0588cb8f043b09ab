-- `grid_lengths::measure` meets its contract. The invariant: the first r values are written. Assumes nothing.
use mathlib.Core.Path.{◌≡◌, refl, sym, ap, ◌∙◌}
use mathlib.Core.List.{List, ◌++◌}
use Prim.Native.Nat.{◌<◌}
use native.Mathlib.Omega.{arith}
use lib.ListN.{get_or, take, drop, set}
use lib.Ieee.{Float}
use Rattle.lists.specs.Tables.{tab}
use Rattle.lists.proofs.Tables.{length-tab, get_or-tab}
use Rattle.grid_lengths.specs.Edges.{square_at}
use Rattle.grid_lengths.specs.Work.{visits_each}
use Rattle.grid_lengths.proofs.Steps.{store_length, stored-lengths}
use Rattle.grid_lengths.proofs.Boxed.{each-visits-most, valued}
use Rattle.grid_lengths.proofs.measure.Goals as goal

pub loop-r-init : goal.loop-r-init
loop-r-init c = refl

pub measured-requires : goal.measured-requires
measured-requires c = (c.requires.0, omega (arith, c.loop-r-test.true, c.loop-r.auto.values, c.requires.1, each-visits-most c.args.grid c.requires.0))

pub loop-r-preserved : goal.loop-r-preserved
loop-r-preserved c = let g = c.args.grid in
    let r = c.loop-r.r in
    let x = c.measured.result in
    let T : List Float = tab (visits_each g) (square_at g) in
    let h : r < visits_each g = omega (arith, c.requires.1, c.loop-r-test.true, c.loop-r.auto.values) in
    let e : x ≡ get_or T r x = c.measured.ensures ∙ sym (get_or-tab (visits_each g) (square_at g) r x h) in
    ap (λ (l : List Float). set l r x) c.loop-r.invariant ∙ ap (λ (y : Float). set (take r T ++ drop r c.args.values.now) r y) e ∙ store_length x T c.args.values.now r (omega (arith, length-tab (visits_each g) (square_at g))) (omega (arith, c.requires.1))

pub returns : goal.returns
returns c = let g = c.args.grid in
    valued g c.requires.0 _ (c.loop-r.invariant ∙ stored-lengths (tab (visits_each g) (square_at g)) c.args.values.now c.loop-r.r (omega (arith, length-tab (visits_each g) (square_at g), c.requires.1, c.loop-r.auto.values, c.loop-r-test.false)) (omega (arith, c.loop-r.auto.values, c.loop-r-test.false)))
