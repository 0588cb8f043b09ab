-- `complex_dropped::hand_out` meets its contract. Either a result list is too short, or both are written from their start. Assumes nothing.
use mathlib.Core.Path.{sym, ap}
use mathlib.Core.List.{List, ◌++◌}
use Prim.Native.Nat.{ℕ}
use native.Mathlib.Omega.{arith}
use lib.ListN.{length, drop}
use lib.Seq.{length-take-le}
use Rattle.complex_dropped.specs.Work.{no_room, all_out}
use Rattle.complex_dropped.proofs.Outcome.{renamed-onto}
use Rattle.complex_dropped.proofs.hand_out.Goals as goal

pub returns-then-kept-len : goal.returns-then-kept-len
returns-then-kept-len c = no_room (λ a b. omega (arith, c.if-kept-len.true))

pub returns-then-old-vertices : goal.returns-then-old-vertices
returns-then-old-vertices c = no_room (λ a b. omega (arith, c.if-old-vertices.true))

pub slice_bounds-rename-end-2 : goal.slice_bounds-rename-end-2
slice_bounds-rename-end-2 c = sym (length-take-le _ _ c.if-kept-len.false)

pub rename-requires : goal.rename-requires
rename-requires c = (length-take-le _ _ c.if-kept-len.false, c.requires.low)

pub slice_bounds-copy-end-2 : goal.slice_bounds-copy-end-2
slice_bounds-copy-end-2 c = sym (length-take-le _ _ c.if-old-vertices.false)

pub copy-requires : goal.copy-requires
copy-requires c = length-take-le _ _ c.if-old-vertices.false

pub returns : goal.returns
returns c =
    all_out c.if-kept-len.false c.if-old-vertices.false
    (renamed-onto c.args.staying c.args.corners.now c.args.numbers.now c.args.places.now c.args.kept.now _ c.requires c.rename.ensures)
    (ap (λ (l : List ℕ). l ++ drop (length c.args.places.now) c.args.old.now) c.copy.ensures)
