-- `complex_boundary::write_faces` meets its contract. The invariant: the first x faces are written. Assumes nothing.
use mathlib.Core.Path.{◌≡◌, refl, ap, ◌∙◌}
use mathlib.Core.List.{List}
use Prim.Native.Nat.{ℕ, ◌+◌, ◌-◌, ◌*◌, ◌/◌, ◌%◌}
use native.Mathlib.Omega.{arith}
use lib.ListN.{get_or, set}
use Rattle.complex_boundary.proofs.Entries.{tab-put, place-fits}
use Rattle.complex_boundary.proofs.write_faces.Goals as goal

pub loop-x-init : goal.loop-x-init
loop-x-init c = refl

pub overflow_mul-at : goal.overflow_mul-at
overflow_mul-at c = omega (arith, (place-fits c.args.k c.args.m c.loop-x.x c.loop-x-test.true).0, c.requires.0)

pub overflow_sub-at : goal.overflow_sub-at
overflow_sub-at c = (place-fits c.args.k c.args.m c.loop-x.x c.loop-x-test.true).1

pub overflow_add-at : goal.overflow_add-at
overflow_add-at c = omega (arith, (place-fits c.args.k c.args.m c.loop-x.x c.loop-x-test.true).0, c.requires.0)

pub offset_bounds-ids-at : goal.offset_bounds-ids-at
offset_bounds-ids-at c = omega (arith, (place-fits c.args.k c.args.m c.loop-x.x c.loop-x-test.true).0, c.requires.0)

pub bounds-ids-at : goal.bounds-ids-at
bounds-ids-at c = omega (arith, (place-fits c.args.k c.args.m c.loop-x.x c.loop-x-test.true).0, c.requires.2)

pub loop-x-preserved : goal.loop-x-preserved
loop-x-preserved c =
    let f : ℕ → ℕ = λ y. get_or c.args.ids.now (y / (c.args.k + 1) * (c.args.k + 1) + (c.args.k - y % (c.args.k + 1))) 0 in
    ap (λ (z : List ℕ). set z c.loop-x.x (f c.loop-x.x)) c.loop-x.invariant ∙ tab-put 0 f c.args.faces.now c.loop-x.x (f c.loop-x.x) refl (omega (arith, c.loop-x-test.true, c.requires.3))

pub returns : goal.returns
returns c = let e : c.loop-x.x ≡ c.args.m * (c.args.k + 1) = omega arith in rw e at c.loop-x.invariant
