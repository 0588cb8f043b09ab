-- `complex_descent::descend` meets its contract. The invariant: the faces of dimension e stand in rows, and e is not below k. Assumes nothing.
use mathlib.Core.Path.{◌≡◌, sym}
use Prim.Native.Nat.{ℕ, ◌+◌, ◌-◌, ◌<◌}
use native.Mathlib.Omega.{arith}
use Rattle.complex_descent.proofs.Steps.{meeting, narrow, lower-room, lowered}
use Rattle.complex_descent.proofs.descend.Goals as goal

pub loop-e-init : goal.loop-e-init
loop-e-init c = (c.requires.high, sym c.requires.top)

-- the body's e is one less than the dimension of the faces that stand in rows
back : (k e : ℕ) → k < e → e - 1 + 1 ≡ e
back k e h = omega arith

pub lower-count-requires : goal.lower-count-requires
lower-count-requires c =
    let l = c.loop-e in
    let a = c.args in
    rw (back c.args.k c.loop-e.e c.loop-e-test.true)
    (meeting a.d a.k a.m a.b a.keys.now a.rows.now a.spare.now a.counts.now c.requires l.e l.count l.keys l.rows l.spare l.counts l.auto.keys l.auto.rows l.auto.spare l.auto.counts l.auto.e l.invariant.1, narrow a.d a.k a.m a.b a.keys.now a.rows.now a.spare.now a.counts.now c.requires l.e l.count l.keys l.rows l.spare l.counts l.auto.keys l.auto.rows l.auto.spare l.auto.counts l.auto.e l.invariant.1, lower-room a.d a.k a.m a.b a.keys.now a.rows.now a.spare.now a.counts.now c.requires l.e l.count l.rows l.auto.rows c.loop-e-test.true l.auto.e l.invariant.1)

pub loop-e-preserved : goal.loop-e-preserved
loop-e-preserved c =
    let l = c.loop-e in
    let a = c.args in
    (omega arith, lowered a.d a.k a.m a.b a.keys.now a.rows.now a.spare.now a.counts.now c.requires l.e l.count c.lower-count.result l.rows c.lower-count.new.rows c.loop-e-test.true l.auto.e l.invariant.1 (rw (back c.args.k c.loop-e.e c.loop-e-test.true) at c.lower-count.ensures))

pub returns : goal.returns
returns c = let e : c.loop-e.e ≡ c.args.k = omega arith in rw e at c.loop-e.invariant.1
