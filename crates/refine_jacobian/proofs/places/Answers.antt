-- `refine_jacobian::places` meets its contract. The loop's invariant: the first j places are found.
use mathlib.Core.Path.{refl}
use Prim.Native.Nat.{◌-◌}
use native.Mathlib.Omega.{arith}
use lib.ListN.{get_or, length-set}
use borrow.Author.Rules.{rules}
use Rattle.refine_jacobian.specs.WorkWeights.{place_of}
use Rattle.refine_jacobian.proofs.Laws.{placed-more}
use Rattle.refine_jacobian.proofs.places.Goals as goal

pub loop-j-init : goal.loop-j-init
loop-j-init c = (refl, λ k h. absurd (omega (arith, h)))

pub bounds-to-j : goal.bounds-to-j
bounds-to-j c = omega (arith, c.loop-j-test.true, c.requires)

pub loop-j-preserved : goal.loop-j-preserved
loop-j-preserved c =
    let t = c.loop-j-test.true in (
      simp length-set c.loop-j.invariant.0,
      placed-more (λ k. place_of c.args.word.now (get_or c.args.list.now k 0)) c.loop-j.to c.loop-j.j c.place.result (omega (arith, t, c.requires, c.loop-j.invariant.0)) c.place.ensures c.loop-j.invariant.1,
    )

pub returns : goal.returns
returns c = λ j h. c.loop-j.invariant.1 j (omega (arith, h, c.loop-j-test.false))
