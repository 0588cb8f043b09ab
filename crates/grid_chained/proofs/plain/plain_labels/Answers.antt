-- `grid_chained::plain::plain_labels` meets its contract. The invariant: each label is a point no greater, joined to its own, and once a round changed nothing all steps
-- have even ends. The measure is the sum of the labels, and one more while rounds go on. Assumes nothing.
use mathlib.Core.Path.{sym, ◌∙◌}
use native.Mathlib.Omega.{arith}
use mathlib.Core.Bool.{false≢true}
use Rattle.grid_chained.proofs.Levelling.{own-marked, even-labelled}
use Rattle.grid_chained.proofs.Taken.{few-points}
use Rattle.grid_chained.proofs.plain.plain_labels.Goals as goal

pub own-requires : goal.own-requires
own-requires c = omega (arith, c.requires.1, few-points c.args.grid c.requires.0)

pub loop-again-init : goal.loop-again-init
loop-again-init c =
    let o = c.own in
    (own-marked c.args.grid _ (c.own.auto.labels ∙ c.requires.1) (λ p h. c.own.ensures p (omega (arith, c.own.auto.labels, h))), λ z. absurd (false≢true (sym z)))

pub returns : goal.returns
returns c =
    even-labelled c.args.grid _ c.loop-again.invariant.0 (c.loop-again.invariant.1 c.loop-again-test.false)
