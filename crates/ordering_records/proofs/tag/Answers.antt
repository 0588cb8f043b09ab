-- `ordering_records::tag` meets its contract. The loop's invariant: the last numbers of the first i records are set. Assumes nothing.
use Rattle.ordering_records.proofs.Tags.{tag-turn}
use Rattle.ordering_records.specs.Work.{agree_at, tagged}
use lib.ListN.{get_or}
use native.Mathlib.Omega.{arith}
use Prim.Native.Nat.{ℕ}
use mathlib.Core.Path.{◌≡◌, refl, ap, ◌∙◌}
use Rattle.ordering_records.proofs.tag.Goals as goal

pub loop-i-init : goal.loop-i-init
unfolding tagged
loop-i-init c = refl

pub overflow_mul-last : goal.overflow_mul-last
overflow_mul-last c = omega (arith, c.requires.room, c.loop-i-test.true)

pub overflow_add-last : goal.overflow_add-last
overflow_add-last c = omega (arith, c.requires.room, c.loop-i-test.true)

pub bounds-reps-i : goal.bounds-reps-i
bounds-reps-i c = omega (arith, c.requires.in_reps, c.loop-i-test.true)

pub bounds-others-i : goal.bounds-others-i
bounds-others-i c = omega (arith, c.requires.in_others, c.loop-i-test.true)

pub agree_at-requires : goal.agree_at-requires
agree_at-requires c = c.requires.asked c.loop-i.i c.loop-i-test.true

pub bounds-records-last : goal.bounds-records-last
bounds-records-last c = omega (arith, c.requires.room, c.loop-i-test.true)

pub loop-i-preserved : goal.loop-i-preserved
loop-i-preserved c = tag-turn (λ j. agree_at c.args.d c.args.k c.args.m c.args.list.now (get_or c.args.reps.now j 0) (get_or c.args.others.now j 0)) c.loop-i.i c.agree_at.result c.args.records.now c.loop-i.records c.loop-i.invariant c.agree_at.ensures

pub returns : goal.returns
returns c = let e : c.loop-i.i ≡ c.args.f = omega arith in c.loop-i.invariant ∙ ap (λ (n : ℕ). tagged (λ j. agree_at c.args.d c.args.k c.args.m c.args.list.now (get_or c.args.reps.now j 0) (get_or c.args.others.now j 0)) n c.args.records.now) e
