-- `ordering::wound_work` meets its contract: each call asks what the calls before it gave (proofs/Winding). Assumes nothing.
use Rattle.refusal.proofs.Chain.{passed_on}
use mathlib.Core.Path.{refl, ◌∙◌}
use Prim.Native.Nat.{◌-◌}
use native.Mathlib.Omega.{arith}
use lib.ListN.{length, take, drop}
use Rattle.lists.proofs.Words.{tail-part}
use Rattle.ordering.proofs.Winding.{wound-refused, list-starts, list-small, marking, weighing, wound-tested}
use Rattle.ordering.proofs.wound_work.Goals as goal

pub join-requires : goal.join-requires
join-requires c = c.requires

pub overflow_add-d : goal.overflow_add-d
overflow_add-d c = omega (arith, c.requires.passed.small)

pub offset_bounds-keys-at : goal.offset_bounds-keys-at
offset_bounds-keys-at c = omega (arith, list-starts c.args.d c.args.at c.args.words.now c.args.keys.now c.args.rows.now c.args.spare.now c.args.counts.now c.requires c.args.order.now c.join.new.keys c.join.new.rows c.join.new.spare c.join.auto.keys c.join.auto.rows c.join.auto.spare c.join.result c.join.ensures _ c.in_ok-m.was _ refl, list-small c.args.d c.args.at c.args.words.now c.args.keys.now c.args.rows.now c.args.spare.now c.args.counts.now c.requires c.args.order.now c.join.new.keys c.join.new.rows c.join.new.spare c.join.auto.keys c.join.auto.rows c.join.auto.spare c.join.result c.join.ensures _ c.in_ok-m.was _ refl)

pub slice_bounds-word_marks-start : goal.slice_bounds-word_marks-start
slice_bounds-word_marks-start c = list-starts c.args.d c.args.at c.args.words.now c.args.keys.now c.args.rows.now c.args.spare.now c.args.counts.now c.requires c.args.order.now c.join.new.keys c.join.new.rows c.join.new.spare c.join.auto.keys c.join.auto.rows c.join.auto.spare c.join.result c.join.ensures _ c.in_ok-m.was _ refl

pub word_marks-requires : goal.word_marks-requires
word_marks-requires c = marking c.args.d c.args.at c.args.words.now c.args.keys.now c.args.rows.now c.args.spare.now c.args.counts.now c.requires c.args.order.now c.join.new.keys c.join.new.rows c.join.new.spare c.join.auto.keys c.join.auto.rows c.join.auto.spare c.join.result c.join.ensures _ c.in_ok-m.was _ refl _ c.join.new.counts (tail-part c.join.new.keys c.args.at) c.join.auto.counts

pub coherent_over-requires : goal.coherent_over-requires
coherent_over-requires c = weighing c.args.d c.args.at c.args.words.now c.args.keys.now c.args.rows.now c.args.spare.now c.args.counts.now c.requires c.args.order.now c.join.new.keys c.join.new.rows c.join.new.spare c.join.auto.keys c.join.auto.rows c.join.auto.spare c.join.result c.join.ensures _ c.in_ok-m.was _ refl (take (length c.join.new.keys - c.args.at) (drop c.args.at c.join.new.keys)) c.word_marks.new.marks (tail-part c.join.new.keys c.args.at) (c.word_marks.auto.marks ∙ c.join.auto.counts) c.word_marks.ensures

pub returns-in_err-m : goal.returns-in_err-m
returns-in_err-m c = rw (passed_on c.from_residual.ensures.1) (wound-refused c.args.d c.args.at (length c.args.words.now) _ c.args.order.now c.join.new.keys c.join.ensures.mates c.join.result c.join.ensures.prepared _ c.in_err-m.was)

pub returns : goal.returns
returns c = wound-tested c.args.d c.args.at c.args.words.now c.args.keys.now c.args.rows.now c.args.spare.now c.args.counts.now c.requires c.args.order.now c.join.new.keys c.join.new.rows c.join.new.spare c.join.auto.keys c.join.auto.rows c.join.auto.spare c.join.result c.join.ensures _ c.in_ok-m.was _ refl (take (length c.join.new.keys - c.args.at) (drop c.args.at c.join.new.keys)) c.word_marks.new.marks (tail-part c.join.new.keys c.args.at) (c.word_marks.auto.marks ∙ c.join.auto.counts) c.word_marks.ensures c.coherent_over.result c.coherent_over.ensures
