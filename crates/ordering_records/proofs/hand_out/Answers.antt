-- `ordering_records::hand_out` meets its contract: the facets are gathered, their records written and their last numbers set (proofs/Steps). Assumes nothing.
use Rattle.ordering_records.proofs.Steps.{few-facets, fives-small, count_small, rows_inside, reps_long, recording, tagging, facets-short, records_short, all-handed}
use Rattle.lists.proofs.Words.{tail-part}
use lib.Seq.{length-take-le}
use lib.ListN.{length, take, drop}
use native.Mathlib.Omega.{arith}
use Prim.Native.Nat.{◌-◌}
use mathlib.Core.Path.{sym}
use Rattle.ordering_records.proofs.hand_out.Goals as goal

pub overflow_mul-f : goal.overflow_mul-f
overflow_mul-f c = record { fits = omega (arith, few-facets c.args.d c.args.at c.args.m c.args.f c.args.keys.now c.args.reps.now c.args.others.now c.requires) }

pub returns-then-facets-f : goal.returns-then-facets-f
returns-then-facets-f c = λ w. facets-short c.args.d c.args.at c.args.m c.args.f c.args.keys.now c.args.reps.now c.args.others.now w c.args.facets.now c.args.records.now c.if-facets-f.true

pub overflow_mul-f-2 : goal.overflow_mul-f-2
overflow_mul-f-2 c = omega (arith, fives-small c.args.d c.args.at c.args.m c.args.f c.args.keys.now c.args.reps.now c.args.others.now c.requires)

pub returns-then-records-f : goal.returns-then-records-f
returns-then-records-f c = λ w. records_short c.args.d c.args.at c.args.m c.args.f c.args.keys.now c.args.reps.now c.args.others.now w c.args.facets.now c.args.records.now c.if-records-f.true

pub slice_bounds-gather-end : goal.slice_bounds-gather-end
slice_bounds-gather-end c = sym (length-take-le _ _ c.requires.start)

pub gather-requires : goal.gather-requires
gather-requires c = record { by_index = rows_inside c.args.d c.args.at c.args.m c.args.f c.args.keys.now c.args.reps.now c.args.others.now c.requires; m_in_bounds = (reps_long c.args.d c.args.at c.args.m c.args.f c.args.keys.now c.args.reps.now c.args.others.now c.requires, c.if-facets-f.false) }

pub slots-k-requires : goal.slots-k-requires
slots-k-requires c = omega (arith, c.requires.passed.small)

pub write_records-requires : goal.write_records-requires
write_records-requires c = recording c.args.d c.args.at c.args.m c.args.f c.args.keys.now c.args.reps.now c.args.others.now c.requires c.slots-k.result c.slots-k.ensures c.args.records.now c.if-records-f.false

pub offset_bounds-keys-at : goal.offset_bounds-keys-at
offset_bounds-keys-at c = omega (arith, c.requires.small)

pub slice_bounds-tag-start : goal.slice_bounds-tag-start
slice_bounds-tag-start c = c.requires.start

pub tag-requires : goal.tag-requires
tag-requires c = tagging c.args.d c.args.at c.args.m c.args.f c.args.keys.now c.args.reps.now c.args.others.now c.requires c.slots-k.result c.slots-k.ensures (take (length c.args.keys.now - c.args.at) (drop c.args.at c.args.keys.now)) (tail-part c.args.keys.now c.args.at) c.write_records.new.records (omega (arith, c.if-records-f.false, c.write_records.auto.records))

pub overflow_cast-result : goal.overflow_cast-result
overflow_cast-result c = omega (arith, count_small c.args.d c.args.at c.args.m c.args.f c.args.keys.now c.args.reps.now c.args.others.now c.requires)

pub returns : goal.returns
returns c = λ w. all-handed c.args.d c.args.at c.args.m c.args.f c.args.keys.now c.args.reps.now c.args.others.now w c.slots-k.result c.slots-k.ensures (take (length c.args.keys.now - c.args.at) (drop c.args.at c.args.keys.now)) (tail-part c.args.keys.now c.args.at) c.args.records.now c.write_records.new.records _ c.write_records.ensures c.tag.ensures c.args.facets.now _ c.if-facets-f.false c.if-records-f.false c.gather.ensures
