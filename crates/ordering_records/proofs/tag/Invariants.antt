-- `ordering_records::tag` meets its contract. The loop's invariant: the last numbers of the first i records are set. Assumes nothing.
use Rattle.ordering_records.specs.Work.{agree_at, tagged}
use lib.ListN.{get_or}
use mathlib.Core.Path.{◌≡◌}
use Rattle.ordering_records.proofs.tag.Given as goal

abbrev pub invariant-loop-i : goal.invariant-loop-i
invariant-loop-i l = l.records ≡ tagged (λ j. agree_at l.d l.k l.m l.list (get_or l.reps j 0) (get_or l.others j 0)) l.i l.initial.records
