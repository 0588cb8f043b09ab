-- `vertices_in` meets its contract: no vertex before i is missing. Assumes nothing.
use mathlib.Core.Path.{◌≡◌, sym, ◌∙◌}
use native.Mathlib.Omega.{arith}
use borrow.Author.Rules.{rules}
use borrow.Author.Tests.{eq-eqb, ne_eqb}
use lib.Dec.{eqb}
use lib.ListN.{length, get_or}
use Rattle.refine_values.proofs.Laws.{more-none}
use Rattle.lists.proofs.Words.{first-none, first-at}
use Rattle.lists.specs.Words.{none}
use Rattle.refine_values.proofs.vertices_in.Goals as goal

pub returns-then-v : goal.returns-then-v
returns-then-v c = sym (first-at (λ j. eqb (get_or c.args.row.now j 0) none) (length c.args.row.now) c.loop-i.i c.loop-i-test.true c.loop-i.invariant (eq-eqb (get_or c.args.row.now c.loop-i.i 0) none c.if-v.true))

pub loop-i-preserved : goal.loop-i-preserved
loop-i-preserved c = more-none (λ j. eqb (get_or c.args.row.now j 0) none) c.loop-i.i c.loop-i.invariant (ne_eqb (get_or c.args.row.now c.loop-i.i 0) none c.if-v.false)

pub returns : goal.returns
returns c = sym (first-none (λ j. eqb (get_or c.args.row.now j 0) none) (length c.args.row.now) (λ j h. c.loop-i.invariant j (omega arith)))
