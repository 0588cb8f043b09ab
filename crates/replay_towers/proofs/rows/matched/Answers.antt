-- `replay_towers::rows::matched` meets its contract: the first x rows are named. Assumes nothing.
use mathlib.Core.Path.{◌≡◌, subst}
use Prim.Native.Nat.{ℕ, ◌+◌, ◌≤◌}
use mathlib.Core.List.{List}
use native.Mathlib.Omega.{arith}
use Rattle.replay_towers.specs.WorkRows.{Only}
use lib.ListN.{length}
use borrow.Author.Rules.{rules}
use Rattle.replay_towers.proofs.Naming.{part-row, row_ends, row_next, upto-none, upto-more, upto_done}
use Rattle.replay_towers.proofs.rows.matched.Goals as goal

pub loop-x-init : goal.loop-x-init
loop-x-init c = (search rules, upto-none _ _ _ _ _ _)

pub overflow_add-end : goal.overflow_add-end
overflow_add-end c =
    let b : c.loop-x.at + c.args.width ≤ length c.args.rows.now = row_ends c.loop-x.x c.args.count c.args.width c.loop-x.at (length c.args.rows.now) c.loop-x.invariant.0 c.loop-x-test.true c.requires.0 in
    search rules

pub offset_bounds-rows-at : goal.offset_bounds-rows-at
offset_bounds-rows-at c =
    let b : c.loop-x.at + c.args.width ≤ length c.args.rows.now = row_ends c.loop-x.x c.args.count c.args.width c.loop-x.at (length c.args.rows.now) c.loop-x.invariant.0 c.loop-x-test.true c.requires.0 in
    search rules

pub slice_bounds-only-start : goal.slice_bounds-only-start
slice_bounds-only-start c =
    let b : c.loop-x.at + c.args.width ≤ length c.args.rows.now = row_ends c.loop-x.x c.args.count c.args.width c.loop-x.at (length c.args.rows.now) c.loop-x.invariant.0 c.loop-x-test.true c.requires.0 in
    search rules

pub slice_bounds-only-end : goal.slice_bounds-only-end
slice_bounds-only-end c =
    let b : c.loop-x.at + c.args.width ≤ length c.args.rows.now = row_ends c.loop-x.x c.args.count c.args.width c.loop-x.at (length c.args.rows.now) c.loop-x.invariant.0 c.loop-x-test.true c.requires.0 in
    search rules

pub only-y-requires : goal.only-y-requires
only-y-requires c =
    let b : c.loop-x.at + c.args.width ≤ length c.args.rows.now = row_ends c.loop-x.x c.args.count c.args.width c.loop-x.at (length c.args.rows.now) c.loop-x.invariant.0 c.loop-x-test.true c.requires.0 in
    search rules

pub returns-then-y-count : goal.returns-then-y-count
returns-then-y-count c = λ e. let z : ◌≡◌ {A = ℕ} 0 1 = cc in absurd (omega arith)

pub returns-then-taken-y-ne0 : goal.returns-then-taken-y-ne0
returns-then-taken-y-ne0 c = λ e. let z : ◌≡◌ {A = ℕ} 0 1 = cc in absurd (omega arith)

pub loop-x-preserved : goal.loop-x-preserved
loop-x-preserved c = (
  row_next c.loop-x.x c.args.width c.loop-x.at c.loop-x.invariant.0,
  upto-more c.args.width c.args.count c.args.rows.now c.args.among.now c.loop-x.names c.loop-x.taken c.loop-x.x c.only-y.result c.loop-x.invariant.1 (omega arith) (omega arith) (omega arith)
      (subst (λ (r : List ℕ). Only c.args.width r c.args.among.now c.args.count c.only-y.result) (part-row c.args.rows.now c.args.width c.loop-x.x c.loop-x.at c.loop-x.invariant.0) c.only-y.ensures)
      c.if-taken-y-ne0.false,
)

pub returns : goal.returns
returns c = λ e. upto_done _ _ _ _ _ _ _ c.loop-x.invariant.1 (λ h. absurd (omega arith))
