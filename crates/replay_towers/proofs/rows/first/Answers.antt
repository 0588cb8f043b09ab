-- `replay_towers::rows::first` meets its contract: row i begins at `at`, and no row passed is equal. Assumes nothing.
use mathlib.Core.Path.{◌≡◌, refl, sym, ◌∙◌}
use Prim.Native.Nat.{ℕ, ◌+◌, ◌*◌, ◌≤◌}
use native.Mathlib.Omega.{arith}
use native.Mathlib.Nat.{mul-le-mul_right}
use Rattle.replay_towers.proofs.Naming.{part-row, row_ends, row_next, none_more}
use lib.ListN.{length, take, drop}
use borrow.Author.Rules.{rules}
use Rattle.std.proofs.lemmas.Bool.Decides.{Decides-eqb, not_from_Decides}
use Rattle.std.proofs.lemmas.Slice.Eq.{slice_eq-Decides}
use Rattle.replay_towers.proofs.rows.first.Goals as goal

pub overflow_mul-at : goal.overflow_mul-at
overflow_mul-at c = omega (arith, mul-le-mul_right c.args.width c.requires.1)

pub loop-i-init : goal.loop-i-init
loop-i-init c = (refl, λ k h q. absurd (omega arith))

pub overflow_add-end : goal.overflow_add-end
overflow_add-end c =
    let b : c.loop-i.at + c.args.width ≤ length c.args.among.now = row_ends c.loop-i.i c.args.count c.args.width c.loop-i.at (length c.args.among.now) c.loop-i.invariant.0 c.loop-i-test.true c.requires.2 in
    search rules

pub offset_bounds-among-at : goal.offset_bounds-among-at
offset_bounds-among-at c =
    let b : c.loop-i.at + c.args.width ≤ length c.args.among.now = row_ends c.loop-i.i c.args.count c.args.width c.loop-i.at (length c.args.among.now) c.loop-i.invariant.0 c.loop-i-test.true c.requires.2 in
    search rules

pub slice_bounds-eq-start : goal.slice_bounds-eq-start
slice_bounds-eq-start c =
    let b : c.loop-i.at + c.args.width ≤ length c.args.among.now = row_ends c.loop-i.i c.args.count c.args.width c.loop-i.at (length c.args.among.now) c.loop-i.invariant.0 c.loop-i-test.true c.requires.2 in
    search rules

pub slice_bounds-eq-end : goal.slice_bounds-eq-end
slice_bounds-eq-end c =
    let b : c.loop-i.at + c.args.width ≤ length c.args.among.now = row_ends c.loop-i.i c.args.count c.args.width c.loop-i.at (length c.args.among.now) c.loop-i.invariant.0 c.loop-i-test.true c.requires.2 in
    search rules

pub returns-then-eq : goal.returns-then-eq
returns-then-eq c =
    record {
      at_most = search rules;
      before = c.loop-i.invariant.1;
      equal = λ h. sym (part-row c.args.among.now c.args.width c.loop-i.i c.loop-i.at c.loop-i.invariant.0) ∙ sym ((slice_eq-Decides Decides-eqb _ _ _ c.eq.ensures).0 c.if-eq.true);
    }

pub loop-i-preserved : goal.loop-i-preserved
loop-i-preserved c = (
  row_next c.loop-i.i c.args.width c.loop-i.at c.loop-i.invariant.0,
  none_more (λ (k : ℕ). take c.args.width (drop (k * c.args.width) c.args.among.now) ≡ c.args.row.now) c.args.from c.loop-i.i c.loop-i.invariant.1
      (λ e. not_from_Decides _ (slice_eq-Decides Decides-eqb _ _ _ c.eq.ensures) c.if-eq.false (sym (part-row c.args.among.now c.args.width c.loop-i.i c.loop-i.at c.loop-i.invariant.0 ∙ e))),
)

pub returns : goal.returns
returns c =
    record {
      at_most = search rules;
      before = λ k h q. c.loop-i.invariant.1 k h (omega arith);
      equal = λ h. absurd (omega arith);
    }
