-- `ordering::agreement::agree` meets its contract. The loop's invariant: the words agree on the facets of the first x rows. Assumes nothing.
use mathlib.Core.Path.{◌≡◌, sym, ◌∙◌}
use Prim.Native.Nat.{ℕ}
use native.Mathlib.Omega.{arith}
use lib.ListN.{get_or}
use mathlib.Core.Bool.{true, false}
use borrow.Author.Count.{below_more}
use Rattle.lists.proofs.Words.{same_word_lem, word-true}
use Rattle.ordering.proofs.Reading.{total-small, mates-room, mate-row, reading, all-agree, clashes}
use Rattle.ordering.proofs.agreement.agree.Goals as goal

true-false : true ≡ false → ⊥
true-false e = let z : ◌≡◌ {A = ℕ} 0 1 = cc in omega arith

pub slots-k-requires : goal.slots-k-requires
slots-k-requires c = omega (arith, c.requires.dim)

pub overflow_mul-total : goal.overflow_mul-total
overflow_mul-total c = record { fits = omega (arith, total-small c.args.d c.args.m c.args.mates.now c.args.list.now c.requires c.slots-k.result c.slots-k.ensures) }

pub loop-x-init : goal.loop-x-init
loop-x-init c = λ y h. absurd (omega arith)

pub bounds-mates-x : goal.bounds-mates-x
bounds-mates-x c = omega (arith, mates-room c.args.d c.args.m c.args.mates.now c.args.list.now c.requires c.slots-k.result c.slots-k.ensures)

pub loop-x-preserved-then-y : goal.loop-x-preserved-then-y
loop-x-preserved-then-y c = below_more _ _ c.loop-x.invariant (λ f. absurd (f c.if-y.true))

pub row_agrees-requires : goal.row_agrees-requires
row_agrees-requires c = reading c.args.d c.args.m c.args.mates.now c.args.list.now c.requires c.slots-k.result c.slots-k.ensures c.loop-x.x (get_or c.args.mates.now c.loop-x.x 0) c.loop-x-test.true (mate-row c.args.d c.args.m c.args.mates.now c.args.list.now c.requires c.slots-k.result c.slots-k.ensures c.loop-x.x c.loop-x-test.true c.if-y.false)

pub returns-then-not-row_agrees : goal.returns-then-not-row_agrees
returns-then-not-row_agrees c = record { all = λ e. let z : ◌≡◌ {A = ℕ} 0 1 = cc in absurd (omega arith); clash = λ e. clashes c.args.d c.args.m c.args.mates.now c.args.list.now c.requires c.slots-k.result c.slots-k.ensures c.loop-x.x c.loop-x-test.true c.if-y.false (λ q. true-false (sym (word-true _ _ q) ∙ sym c.row_agrees.ensures ∙ c.if-not-row_agrees.true)) }

pub loop-x-preserved : goal.loop-x-preserved
loop-x-preserved c = below_more _ _ c.loop-x.invariant (λ f. same_word_lem _ _ (sym c.row_agrees.ensures ∙ c.if-not-row_agrees.false))

pub returns : goal.returns
returns c = record { all = λ e. all-agree c.args.d c.args.m c.args.mates.now c.args.list.now c.requires c.slots-k.result c.slots-k.ensures (λ x h. c.loop-x.invariant x (omega arith)); clash = λ e. let z : ◌≡◌ {A = ℕ} 0 1 = cc in absurd (omega arith) }
