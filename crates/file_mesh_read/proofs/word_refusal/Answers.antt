-- `file_mesh_read::word_refusal` meets its contract: the opening, the vertices, and then the order after the word before. Assumes nothing.
use Rattle.refusal.proofs.Chain.{passed_on}
use Rattle.file_mesh_read.proofs.Parts.{opened-no, opened-at, word-no, word-kind, word_len, word-ends, word_got, word-bad, fits-first, fits-high, fits-cell, before-room}
use Rattle.file_mesh_read.specs.Work.{refusal_of, word_before}
use Prim.Native.Nat.{ℕ, ◌+◌, ◌*◌}
use mathlib.Core.Path.{sym, ap, ◌∙◌}
use Rattle.file_mesh_read.proofs.word_refusal.Goals as goal

pub returns-then-kind-ne-WORD_KIND : goal.returns-then-kind-ne-WORD_KIND
returns-then-kind-ne-WORD_KIND c =
    let before : mathlib.Core.List.List ℕ = word_before c.args.d c.args.k c.args.at c.args.bytes.now in
    sym (ap refusal_of (word-kind c.args.d (before) c.args.bytes.now c.args.at _ _ (opened-at c.args.bytes.now c.args.at _ c.in_ok-len.ensures) c.if-kind-ne-WORD_KIND.true))

pub returns-then-len-size : goal.returns-then-len-size
returns-then-len-size c =
    let before : mathlib.Core.List.List ℕ = word_before c.args.d c.args.k c.args.at c.args.bytes.now in
    sym (ap refusal_of (word_len c.args.d (before) c.args.bytes.now c.args.at _ _ (opened-at c.args.bytes.now c.args.at _ c.in_ok-len.ensures) c.if-kind-ne-WORD_KIND.false c.if-len-size.true))

pub returns-then-bytes-at : goal.returns-then-bytes-at
returns-then-bytes-at c =
    let before : mathlib.Core.List.List ℕ = word_before c.args.d c.args.k c.args.at c.args.bytes.now in
    sym (ap refusal_of (word-ends c.args.d (before) c.args.bytes.now c.args.at _ _ (opened-at c.args.bytes.now c.args.at _ c.in_ok-len.ensures) c.if-kind-ne-WORD_KIND.false c.if-len-size.false c.if-bytes-at.true))

pub returns-then-k-eq0 : goal.returns-then-k-eq0
returns-then-k-eq0 c =
    let before : mathlib.Core.List.List ℕ = word_before c.args.d c.args.k c.args.at c.args.bytes.now in
    sym (ap refusal_of (word_got c.args.d (before) c.args.bytes.now c.args.at _ _ (opened-at c.args.bytes.now c.args.at _ c.in_ok-len.ensures) c.if-kind-ne-WORD_KIND.false c.if-len-size.false c.if-bytes-at.false (fits-first c.args.d c.args.k c.args.at c.args.bytes.now c.if-k-eq0.true)))

pub returns-then-d-gt-DIMENSIONS : goal.returns-then-d-gt-DIMENSIONS
returns-then-d-gt-DIMENSIONS c =
    let before : mathlib.Core.List.List ℕ = word_before c.args.d c.args.k c.args.at c.args.bytes.now in
    sym (ap refusal_of (word_got c.args.d (before) c.args.bytes.now c.args.at _ _ (opened-at c.args.bytes.now c.args.at _ c.in_ok-len.ensures) c.if-kind-ne-WORD_KIND.false c.if-len-size.false c.if-bytes-at.false (fits-high c.args.d c.args.k c.args.at c.args.bytes.now c.if-d-gt-DIMENSIONS.true)))

pub overflow_sub-at : goal.overflow_sub-at
overflow_sub-at c = before-room c.args.k ((c.args.d + 1) * 4) c.args.at c.if-k-eq0.false c.requires.2

pub returns-then-in_order : goal.returns-then-in_order
returns-then-in_order c =
    let before : mathlib.Core.List.List ℕ = word_before c.args.d c.args.k c.args.at c.args.bytes.now in
    sym (ap refusal_of (word_got c.args.d (before) c.args.bytes.now c.args.at _ _ (opened-at c.args.bytes.now c.args.at _ c.in_ok-len.ensures) c.if-kind-ne-WORD_KIND.false c.if-len-size.false c.if-bytes-at.false (fits-cell c.args.d c.args.k c.args.at c.args.bytes.now c.if-k-eq0.false c.if-d-gt-DIMENSIONS.false ∙ sym c.in_order.ensures ∙ c.if-in_order.true)))

pub returns-in_err-len : goal.returns-in_err-len
returns-in_err-len c =
    let before : mathlib.Core.List.List ℕ = word_before c.args.d c.args.k c.args.at c.args.bytes.now in
    rw (passed_on c.from_residual.ensures.1) (sym (ap refusal_of (word-no c.args.d (before) c.args.bytes.now c.args.at _ (opened-no _ _ c.in_err-len.ensures))))

pub returns : goal.returns
returns c =
    let before : mathlib.Core.List.List ℕ = word_before c.args.d c.args.k c.args.at c.args.bytes.now in
    sym (ap refusal_of (word-bad c.args.d (before) c.args.bytes.now c.args.at _ _ (opened-at c.args.bytes.now c.args.at _ c.in_ok-len.ensures) c.if-kind-ne-WORD_KIND.false c.if-len-size.false c.if-bytes-at.false (fits-cell c.args.d c.args.k c.args.at c.args.bytes.now c.if-k-eq0.false c.if-d-gt-DIMENSIONS.false ∙ sym c.in_order.ensures ∙ c.if-in_order.false)))
