use mathlib.Core.Path.{◌≡◌, ap, ◌∙◌}
use mathlib.Core.Bool.{true, false, not}
use mathlib.Core.List.{List}
use Prim.Native.Nat.{ℕ, ◌+◌, ◌/◌, ◌%◌}
use native.Mathlib.Nat.{div-mul-le_self}
use native.Mathlib.Omega.{arith}
use lib.Dec.{eqb, ltb}
use lib.ListN.{length, get_or}
use borrow.Author.Tests.{lt-ltb, le-ltb, eq-eqb, ne_eqb}
use Rattle.refusal.specs.Limits.{most_dimension, most_cells, most_vertices}
use Rattle.complex.specs.Check.{answer_of}
use Rattle.lists.specs.Words.{among, first_where}
use Rattle.lists.proofs.Words.{free-unused}
use Rattle.complex.proofs.check_cells.Goals as goal

pub returns-then-d-gt-MOST_DIMENSION : goal.returns-then-d-gt-MOST_DIMENSION
unfolding answer_of
returns-then-d-gt-MOST_DIMENSION c = simp (lt-ltb _ _ c.if-d-gt-MOST_DIMENSION.true)

pub returns-then-len-eq0 : goal.returns-then-len-eq0
unfolding answer_of
returns-then-len-eq0 c =
    let size : ltb most_dimension c.args.d ≡ false = le-ltb _ _ c.if-d-gt-MOST_DIMENSION.false in
    simp (size, eq-eqb _ _ c.if-len-eq0.true)

pub returns-then-len-n-ne0 : goal.returns-then-len-n-ne0
unfolding answer_of
returns-then-len-n-ne0 c =
    let size : ltb most_dimension c.args.d ≡ false = le-ltb _ _ c.if-d-gt-MOST_DIMENSION.false in
    let some_words : eqb (length c.args.words.now) 0 ≡ false = ne_eqb _ _ c.if-len-eq0.false in
    simp (size, some_words, ne_eqb _ _ c.if-len-n-ne0.true)

pub returns-then-count-gt-MOST_CELLS : goal.returns-then-count-gt-MOST_CELLS
unfolding answer_of
returns-then-count-gt-MOST_CELLS c =
    let size : ltb most_dimension c.args.d ≡ false = le-ltb _ _ c.if-d-gt-MOST_DIMENSION.false in
    let some_words : eqb (length c.args.words.now) 0 ≡ false = ne_eqb _ _ c.if-len-eq0.false in
    let whole : eqb (length c.args.words.now % (c.args.d + 1)) 0 ≡ true = eq-eqb _ _ c.if-len-n-ne0.false in
    simp (size, some_words, whole, lt-ltb _ _ c.if-count-gt-MOST_CELLS.true)

pub first_repeat-first-requires : goal.first_repeat-first-requires
first_repeat-first-requires c = div-mul-le_self _ _

pub returns-then-first-count : goal.returns-then-first-count
unfolding answer_of
returns-then-first-count c =
    let size : ltb most_dimension c.args.d ≡ false = le-ltb _ _ c.if-d-gt-MOST_DIMENSION.false in
    let some_words : eqb (length c.args.words.now) 0 ≡ false = ne_eqb _ _ c.if-len-eq0.false in
    let whole : eqb (length c.args.words.now % (c.args.d + 1)) 0 ≡ true = eq-eqb _ _ c.if-len-n-ne0.false in
    let few : ltb most_cells (length c.args.words.now / (c.args.d + 1)) ≡ false = le-ltb _ _ c.if-count-gt-MOST_CELLS.false in
    simp (size, some_words, whole, few, ← c.first_repeat-first.ensures, lt-ltb _ _ c.if-first-count.true)

pub returns-then-top-gt-LAST_VERTEX : goal.returns-then-top-gt-LAST_VERTEX
unfolding answer_of
returns-then-top-gt-LAST_VERTEX c =
    let size : ltb most_dimension c.args.d ≡ false = le-ltb _ _ c.if-d-gt-MOST_DIMENSION.false in
    let some_words : eqb (length c.args.words.now) 0 ≡ false = ne_eqb _ _ c.if-len-eq0.false in
    let whole : eqb (length c.args.words.now % (c.args.d + 1)) 0 ≡ true = eq-eqb _ _ c.if-len-n-ne0.false in
    let few : ltb most_cells (length c.args.words.now / (c.args.d + 1)) ≡ false = le-ltb _ _ c.if-count-gt-MOST_CELLS.false in
    simp (size, some_words, whole, few, ← c.first_repeat-first.ensures, le-ltb _ _ c.if-first-count.false, ← c.largest-top.ensures, lt-ltb _ _ c.if-top-gt-LAST_VERTEX.true)

pub returns-then-gap-top : goal.returns-then-gap-top
unfolding answer_of
returns-then-gap-top c =
    let size : ltb most_dimension c.args.d ≡ false = le-ltb _ _ c.if-d-gt-MOST_DIMENSION.false in
    let some_words : eqb (length c.args.words.now) 0 ≡ false = ne_eqb _ _ c.if-len-eq0.false in
    let whole : eqb (length c.args.words.now % (c.args.d + 1)) 0 ≡ true = eq-eqb _ _ c.if-len-n-ne0.false in
    let few : ltb most_cells (length c.args.words.now / (c.args.d + 1)) ≡ false = le-ltb _ _ c.if-count-gt-MOST_CELLS.false in
    let gap : c.least_unmarked-gap.result ≡ first_where (λ v. not (among v c.args.words.now)) c.largest-top.result = c.least_unmarked-gap.ensures ∙ ap (λ (l : List ℕ). first_where (λ v. eqb (get_or l v 0) 0) c.largest-top.result) c.mark.ensures ∙ free-unused most_vertices _ _ (omega arith) in
    simp (size, some_words, whole, few, ← c.first_repeat-first.ensures, le-ltb _ _ c.if-first-count.false, ← c.largest-top.ensures, le-ltb _ _ c.if-top-gt-LAST_VERTEX.false, ← (gap), lt-ltb _ _ c.if-gap-top.true)

pub returns : goal.returns
unfolding answer_of
returns c =
    let size : ltb most_dimension c.args.d ≡ false = le-ltb _ _ c.if-d-gt-MOST_DIMENSION.false in
    let some_words : eqb (length c.args.words.now) 0 ≡ false = ne_eqb _ _ c.if-len-eq0.false in
    let whole : eqb (length c.args.words.now % (c.args.d + 1)) 0 ≡ true = eq-eqb _ _ c.if-len-n-ne0.false in
    let few : ltb most_cells (length c.args.words.now / (c.args.d + 1)) ≡ false = le-ltb _ _ c.if-count-gt-MOST_CELLS.false in
    let gap : c.least_unmarked-gap.result ≡ first_where (λ v. not (among v c.args.words.now)) c.largest-top.result = c.least_unmarked-gap.ensures ∙ ap (λ (l : List ℕ). first_where (λ v. eqb (get_or l v 0) 0) c.largest-top.result) c.mark.ensures ∙ free-unused most_vertices _ _ (omega arith) in
    simp (size, some_words, whole, few, ← c.first_repeat-first.ensures, le-ltb _ _ c.if-first-count.false, ← c.largest-top.ensures, le-ltb _ _ c.if-top-gt-LAST_VERTEX.false, ← (gap), le-ltb _ _ c.if-gap-top.false)
