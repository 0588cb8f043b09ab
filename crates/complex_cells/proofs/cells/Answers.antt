-- `complex_cells::cells` meets its contract: the keys are the words sorted, and the distinct rows of them, in order, are the cells (proofs/Making). Assumes nothing.
use lib.ListN.{length-append}
use lib.Seq.{length-take-le}
use native.Mathlib.Nat.{div-le_self, le_trans, mul-le-mul_right}
use Rattle.sorting.specs.Bucket.{cell}
use Rattle.sorting.specs.Order.{Table}
use Rattle.sorting.specs.Distinct.{Distinct}
use Rattle.sorting.specs.Gather.{rows_of}
use Rattle.sorting.proofs.Rows.{pos-room}
use Rattle.multiindex.specs.Sort.{sort_words}
use Rattle.multiindex.proofs.WordsLaws.{words-length}
use Rattle.complex_cells.proofs.Making.{whole_words, few-corners, words-table, made}
use mathlib.Core.Path.{◌≡◌, sym, ap, ◌∙◌, subst}
use mathlib.Core.List.{List, ◌++◌}
use Prim.Native.Nat.{ℕ, ◌+◌, ◌*◌, ◌/◌, ◌≤◌}
use native.Mathlib.Omega.{arith}
use lib.ListN.{length, get_or, take, drop}
use Rattle.complex_cells.proofs.cells.Goals as goal

pub slice_bounds-copy-end-2 : goal.slice_bounds-copy-end-2
slice_bounds-copy-end-2 c = sym (length-take-le _ _ c.requires.keys_long)

pub copy-requires : goal.copy-requires
copy-requires c = length-take-le _ _ c.requires.keys_long

pub sort_words-requires : goal.sort_words-requires
sort_words-requires c = omega (arith, ap length c.copy.ensures, length-append c.copy.new.dst (drop (length c.args.words.now) c.args.keys.now), whole_words c.args.d c.args.words.now c.requires.passed)

pub sort_rows-requires : goal.sort_rows-requires
sort_rows-requires c =
    let key-is : c.sort_words.new.ws ≡ sort_words (c.args.d + 1) (length c.args.words.now / (c.args.d + 1)) (c.args.words.now ++ drop (length c.args.words.now) c.args.keys.now) = c.sort_words.ensures ∙ ap (λ (p : List ℕ). sort_words (c.args.d + 1) (length c.args.words.now / (c.args.d + 1)) (p ++ drop (length c.args.words.now) c.args.keys.now)) c.copy.ensures in
    let v = div-le_self (length c.args.words.now) (c.args.d + 1) in record { table = subst (λ (k : List ℕ). Table k (c.args.d + 1) (length c.args.words.now / (c.args.d + 1)) (length c.args.words.now)) (sym (key-is)) (words-table c.args.d c.args.words.now c.requires.passed (drop (length c.args.words.now) c.args.keys.now)); n_in_bounds = (omega (arith, c.requires.rows_long), omega (arith, c.requires.spare_long), c.requires.counts_long) }

pub distinct-m-requires : goal.distinct-m-requires
distinct-m-requires c =
    let key-is : c.sort_words.new.ws ≡ sort_words (c.args.d + 1) (length c.args.words.now / (c.args.d + 1)) (c.args.words.now ++ drop (length c.args.words.now) c.args.keys.now) = c.sort_words.ensures ∙ ap (λ (p : List ℕ). sort_words (c.args.d + 1) (length c.args.words.now / (c.args.d + 1)) (p ++ drop (length c.args.words.now) c.args.keys.now)) c.copy.ensures in
    let key-long : length c.args.words.now ≤ length c.sort_words.new.ws = omega (arith, ap length (key-is), words-length (c.args.d + 1) (length c.args.words.now / (c.args.d + 1)) (c.args.words.now ++ drop (length c.args.words.now) c.args.keys.now), length-append c.args.words.now (drop (length c.args.words.now) c.args.keys.now)) in
    let v = div-le_self (length c.args.words.now) (c.args.d + 1) in
    let k = c.sort_rows.auto in record { sorted = c.sort_rows.ensures.sorted; n_bound = (omega (arith, few-corners c.args.d c.args.words.now c.requires.passed), omega (arith, key-long, whole_words c.args.d c.args.words.now c.requires.passed), omega (arith, c.requires.rows_long, k), omega (arith, c.requires.spare_long, k), omega (arith, c.requires.counts_long, k)) }

pub gather-requires : goal.gather-requires
gather-requires c =
    let key-is : c.sort_words.new.ws ≡ sort_words (c.args.d + 1) (length c.args.words.now / (c.args.d + 1)) (c.args.words.now ++ drop (length c.args.words.now) c.args.keys.now) = c.sort_words.ensures ∙ ap (λ (p : List ℕ). sort_words (c.args.d + 1) (length c.args.words.now / (c.args.d + 1)) (p ++ drop (length c.args.words.now) c.args.keys.now)) c.copy.ensures in
    let key-long : length c.args.words.now ≤ length c.sort_words.new.ws = omega (arith, ap length (key-is), words-length (c.args.d + 1) (length c.args.words.now / (c.args.d + 1)) (c.args.words.now ++ drop (length c.args.words.now) c.args.keys.now), length-append c.args.words.now (drop (length c.args.words.now) c.args.keys.now)) in
    let t = c.distinct-m.ensures.distinct in
    let v = div-le_self (length c.args.words.now) (c.args.d + 1) in
    let w = whole_words c.args.d c.args.words.now c.requires.passed in
    let k = c.sort_rows.auto in
    let l : length c.args.words.now / (c.args.d + 1) * (c.args.d + 1) ≤ length c.sort_words.new.ws = omega (arith, key-long) in record { by_index = λ i h. le_trans (pos-room (get_or c.distinct-m.new.reps i 0) (length c.args.words.now / (c.args.d + 1)) (c.args.d + 1) (t.below i h)) l; m_in_bounds = (omega (arith, t.few, c.requires.spare_long, k, c.distinct-m.auto), omega (arith, mul-le-mul_right (c.args.d + 1) t.few, c.requires.rows_long, k)) }

pub returns : goal.returns
returns c =
    let key-is : c.sort_words.new.ws ≡ sort_words (c.args.d + 1) (length c.args.words.now / (c.args.d + 1)) (c.args.words.now ++ drop (length c.args.words.now) c.args.keys.now) = c.sort_words.ensures ∙ ap (λ (p : List ℕ). sort_words (c.args.d + 1) (length c.args.words.now / (c.args.d + 1)) (p ++ drop (length c.args.words.now) c.args.keys.now)) c.copy.ensures in
    let t = c.distinct-m.ensures.distinct in
    let n = c.args.d + 1 in
    let count = length c.args.words.now / n in
    let m = c.distinct-m.result in
    let reps = c.distinct-m.new.reps in
    let ids = c.distinct-m.new.ids in
    let k = c.sort_rows.auto in
    let v = div-le_self (length c.args.words.now) n in
    made c.args.d c.args.words.now c.requires.passed (drop (length c.args.words.now) c.args.keys.now) m reps ids c.gather.new.to _
    (subst (λ (x : List ℕ). Distinct (cell x n) n count m reps ids) (key-is) t) (omega (arith, t.few, c.requires.spare_long, k, c.distinct-m.auto))
    (c.gather.ensures ∙ ap (λ (x : List ℕ). rows_of x n (take m reps) ++ drop (m * n) c.sort_rows.new.order) (key-is)) (omega (arith, c.requires.rows_long, k, c.gather.auto))
