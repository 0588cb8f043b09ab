-- `complex_dropped::number_words` meets its contract: the keys are the words sorted, and the place of each row among the distinct ones is its cell's number. Assumes nothing.
use mathlib.Core.Path.{◌≡◌, sym, ap, subst}
use mathlib.Core.List.{List, ◌++◌}
use Prim.Native.Nat.{ℕ, ◌+◌, ◌/◌, ◌≤◌}
use native.Mathlib.Nat.{div-le_self}
use native.Mathlib.Omega.{arith}
use lib.ListN.{length, drop, length-append}
use lib.Seq.{length-take-le}
use Rattle.sorting.specs.Bucket.{cell}
use Rattle.sorting.specs.Order.{Table}
use Rattle.sorting.specs.Distinct.{Distinct}
use Rattle.multiindex.specs.Sort.{sort_words}
use Rattle.multiindex.proofs.WordsLaws.{words-length}
use Rattle.complex_cells.proofs.Making.{whole_words, few-corners, words-table}
use Rattle.complex_dropped.proofs.Steps.{word_cells}
use Rattle.complex_dropped.proofs.number_words.Goals as goal

-- the keys are the words sorted
sorted-is : (d : ℕ) (words keys front : List ℕ) → front ≡ words → (sorted : List ℕ) → sorted ≡ sort_words (d + 1) (length words / (d + 1)) (front ++ drop (length words) keys) →
    sorted ≡ sort_words (d + 1) (length words / (d + 1)) (words ++ drop (length words) keys)
sorted-is d words keys front e sorted s = rw e at s

pub copy-requires : goal.copy-requires
copy-requires c = length-take-le _ _ c.requires.keys_long

pub sort_words-requires : goal.sort_words-requires
sort_words-requires c = omega (arith, ap length c.copy.ensures, length-append c.copy.new.dst (drop (length c.args.words.now) c.args.keys.now), whole_words c.args.d c.args.words.now c.requires.passed)

pub sort_rows-requires : goal.sort_rows-requires
sort_rows-requires c =
    let key-is = sorted-is c.args.d c.args.words.now c.args.keys.now c.copy.new.dst c.copy.ensures c.sort_words.new.ws c.sort_words.ensures in
    let v = div-le_self (length c.args.words.now) (c.args.d + 1) in record { table = subst (λ (k : List ℕ). Table k (c.args.d + 1) (length c.args.words.now / (c.args.d + 1)) (length c.args.words.now)) (sym (key-is)) (words-table c.args.d c.args.words.now c.requires.passed (drop (length c.args.words.now) c.args.keys.now)); n_in_bounds = (omega (arith, c.requires.rows_long), omega (arith, c.requires.spare_long), c.requires.counts_long) }

pub distinct-requires : goal.distinct-requires
distinct-requires c =
    let key-is = sorted-is c.args.d c.args.words.now c.args.keys.now c.copy.new.dst c.copy.ensures c.sort_words.new.ws c.sort_words.ensures in
    let key-long : length c.args.words.now ≤ length c.sort_words.new.ws = omega (arith, ap length (key-is), words-length (c.args.d + 1) (length c.args.words.now / (c.args.d + 1)) (c.args.words.now ++ drop (length c.args.words.now) c.args.keys.now), length-append c.args.words.now (drop (length c.args.words.now) c.args.keys.now)) in
    let v = div-le_self (length c.args.words.now) (c.args.d + 1) in
    let k = c.sort_rows.auto in record { sorted = c.sort_rows.ensures.sorted; n_bound = (omega (arith, few-corners c.args.d c.args.words.now c.requires.passed), omega (arith, key-long, whole_words c.args.d c.args.words.now c.requires.passed), omega (arith, c.requires.rows_long, k), omega (arith, c.requires.spare_long, k), omega (arith, c.requires.counts_long, k)) }

pub returns : goal.returns
returns c =
    let key-is = sorted-is c.args.d c.args.words.now c.args.keys.now c.copy.new.dst c.copy.ensures c.sort_words.new.ws c.sort_words.ensures in
    let n = c.args.d + 1 in
    let t = c.distinct.ensures.distinct in
    word_cells c.args.d c.args.words.now c.requires.passed (drop (length c.args.words.now) c.args.keys.now) c.distinct.result c.distinct.new.reps c.distinct.new.ids
    (subst (λ (x : List ℕ). Distinct (cell x n) n (length c.args.words.now / n) c.distinct.result c.distinct.new.reps c.distinct.new.ids) (key-is) t)
    (omega (arith, t.few, c.requires.spare_long, c.sort_rows.auto, c.distinct.auto, div-le_self (length c.args.words.now) n))
