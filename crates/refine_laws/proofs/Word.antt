-- `word_of` is the word refined by: word c of a list of words of one length is row c of the flat list, whatever stands behind it. Assumes nothing.
use mathlib.Core.Path.{◌≡◌, sym, ap, ◌∙◌}
use mathlib.Core.List.{List, ◌++◌}
use Prim.Native.Nat.{ℕ, suc, ◌+◌, ◌*◌, ◌≤◌, ◌<◌}
use native.Mathlib.Nat.{suc-mul, mul-le-mul_right}
use native.Mathlib.Omega.{arith}
use borrow.Author.Tests.{le-leb}
use lib.ListN.{length, take, drop, length-append, length-drop}
use lib.Seq.{take-append-le, drop-append-le}
use Rattle.refusal.specs.Limits.{most_dimension}
use Rattle.lists.specs.Rows.{flat, row}
use Rattle.lists.proofs.Flat.{each_long, flat-length, flat-at}
use Rattle.multiindex.proofs.SortLaws.{sort-length}
use Rattle.complex.specs.Cells.{cells_of}
use Rattle.complex.specs.Facets.{cell_at}
use Rattle.refine_results.specs.Refined.{coarse, order_words}
use Rattle.refine_values.specs.Reading.{word_in}
use Rattle.refine_laws.specs.Word.{WordLaw}
use Rattle.refine_laws.proofs.Listed.{Listed}
use Rattle.refine_laws.proofs.Checked.{cells-listed, order-listed}

module _ (d : ℕ) (ks : List (List ℕ)) (rest : List ℕ) (small : d ≤ most_dimension) (long : (c : ℕ) → c < length ks → length (cell_at ks c) ≡ suc d) (c : ℕ) (h : c < length ks) where
  whole : length (flat ks) ≡ length ks * suc d
  whole = flat-length (suc d) ks (each_long (suc d) ks long)

  inside : c * suc d + suc d ≤ length (flat ks)
  inside = omega (arith, whole, suc-mul c (suc d), mul-le-mul_right (suc d) h)

  row_before : row (flat ks ++ rest) (suc d) c ≡ cell_at ks c
  row_before =
      ap (take (suc d)) (drop-append-le (c * suc d) (flat ks) rest (omega (arith, inside)))
      ∙ take-append-le (suc d) (drop (c * suc d) (flat ks)) rest (omega (arith, inside, length-drop (c * suc d) (flat ks)))
      ∙ flat-at (suc d) ks (each_long (suc d) ks long) c h

  word_at : word_in d c (flat ks ++ rest) ≡ cell_at ks c
  word_at = rw (le-leb d most_dimension small, le-leb (c * suc d + suc d) (length (flat ks ++ rest)) (omega (arith, inside, length-append (flat ks) rest))) row_before

-- the words of cells are as long as the cells
as_long : (d n : ℕ) (cs ks : List (List ℕ)) → Listed d n cs ks → (c : ℕ) → c < length ks → length (cell_at ks c) ≡ suc d
as_long d n cs ks l c h =
    let b : c < length cs = omega (arith, l.many) in
    sym (sort-length (cell_at ks c)) ∙ ap length (l.sorts c b) ∙ l.long c b

pub word-of-refined : (d : ℕ) (ws os : List ℕ) → WordLaw d ws os
unfolding WordLaw
word-of-refined d ws os cells by c p h = record {
  ordered = λ o other.
      let l : Listed d (coarse ws) (cells_of d ws) (order_words d ws os) = order-listed d ws p os o in
      word_at d (order_words d ws os) (drop (length (flat (order_words d ws os))) by) p.small (as_long d (coarse ws) (cells_of d ws) (order_words d ws os) l) c (omega (arith, l.many));
  sorted = λ other.
      word_at d (cells_of d ws) (drop (length (flat (cells_of d ws))) cells) p.small (as_long d (coarse ws) (cells_of d ws) (cells_of d ws) (cells-listed d ws p)) c h;
}
