-- What is printed has at most 101 bytes, so that a text holds it. Assumes nothing.
use mathlib.Core.Bool.{Bool, true, false}
use mathlib.Core.List.{List, [], ◌∷◌, ◌++◌}
use mathlib.Core.Path.{◌≡◌, ap}
use Prim.Native.Nat.{ℕ, ◌+◌, ◌-◌, ◌≤◌}
use native.Mathlib.Omega.{arith}
use lib.ListN.{length, replicate, length-append}
use Rattle.text.specs.declared.Text.{Text}
use Rattle.text.specs.Decimal.{decimal, line_of}
use Rattle.text.specs.Adds.{size, holding}
use Rattle.text.proofs.Decimals.{decimal-long}
use Rattle.bandsum_lines.specs.declared.Summary.{Summary}
use Rattle.bandsum_lines.specs.Lines.{cells_word, vertices_word, edges_word, border_word, sides_word, refused_word, ordered_line, lines_of, refused_line}
use Rattle.refusal.specs.Table.{number_of}
use Rattle.bandsum_sums.specs.Promise.{Prints, unread, refusal, six, Printed}

line-most : (w : List ℕ) (n : ℕ) → length (line_of w n) ≤ length w + 11
line-most w n = omega (arith, length-append w (decimal n ++ (10 ∷ [])), length-append (decimal n) (10 ∷ []), decimal-long 9 n)

last-most : (b : Bool) → length (ordered_line b) ≤ 12
last-most true = omega arith
last-most false = omega arith

refused-most : (n : ℕ) → length (refused_line n) ≤ 19
refused-most n = line-most refused_word n

after-most : (w : List ℕ) (n k : ℕ) (l : List ℕ) → length l ≤ k → length (line_of w n ++ l) ≤ length w + 11 + k
after-most w n k l h = omega (arith, length-append (line_of w n) l, line-most w n)

six-most : (s : Summary) → length (lines_of s) ≤ 101
six-most s =
    after-most cells_word s.cells 84 _
    (after-most vertices_word s.vertices 64 _
    (after-most edges_word s.edges 47 _
    (after-most border_word s.border 29 _
    (after-most sides_word s.sides 12 _ (last-most s.ordered)))))

prints-most : (bs l : List ℕ) → Prints bs l → length l ≤ 101
prints-most bs l (unread {why = why} e) = omega (arith, refused-most (number_of why))
prints-most bs l (refusal {why = why} e s) = omega (arith, refused-most (number_of why))
prints-most bs l (six {s = s} e t) = six-most s

-- the text's length
pub printed-short : (bs : List ℕ) (t : Text) → Printed bs t → t.len ≤ 101
unfolding holding
printed-short bs t p = let e : t.len ≡ length p.lines = ap (λ (x : Text). x.len) p.holds in omega (arith, prints-most bs p.lines p.prints)

-- and it has as many bytes
pub printed-fits : (bs : List ℕ) (t : Text) → Printed bs t → t.len ≤ length t.bytes
unfolding holding
printed-fits bs t p =
    let e : t.len ≡ length p.lines = ap (λ (x : Text). x.len) p.holds in
    let f : length t.bytes ≡ length (p.lines ++ replicate (size - length p.lines) 0) = ap (λ (x : Text). length x.bytes) p.holds in
    omega (arith, length-append p.lines (replicate (size - length p.lines) 0))
