-- Lines one after another: how long the text is, and what it holds at the end. Assumes nothing.
use mathlib.Core.Path.{◌≡◌, ap, ◌∙◌}
use mathlib.Core.List.{List, [], ◌∷◌, ◌++◌, append_assoc}
use Prim.Native.Nat.{ℕ, ◌+◌, ◌≤◌}
use native.Mathlib.Omega.{arith}
use lib.ListN.{length, length-append}
use Rattle.text.specs.declared.Text.{Text}
use Rattle.text.specs.Decimal.{decimal, line_of}
use Rattle.text.specs.Adds.{holding, Adds}
use Rattle.text.proofs.Adding.{adds-held}
use Rattle.text.proofs.Decimals.{decimal-long}
use Rattle.bandsum_lines.specs.declared.Summary.{Summary}
use Rattle.bandsum_lines.specs.Lines.{cells_word, vertices_word, edges_word, border_word, sides_word, ordered_line, lines_of}

pub empty-len : {t : Text} → t ≡ holding [] → t.len ≡ 0
unfolding holding
empty-len e = ap (λ (t : Text). t.len) e

pub line-len : (w : List ℕ) (n : ℕ) {s t : Text} → Adds (line_of w n) s t → t.len ≤ s.len + length w + 11
line-len w n a = omega (arith, a.len, length-append w (decimal n ++ (10 ∷ [])), length-append (decimal n) (10 ∷ []), decimal-long 9 n)

pub lines-told : (s : Summary) (x : List ℕ) {t a b c d e f : Text} → x ≡ ordered_line s.ordered → t ≡ holding [] →
    Adds (line_of cells_word s.cells) t a → Adds (line_of vertices_word s.vertices) a b → Adds (line_of edges_word s.edges) b c →
    Adds (line_of border_word s.border) c d → Adds (line_of sides_word s.sides) d e → Adds x e f → f ≡ holding (lines_of s)
lines-told s x {t} {a} {b} {c} {d} {e} {f} q h l m n o p r =
    let cells : List ℕ = line_of cells_word s.cells in
    let vertices : List ℕ = line_of vertices_word s.vertices in
    let edges : List ℕ = line_of edges_word s.edges in
    let border : List ℕ = line_of border_word s.border in
    let sides : List ℕ = line_of sides_word s.sides in
    let held : f ≡ holding (((((cells ++ vertices) ++ edges) ++ border) ++ sides) ++ x) =
    adds-held ((((cells ++ vertices) ++ edges) ++ border) ++ sides) (adds-held (((cells ++ vertices) ++ edges) ++ border)
    (adds-held ((cells ++ vertices) ++ edges) (adds-held (cells ++ vertices) (adds-held cells (adds-held [] h l) m) n) o) p) r in
    held
    ∙ ap holding (append_assoc (((cells ++ vertices) ++ edges) ++ border) sides x ∙ append_assoc ((cells ++ vertices) ++ edges) border (sides ++ x)
    ∙ append_assoc (cells ++ vertices) edges (border ++ (sides ++ x)) ∙ append_assoc cells vertices (edges ++ (border ++ (sides ++ x)))
    ∙ ap (λ (y : List ℕ). cells ++ (vertices ++ (edges ++ (border ++ (sides ++ y))))) q)
