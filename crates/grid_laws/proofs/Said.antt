-- The laws as what the calls say: whatever `cell_words`, `triangulate_ordered` and `edge_lengths_sq` come to, a number of words or cells is d! for each box, a number of
-- edges is that of the glued cells, and 7 is not given where no axis with a non-empty set is itself reflected. Assumes nothing.
use Rattle.refusal.specs.declared.Refusal.{Refusal}
use Rattle.refusal.specs.Says.{Counted, fine}
use Rattle.std.specs.Prelude.{Err, Result}
use mathlib.Core.Path.{◌≡◌, sym, ap, ◌∙◌}
use mathlib.Core.List.{List, []}
use Prim.Native.Nat.{ℕ}
use lib.Ieee.{Float}
use lib.ListN.{length}
use Rattle.refusal.specs.declared.Room.{Room}
use Rattle.refusal.specs.Call.{Comes, refused, cramped, ended}
use Rattle.refusal.proofs.Chain.{fine-refused}
use Rattle.quotient.specs.declared.Grid.{Grid}
use Rattle.quotient.specs.Shape.{check_of, sides_check_of}
use Rattle.quotient.specs.Chain.{Untangled}
use Rattle.quotient.proofs.Taken.{sides-taken}
use Rattle.grid_mesh.specs.Words.{WordsEnd, CellWords}
use Rattle.grid_mesh.specs.Words as words
use Rattle.grid_mesh.proofs.Steps.{words-many}
use Rattle.grid_order.specs.declared.Triangulated.{Triangulated}
use Rattle.grid_order.specs.Promise.{Handed, nothing, Ends, crowded, short, short_order, ordered, unordered, TriangulateOrdered}
use Rattle.grid_lengths.specs.Lengths.{LengthsEnd, EdgeLengths}
use Rattle.grid_lengths.specs.Lengths as lengths
use Rattle.grid_laws.specs.Said.{SaysCells, SaysWords, SaysEdges, WordsNotSeven, CellsNotSeven}
use Rattle.grid_laws.proofs.Count.{cells-number}
use Rattle.grid_mesh.proofs.Seven.{untangled-never-seven}
use Rattle.grid_laws.proofs.Edges.{edges-same}

module _ (g : Grid) where
  -- ---- `cell_words`
  words-end : check_of g ≡ fine → (n : ℕ) (r : Counted) (h : List ℕ) → WordsEnd g n r h → SaysWords g r
  words-end taken n r h (words.crowded x) = tt
  words-end taken n r h (words.short f l) = tt
  words-end taken n r h (words.written f l) = words-many g taken

  words-come : (n : ℕ) (need have used : Room) (r : Counted) (h : List ℕ) → Comes Err [] (check_of g) need have (WordsEnd g n) r h used → SaysWords g r
  words-come n need have used r h (refused e) = tt
  words-come n need have used r h (cramped e f) = tt
  words-come n need have used r h (ended e f w) = words-end e n r h w

  pub words-said : (r : Counted) (out out' keys keys' rows rows' spare spare' counts counts' : List ℕ) → CellWords g r out out' keys keys' rows rows' spare spare' counts counts' → SaysWords g r
  words-said r out out' keys keys' rows rows' spare spare' counts counts' c = words-come (length out) _ _ c.used r c.handed c.comes

  -- ---- `triangulate_ordered`
  cells-end : check_of g ≡ fine → (n k : ℕ) (r : Result Triangulated Refusal) (h : Handed) → Ends g n k r h → SaysCells g r
  cells-end taken n k r h (crowded x) = tt
  cells-end taken n k r h (short f l) = tt
  cells-end taken n k r h (short_order f o l) = tt
  cells-end taken n k r h (ordered f o l m) = cells-number g taken f
  cells-end taken n k r h (unordered f o l) = cells-number g taken f

  cells-come : (n k : ℕ) (need have used : Room) (r : Result Triangulated Refusal) (h : Handed) → Comes Err nothing (check_of g) need have (Ends g n k) r h used → SaysCells g r
  cells-come n k need have used r h (refused e) = tt
  cells-come n k need have used r h (cramped e f) = tt
  cells-come n k need have used r h (ended e f w) = cells-end e n k r h w

  pub cells-said : (r : Result Triangulated Refusal) (cells cells' order order' keys keys' rows rows' spare spare' counts counts' : List ℕ) → TriangulateOrdered g r cells cells' order order' keys keys' rows rows' spare spare' counts counts' → SaysCells g r
  cells-said r cells cells' order order' keys keys' rows rows' spare spare' counts counts' c = cells-come (length cells) (length order) _ _ c.used r c.handed c.comes

  -- ---- `edge_lengths_sq`
  edges-end : check_of g ≡ fine → (n : ℕ) (r : Counted) (h : List Float) → LengthsEnd g n r h → SaysEdges g r
  edges-end taken n r h (lengths.clashing x) = tt
  edges-end taken n r h (lengths.short f l) = tt
  edges-end taken n r h (lengths.listed f l e) = ap length (edges-same g taken)

  edges-come : (n : ℕ) (need have used : Room) (r : Counted) (h : List Float) → Comes Err [] (sides_check_of g) need have (LengthsEnd g n) r h used → SaysEdges g r
  edges-come n need have used r h (refused e) = tt
  edges-come n need have used r h (cramped e f) = tt
  edges-come n need have used r h (ended e f w) = edges-end (sides-taken g e) n r h w

  pub edges-said : (r : Counted) (out out' : List Float) (keys keys' rows rows' spare spare' counts counts' : List ℕ) → EdgeLengths g r out out' keys keys' rows rows' spare spare' counts counts' → SaysEdges g r
  edges-said r out out' keys keys' rows rows' spare spare' counts counts' c = edges-come (length out) _ _ c.used r c.handed c.comes

  -- ---- no 7
  module _ (taken : check_of g ≡ fine) (untangled : Untangled g) where
    words-end-free : (n : ℕ) (r : Counted) (h : List ℕ) → WordsEnd g n r h → WordsNotSeven r
    words-end-free n r h (words.crowded x) = absurd (untangled-never-seven g taken untangled x)
    words-end-free n r h (words.short f l) = λ e. cc
    words-end-free n r h (words.written f l) = tt

    words-come-free : (n : ℕ) (need have used : Room) (r : Counted) (h : List ℕ) → Comes Err [] (check_of g) need have (WordsEnd g n) r h used → WordsNotSeven r
    words-come-free n need have used r h (refused {why = a} e) = absurd (fine-refused a (sym e ∙ taken))
    words-come-free n need have used r h (cramped e f) = λ q. cc
    words-come-free n need have used r h (ended e f w) = words-end-free n r h w

    pub words-not-seven : (r : Counted) (out out' keys keys' rows rows' spare spare' counts counts' : List ℕ) → CellWords g r out out' keys keys' rows rows' spare spare' counts counts' → WordsNotSeven r
    words-not-seven r out out' keys keys' rows rows' spare spare' counts counts' c = words-come-free (length out) _ _ c.used r c.handed c.comes

    cells-end-free : (n k : ℕ) (r : Result Triangulated Refusal) (h : Handed) → Ends g n k r h → CellsNotSeven r
    cells-end-free n k r h (crowded x) = absurd (untangled-never-seven g taken untangled x)
    cells-end-free n k r h (short f l) = λ e. cc
    cells-end-free n k r h (short_order f o l) = λ e. cc
    cells-end-free n k r h (ordered f o l m) = tt
    cells-end-free n k r h (unordered f o l) = tt

    cells-come-free : (n k : ℕ) (need have used : Room) (r : Result Triangulated Refusal) (h : Handed) → Comes Err nothing (check_of g) need have (Ends g n k) r h used → CellsNotSeven r
    cells-come-free n k need have used r h (refused {why = a} e) = absurd (fine-refused a (sym e ∙ taken))
    cells-come-free n k need have used r h (cramped e f) = λ q. cc
    cells-come-free n k need have used r h (ended e f w) = cells-end-free n k r h w

    pub cells-not-seven : (r : Result Triangulated Refusal) (cells cells' order order' keys keys' rows rows' spare spare' counts counts' : List ℕ) → TriangulateOrdered g r cells cells' order order' keys keys' rows rows' spare spare' counts counts' → CellsNotSeven r
    cells-not-seven r cells cells' order order' keys keys' rows rows' spare spare' counts counts' c = cells-come-free (length cells) (length order) _ _ c.used r c.handed c.comes
