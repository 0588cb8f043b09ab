-- The steps of the call: what each inner call asks follows from what the calls before it gave, and how each ends. Assumes nothing.
use Rattle.refusal.specs.declared.Refusal.TheVariants.{BadFaces, CrowdedFacet, TooShort}
use Rattle.refusal.specs.Says.{Counted}
use Rattle.std.specs.Prelude.{Err, Ok}
use mathlib.Core.Bool.{Bool, true, false}
use mathlib.Core.List.{List, [], ◌++◌}
use mathlib.Core.Path.{◌≡◌, refl, sym, ap, subst, ◌∙◌}
use Prim.Native.Nat.{ℕ, zero, suc, ◌+◌, ◌-◌, ◌*◌, ◌/◌, ◌<◌, ◌≤◌}
use native.Mathlib.Nat.{mul_assoc, mul-suc, mul-le-mul_left, mul-le-mul_right}
use native.Mathlib.Numerals.{add-one}
use native.Mathlib.Omega.{arith}
use lib.ListN.{length, get_or, length-append}
use Rattle.lists.specs.Words.{same_word}
use Rattle.lists.proofs.Words.{first-most}
use Rattle.lists.specs.Rows.{cut, rows as rows_of_lem}
use Rattle.lists.proofs.Rows.{cut-length}
use Rattle.text.specs.Decimal.{decimal}
use Rattle.file_writing.specs.Wrote.{Wrote}
use Rattle.file_writing.proofs.Laws.{wrote-same, wrote-long, wrote-whole, wrote-nowhere}
use Rattle.complex.specs.Check.{Passed}
use Rattle.complex.specs.Cells.{cells_of}
use Rattle.complex.specs.Facets.{Cells, slots}
use Rattle.complex.specs.Skeleton.{facet_row_of, facets_of}
use Rattle.complex_cells.proofs.Words.{Word}
use Rattle.complex_cells.proofs.Named.{named-many}
use Rattle.skeleton.specs.Promise.{crowded, rest}
use Rattle.skeleton.specs.Work.{Sound}
use Rattle.skeleton.proofs.Sizes.{order-most}
use Rattle.complex_faces.specs.Faces.{faces_of}
use Rattle.complex_faces.specs.Entries.{Entry, entries_of}
use Rattle.complex_faces.proofs.Laws.{facets-of-faces}
use Rattle.complex_faces.proofs.Shape.{cells-each, faces-most}
use Rattle.complex_descent.specs.Down.{per_cell, Classed}
use Rattle.complex_boundary.specs.Promise.{outside, inside}
use Rattle.complex_boundary.specs.Work.{Reached, EntryLists}
use Rattle.complex_boundary.proofs.Room.{largest-above, rows-most}
use Rattle.complex_boundary.proofs.Entries.{entry-lists, ids_long}
use Rattle.file_market.specs.File.{head_word, line_of_three, matrix_file, market_of}
use Rattle.file_market.specs.Promise.{GivesFile, short, written}
use Rattle.file_market.specs.Work.{many_entries, Numbered, lines_below, FileHanded, FileWorked}
use Rattle.file_market.proofs.Listing.{file-same, lines_long, sizes-long}

-- ---- how many cells, faces and entries
module _ (d : ℕ) (ws : List ℕ) (p : Passed d ws) (a : Cells d (cells_of d ws)) where
  few_cells : length (cells_of d ws) ≤ length ws / (d + 1)
  unfolding cells_of
  few_cells = omega (arith, order-most (d + 1) (rows_of_lem (d + 1) ws), cut-length (d + 1) (length ws / (d + 1)) ws)

  few-entries : (k : ℕ) → k ≤ d → length (faces_of (cells_of d ws) k) * suc k < many_entries
  few-entries k h =
      omega (
        arith,
        mul-le-mul_right (suc k) (faces-most d k (cells_of d ws) (cells-each d (cells_of d ws) a)),
        mul_assoc (length (cells_of d ws)) (per_cell d k) (suc k),
        mul-le-mul_left (length (cells_of d ws)) (largest-above (λ e. per_cell d e * suc e) d k h),
        mul-le-mul_left (length (cells_of d ws)) (rows-most d p.small).1,
        few_cells,
        p.few,
      )

-- ---- from the classes of the facets
module _ (d k : ℕ) (ws : List ℕ) (p : Passed d ws) (f : ℕ) (keys rows spare counts : List ℕ) (a : Reached d (suc k) ws f keys rows spare counts) (high : suc k ≤ d) (g : ℕ) (keys' reps ids : List ℕ) (c : Classed (suc k) (cut (suc (suc k)) f rows) g keys' reps ids) where
  of-faces : Classed (suc k) (faces_of (cells_of d ws) (suc k)) g keys' reps ids
  of-faces = subst (λ (z : List Word). Classed (suc k) z g keys' reps ids) a.same c

  facets-many : length (facets_of (suc k) (faces_of (cells_of d ws) (suc k))) ≡ g
  facets-many = named-many (facets_of (suc k) (faces_of (cells_of d ws) (suc k))) (suc k) g keys' reps of-faces.named

  faces_are : length (faces_of (cells_of d ws) k) ≡ g
  faces_are = ap length (sym (facets-of-faces d k (cells_of d ws) (cells-each d (cells_of d ws) a.cells) high)) ∙ facets-many

  faces-few : g < many_entries
  faces-few = omega (arith, faces_are, few-entries d ws p a.cells k (omega arith), mul-suc (length (faces_of (cells_of d ws) k)) k)

  number-most : (y : ℕ) → y < f * (suc k + 1) → get_or ids y 0 ≤ g
  number-most y h =
      let l : y < length (faces_of (cells_of d ws) (suc k)) * slots (suc k) = omega (arith, ap (λ (z : ℕ). z * suc (suc k)) a.many, ap (λ (z : ℕ). f * z) (add-one (suc k))) in
      omega (arith, of-faces.number y l, first-most (λ j. same_word (get_or (facets_of (suc k) (faces_of (cells_of d ws) (suc k))) j []) (facet_row_of (suc k) (faces_of (cells_of d ws) (suc k)) y)) (length (facets_of (suc k) (faces_of (cells_of d ws) (suc k)))), facets-many)

  numbered-up : Numbered (suc k) f g ids
  numbered-up =
      record {
        low = omega (arith, p.small);
        entries = omega (arith, few-entries d ws p a.cells (suc k) high, ap (λ (z : ℕ). z * suc (suc k)) a.many, ap (λ (z : ℕ). f * z) (add-one (suc k)));
        faces = omega (arith, faces-few);
        long = ids_long d (suc k) ws f keys rows spare counts a (omega arith) g keys' reps ids c;
        below = λ y h. omega (arith, number-most y h, faces-few);
      }

  file-up : matrix_file g f (entries_of (cells_of d ws) (suc k)) ≡ market_of d (suc k) ws
  file-up =
      ap (λ (z : ℕ). matrix_file z f (entries_of (cells_of d ws) (suc k))) (sym faces_are)
      ∙ ap (λ (z : ℕ). matrix_file (length (faces_of (cells_of d ws) k)) z (entries_of (cells_of d ws) (suc k))) (sym a.many)
      ∙ ap (λ (z : ℕ). matrix_file (length (faces_of (cells_of d ws) z)) (length (faces_of (cells_of d ws) (suc k))) (entries_of (cells_of d ws) (suc k))) {x = k} {y = suc k - 1} (omega arith)

module _ (d k : ℕ) (ws : List ℕ) (p : Passed d ws) (f : ℕ) (keys rows spare counts : List ℕ) (a : Reached d k ws f keys rows spare counts) (some : 1 ≤ k) (high : k ≤ d) (g : ℕ) (keys' reps ids : List ℕ) (c : Classed k (cut (suc k) f rows) g keys' reps ids) where
  pub numbered : Numbered k f g ids
  numbered = go k a some high c
    where
      go : (k : ℕ) → Reached d k ws f keys rows spare counts → 1 ≤ k → k ≤ d → Classed k (cut (suc k) f rows) g keys' reps ids → Numbered k f g ids
      go zero a some high c = absurd (omega arith)
      go (suc k) a some high c = numbered-up d k ws p f keys rows spare counts a high g keys' reps ids c

  file-is : matrix_file g f (entries_of (cells_of d ws) k) ≡ market_of d k ws
  file-is = go k a some high c
    where
      go : (k : ℕ) → Reached d k ws f keys rows spare counts → 1 ≤ k → k ≤ d → Classed k (cut (suc k) f rows) g keys' reps ids → matrix_file g f (entries_of (cells_of d ws) k) ≡ market_of d k ws
      go zero a some high c = absurd (omega arith)
      go (suc k) a some high c = file-up d k ws p f keys rows spare counts a high g keys' reps ids c

  pub market-handed : (r : Counted) (bytes bytes' : List ℕ) → ((es : List Entry) → EntryLists k f ids es → FileHanded (matrix_file g f es) r bytes bytes') → FileHanded (market_of d k ws) r bytes bytes'
  market-handed r bytes bytes' h =
      subst (λ (z : List ℕ). FileHanded z r bytes bytes') file-is (h (entries_of (cells_of d ws) k) (entry-lists d k ws f keys rows spare counts a some high g keys' reps ids c))

-- ---- measured in no bytes, and then written
abbrev raw : ℕ → ℕ → ℕ → List ℕ → List ℕ
raw k f g ids = head_word ++ (line_of_three (decimal g) (decimal f) (decimal (f * (k + 1))) ++ lines_below k ids (f * (k + 1)))

pub raw-fits : (k f g : ℕ) (ids : List ℕ) → Numbered k f g ids → (len : ℕ) (to part : List ℕ) → Wrote (raw k f g ids) 0 to len part → len < 4294967296
raw-fits k f g ids n len to part w =
    omega (
      arith,
      wrote-long w,
      length-append head_word (line_of_three (decimal g) (decimal f) (decimal (f * (k + 1))) ++ lines_below k ids (f * (k + 1))),
      length-append (line_of_three (decimal g) (decimal f) (decimal (f * (k + 1)))) (lines_below k ids (f * (k + 1))),
      sizes-long g f (f * (k + 1)),
      lines_long k ids (f * (k + 1)),
      n.entries,
    )

module _ (k f g : ℕ) (ids : List ℕ) (bytes : List ℕ) (len : ℕ) (part : List ℕ) (w : Wrote (raw k f g ids) 0 [] len part) (es : List Entry) (a : EntryLists k f ids es) where
  same : part ++ bytes ≡ bytes
  same = ap (λ (z : List ℕ). z ++ bytes) (w.stored ∙ wrote-nowhere (raw k f g ids) 0)

  measured : len ≡ length (matrix_file g f es)
  measured = wrote-long w ∙ ap length (file-same k f ids es a g)

  pub hand-short : length (part ++ bytes) < len → FileHanded (matrix_file g f es) (Err TooShort) bytes (part ++ bytes)
  hand-short s = record { handed = []; gives = short (omega (arith, measured, ap length same)); result = same }

  pub hand-written : (r : ℕ) (whole : List ℕ) → len ≤ length (part ++ bytes) → Wrote (raw k f g ids) 0 (part ++ bytes) r whole → FileHanded (matrix_file g f es) (Ok len) bytes whole
  hand-written r whole s b =
      let t : length (matrix_file g f es) ≤ length bytes = omega (arith, measured, ap length same) in
      record {
        handed = matrix_file g f es;
        gives = subst (λ (z : ℕ). GivesFile (matrix_file g f es) (length bytes) (Ok z) (matrix_file g f es)) (sym measured) (written t);
        result = wrote-whole t (subst (λ (z : List ℕ). Wrote (matrix_file g f es) 0 z r whole) same (wrote-same (file-same k f ids es a g) b));
      }

-- ---- after 7
module _ (d k : ℕ) (ws : List ℕ) (ok : Bool) (s : Sound d ws ok) (bytes : List ℕ) where
  pub file-crowded : ok ≡ false → FileWorked d k ws (Err CrowdedFacet) bytes bytes
  file-crowded e = record { handed = []; ends = crowded (s.no e); result = refl }

  pub file-outside : ok ≡ true → ((1 ≤ k) × (k ≤ d) → ⊥) → FileWorked d k ws (Err BadFaces) bytes bytes
  file-outside e h = record { handed = []; ends = rest (s.yes e) (outside h); result = refl }

  pub file-rest : (r : Counted) (bytes' : List ℕ) → ok ≡ true → 1 ≤ k → k ≤ d → FileHanded (market_of d k ws) r bytes bytes' → FileWorked d k ws r bytes bytes'
  file-rest r bytes' e h l q = record { handed = q.handed; ends = rest (s.yes e) (inside (h, l) q.gives); result = q.result }
