-- On a grid that is taken, with no reflected twisted axis, the words by classes are the words of the first mode renamed, none of them names a class twice, and a facet
-- lies in three cells in one mode exactly if it does so in the other; so it never does. Assumes nothing.
use mathlib.Core.Path.{◌≡◌, sym, ap, subst, ◌∙◌}
use mathlib.Core.Bool.{false}
use mathlib.Core.List.{List, [], map}
use Prim.Native.Nat.{ℕ, suc, ◌+◌, ◌*◌, ◌/◌, ◌%◌, ◌≤◌, ◌<◌}
use native.Mathlib.Nat.{mod-lt}
use native.Mathlib.Numerals.{add-one}
use native.Mathlib.Omega.{arith}
use lib.ListN.{length, get_or, length-map}
use lib.Seq.{ext_get_or}
use Rattle.refusal.specs.Says.{fine}
use Rattle.lists.specs.Words.{has_repeat}
use Rattle.lists.specs.Rows.{row}
use Rattle.lists.specs.Rows.{cut, rows}
use Rattle.lists.proofs.Laws.{map_at}
use Rattle.lists.proofs.Rows.{cut_at}
use Rattle.lists.proofs.Flat.{each_long, cut-flat}
use Rattle.lists.proofs.Members.{Mem, Mem-at}
use Rattle.lists.proofs.Words.{first-none}
use Rattle.lists.specs.Tables.{tab}
use Rattle.lists.proofs.Tables.{length-tab, get_or-tab, map-tab, tab-ext}
use Rattle.complex.specs.Cells.{in_order}
use Rattle.complex.specs.Cells as Complex
use Rattle.complex.specs.Facets.{Crowded}
use Rattle.complex_cells.proofs.Words.{Word, Each, In, each_in, each_of, in-at}
use Rattle.quotient.specs.declared.Grid.{Grid}
use Rattle.quotient.specs.Shape.{check_of, cell_count, vertices_of}
use Rattle.quotient.specs.Reduce.{vertex_of}
use Rattle.quotient.specs.Points.{points_of}
use Rattle.quotient.specs.Chain.{Untangled}
use Rattle.quotient.proofs.Onto.{vertex-lt}
use Rattle.grid_words.specs.Cells.{flat_words}
use Rattle.grid_words.specs.WorkNumbered.{cell_no, corner_of}
use Rattle.grid_words.proofs.Corners.{corner-lt}
use Rattle.grid_words.proofs.Flat.{of-tab}
use Rattle.grid_words.proofs.Listed.{listed, cell-length}
use Rattle.grid_words.proofs.Listed as Grids
use Rattle.grid_words.proofs.Good.{row_apart, words_count}
use Rattle.grid_mesh.specs.Words.{glued_cells}
use Rattle.grid_mesh.proofs.Seven.{untangled-never-seven}
use Rattle.grid_chained.specs.Classing.{Classing}
use Rattle.grid_chained.specs.Laws.{Renamed}
use Rattle.grid_chained.proofs.BothModes.{both-modes}
use Rattle.grid_chained_words.specs.Words.{words_by, flat_by}
use Rattle.grid_chained_words.proofs.Listed.{words_long, words-at}
use Rattle.grid_chained_mesh.specs.Words.{first_twice, Crowd}
use Rattle.grid_chained_laws.proofs.Renaming.{repeat-map, crowd-renamed}

-- ---- words under any numbering of the points
module _ (g : Grid) (taken : check_of g ≡ fine) (c : ℕ → ℕ) where
  -- the word of cell x
  abbrev pub word_by : ℕ → List ℕ
  word_by x = map c (cell_no g x)

  pub words-tab : words_by g c ≡ tab (cell_count g) word_by
  words-tab = ap (map (map c)) (listed g taken) ∙ map-tab (map c) (cell_count g) (cell_no g)

  words-many : length (words_by g c) ≡ cell_count g
  words-many = ap length words-tab ∙ length-tab (cell_count g) word_by

  pub each_word : (P : List ℕ → Type 0) → ((x : ℕ) → x < cell_count g → P (word_by x)) → (w : Word) → In w (words_by g c) → P w
  each_word P f w m = let r = of-tab word_by (cell_count g) w (subst (λ (l : List Word). In w l) words-tab m) in subst P r.2 (f r.0 r.1)

  word_long : (x : ℕ) → length (word_by x) ≡ suc g.d
  word_long x = length-map (cell_no g x) c ∙ cell-length g taken x

  pub words-each : Each (λ w. length w ≡ suc g.d) (words_by g c)
  words-each = each_of (λ w. length w ≡ suc g.d) (words_by g c) (each_word (λ w. length w ≡ suc g.d) (λ x h. word_long x))

  by_count : length (flat_by g c) / suc g.d ≡ cell_count g
  by_count =
      ap (λ (n : ℕ). n / suc g.d) (words_long g taken c ∙ sym (Grids.words_long g taken))
      ∙ subst (λ (n : ℕ). length (flat_words g) / n ≡ cell_count g) (add-one g.d) (words_count g taken)

  rows_are : rows (suc g.d) (flat_by g c) ≡ words_by g c
  rows_are =
      ap (λ (n : ℕ). cut (suc g.d) n (flat_by g c)) (by_count ∙ sym words-many)
      ∙ cut-flat (suc g.d) (words_by g c)
      (each_long (suc g.d) (words_by g c) (λ x h. each_in (λ w. length w ≡ suc g.d) (get_or (words_by g c) x []) (words_by g c) words-each (in-at (words_by g c) x h)))

  pub cells_are : Complex.cells_of g.d (flat_by g c) ≡ in_order (suc g.d) (words_by g c)
  unfolding Complex.cells_of
  cells_are = ap (λ (n : ℕ). in_order n (rows n (flat_by g c))) (add-one g.d) ∙ ap (in_order (suc g.d)) rows_are

  pub row_is : (x : ℕ) → x < cell_count g → row (flat_by g c) (suc g.d) x ≡ word_by x
  row_is x h =
      sym (cut_at (suc g.d) (length (flat_by g c) / suc g.d) (flat_by g c) x (omega (arith, by_count)))
      ∙ ap (λ (l : List Word). get_or l x []) (rows_are ∙ words-tab) ∙ get_or-tab (cell_count g) word_by x [] h

  -- a word's numbers are those of its corners
  pub word_low : (n : ℕ) → ((p : ℕ) → p < points_of g → c p < n) → (x a : ℕ) → Mem a (word_by x) → a < n
  word_low n f x a m =
      let r = Mem-at a (word_by x) m in
      let l : r.0 ≤ g.d = omega (arith, r.1, word_long x) in
      let e : get_or (word_by x) r.0 0 ≡ c (corner_of g x r.0) = map_at c (cell_no g x) r.0 0 0 (omega (arith, cell-length g taken x)) in
      subst (λ (v : ℕ). v < n) (sym e ∙ r.2) (f (corner_of g x r.0) (corner-lt g taken x r.0 l))

-- one numbering made of another
module _ (g : Grid) (taken : check_of g ≡ fine) (c e f : ℕ → ℕ) (same : (p : ℕ) → p < points_of g → f (e p) ≡ c p) where
  word-renamed : (x : ℕ) → map c (cell_no g x) ≡ map f (map e (cell_no g x))
  word-renamed x =
      ext_get_or 0 (map c (cell_no g x)) (map f (map e (cell_no g x)))
      (length-map (cell_no g x) c ∙ sym (length-map (cell_no g x) e) ∙ sym (length-map (map e (cell_no g x)) f))
      (λ j h.
      let l : j < length (cell_no g x) = omega (arith, length-map (cell_no g x) c) in
      map_at c (cell_no g x) j 0 0 l ∙ sym (same (corner_of g x j) (corner-lt g taken x j (omega (arith, cell-length g taken x)))) ∙ ap f (sym (map_at e (cell_no g x) j 0 0 l))
      ∙ sym (map_at f (map e (cell_no g x)) j 0 0 (omega (arith, length-map (cell_no g x) e))))

  pub words_renamed : words_by g c ≡ map (map f) (words_by g e)
  words_renamed =
      words-tab g taken c ∙ tab-ext (cell_count g) _ _ (λ x h. word-renamed x) ∙ sym (map-tab (map f) (cell_count g) (λ x. map e (cell_no g x)))
      ∙ ap (map (map f)) (sym (words-tab g taken e))

  pub flat-renamed : flat_by g c ≡ map f (flat_by g e)
  flat-renamed =
      ext_get_or 0 (flat_by g c) (map f (flat_by g e)) (words_long g taken c ∙ sym (words_long g taken e) ∙ sym (length-map (flat_by g e) f))
      (λ i h.
      let l : i < cell_count g * suc g.d = omega (arith, words_long g taken c) in
      let r : i % suc g.d < suc g.d = mod-lt i (omega arith) in
      words-at g taken c i l ∙ sym (same (corner_of g (i / suc g.d) (i % suc g.d)) (corner-lt g taken (i / suc g.d) (i % suc g.d) (omega arith))) ∙ ap f (sym (words-at g taken e i l))
      ∙ sym (map_at f (flat_by g e) i 0 0 (omega (arith, words_long g taken e))))

  -- where f keeps the numbers of e apart, and no word by e names a number twice
  module _ (n : ℕ) (low : (p : ℕ) → p < points_of g → e p < n) (one : (a b : ℕ) → a < n → b < n → f a ≡ f b → a ≡ b) (single : (x : ℕ) → x < cell_count g → has_repeat (map e (cell_no g x)) ≡ false) where
    pub single-renamed : (x : ℕ) → x < cell_count g → has_repeat (map c (cell_no g x)) ≡ false
    single-renamed x h = subst (λ (w : List ℕ). has_repeat w ≡ false) (sym (word-renamed x)) (repeat-map n f one (map e (cell_no g x)) (word_low g taken e n low x) (single x h))

    pub crowd-along : Crowd g (flat_by g e) → Crowd g (flat_by g c)
    crowd-along w =
        subst (λ (cs : List Word). Crowded g.d cs) (sym (cells_are g taken c ∙ ap (in_order (suc g.d)) words_renamed))
        (crowd-renamed g.d n (words_by g e) f (words-each g taken e) (each_word g taken e (λ v. has_repeat v ≡ false) single)
        (each_word g taken e (λ v. (a : ℕ) → Mem a v → a < n) (λ x h. word_low g taken e n low x)) one
        (subst (λ (cs : List Word). Crowded g.d cs) (cells_are g taken e) w))

-- ---- both modes
module _ (g : Grid) (taken : check_of g ≡ fine) (untangled : Untangled g) (c : ℕ → ℕ) (m : ℕ) (k : Classing g c m) where
  abbrev pub names : Renamed g c m
  names = both-modes g taken untangled c m k

  -- the words by classes are those of the first mode renamed, and back
  pub words-to : flat_by g c ≡ map names.to (flat_words g)
  words-to = flat-renamed g taken c (vertex_of g) names.to names.class

  pub words-from : flat_words g ≡ map names.from (flat_by g c)
  words-from = flat-renamed g taken (vertex_of g) c names.from names.vertex

  to_one : (a b : ℕ) → a < vertices_of g → b < vertices_of g → names.to a ≡ names.to b → a ≡ b
  to_one a b ha hb e = sym (names.there a ha) ∙ ap names.from e ∙ names.there b hb

  from_one : (a b : ℕ) → a < m → b < m → names.from a ≡ names.from b → a ≡ b
  from_one a b ha hb e = sym (names.back a ha) ∙ ap names.to e ∙ names.back b hb

  single : (x : ℕ) → x < cell_count g → has_repeat (map (vertex_of g) (cell_no g x)) ≡ false
  single x h = subst (λ (w : List ℕ). has_repeat w ≡ false) (row_is g taken (vertex_of g) x h) (row_apart g taken x h)

  single-class : (x : ℕ) → x < cell_count g → has_repeat (map c (cell_no g x)) ≡ false
  single-class = single-renamed g taken c (vertex_of g) names.to names.class (vertices_of g) (vertex-lt g taken) to_one single

  -- 4 is never given
  pub never-four : first_twice g (flat_by g c) ≡ cell_count g
  never-four =
      first-none (λ x. has_repeat (row (flat_by g c) (g.d + 1) x)) (cell_count g)
      (λ x h. subst (λ (n : ℕ). has_repeat (row (flat_by g c) n x) ≡ false) (sym (add-one g.d)) (subst (λ (w : List ℕ). has_repeat w ≡ false) (sym (row_is g taken c x h)) (single-class x h)))

  -- a facet in three cells in one mode is one in the other; and so 7 is never given
  pub crowd-to : Crowded g.d (glued_cells g) → Crowd g (flat_by g c)
  crowd-to = crowd-along g taken c (vertex_of g) names.to names.class (vertices_of g) (vertex-lt g taken) to_one single

  pub crowd-from : Crowd g (flat_by g c) → Crowded g.d (glued_cells g)
  crowd-from = crowd-along g taken (vertex_of g) c names.from names.vertex m k.below from_one single-class

  pub never-seven : Crowd g (flat_by g c) → ⊥
  never-seven x = untangled-never-seven g taken untangled (crowd-from x)
