-- The words of a grid that is taken and the cells they sort to, by their corners: two words sort to one cell exactly if they have the same vertices, and three words
-- that have the same vertices but for one in each are a facet in three cells, unless two of them are one cell. Assumes nothing.
use Rattle.refusal.specs.Says.{fine}
use mathlib.Core.Path.{◌≡◌, refl, sym, ap, subst, ◌∙◌}
use mathlib.Core.Bool.{false}
use mathlib.Core.List.{List, [], map}
use Prim.Native.Nat.{ℕ, suc, ◌/◌, ◌≤◌, ◌<◌}
use native.Mathlib.Numerals.{add-one}
use native.Mathlib.Decide.{dec_lt}
use native.Mathlib.Omega.{arith}
use lib.ListN.{length, get_or}
use Rattle.lists.specs.Words.{has_repeat}
use Rattle.lists.specs.Rows.{cut, rows, row}
use Rattle.lists.proofs.Rows.{cut_at}
use Rattle.lists.proofs.Flat.{each_long, cut-flat}
use Rattle.lists.proofs.Members.{Mem, Mem-of, Mem-at, Pairs-at}
use Rattle.multiindex.specs.Sort.{sort_word}
use Rattle.multiindex.proofs.SortLaws.{sort-length}
use Rattle.lists.proofs.Tables.{get_or-tab}
use Rattle.sorting.proofs.Colex.{row-cell}
use Rattle.complex.specs.Cells.{in_order}
use Rattle.complex.specs.Cells as Complex
use Rattle.complex.specs.Facets.{cell_at, facet_at, Mates, Crowded, Cells}
use Rattle.complex_cells.proofs.Words.{Word, Each, In, each_in, each_of, in-at, at_in}
use Rattle.complex_cells.proofs.Order.{order_from, order-has}
use Rattle.complex_cells.proofs.Strict.{sort-strict}
use Rattle.quotient.specs.declared.Grid.{Grid}
use Rattle.quotient.specs.Shape.{check_of, cell_count}
use Rattle.quotient.specs.Reduce.{vertex_of}
use Rattle.grid_words.specs.Cells.{words_of, flat_words}
use Rattle.grid_words.specs.WorkNumbered.{cell_no, corner_of}
use Rattle.grid_words.proofs.Corners.{corners-apart}
use Rattle.grid_words.proofs.Flat.{to-tab, of-tab}
use Rattle.grid_words.proofs.Listed.{words-tab, word-length}
use Rattle.grid_words.proofs.Good.{word_at, row_apart, words_count}
use Rattle.grid_mesh.specs.Words.{glued_cells}
use Rattle.grid_mesh.proofs.Steps.{words-many}
use Rattle.grid_mesh.proofs.Members.{sort-mem, mem-sort, Rises, one_word, one-facet}

-- the word of cell number x
abbrev pub word_no : Grid → ℕ → List ℕ
word_no g x = map (vertex_of g) (cell_no g x)

-- the vertex of corner j of cell x
abbrev pub vertex_no : Grid → ℕ → ℕ → ℕ
vertex_no g x j = vertex_of g (corner_of g x j)

module _ (g : Grid) (taken : check_of g ≡ fine) where
  pub words-each : Each (λ w. length w ≡ suc g.d) (words_of g)
  words-each =
      each_of (λ w. length w ≡ suc g.d) (words_of g)
      (λ w m. let r = of-tab (word_no g) (cell_count g) w (subst (λ (l : List Word). In w l) (words-tab g taken) m) in ap length (sym r.2) ∙ word-length g taken r.0)

  -- the grid's words are its flat list cut into words
  pub own-words : rows (suc g.d) (flat_words g) ≡ words_of g
  own-words =
      let c : length (flat_words g) / suc g.d ≡ cell_count g = subst (λ (n : ℕ). length (flat_words g) / n ≡ cell_count g) (add-one g.d) (words_count g taken) in
      ap (λ (n : ℕ). cut (suc g.d) n (flat_words g)) (c ∙ sym (words-many g taken)) ∙ cut-flat (suc g.d) (words_of g)
      (each_long (suc g.d) (words_of g) (λ c h. each_in (λ w. length w ≡ suc g.d) (get_or (words_of g) c []) (words_of g) words-each (in-at (words_of g) c h)))

  pub glued-are : glued_cells g ≡ in_order (suc g.d) (words_of g)
  unfolding Complex.cells_of
  glued-are = ap (λ (n : ℕ). in_order n (rows n (flat_words g))) (add-one g.d) ∙ ap (in_order (suc g.d)) own-words

  pub word-is : (x : ℕ) → x < cell_count g → get_or (words_of g) x [] ≡ word_no g x
  word-is x h = ap (λ (l : List Word). get_or l x []) (words-tab g taken) ∙ get_or-tab (cell_count g) (word_no g) x [] h

  row_is : (x : ℕ) → x < cell_count g → row (flat_words g) (suc g.d) x ≡ word_no g x
  row_is x h =
      let c : length (flat_words g) / suc g.d ≡ cell_count g = subst (λ (n : ℕ). length (flat_words g) / n ≡ cell_count g) (add-one g.d) (words_count g taken) in
      sym (cut_at (suc g.d) (length (flat_words g) / suc g.d) (flat_words g) x (omega arith)) ∙ ap (λ (l : List Word). get_or l x []) own-words ∙ word-is x h

  pub word-corner : (x j : ℕ) → x < cell_count g → j ≤ g.d → get_or (word_no g x) j 0 ≡ vertex_no g x j
  word-corner x j h l = ap (λ (w : List ℕ). get_or w j 0) (sym (row_is x h)) ∙ row-cell (flat_words g) (suc g.d) x j (omega arith) ∙ word_at g taken x j h l

  pub corner-one : (x i j : ℕ) → i ≤ g.d → j ≤ g.d → vertex_no g x i ≡ vertex_no g x j → i ≡ j
  corner-one x i j hi hj e =
      elim (dec_lt i j) [
        | yes l ↦ absurd (corners-apart g taken x i j l hj e)
        | no l ↦ elim (dec_lt j i) [ yes m ↦ absurd (corners-apart g taken x j i m hi (sym e)) | no m ↦ omega arith ]
      ]

  -- ---- a word's numbers are the vertices of its corners
  abbrev pub Corner : ℕ → ℕ → Type 0
  Corner x v = (j : ℕ) × (j ≤ g.d) × (vertex_no g x j ≡ v)

  -- those but corner i
  abbrev pub Other : ℕ → ℕ → ℕ → Type 0
  Other x i v = (j : ℕ) × (j ≤ g.d) × (j ≡ i → ⊥) × (vertex_no g x j ≡ v)

  abbrev pub sorted : ℕ → List ℕ
  sorted x = sort_word (word_no g x)

  pub corner-mem : (x v : ℕ) → x < cell_count g → Corner x v → Mem v (sorted x)
  corner-mem x v h c =
      sort-mem v (word_no g x) (subst (λ (u : ℕ). Mem u (word_no g x)) (word-corner x c.0 h c.1 ∙ c.2) (Mem-of (word_no g x) c.0 (omega (arith, word-length g taken x, c.1))))

  pub mem-corner : (x v : ℕ) → x < cell_count g → Mem v (sorted x) → Corner x v
  mem-corner x v h m =
      let r = Mem-at v (word_no g x) (mem-sort v (word_no g x) m) in
      let l : r.0 ≤ g.d = omega (arith, r.1, word-length g taken x) in
      (r.0, l, sym (word-corner x r.0 h l) ∙ r.2)

  pub sorted_rises : (x : ℕ) → x < cell_count g → Rises (sorted x)
  sorted_rises x h = sort-strict (word_no g x) (subst (λ (w : List ℕ). has_repeat w ≡ false) (row_is x h) (row_apart g taken x h))

  pub sorted_long : (x : ℕ) → length (sorted x) ≡ suc g.d
  sorted_long x = sort-length (word_no g x) ∙ word-length g taken x

  -- two words sort to one cell exactly if they have the same vertices
  pub same-cell : (x y : ℕ) → x < cell_count g → y < cell_count g → ((v : ℕ) → Corner x v → Corner y v) → ((v : ℕ) → Corner y v → Corner x v) → sort_word (word_no g x) ≡ sort_word (word_no g y)
  same-cell x y hx hy f h =
      one_word (sorted x) (sorted y) (sorted_rises x hx) (sorted_rises y hy) (λ v m. corner-mem y v hy (f v (mem-corner x v hx m))) (λ v m. corner-mem x v hx (h v (mem-corner y v hy m)))

  pub cell_same : (x y : ℕ) → x < cell_count g → y < cell_count g → sort_word (word_no g x) ≡ sort_word (word_no g y) → (v : ℕ) → Corner x v → Corner y v
  cell_same x y hx hy e v c = mem-corner y v hy (subst (λ (w : List ℕ). Mem v w) e (corner-mem x v hx c))

  -- ---- each word's cell stands in the list of cells, and each of these is a word's
  pub cell-of : (x : ℕ) → x < cell_count g → (c : ℕ) × (c < length (glued_cells g)) × (cell_at (glued_cells g) c ≡ sort_word (word_no g x))
  cell-of x h =
      at_in (sorted x) (glued_cells g)
      (subst (λ (cs : List Word). In (sorted x) cs) (sym glued-are)
      (order-has (suc g.d) (words_of g) (word_no g x) words-each (subst (λ (ws : List Word). In (word_no g x) ws) (sym (words-tab g taken)) (to-tab (word_no g) (cell_count g) x h))))

  pub word_of : (c : ℕ) → c < length (glued_cells g) → (x : ℕ) × (x < cell_count g) × (cell_at (glued_cells g) c ≡ sort_word (word_no g x))
  word_of c h =
      let u = order_from (suc g.d) (words_of g) (cell_at (glued_cells g) c) (subst (λ (cs : List Word). In (cell_at (glued_cells g) c) cs) glued-are (in-at (glued_cells g) c h)) in
      let r = of-tab (word_no g) (cell_count g) u.0 (subst (λ (ws : List Word). In u.0 ws) (words-tab g taken) u.1) in
      (r.0, r.1, sym (ap sort_word r.2 ∙ u.2))

  pub glued-good : Cells g.d (glued_cells g)
  glued-good =
      record {
        long = λ c h. let r = word_of c h in ap length r.2 ∙ sorted_long r.0;
        rising = λ c i j h l k. let r = word_of c h in subst (λ (w : List ℕ). get_or w i 0 < get_or w j 0) (sym r.2) (Pairs-at (λ a b. a < b) (sorted r.0) i j (sorted_rises r.0 r.1) l (omega (arith, sorted_long r.0)));
      }

  -- where a word's cell stands in the list of cells, and a corner in its cell
  record Spot (x i : ℕ) : Type 0 where
    cell : ℕ
    cell_in : cell < length (glued_cells g)
    is : cell_at (glued_cells g) cell ≡ sort_word (word_no g x)
    at : ℕ
    at_in : at < length (sort_word (word_no g x))
    holds : get_or (sort_word (word_no g x)) at 0 ≡ vertex_no g x i

  spot_of : (x i : ℕ) → x < cell_count g → i ≤ g.d → Spot x i
  spot_of x i h l =
      let c = cell-of x h in
      let a = Mem-at (vertex_no g x i) (sorted x) (corner-mem x (vertex_no g x i) h (i, l, refl)) in
      record { cell = c.0; cell_in = c.1; is = c.2; at = a.0; at_in = a.1; holds = a.2 }

  -- the same vertices but for corner i of x and corner j of y
  pub record OneFacet (x i y j : ℕ) : Type 0 where
    pub forth : (v : ℕ) → Other x i v → Other y j v
    pub back : (v : ℕ) → Other y j v → Other x i v

  others : (x i y j : ℕ) (hx : x < cell_count g) (hy : y < cell_count g) (li : i ≤ g.d) (lj : j ≤ g.d) → ((v : ℕ) → Other x i v → Other y j v) → (s : Spot x i) (t : Spot y j) → (v : ℕ) → Mem v (sorted x) → (v ≡ get_or (sorted x) s.at 0 → ⊥) → Mem v (sorted y) × (v ≡ get_or (sorted y) t.at 0 → ⊥)
  others x i y j hx hy li lj f s t v m n =
      let c = mem-corner x v hx m in
      let o = f v (c.0, c.1, (λ e. n (sym c.2 ∙ ap (vertex_no g x) e ∙ sym s.holds)), c.2) in
      (corner-mem y v hy (o.0, o.1, o.3), λ e. o.2 (corner-one y o.0 j o.1 lj (o.3 ∙ e ∙ t.holds)))

  mates-of : 0 < g.d → (x i y j : ℕ) → x < cell_count g → y < cell_count g → i ≤ g.d → j ≤ g.d → OneFacet x i y j → (sort_word (word_no g x) ≡ sort_word (word_no g y) → ⊥) → (s : Spot x i) (t : Spot y j) → Mates g.d (glued_cells g) s.cell s.at t.cell t.at
  mates-of some x i y j hx hy li lj o ne s t =
      record {
        this = record { some = some; cell = s.cell_in; place = omega (arith, s.at_in, sorted_long x) };
        that = record { some = some; cell = t.cell_in; place = omega (arith, t.at_in, sorted_long y) };
        apart = λ e. ne (sym s.is ∙ ap (cell_at (glued_cells g)) e ∙ t.is);
        one =
            ap (λ (w : List ℕ). facet_at w s.at) s.is
            ∙ one-facet (sorted x) (sorted y) s.at t.at s.at_in t.at_in (sorted_rises x hx) (sorted_rises y hy) (others x i y j hx hy li lj o.forth s t) (others y j x i hy hx lj li o.back t s)
            ∙ ap (λ (w : List ℕ). facet_at w t.at) (sym t.is);
      }

  -- three words with one facet, no two of them one cell
  pub crowd : 0 < g.d → (x i y j z k : ℕ) → x < cell_count g → y < cell_count g → z < cell_count g → i ≤ g.d → j ≤ g.d → k ≤ g.d → OneFacet x i y j → OneFacet x i z k
      → (sort_word (word_no g x) ≡ sort_word (word_no g y) → ⊥) → (sort_word (word_no g x) ≡ sort_word (word_no g z) → ⊥) → (sort_word (word_no g y) ≡ sort_word (word_no g z) → ⊥) → Crowded g.d (glued_cells g)
  crowd some x i y j z k hx hy hz li lj lk a b nxy nxz nyz =
      let s = spot_of x i hx li in
      let t = spot_of y j hy lj in
      let u = spot_of z k hz lk in
      record {
        cell = s.cell;
        first = t.cell;
        second = u.cell;
        at = s.at;
        at_first = t.at;
        at_second = u.at;
        one = mates-of some x i y j hx hy li lj a nxy s t;
        other = mates-of some x i z k hx hz li lk b nxz s u;
        apart = λ e. nyz (sym t.is ∙ ap (cell_at (glued_cells g)) e ∙ u.is);
      }
