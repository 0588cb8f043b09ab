-- Where no axis with a non-empty set is itself reflected, 7 is never given: no facet lies in three cells. Two words with one facet, the one without corner i and the other
-- without corner j, are of one box and i is j, or i is the first corner and j the last, or the other way round (proofs/Seams). In one box the two words are one where i is
-- the first corner or the last, and elsewhere there are two orders only that are the same but for the set of the first i axes. So of three words with one facet two are
-- one. Assumes nothing.
use Rattle.refusal.specs.Says.{fine}
use mathlib.Core.Path.{◌≡◌, refl, sym, ap, subst, ◌∙◌}
use mathlib.Core.Bool.{false}
use mathlib.Core.Logic.{◌⊎◌, inl, inr, ⊎_elim}
use mathlib.Core.List.{List, [], ◌∷◌}
use Prim.Native.Nat.{ℕ, zero, suc, ◌+◌, ◌-◌, ◌/◌, ◌%◌, ◌^◌, ◌≤◌, ◌<◌}
use native.Mathlib.Nat.{zero-div}
use native.Mathlib.Decide.{ℕ_discrete, dec_lt}
use native.Mathlib.Omega.{arith}
use lib.ListN.{length, get_or}
use lib.Seq.{ext_get_or}
use Rattle.lists.proofs.Members.{Mem, Mem-of}
use Rattle.multiindex.specs.Sort.{sort_word}
use Rattle.lists.specs.Rows.{rows}
use Rattle.complex.specs.Cells as Complex
use Rattle.complex.specs.Facets.{cell_at, facet_at, Crowded}
use Rattle.complex_cells.proofs.Words.{Word, Each, Rising}
use Rattle.complex_cells.proofs.Order.{Colex, colex-irr, order-rising}
use Rattle.quotient.specs.declared.Grid.{Grid}
use Rattle.quotient.specs.Fold.{member}
use Rattle.quotient.specs.Shape.{points_on, mask_at, check_of, cell_count}
use Rattle.quotient.specs.Chain.{Untangled}
use Rattle.quotient.proofs.Taken.{taken-low}
use Rattle.quotient.proofs.Radix.{number_same}
use Rattle.grid_words.specs.Cells.{box_at, flat_words}
use Rattle.grid_words.specs.WorkNumbered.{each_box, cell_no, corner_of}
use Rattle.grid_words.proofs.Corners.{dim, box-lt}
use Rattle.grid_words.proofs.Listed.{cell-length, cell-before}
use Rattle.grid_mesh.specs.Words.{glued_cells}
use Rattle.grid_mesh.proofs.Turns.{up, three, up-each, up-sum}
use Rattle.grid_mesh.proofs.Members.{facet-mem, mem-facet}
use Rattle.grid_mesh.proofs.Words.{word_no, vertex_no, corner-one, corner-mem, mem-corner, sorted_rises, sorted_long, word_of, OneFacet}
use Rattle.grid_mesh.proofs.Twice.{At, at_of, chain, vertex-at, two-words}
use Rattle.grid_mesh.proofs.Seams.{MatchedBut, AgreeBut, agree-or-across}

-- ---- a rising list by number
each_at : (P : Word → Type 0) (xs : List Word) (i : ℕ) → Each P xs → i < length xs → P (get_or xs i [])
each_at P [] i a h = absurd (let z : ⊥ = omega arith in z)
each_at P (x ∷ xs) zero a h = a.0
each_at P (x ∷ xs) (suc i) a h = each_at P xs i a.1 (omega arith)

rising-at : (R : Word → Word → Type 0) (xs : List Word) (i j : ℕ) → Rising R xs → i < j → j < length xs → R (get_or xs i []) (get_or xs j [])
rising-at R [] i j p h l = absurd (let z : ⊥ = omega arith in z)
rising-at R (x ∷ xs) i zero p h l = absurd (let z : ⊥ = omega arith in z)
rising-at R (x ∷ xs) zero (suc j) p h l = each_at (R x) xs j p.0 (omega arith)
rising-at R (x ∷ xs) (suc i) (suc j) p h l = rising-at R xs i j p.1 (omega arith) (omega arith)

cells-rising : (d : ℕ) (ws : List ℕ) → Rising (Colex (d + 1)) (Complex.cells_of d ws)
unfolding Complex.cells_of
cells-rising d ws = order-rising (d + 1) (rows (d + 1) ws)

module _ (g : Grid) (taken : check_of g ≡ fine) where
  -- no cell stands twice in the list
  cell-once : (c e : ℕ) → c < e → e < length (glued_cells g) → cell_at (glued_cells g) c ≡ cell_at (glued_cells g) e → ⊥
  cell-once c e h l q =
      colex-irr (g.d + 1) (cell_at (glued_cells g) e)
      (subst (λ (w : Word). Colex (g.d + 1) w (cell_at (glued_cells g) e)) q (rising-at (Colex (g.d + 1)) (glued_cells g) c e (cells-rising g.d (flat_words g)) h l))

  cells-apart : (c e : ℕ) → c < length (glued_cells g) → e < length (glued_cells g) → (c ≡ e → ⊥) → cell_at (glued_cells g) c ≡ cell_at (glued_cells g) e → ⊥
  cells-apart c e hc he n q = elim (dec_lt c e) [ yes l ↦ cell-once c e l he q | no l ↦ cell-once e c (omega arith) hc (sym q) ]

  -- ---- one facet of two cells is one facet of their words
  module _ (x i y j a b : ℕ) (hx : x < cell_count g) (hy : y < cell_count g) (li : i ≤ g.d) (ha : a < length (sort_word (word_no g x))) (hb : b < length (sort_word (word_no g y))) (ea : get_or (sort_word (word_no g x)) a 0 ≡ vertex_no g x i)
      (eb : get_or (sort_word (word_no g y)) b 0 ≡ vertex_no g y j) (e : facet_at (sort_word (word_no g x)) a ≡ facet_at (sort_word (word_no g y)) b) where
    facet-forth : (v : ℕ) → (l : ℕ) × (l ≤ g.d) × (l ≡ i → ⊥) × (vertex_no g x l ≡ v) → (r : ℕ) × (r ≤ g.d) × (r ≡ j → ⊥) × (vertex_no g y r ≡ v)
    facet-forth v (l, hl, n, q) =
        let m : Mem v (facet_at (sort_word (word_no g x)) a) = facet-mem v (sort_word (word_no g x)) a (corner-mem g taken x v hx (l, hl, q)) (λ z. n (corner-one g taken x l i hl li (q ∙ z ∙ ea))) in
        let (k, f) = mem-facet v (sort_word (word_no g y)) b hb (sorted_rises g taken y hy) (subst (λ (w : List ℕ). Mem v w) e m) in
        let (r, hr, s) = mem-corner g taken y v hy k in
        (r, hr, (λ z. f (sym s ∙ ap (vertex_no g y) z ∙ sym eb)), s)

  -- ---- a cell's word without a corner, by box and order
  but-matched : (x i y j b t c s : ℕ) → At g taken x b t → At g taken y c s → OneFacet g taken x i y j → MatchedBut g (box_at g b) (box_at g c) (up g.d t) (up g.d s) i j
  but-matched x i y j b t c s a a' o =
      record {
        forth =
            λ l h n.
            let (r, hr, nr, q) = o.forth (vertex_no g x l) (l, h, n, refl) in
            (r, hr, nr, sym (vertex-at g taken x b t l a h) ∙ sym q ∙ vertex-at g taken y c s r a' hr);
        back =
            λ r h n.
            let (l, hl, nl, q) = o.back (vertex_no g y r) (r, h, n, refl) in
            (l, hl, nl, sym (vertex-at g taken x b t l a hl) ∙ q ∙ vertex-at g taken y c s r a' h);
      }

  -- the same corners: the same word
  one_number : (x y : ℕ) → x < cell_count g → y < cell_count g → ((l : ℕ) → l ≤ g.d → corner_of g x l ≡ corner_of g y l) → x ≡ y
  one_number x y hx hy f =
      let q : cell_no g x ≡ cell_no g y = ext_get_or 0 (cell_no g x) (cell_no g y) (cell-length g taken x ∙ sym (cell-length g taken y)) (λ l h. f l (omega (arith, cell-length g taken x))) in
      elim (dec_lt x y) [
        | yes l ↦ absurd (colex-irr (suc g.d) (cell_no g y) (subst (λ (w : List ℕ). Colex (suc g.d) w (cell_no g y)) q (cell-before g taken x y l hy)))
        | no l ↦
            elim (dec_lt y x) [
              | yes m ↦ absurd (colex-irr (suc g.d) (cell_no g x) (subst (λ (w : List ℕ). Colex (suc g.d) w (cell_no g x)) (sym q) (cell-before g taken y x m hx)))
              | no m ↦ omega arith
            ]
      ]

  module _ (x y b c t s : ℕ) (a : At g taken x b t) (a' : At g taken y c s) (box : (k : ℕ) → k < g.d → box_at g b k ≡ box_at g c k) where
    one_word : ((l k : ℕ) → l ≤ g.d → k < g.d → up g.d t l k ≡ up g.d s l k) → x ≡ y
    one_word f =
        one_number x y a.in-grid a'.in-grid
        (λ l h.
        a.corner l h
        ∙ number_same (points_on g) (λ k. box_at g b k + up g.d t l k) (λ k. box_at g c k + up g.d s l k) g.d (λ k m. omega (arith, box k m, f l k h m))
        ∙ sym (a'.corner l h))

    -- where they differ at the first corner or the last at most, they are one
    one-word-but : (i : ℕ) → (i ≡ 0) ⊎ (i ≡ g.d) → ((l k : ℕ) → l ≤ g.d → (l ≡ i → ⊥) → k < g.d → up g.d t l k ≡ up g.d s l k) → x ≡ y
    one-word-but i z f =
        one_word
        (λ l k h m.
        elim (ℕ_discrete l i) [
          | yes e ↦
              ⊎_elim
              (λ (o : i ≡ 0). ap (λ (n : ℕ). up g.d t n k) (e ∙ o) ∙ ap (λ (n : ℕ). up g.d s n k) (sym (e ∙ o)))
              (λ (o : i ≡ g.d).
              ap (λ (n : ℕ). up g.d t n k) (e ∙ o)
              ∙ up-each g.d t (dim g taken) a.order-in k m
              ∙ sym (up-each g.d s (dim g taken) a'.order-in k m)
              ∙ ap (λ (n : ℕ). up g.d s n k) (sym (e ∙ o)))
              z
          | no e ↦ f l k h e m
        ])

  -- ---- three words
  facet-through : (x i y j z k : ℕ) → OneFacet g taken x i y j → OneFacet g taken x i z k → OneFacet g taken y j z k
  facet-through x i y j z k o o' = record { forth = λ v c. o'.forth v (o.back v c); back = λ v c. o.forth v (o'.back v c) }

  module _ (untangled : Untangled g) where
    abbrev Across : ℕ → ℕ → Type 0
    Across i j = ((i ≡ 0) × (j ≡ g.d)) ⊎ ((j ≡ 0) × (i ≡ g.d))

    abbrev Agreeing : ℕ → ℕ → ℕ → ℕ → ℕ → ℕ → Type 0
    Agreeing b t c s i j = AgreeBut g (box_at g b) (box_at g c) (up g.d t) (up g.d s) i j

    pair : (x i y j b t c s : ℕ) → At g taken x b t → At g taken y c s → j ≤ g.d → OneFacet g taken x i y j → Across i j ⊎ Agreeing b t c s i j
    pair x i y j b t c s a a' lj o =
        agree-or-across g taken untangled (box_at g b) (box_at g c) (box-lt g taken b) (box-lt g taken c) (up g.d t) (up g.d s) (chain g taken t a.order-in) (chain g taken s a'.order-in) i j (but-matched x i y j b t c s a a' o) lj
        (up-sum g.d t (dim g taken) a.order-in) (up-sum g.d s (dim g taken) a'.order-in)

    -- words that agree but for an end corner are one
    at-end : (x i y j b t c s : ℕ) → At g taken x b t → At g taken y c s → (i ≡ 0) ⊎ (i ≡ g.d) → Agreeing b t c s i j → x ≡ y
    at-end x i y j b t c s a a' z r = one-word-but x y b c t s a a' r.box i z r.corner

    module _ (x i y j z k b t c s e r : ℕ) (a : At g taken x b t) (a' : At g taken y c s) (a'' : At g taken z e r) (li : i ≤ g.d) (lj : j ≤ g.d) (lk : k ≤ g.d) (o : OneFacet g taken x i y j) (o' : OneFacet g taken x i z k)
        (nxy : x ≡ y → ⊥) (nxz : x ≡ z → ⊥) (nyz : y ≡ z → ⊥) where
      some : 1 ≤ g.d
      some = taken-low g taken

      end_of : (n : ℕ) → Across i n → (i ≡ 0) ⊎ (i ≡ g.d)
      end_of n (inl w) = inl w.0
      end_of n (inr w) = inr w.1

      -- y and z both lie across: they are of one kind
      both-across : Across i j → Across i k → ⊥
      both-across p p' =
          ⊎_elim
          (λ (w : Across j k). clash p p' w)
          (λ (w : Agreeing c s e r j k). nyz (at-end y j z k c s e r a' a'' (other p) w))
          (pair y j z k c s e r a' a'' lk (facet-through x i y j z k o o'))
        where
          other : Across i j → (j ≡ 0) ⊎ (j ≡ g.d)
          other (inl w) = inr w.1
          other (inr w) = inl w.0

          clash : Across i j → Across i k → Across j k → ⊥
          clash (inl u) (inl v) (inl w) = omega (arith, some, u.1, w.0)
          clash (inl u) (inl v) (inr w) = omega (arith, some, v.1, w.0)
          clash (inl u) (inr v) w = omega (arith, some, u.0, v.1)
          clash (inr u) (inl v) w = omega (arith, some, u.1, v.0)
          clash (inr u) (inr v) (inl w) = omega (arith, some, v.0, w.1)
          clash (inr u) (inr v) (inr w) = omega (arith, some, u.0, w.1)

      -- all three in one box
      one-box : Agreeing b t c s i j → Agreeing b t e r i k → ⊥
      one-box p p' =
          ⊎_elim
          (λ (w : t ≡ s). nxy (one_word x y b c t s a a' p.box (λ l n h m. ap (λ (q : ℕ). up g.d q l n) w)))
          (⊎_elim
          (λ (w : t ≡ r). nxz (one_word x z b e t r a a'' p'.box (λ l n h m. ap (λ (q : ℕ). up g.d q l n) w)))
          (λ (w : s ≡ r). nyz (one_word y z c e s r a' a'' (λ n m. sym (p.box n m) ∙ p'.box n m) (λ l n h m. ap (λ (q : ℕ). up g.d q l n) w))))
          (three g.d t s r i (dim g taken) a.order-in a'.order-in a''.order-in li (λ l n h q m. sym (p.corner l n h q m)) (λ l n h q m. sym (p'.corner l n h q m)))

      never-three : ⊥
      never-three =
          ⊎_elim
          (λ (p : Across i j).
          ⊎_elim
          (λ (p' : Across i k). both-across p p')
          (λ (p' : Agreeing b t e r i k). nxz (at-end x i z k b t e r a a'' (end_of j p) p'))
          (pair x i z k b t e r a a'' lk o'))
          (λ (p : Agreeing b t c s i j).
          ⊎_elim
          (λ (p' : Across i k). nxy (at-end x i y j b t c s a a' (end_of k p') p))
          (λ (p' : Agreeing b t e r i k). one-box p p')
          (pair x i z k b t e r a a'' lk o'))
          (pair x i y j b t c s a a' lj o)

    -- ---- 7 is never given
    pub untangled-never-seven : Crowded g.d (glued_cells g) → ⊥
    untangled-never-seven w =
        let (x, hx, ex) = word_of g taken w.cell w.one.this.cell in
        let (y, hy, ey) = word_of g taken w.first w.one.that.cell in
        let (z, hz, ez) = word_of g taken w.second w.other.that.cell in
        let lx : w.at < length (sort_word (word_no g x)) = omega (arith, w.one.this.place, sorted_long g taken x) in
        let ly : w.at_first < length (sort_word (word_no g y)) = omega (arith, w.one.that.place, sorted_long g taken y) in
        let lz : w.at_second < length (sort_word (word_no g z)) = omega (arith, w.other.that.place, sorted_long g taken z) in
        let (i, li, ei) = mem-corner g taken x (get_or (sort_word (word_no g x)) w.at 0) hx (Mem-of (sort_word (word_no g x)) w.at lx) in
        let (j, lj, ej) = mem-corner g taken y (get_or (sort_word (word_no g y)) w.at_first 0) hy (Mem-of (sort_word (word_no g y)) w.at_first ly) in
        let (k, lk, ek) = mem-corner g taken z (get_or (sort_word (word_no g z)) w.at_second 0) hz (Mem-of (sort_word (word_no g z)) w.at_second lz) in
        let fy : facet_at (sort_word (word_no g x)) w.at ≡ facet_at (sort_word (word_no g y)) w.at_first = ap (λ (c : Word). facet_at c w.at) (sym ex) ∙ w.one.one ∙ ap (λ (c : Word). facet_at c w.at_first) ey in
        let fz : facet_at (sort_word (word_no g x)) w.at ≡ facet_at (sort_word (word_no g z)) w.at_second = ap (λ (c : Word). facet_at c w.at) (sym ex) ∙ w.other.one ∙ ap (λ (c : Word). facet_at c w.at_second) ez in
        let o : OneFacet g taken x i y j =
        record {
          forth = facet-forth x i y j w.at w.at_first hx hy li lx ly (sym ei) (sym ej) fy;
          back = facet-forth y j x i w.at_first w.at hy hx lj ly lx (sym ej) (sym ei) (sym fy);
        } in
        let o' : OneFacet g taken x i z k =
        record {
          forth = facet-forth x i z k w.at w.at_second hx hz li lx lz (sym ei) (sym ek) fz;
          back = facet-forth z k x i w.at_second w.at hz hx lk lz lx (sym ek) (sym ei) (sym fz);
        } in
        never-three x i y j z k (x / each_box g) (each_box g - 1 - x % each_box g) (y / each_box g) (each_box g - 1 - y % each_box g) (z / each_box g) (each_box g - 1 - z % each_box g) (at_of g taken x hx) (at_of g taken y hy) (at_of g taken z hz) li lj lk o o'
        (λ q. cells-apart w.cell w.first w.one.this.cell w.one.that.cell w.one.apart (ex ∙ ap (λ (n : ℕ). sort_word (word_no g n)) q ∙ sym ey))
        (λ q. cells-apart w.cell w.second w.one.this.cell w.other.that.cell w.other.apart (ex ∙ ap (λ (n : ℕ). sort_word (word_no g n)) q ∙ sym ez))
        (λ q. cells-apart w.first w.second w.one.that.cell w.other.that.cell w.apart (ey ∙ ap (λ (n : ℕ). sort_word (word_no g n)) q ∙ sym ez))

    -- so no two words sort to one cell
    pub words-apart : (x y : ℕ) → x < y → y < cell_count g → sort_word (word_no g x) ≡ sort_word (word_no g y) → ⊥
    words-apart x y h l e = untangled-never-seven (two-words g taken x y h l e)

-- ---- a grid that reflects nothing, every axis open or periodic
pub none-reflected : (m k : ℕ) → m ≡ 0 → member m k ≡ false
none-reflected m k e = rw (e, zero-div (2 ^ k))

pub plain-untangled : (g : Grid) → ((a : ℕ) → a < g.d → mask_at g a ≡ 0) → Untangled g
plain-untangled g z a b k la lb lk m = none-reflected (mask_at g b) k (z b lb)

pub plain-never-seven : (g : Grid) → check_of g ≡ fine → ((a : ℕ) → a < g.d → mask_at g a ≡ 0) → Crowded g.d (glued_cells g) → ⊥
plain-never-seven g taken z = untangled-never-seven g taken (plain-untangled g z)
