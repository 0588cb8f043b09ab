-- What stays when cells go: the new cells are the kept ones renamed, in the same order, so every mating of new cells is one of old cells. Assumes nothing.
use Rattle.refusal.specs.Says.{fine}
use mathlib.Core.Bool.{true, false, not}
use mathlib.Core.List.{List, [], ◌∷◌, map, map-map, Memᴰ}
use mathlib.Core.Path.{◌≡◌, sym, ap, ◌∙◌, subst}
use Prim.Native.Nat.{ℕ, zero, suc, ◌+◌, ◌*◌, ◌/◌, ◌%◌, ◌<◌, ◌≤◌}
use native.Mathlib.Nat.{suc-mul, mul-suc, mul-le-mul_right}
use native.Mathlib.Numerals.{add-one}
use native.Mathlib.Omega.{arith}
use lib.ListN.{length, get_or, drop, length-map}
use lib.Seq.{take_all}
use borrow.Author.Tests.{not-true}
use Rattle.lists.specs.Words.{among, has_repeat, largest_of, same_word}
use Rattle.lists.specs.Rows.{flat, rows, row}
use Rattle.lists.proofs.Laws.{map_at}
use Rattle.lists.proofs.Rows.{cut-length, cut_at}
use Rattle.lists.proofs.Words.{first-at, below-largest, same_word_lem, word-true}
use Rattle.lists.proofs.Members.{All, Mem, All-of, All-mem, All-at, Mem-at, Mem-of}
use Rattle.lists.proofs.Flat.{flat-length, flat-at, flat-count, flat-whole, flat-cut, rows-flat}
use Rattle.sorting.proofs.Colex.{row-length}
use Rattle.multiindex.specs.Sign.{Sign}
use Rattle.multiindex.specs.Sort.{sort_word}
use Rattle.multiindex.proofs.SortLaws.{sort-length}
use Rattle.refusal.specs.Limits.{most_vertices}
use Rattle.complex.specs.Check.{Passed, answer_of}
use Rattle.complex.proofs.Fine.{passed-fine}
use Rattle.complex.specs.Cells.{in_order, cells_of}
use Rattle.complex.specs.Facets.{cell_at, facet_at, Mates, Crowded}
use Rattle.complex.specs.Skeleton.{numbers}
use Rattle.complex_cells.proofs.Words.{Word, Each, Rising, In, each_in, each_of, in-at, at_in, rising-by, one_list}
use Rattle.complex_cells.proofs.Order.{Colex, colex-irr, colex-trans, order-rising, order_from, order-has}
use Rattle.complex_cells.proofs.Strict.{sort-all}
use Rattle.complex_cells.proofs.Making.{whole_words}
use Rattle.orientation_signs.specs.Signs.{Coherent}
use Rattle.complex_dropped.specs.Kept.{cell_number, staying, new_number, corners, kept_words, old_numbers, cells_left}
use Rattle.complex_dropped.proofs.Counting.{count_yes, count-mono, count_less, count_most, numbers-at, Stands, numbers-stands, numbers-rising}
use Rattle.complex_dropped.proofs.Renaming.{facet-map, flat_map, one_word, sort-map, colex-map, repeat-map}
use Rattle.complex_dropped.proofs.Members.{among-mem, mem-among, mem-map, map-mem, in_map, map-in, flat-all, keep-from, keep-has, keep-most, bool-no, rising-at, in-memᴰ, flat-mem, largest-mem, largest-below, map_same}

-- ---- a checked word list, and cells to remove
module _ (d : ℕ) (ws gone : List ℕ) (p : Passed d ws) where
  abbrev cs : List Word
  cs = cells_of d ws

  abbrev st : List Word
  st = staying d ws gone

  abbrev xs : List ℕ
  xs = corners d ws gone

  abbrev rename : ℕ → ℕ
  rename = new_number (corners d ws gone)

  abbrev Used : ℕ → Type 0
  Used v = among v (corners d ws gone) ≡ true

  pub rises : (u v : ℕ) → Used u → u < v → rename u < rename v
  rises u v h l = count_less (λ u. among u (corners d ws gone)) u v l h

  -- the words
  row_is : (k : ℕ) → k < length ws / (d + 1) → length (row ws (d + 1) k) ≡ d + 1
  row_is k h = row-length ws (d + 1) k (omega (arith, whole_words d ws p, suc-mul k (d + 1), mul-le-mul_right (d + 1) h))

  pub words_long : Each (λ v. length v ≡ d + 1) (rows (d + 1) ws)
  words_long =
      each_of (λ v. length v ≡ d + 1) (rows (d + 1) ws)
      (λ v m.
      let w = at_in v (rows (d + 1) ws) m in
      let h : w.0 < length ws / (d + 1) = omega (arith, w.1, cut-length (d + 1) (length ws / (d + 1)) ws) in
      ap length (sym w.2 ∙ cut_at (d + 1) (length ws / (d + 1)) ws w.0 h) ∙ row_is w.0 h)

  pub words-again : flat (rows (d + 1) ws) ≡ ws
  words-again = flat-cut (d + 1) (length ws / (d + 1)) ws ∙ take_all (length ws / (d + 1) * (d + 1)) ws (omega (arith, whole_words d ws p))

  pub stay-long : Each (λ v. length v ≡ d + 1) st
  stay-long = each_of (λ v. length v ≡ d + 1) st (λ v m. each_in (λ v. length v ≡ d + 1) v (rows (d + 1) ws) words_long (keep-from _ v (rows (d + 1) ws) m).0)

  pub stay-memᴰ : (w : Word) → Memᴰ w st → length w ≡ d + 1
  stay-memᴰ = in-memᴰ st (d + 1) stay-long

  word-used : (w : Word) → In w st → All Used w
  word-used w m = All-of Used w (λ i h. mem-among (get_or w i 0) xs (All-at (λ v. Mem v xs) w i (flat-all w st m) h))

  -- the cells rise, so each word is one of them
  cells-rise : Rising (Colex (d + 1)) cs
  unfolding cells_of
  cells-rise = order-rising (d + 1) (rows (d + 1) ws)

  pub number_is : (w : Word) (c : ℕ) → c < length cs → cell_at cs c ≡ sort_word w → cell_number cs w ≡ c
  number_is w c h e =
      first-at (λ c. same_word (cell_at cs c) (sort_word w)) (length cs) c h
      (λ j l. bool-no (same_word (cell_at cs j) (sort_word w)) (λ t.
      let q : cell_at cs j ≡ cell_at cs c = same_word_lem (cell_at cs j) (sort_word w) t ∙ sym e in
      colex-irr (d + 1) (cell_at cs c) (subst (λ (z : Word). Colex (d + 1) z (cell_at cs c)) q (rising-at (Colex (d + 1)) cs cells-rise j c l h))))
      (word-true (cell_at cs c) (sort_word w) e)

  -- the cell of a word
  record CellOf (w : Word) : Type 0 where
    number : ℕ
    low : number < length cs
    is : cell_at cs number ≡ sort_word w

  cell-of : (w : Word) → In w (rows (d + 1) ws) → CellOf w
  unfolding cells_of
  cell-of w m =
      let r = at_in (sort_word w) cs (order-has (d + 1) (rows (d + 1) ws) w words_long m) in
      record { number = r.0; low = r.1; is = r.2 }

  pub number-low : (w : Word) → In w (rows (d + 1) ws) → cell_number cs w < length cs
  number-low w m = let r = cell-of w m in subst (λ (z : ℕ). z < length cs) (sym (number_is w r.number r.low r.is)) r.low

  -- a word of a cell
  record WordOf (c : ℕ) : Type 0 where
    word : Word
    among-words : In word (rows (d + 1) ws)
    is : sort_word word ≡ cell_at cs c

  word_of : (c : ℕ) → c < length cs → WordOf c
  unfolding cells_of
  word_of c h = let r = order_from (d + 1) (rows (d + 1) ws) (cell_at cs c) (in-at cs c h) in record { word = r.0; among-words = r.1; is = r.2 }

  -- a cell that stays has a word that stays
  left_word : (c : ℕ) → c < length cs → among c gone ≡ false → (w : Word) × In w st × (sort_word w ≡ cell_at cs c)
  left_word c h e =
      let r = word_of c h in (
        r.word,
        keep-has _ r.word (rows (d + 1) ws) r.among-words (ap (λ (z : ℕ). not (among z gone)) (number_is r.word c h (sym r.is)) ∙ ap not e),
        r.is,
      )

  pub cell-used : (c : ℕ) → c < length cs → among c gone ≡ false → All Used (cell_at cs c)
  cell-used c h e = let r = left_word c h e in subst (λ (z : Word). All Used z) r.2 (sort-all Used r.0 (word-used r.0 r.1))

  cell_long : (c : ℕ) → c < length cs → length (cell_at cs c) ≡ d + 1
  cell_long c h =
      let r = word_of c h in
      ap length (sym r.is) ∙ sort-length r.word ∙ each_in (λ v. length v ≡ d + 1) r.word (rows (d + 1) ws) words_long r.among-words

  -- ---- the cells that stay, renamed
  abbrev old_cell : ℕ → ℕ
  old_cell c = get_or (cells_left cs gone) c 0

  pub left-stands : (c : ℕ) → c < length (cells_left cs gone) → Stands (λ c. not (among c gone)) (length cs) c (old_cell c)
  left-stands c h = numbers-stands (λ c. not (among c gone)) (length cs) c h

  pub left-stays : (c : ℕ) → c < length (cells_left cs gone) → among (old_cell c) gone ≡ false
  left-stays c h = not-true (among (old_cell c) gone) (left-stands c h).passes

  abbrev renamed : ℕ → Word
  renamed c = map rename (cell_at cs c)

  abbrev new_cells : List Word
  new_cells = map renamed (cells_left cs gone)

  new-at : (c : ℕ) → c < length (cells_left cs gone) → get_or new_cells c [] ≡ renamed (old_cell c)
  new-at c h = map_at renamed (cells_left cs gone) c 0 [] h

  left_rising : (i j : ℕ) → i < j → j < length (cells_left cs gone) → old_cell i < old_cell j
  left_rising i j l h = numbers-rising (λ c. not (among c gone)) (length cs) i j l h

  new-rising : Rising (Colex (d + 1)) new_cells
  new-rising =
      rising-by (Colex (d + 1)) new_cells
      (λ i j l h.
      let hj : j < length (cells_left cs gone) = omega (arith, length-map (cells_left cs gone) renamed) in
      let hi : i < length (cells_left cs gone) = omega arith in
      let a = left-stands i hi in
      let b = left-stands j hj in
      rw (new-at i hi, new-at j hj)
      (colex-map Used rename rises (d + 1) (cell_at cs (old_cell i)) (cell_at cs (old_cell j)) (omega (arith, cell_long (old_cell i) a.low)) (omega (arith, cell_long (old_cell j) b.low))
      (cell-used (old_cell i) a.low (left-stays i hi)) (rising-at (Colex (d + 1)) cs cells-rise (old_cell i) (old_cell j) (left_rising i j l hj) b.low)))

  renamed-long : Each (λ v. length v ≡ d + 1) (map (map rename) st)
  renamed-long =
      each_of (λ v. length v ≡ d + 1) (map (map rename) st)
      (λ v m. let r = map-in (map rename) v st m in ap length (sym r.2) ∙ length-map r.0 rename ∙ each_in (λ v. length v ≡ d + 1) r.0 st stay-long r.1)

  rows-renamed : rows (d + 1) (kept_words d ws gone) ≡ map (map rename) st
  rows-renamed =
      ap (rows (d + 1)) (sym (flat_map rename st))
      ∙ subst (λ (n : ℕ). rows n (flat (map (map rename) st)) ≡ map (map rename) st) (sym (add-one d))
      (rows-flat d (map (map rename) st) (λ w m. in-memᴰ (map (map rename) st) (d + 1) renamed-long w m ∙ add-one d))

  new-from : (v : Word) → In v new_cells → In v (in_order (d + 1) (map (map rename) st))
  new-from v m =
      let r = at_in v new_cells m in
      let h : r.0 < length (cells_left cs gone) = omega (arith, r.1, length-map (cells_left cs gone) renamed) in
      let l = left-stands r.0 h in
      let w = left_word (old_cell r.0) l.low (left-stays r.0 h) in
      subst (λ (z : Word). In z (in_order (d + 1) (map (map rename) st)))
      (sort-map Used rename rises w.0 (word-used w.0 w.1) ∙ ap (map rename) w.2 ∙ sym (new-at r.0 h) ∙ r.2)
      (order-has (d + 1) (map (map rename) st) (map rename w.0) renamed-long (in_map (map rename) w.0 st w.1))

  new-all : (v : Word) → In v (in_order (d + 1) (map (map rename) st)) → In v new_cells
  new-all v m =
      let r = order_from (d + 1) (map (map rename) st) v m in
      let w = map-in (map rename) r.0 st r.1 in
      let k = keep-from _ w.0 (rows (d + 1) ws) w.1 in
      let c = cell-of w.0 k.0 in
      let e : not (among c.number gone) ≡ true = ap (λ (z : ℕ). not (among z gone)) (sym (number_is w.0 c.number c.low c.is)) ∙ k.1 in
      let at : ℕ = length (numbers (λ c. not (among c gone)) c.number) in
      let h : at < length (cells_left cs gone) = count_less (λ c. not (among c gone)) c.number (length cs) c.low e in
      let o : old_cell at ≡ c.number = numbers-at (λ c. not (among c gone)) (length cs) c.number c.low e in
      subst (λ (z : Word). In z new_cells)
      (new-at at h ∙ ap renamed o ∙ ap (map rename) c.is ∙ sym (sort-map Used rename rises w.0 (word-used w.0 w.1)) ∙ ap sort_word w.2 ∙ r.2)
      (in-at new_cells at (omega (arith, length-map (cells_left cs gone) renamed)))

  -- the new cells are the kept ones renamed, in the same order
  pub kept-cells : cells_of d (kept_words d ws gone) ≡ map (λ c. map (new_number (corners d ws gone)) (cell_at (cells_of d ws) c)) (cells_left (cells_of d ws) gone)
  unfolding cells_of
  kept-cells =
      ap (in_order (d + 1)) rows-renamed
      ∙ one_list (Colex (d + 1)) (colex-irr (d + 1)) (colex-trans (d + 1)) (in_order (d + 1) (map (map rename) st)) new_cells (order-rising (d + 1) (map (map rename) st)) new-rising new-all new-from

  -- ---- facets
  pub new-many : length (cells_of d (kept_words d ws gone)) ≡ length (cells_left cs gone)
  new-many = ap length kept-cells ∙ length-map (cells_left cs gone) renamed

  pub cell-back : (c : ℕ) → c < length (cells_left cs gone) → cell_at (cells_of d (kept_words d ws gone)) c ≡ map rename (cell_at cs (old_cell c))
  cell-back c h = ap (λ (l : List Word). cell_at l c) kept-cells ∙ new-at c h

  facet-used : (w : Word) (i : ℕ) → All Used w → All Used (facet_at w i)
  facet-used w zero a = tail w a
    where
      tail : (w : Word) → All Used w → All Used (drop 1 w)
      tail [] a = tt
      tail (x ∷ w) a = a.1
  facet-used [] (suc i) a = tt
  facet-used (x ∷ w) (suc i) a = (a.0, facet-used w i a.1)

  -- two new cells that have one facet were two old cells that have one facet
  pub mates-back : (c i c' i' : ℕ) → Mates d (cells_of d (kept_words d ws gone)) c i c' i' →
      Mates d (cells_of d ws) (get_or (cells_left (cells_of d ws) gone) c 0) i (get_or (cells_left (cells_of d ws) gone) c' 0) i'
  mates-back c i c' i' m =
      let h : c < length (cells_left cs gone) = omega (arith, m.this.cell, new-many) in
      let h' : c' < length (cells_left cs gone) = omega (arith, m.that.cell, new-many) in
      let a = left-stands c h in
      let b = left-stands c' h' in
      record {
        this = record { some = m.this.some; cell = a.low; place = m.this.place };
        that = record { some = m.that.some; cell = b.low; place = m.that.place };
        apart = λ e. m.apart (sym a.rank ∙ ap (λ (z : ℕ). length (numbers (λ c. not (among c gone)) z)) e ∙ b.rank);
        one =
            one_word Used rename rises (facet_at (cell_at cs (old_cell c)) i) (facet_at (cell_at cs (old_cell c')) i')
            (facet-used (cell_at cs (old_cell c)) i (cell-used (old_cell c) a.low (left-stays c h))) (facet-used (cell_at cs (old_cell c')) i' (cell-used (old_cell c') b.low (left-stays c' h')))
            (sym (facet-map rename (cell_at cs (old_cell c)) i) ∙ ap (λ (w : Word). facet_at w i) (sym (cell-back c h)) ∙ m.one ∙ ap (λ (w : Word). facet_at w i') (cell-back c' h') ∙ facet-map rename (cell_at cs (old_cell c')) i');
      }

  -- a facet of a new cell is the same facet of its old cell, renamed
  pub facet-back : (c i : ℕ) → c < length (cells_left (cells_of d ws) gone) →
      facet_at (cell_at (cells_of d (kept_words d ws gone)) c) i ≡ map (new_number (corners d ws gone)) (facet_at (cell_at (cells_of d ws) (get_or (cells_left (cells_of d ws) gone) c 0)) i)
  facet-back c i h = ap (λ (w : Word). facet_at w i) (cell-back c h) ∙ facet-map rename (cell_at cs (old_cell c)) i

  -- and two old cells that stay and had one facet have it still
  pub mates-forth : (c i c' i' : ℕ) → c < length (cells_left (cells_of d ws) gone) → c' < length (cells_left (cells_of d ws) gone) →
      Mates d (cells_of d ws) (get_or (cells_left (cells_of d ws) gone) c 0) i (get_or (cells_left (cells_of d ws) gone) c' 0) i' → Mates d (cells_of d (kept_words d ws gone)) c i c' i'
  mates-forth c i c' i' h h' m =
      record {
        this = record { some = m.this.some; cell = omega (arith, new-many); place = m.this.place };
        that = record { some = m.that.some; cell = omega (arith, new-many); place = m.that.place };
        apart = λ e. m.apart (ap (λ (z : ℕ). old_cell z) e);
        one = facet-back c i h ∙ ap (map rename) m.one ∙ sym (facet-back c' i' h');
      }

  -- 7 cannot occur where it did not
  pub never-seven : (Crowded d (cells_of d ws) → ⊥) → Crowded d (cells_of d (kept_words d ws gone)) → ⊥
  never-seven free x =
      let a = mates-back x.cell x.at x.first x.at_first x.one in
      let b = mates-back x.cell x.at x.second x.at_second x.other in
      free (record {
        cell = old_cell x.cell;
        first = old_cell x.first;
        second = old_cell x.second;
        at = x.at;
        at_first = x.at_first;
        at_second = x.at_second;
        one = a;
        other = b;
        apart = λ e.
            let s = left-stands x.first (omega (arith, x.one.that.cell, new-many)) in
            let t = left-stands x.second (omega (arith, x.other.that.cell, new-many)) in
            x.apart (sym s.rank ∙ ap (λ (z : ℕ). length (numbers (λ c. not (among c gone)) z)) e ∙ t.rank);
      })

  -- signs coherent before are coherent after, each kept cell with its own
  pub still-coherent : (σ : ℕ → Sign) → Coherent d (cells_of d ws) σ → Coherent d (cells_of d (kept_words d ws gone)) (λ c. σ (get_or (cells_left (cells_of d ws) gone) c 0))
  still-coherent σ q = record { opposed = λ c i c' i' m. q.opposed (old_cell c) i (old_cell c') i' (mates-back c i c' i' m) }

  -- ---- the new list is a good cell list
  pub corner-old : (v : ℕ) → Mem v xs → Mem v ws
  corner-old v m =
      let r = flat-mem v st m in
      let k = keep-from _ r.0 (rows (d + 1) ws) r.1 in
      let a = All-mem (λ u. Mem u (flat (rows (d + 1) ws))) v r.0 (flat-all r.0 (rows (d + 1) ws) k.0) r.2 in
      subst (λ (l : List ℕ). Mem v l) words-again a

  old-low : (v : ℕ) → Mem v xs → v ≤ largest_of ws
  old-low v m = let r = Mem-at v ws (corner-old v m) in omega (arith, below-largest ws r.0, r.2)

  renamed-memᴰ : (w : Word) → Memᴰ w (map (map rename) st) → length w ≡ suc d
  renamed-memᴰ w m = in-memᴰ (map (map rename) st) (d + 1) renamed-long w m ∙ add-one d

  kept-flat : kept_words d ws gone ≡ flat (map (map rename) st)
  kept-flat = sym (flat_map rename st)

  kept-count : length (kept_words d ws gone) / (d + 1) ≡ length st
  kept-count =
      ap (λ (l : List ℕ). length l / (d + 1)) kept-flat ∙ subst (λ (n : ℕ). length (flat (map (map rename) st)) / n ≡ length (map (map rename) st)) (sym (add-one d)) (flat-count d (map (map rename) st) renamed-memᴰ)
      ∙ length-map st (map rename)

  kept_whole : length (kept_words d ws gone) % (d + 1) ≡ 0
  kept_whole = ap (λ (l : List ℕ). length l % (d + 1)) kept-flat ∙ subst (λ (n : ℕ). length (flat (map (map rename) st)) % n ≡ 0) (sym (add-one d)) (flat-whole d (map (map rename) st) renamed-memᴰ)

  pub kept-long : length (kept_words d ws gone) ≡ length st * (d + 1)
  kept-long = length-map xs rename ∙ flat-length (d + 1) st stay-memᴰ

  kept_word : (k : ℕ) → k < length st → row (kept_words d ws gone) (d + 1) k ≡ map rename (get_or st k [])
  kept_word k h =
      ap (λ (l : List ℕ). row l (d + 1) k) kept-flat
      ∙ subst (λ (n : ℕ). row (flat (map (map rename) st)) n k ≡ get_or (map (map rename) st) k []) (sym (add-one d)) (flat-at (suc d) (map (map rename) st) renamed-memᴰ k (omega (arith, length-map st (map rename))))
      ∙ map_at (map rename) st k [] [] h

  stay-apart : (w : Word) → In w st → has_repeat w ≡ false
  stay-apart w m =
      let k = keep-from _ w (rows (d + 1) ws) m in
      let r = at_in w (rows (d + 1) ws) k.0 in
      let h : r.0 < length ws / (d + 1) = omega (arith, r.1, cut-length (d + 1) (length ws / (d + 1)) ws) in
      ap has_repeat (sym r.2 ∙ cut_at (d + 1) (length ws / (d + 1)) ws r.0 h) ∙ p.apart r.0 h

  kept_low : (i : ℕ) → i < length (kept_words d ws gone) → get_or (kept_words d ws gone) i 0 ≤ largest_of ws
  kept_low i h =
      let l : i < length xs = omega (arith, length-map xs rename) in
      omega (arith, map_at rename xs i 0 0 l, count_most (λ u. among u xs) (get_or xs i 0), old-low (get_or xs i 0) (Mem-of xs i l))

  -- the largest new number has a corner, and every number below it is the new number of a corner
  kept-used : (length st ≡ 0 → ⊥) → (v : ℕ) → v < largest_of (kept_words d ws gone) → among v (kept_words d ws gone) ≡ true
  kept-used some v h =
      let m = largest-mem (kept_words d ws gone) (λ e. omega (arith, kept-long, mul-suc (length st) d, ap (λ (n : ℕ). length st * n) (add-one d))) in
      let u = map-mem rename (largest_of (kept_words d ws gone)) xs m in
      let s = numbers-stands (λ u. among u xs) u.0 v (omega (arith, u.2)) in
      let x : ℕ = get_or (numbers (λ u. among u xs) u.0) v 0 in
      mem-among v (kept_words d ws gone) (subst (λ (z : ℕ). Mem z (kept_words d ws gone)) s.rank (mem-map rename x xs (among-mem x xs s.passes)))

  pub kept-passed : (length (staying d ws gone) ≡ 0 → ⊥) → Passed d (kept_words d ws gone)
  kept-passed some =
      record {
        small = p.small;
        some_words = λ e. some (omega (arith, kept-long, mul-suc (length st) d, ap (λ (n : ℕ). length st * n) (add-one d)));
        whole = kept_whole;
        few = omega (arith, kept-count, keep-most (λ w. not (among (cell_number cs w) gone)) (rows (d + 1) ws), cut-length (d + 1) (length ws / (d + 1)) ws, p.few);
        apart = λ k h.
            let l : k < length st = omega (arith, kept-count) in
            ap has_repeat (kept_word k l) ∙ repeat-map Used rename rises (get_or st k []) (word-used (get_or st k []) (in-at st k l)) ∙ stay-apart (get_or st k []) (in-at st k l);
        low = largest-below (kept_words d ws gone) most_vertices (omega arith) (λ i h. omega (arith, kept_low i h, p.low));
        used = kept-used some;
      }

  -- none of 1 to 6 either
  pub kept_fine : (length (staying d ws gone) ≡ 0 → ⊥) → answer_of d (kept_words d ws gone) ≡ fine
  kept_fine some = passed-fine d (kept_words d ws gone) (kept-passed some)

  -- the old numbers lead back to the words as they were given
  pub old-again : map (λ v. get_or (old_numbers d ws gone) v 0) (kept_words d ws gone) ≡ corners d ws gone
  old-again =
      map-map (λ v. get_or (old_numbers d ws gone) v 0) rename xs
      ∙ map_same (λ v. get_or (old_numbers d ws gone) (rename v) 0) xs
      (λ i h. numbers-at (λ u. among u xs) (suc (largest_of xs)) (get_or xs i 0) (omega (arith, below-largest xs i)) (mem-among (get_or xs i 0) xs (Mem-of xs i h)))

  -- the old numbers rise, so vertices keep their order
  pub old-rising : (i j : ℕ) → i < j → j < length (old_numbers d ws gone) → get_or (old_numbers d ws gone) i 0 < get_or (old_numbers d ws gone) j 0
  old-rising i j l h = numbers-rising (λ v. among v xs) (suc (largest_of xs)) i j l h

  -- the new numbers are dense: the largest is one less than there are vertices
  pub dense : (length (staying d ws gone) ≡ 0 → ⊥) → suc (largest_of (kept_words d ws gone)) ≡ length (old_numbers d ws gone)
  dense some =
      let f : length xs ≡ 0 → ⊥ = λ e. some (omega (arith, kept-long, length-map xs rename, mul-suc (length st) d, ap (λ (n : ℕ). length st * n) (add-one d))) in
      let m : Mem (largest_of xs) xs = largest-mem xs f in
      let r = Mem-at (rename (largest_of xs)) (kept_words d ws gone) (mem-map rename (largest_of xs) xs m) in
      let low = largest-below (kept_words d ws gone) (suc (rename (largest_of xs))) (omega arith)
      (λ i h.
      let l : i < length xs = omega (arith, length-map xs rename) in
      omega (arith, map_at rename xs i 0 0 l, count-mono (λ u. among u xs) (get_or xs i 0) (largest_of xs) (below-largest xs i))) in
      omega (arith, low, below-largest (kept_words d ws gone) r.0, r.2, count_yes (λ u. among u xs) (largest_of xs) (mem-among (largest_of xs) xs m))
