-- Words in colex order of their cells: the cells of a list of words with a word for each, and where no two words have the same vertices, the words themselves in
-- another sequence. Assumes nothing.
use mathlib.Core.Bool.{Bool, true, false}
use mathlib.Core.Path.{◌≡◌, refl, sym, ap, ◌∙◌, subst}
use mathlib.Core.Logic.{◌⊎◌, inl, inr}
use mathlib.Core.List.Memᴰ
use mathlib.Core.List.{List, [], ◌∷◌, Memᴰ}
use Prim.Native.Nat.{ℕ, zero, suc, ◌<◌}
use native.Mathlib.Nat.{le_of_suc-le-suc, not-suc-le-zero}
use native.Mathlib.Decide.{dec_lt}
use native.Mathlib.Omega.{arith}
use lib.ListN.{length, get_or}
use Rattle.multiindex.specs.Sort.{sort_word}
use Rattle.multiindex.proofs.SortLaws.{sort-length}
use Rattle.complex.specs.Cells.{in_order}
use Rattle.complex.specs.Facets.{cell_at}
use Rattle.lists.specs.Words.{same_word}
use Rattle.ordering_words.specs.Order.{word_if, word_of, by_cell}
use Rattle.lists.proofs.Words.{same_word_lem, word-true}
use Rattle.ordering_words.proofs.Orders.{by-cell-at, by-cell-length}
use Rattle.complex_cells.proofs.Words.{Word, Each, Rising, each_in, each_of, in-at, at_in}
use Rattle.complex_cells.proofs.Order.{Colex, colex-irr, order-rising, order_from, order-has}
use Rattle.refine_lattice.specs.Complex.{occurrences, Complex, Rises}
use Rattle.refine_lattice.specs.Refine.{In}
use Rattle.refine_lattice.specs.Conform.{Distinct}
use Rattle.refine_lattice.proofs.Refines.{mem-at}
use Rattle.refine_laws.proofs.Words.{to_mem, of_mem, sort-times, rises-sort, sort-fixed}
use Rattle.refine_laws.proofs.Listed.{Listed, number_of}

-- ---- the word of a cell
-- where some word sorts to the cell, the cell's word is one of them
pub word-found : (ows : List (List ℕ)) (cell w : List ℕ) → Memᴰ w ows → sort_word w ≡ cell
    → Memᴰ (word_of ows cell) ows × (sort_word (word_of ows cell) ≡ cell)
unfolding word_of word_if
word-found [] cell w m e = absurd (Memᴰ.not-nil m)
word-found (x ∷ ows) cell w m e =
    go (same_word (sort_word x) cell) refl (Memᴰ.cases_cons m) (λ q. word-found ows cell w q e)
  where
    go : (t : Bool) → same_word (sort_word x) cell ≡ t → (w ≡ x) ⊎ Memᴰ w ows
        → (Memᴰ w ows → Memᴰ (word_of ows cell) ows × (sort_word (word_of ows cell) ≡ cell))
        → Memᴰ (word_if t x (word_of ows cell)) (x ∷ ows) × (sort_word (word_if t x (word_of ows cell)) ≡ cell)
    go true p q r = (Memᴰ.head refl, same_word_lem (sort_word x) cell p)
    go false p (inl q) r =
        let s : same_word (sort_word x) cell ≡ true = word-true (sort_word x) cell (ap sort_word (sym q) ∙ e) in
        let z : ◌≡◌ {A = ℕ} 0 1 = cc in absurd (omega arith)
    go false p (inr q) r = let (a, b) = r q in (Memᴰ.tail a, b)

-- ---- the cells of a list of words
rising-apart : (n : ℕ) (cs : List Word) → Rising (Colex n) cs → (i j : ℕ) → i < j → j < length cs → Colex n (get_or cs i []) (get_or cs j [])
rising-apart n [] r i j h b = absurd (not-suc-le-zero b)
rising-apart n (c ∷ cs) r i zero h b = absurd (not-suc-le-zero h)
rising-apart n (c ∷ cs) r zero (suc j) h b = each_in (Colex n c) (get_or cs j []) cs r.0 (in-at cs j (le_of_suc-le-suc b))
rising-apart n (c ∷ cs) r (suc i) (suc j) h b = rising-apart n cs r.1 i j (le_of_suc-le-suc h) (le_of_suc-le-suc b)

rising-one : (n : ℕ) (cs : List Word) → Rising (Colex n) cs → (i j : ℕ) → i < length cs → j < length cs → get_or cs i [] ≡ get_or cs j [] → i ≡ j
rising-one n cs r i j h b e =
    elim (dec_lt i j) [
      | yes l ↦ absurd (colex-irr n (get_or cs i []) (subst (λ (w : Word). Colex n (get_or cs i []) w) (sym e) (rising-apart n cs r i j l b)))
      | no l ↦
          elim (dec_lt j i) [
            | yes m ↦ absurd (colex-irr n (get_or cs j []) (subst (λ (w : Word). Colex n (get_or cs j []) w) e (rising-apart n cs r j i m h)))
            | no m ↦ omega arith
          ]
    ]

-- words over n vertices: their cells, with words ks that sort to them
module _ (d n : ℕ) (ws : List (List ℕ)) (x : Complex d n (In ws)) where
  abbrev pub cells_of : List (List ℕ)
  cells_of = in_order (suc d) ws

  pub all-long : Each (λ v. length v ≡ suc d) ws
  all-long = each_of (λ v. length v ≡ suc d) ws (λ w m. x.long w (to_mem w ws m))

  -- the word that a cell is from, and the cell of a word
  pub from-word : (c : ℕ) → c < length (in_order (suc d) ws) → (w : List ℕ) × Memᴰ w ws × (sort_word w ≡ cell_at (in_order (suc d) ws) c)
  from-word c h =
      let (w, m, e) = order_from (suc d) ws (cell_at (in_order (suc d) ws) c) (in-at (in_order (suc d) ws) c h) in
      (w, to_mem w ws m, e)

  pub to_cell : (w : List ℕ) → Memᴰ w ws → (c : ℕ) × (c < length (in_order (suc d) ws)) × (cell_at (in_order (suc d) ws) c ≡ sort_word w)
  to_cell w m = at_in (sort_word w) (in_order (suc d) ws) (order-has (suc d) ws w all-long (of_mem w ws m))

  pub listed : (ks : List (List ℕ)) → length ks ≡ length (in_order (suc d) ws)
      → ((c : ℕ) → c < length (in_order (suc d) ws) → sort_word (cell_at ks c) ≡ cell_at (in_order (suc d) ws) c)
      → Listed d n (in_order (suc d) ws) ks
  listed ks many sorts = record {
    many = many;
    long = λ c h. let (w, m, e) = from-word c h in ap length (sym e) ∙ sort-length w ∙ x.long w m;
    rises = λ c h. let (w, m, e) = from-word c h in subst (λ (v : List ℕ). Rises v) e (rises-sort w (x.plain w m));
    below = λ c h v p.
        let (w, m, e) = from-word c h in
        x.below w m v (omega (arith, sort-times w v, ap (λ (u : List ℕ). occurrences u v) e));
    apart = λ c c' h h' e. rising-one (suc d) (in_order (suc d) ws) (order-rising (suc d) ws) c c' h h' e;
    sorts = sorts;
  }

  -- a word for each cell from the words themselves
  pub listed_by : Listed d n (in_order (suc d) ws) (by_cell ws (in_order (suc d) ws))
  listed_by =
      listed (by_cell ws (in_order (suc d) ws)) (by-cell-length ws (in_order (suc d) ws))
      (λ c h.
      let (w, m, e) = from-word c h in
      ap sort_word (by-cell-at ws (in_order (suc d) ws) c h) ∙ (word-found ws (cell_at (in_order (suc d) ws) c) w m e).1)

  -- the cells themselves
  pub listed-cells : Listed d n (in_order (suc d) ws) (in_order (suc d) ws)
  listed-cells =
      listed (in_order (suc d) ws) refl
      (λ c h. let (w, m, e) = from-word c h in sort-fixed (cell_at (in_order (suc d) ws) c) (subst (λ (v : List ℕ). Rises v) e (rises-sort w (x.plain w m))))

  -- where no two words have the same vertices, the words by cell are the words
  module _ (distinct : Distinct (In ws)) where
    abbrev sorted-words : List (List ℕ)
    sorted-words = by_cell ws (in_order (suc d) ws)

    pub word_back : (w : List ℕ) → Memᴰ w ws → word_of ws (sort_word w) ≡ w
    unfolding Distinct
    word_back w m =
        let (a, b) = word-found ws (sort_word w) w m refl in
        distinct (word_of ws (sort_word w)) w a m
        (λ v. sym (sort-times (word_of ws (sort_word w)) v) ∙ ap (λ (u : List ℕ). occurrences u v) b ∙ sort-times w v)

    pub in-by : (w : List ℕ) → Memᴰ w ws → Memᴰ w (by_cell ws (in_order (suc d) ws))
    in-by w m =
        let (c, h, e) = to_cell w m in
        Memᴰ.cast (sym (by-cell-at ws (in_order (suc d) ws) c h ∙ ap (word_of ws) e ∙ word_back w m))
        (mem-at (by_cell ws (in_order (suc d) ws)) c (omega (arith, by-cell-length ws (in_order (suc d) ws))))

    pub of-by : (w : List ℕ) → Memᴰ w (by_cell ws (in_order (suc d) ws)) → Memᴰ w ws
    of-by w m =
        let (c, h, e) = number_of d n (in_order (suc d) ws) (by_cell ws (in_order (suc d) ws)) listed_by w m in
        let (u, k, f) = from-word c h in
        Memᴰ.cast (sym e ∙ by-cell-at ws (in_order (suc d) ws) c h) (word-found ws (cell_at (in_order (suc d) ws) c) u k f).0
