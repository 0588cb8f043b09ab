-- The work of `triangulate_ordered`, step by step: what each call asks follows from what the calls before it gave. Assumes nothing.
use Rattle.refusal.specs.declared.Refusal.TheVariants.{TooShort}
use Rattle.refusal.specs.Says.{fine}
use Rattle.std.specs.Prelude.{Err, Ok}
use mathlib.Core.Bool.{Bool, true, false}
use mathlib.Core.List.{List, [], ◌++◌}
use mathlib.Core.Path.{◌≡◌, refl, sym, ap, ◌∙◌, subst}
use Prim.Native.Nat.{ℕ, suc, ◌+◌, ◌-◌, ◌*◌, ◌/◌, ◌%◌, ◌<◌, ◌≤◌}
use native.Mathlib.Nat.{add-sub_cancel_left, mul-le-mul_right}
use native.Mathlib.Numerals.{add-one}
use native.Mathlib.Omega.{arith}
use lib.ListN.{length, get_or, take, drop, length-append, length-drop}
use lib.Seq.{length-take-le, take_at, drop_at}
use Rattle.refusal.specs.Limits.{many_corners}
use Rattle.refusal.specs.Lent.{onto}
use Rattle.lists.specs.Rows.{row}
use Rattle.lists.proofs.Rows.{cut-length, cut_at, row-cell-below}
use Rattle.multiindex.specs.Sort.{sort_word}
use Rattle.sorting.specs.Gather.{rows_of}
use Rattle.sorting.proofs.Rows.{rows_of-pos, pos-room}
use Rattle.complex.specs.Facets.{cell_at, slots}
use Rattle.complex_mates.specs.Table.{MateTable}
use Rattle.complex_mates.proofs.Mated.{facet-row, mates-row, rows_few}
use Rattle.quotient.specs.declared.Grid.{Grid}
use Rattle.quotient.specs.Shape.{check_of, cell_count}
use Rattle.grid_words.specs.Cells.{flat_words}
use Rattle.grid_words.proofs.Listed.{words_long}
use Rattle.grid_words.proofs.Good.{words_count}
use Rattle.grid_mesh.specs.Words.{glued_cells, corners_of}
use Rattle.grid_mesh.specs.Work.{Found}
use Rattle.grid_mesh.proofs.Steps.{corners-few}
use Rattle.lists.specs.Words.{without, none}
use Rattle.ordering_words.specs.Order.{word_of, AgreeOnFacets}
use Rattle.ordering.specs.WorkAgree.{row_word, AgreesAt, Clash}
use Rattle.ordering_words.proofs.Orders.{word_first}
use Rattle.grid_order.specs.declared.Triangulated.TheVariants.{Ordered, Unordered}
use Rattle.grid_order.specs.Promise.{own_words, nothing}
use Rattle.grid_order.specs.Work.{Laying, Laid, Decided, Handing, short, short_order, ordered, unordered, HandedOut}

-- ---- each cell's first word is the one whose number was found
module _ (g : Grid) (taken : check_of g ≡ fine) (m : ℕ) (rows₀ reps : List ℕ) (f : Found g m rows₀ reps) where
  words_are : length (flat_words g) / suc g.d ≡ cell_count g
  words_are = subst (λ (n : ℕ). length (flat_words g) / n ≡ cell_count g) (add-one g.d) (words_count g taken)

  pub first_word : (c : ℕ) → c < m → word_of (own_words g) (cell_at (glued_cells g) c) ≡ row (flat_words g) (suc g.d) (get_or reps c 0)
  first_word c h =
      let n : ℕ = suc g.d in
      let ws : List ℕ = flat_words g in
      let q : ℕ = length ws / n in
      let r : ℕ = get_or reps c 0 in
      let hr : r < q = omega (arith, f.below c h, words_are) in
      word_first (own_words g) (cell_at (glued_cells g) c) r (omega (arith, cut-length n q ws)) (ap sort_word (cut_at n q ws r hr) ∙ f.sorts c h)
      (λ t l z. f.first c t h l (sym (ap sort_word (cut_at n q ws t (omega arith))) ∙ z))
      ∙ cut_at n q ws r hr

-- ---- the words by cell and the cells behind them
module _ (g : Grid) (m : ℕ) (list rows₀ reps table : List ℕ) (w : Laying g m list rows₀ reps table) where
  pub size_fits : m * (g.d + 1) ≤ corners_of g
  size_fits = rw (add-one g.d) (mul-le-mul_right (suc g.d) w.few)

  pub rows_in : (i : ℕ) → i < m → get_or reps i 0 * (g.d + 1) + (g.d + 1) ≤ corners_of g
  rows_in i h = rw (add-one g.d) (pos-room (get_or reps i 0) (cell_count g) (suc g.d) (w.below i h))

  pub size_small : m * (g.d + 1) < many_corners
  size_small = omega (arith, size_fits, corners-few g w.taken)

  pub size-rows : m * (g.d + 1) ≤ length rows₀
  size-rows = omega (arith, size_fits, w.rows_long)

  pub size-list : m * (g.d + 1) + m * (g.d + 1) ≤ length list
  size-list = omega (arith, size_fits, w.list_long)

  -- the list is as long when the cells stand behind
  pub list-holds : (p : List ℕ) → p ≡ take (m * (g.d + 1)) rows₀ →
      m * (g.d + 1) + m * (g.d + 1) ≤ length (take (m * (g.d + 1)) list ++ (p ++ drop (m * (g.d + 1) + m * (g.d + 1) - m * (g.d + 1)) (drop (m * (g.d + 1)) list)))
  list-holds p e =
      let a : length p ≡ m * (g.d + 1) = ap length e ∙ length-take-le (m * (g.d + 1)) rows₀ size-rows in
      let b : length (take (m * (g.d + 1)) list) ≡ m * (g.d + 1) = length-take-le (m * (g.d + 1)) list (omega (arith, size-list)) in
      omega (arith, a, b, length-append (take (m * (g.d + 1)) list) (p ++ drop (m * (g.d + 1) + m * (g.d + 1) - m * (g.d + 1)) (drop (m * (g.d + 1)) list)), length-append p (drop (m * (g.d + 1) + m * (g.d + 1) - m * (g.d + 1)) (drop (m * (g.d + 1)) list)))

  pub words-hold : (rows₁ : List ℕ) → rows₁ ≡ flat_words g → length rows₁ ≡ corners_of g
  words-hold rows₁ e = ap length e ∙ words_long g w.taken

  module _ (p list₁ list₂ rows₁ p₂ : List ℕ) (e₀ : p ≡ take (m * (g.d + 1)) rows₀)
      (e₁ : list₁ ≡ take (m * (g.d + 1)) list ++ (p ++ drop (m * (g.d + 1) + m * (g.d + 1) - m * (g.d + 1)) (drop (m * (g.d + 1)) list))) (e₂ : rows₁ ≡ flat_words g) (e₃ : list₂ ≡ rows_of rows₁ (g.d + 1) (take m reps) ++ drop (m * (g.d + 1)) list₁)
      (e₄ : p₂ ≡ take (m * (g.d + 1) + m * (g.d + 1) - m * (g.d + 1)) (drop (m * (g.d + 1)) list₂)) where
    p-long : length p ≡ m * (g.d + 1)
    p-long = ap length e₀ ∙ length-take-le (m * (g.d + 1)) rows₀ (omega (arith, size_fits, w.rows_long))

    front_long : length (rows_of rows₁ (g.d + 1) (take m reps)) ≡ m * (g.d + 1)
    front_long = rows_of-pos rows₁ (g.d + 1) reps m m (λ j h. omega (arith, rows_in j h, ap length e₂, words_long g w.taken)) (omega arith) w.reps_long

    words' : take (m * (g.d + 1)) list₂ ≡ rows_of (flat_words g) (g.d + 1) (take m reps)
    words' = ap (take (m * (g.d + 1))) e₃ ∙ take_at (rows_of rows₁ (g.d + 1) (take m reps)) (drop (m * (g.d + 1)) list₁) (m * (g.d + 1)) front_long ∙ ap (λ (l : List ℕ). rows_of l (g.d + 1) (take m reps)) e₂

    behind' : take (m * (g.d + 1)) (drop (m * (g.d + 1)) list₂) ≡ take (m * (g.d + 1)) rows₀
    behind' =
        ap (λ (l : List ℕ). take (m * (g.d + 1)) (drop (m * (g.d + 1)) l)) e₃
        ∙ ap (take (m * (g.d + 1))) (drop_at (rows_of rows₁ (g.d + 1) (take m reps)) (drop (m * (g.d + 1)) list₁) (m * (g.d + 1)) front_long)
        ∙ ap (λ (l : List ℕ). take (m * (g.d + 1)) (drop (m * (g.d + 1)) l)) e₁
        ∙ ap (take (m * (g.d + 1)))
        (drop_at (take (m * (g.d + 1)) list) (p ++ drop (m * (g.d + 1) + m * (g.d + 1) - m * (g.d + 1)) (drop (m * (g.d + 1)) list)) (m * (g.d + 1)) (length-take-le (m * (g.d + 1)) list (omega (arith, size_fits, w.list_long))))
        ∙ take_at p (drop (m * (g.d + 1) + m * (g.d + 1) - m * (g.d + 1)) (drop (m * (g.d + 1)) list)) (m * (g.d + 1)) p-long ∙ e₀

    kept' : take (m * (g.d + 1)) (p₂ ++ drop (m * (g.d + 1)) rows₁) ≡ take (m * (g.d + 1)) rows₀
    kept' =
        let z : p₂ ≡ take (m * (g.d + 1)) rows₀ = e₄ ∙ ap (λ (i : ℕ). take i (drop (m * (g.d + 1)) list₂)) (add-sub_cancel_left (m * (g.d + 1)) (m * (g.d + 1))) ∙ behind' in
        take_at p₂ (drop (m * (g.d + 1)) rows₁) (m * (g.d + 1)) (ap length z ∙ length-take-le (m * (g.d + 1)) rows₀ (omega (arith, size_fits, w.rows_long))) ∙ z

    pub laid : Laid g m rows₀ reps list₂ (p₂ ++ drop (m * (g.d + 1)) rows₁)
    laid =
        record {
          words = subst (λ (z : ℕ). take (m * z) list₂ ≡ rows_of (flat_words g) z (take m reps)) (add-one g.d) words';
          behind = subst (λ (z : ℕ). take (m * z) (drop (m * z) list₂) ≡ take (m * z) rows₀) (add-one g.d) behind';
          kept = subst (λ (z : ℕ). take (m * z) (p₂ ++ drop (m * (g.d + 1)) rows₁) ≡ take (m * z) rows₀) (add-one g.d) kept';
        }

-- ---- the test by the table of mates says whether the words agree on every facet of two cells
module _ (d m : ℕ) (cs ks : List (List ℕ)) (many : length cs ≡ m) (mates list : List ℕ) (t : MateTable d cs mates) (few : m * suc d < none) (words : (c : ℕ) → c < m → row list (d + 1) c ≡ cell_at ks c)
    (cells : (c i : ℕ) → c < m → i ≤ d → get_or list (m * (d + 1) + c * (d + 1) + i) 0 ≡ get_or (cell_at cs c) i 0) where
  word-is : (x : ℕ) → x < m * slots d → row_word d (slots d) m list x ≡ without (get_or (cell_at cs (x / slots d)) (d - x % slots d) 0) (cell_at ks (x / slots d))
  word-is x h =
      let hc : x / slots d < m = row-cell-below x m (slots d) h in
      let e : get_or list (m * (d + 1) + x / slots d * (d + 1) + (d - x % slots d)) 0 ≡ get_or (cell_at cs (x / slots d)) (d - x % slots d) 0 = cells (x / slots d) (d - x % slots d) hc (omega arith) in
      rw (e, words (x / slots d) hc)

  word_at : (x c i : ℕ) → x < m * slots d → x / slots d ≡ c → d - x % slots d ≡ i → row_word d (slots d) m list x ≡ without (get_or (cell_at cs c) i 0) (cell_at ks c)
  word_at x c i h e f = word-is x h ∙ ap (λ (z : ℕ). without (get_or (cell_at cs z) (d - x % slots d) 0) (cell_at ks z)) e ∙ ap (λ (z : ℕ). without (get_or (cell_at cs c) z 0) (cell_at ks c)) f

  pub agree-yes : ((x : ℕ) → x < m * slots d → AgreesAt d m mates list x) → AgreeOnFacets d cs ks
  agree-yes all =
      record {
        one =
            λ c i c' i' p.
            let a = facet-row d m cs many mates t few p.this in
            let b = facet-row d m cs many mates t few p.that in
            let y : get_or mates (c * slots d + (d - i)) 0 ≡ c' * slots d + (d - i') = mates-row d m cs many mates t few p in
            let s : get_or mates (c * slots d + (d - i)) 0 ≡ none → ⊥ = λ z. omega (arith, b.0, rows_few d m cs many mates t few) in
            let r : row_word d (slots d) m list (c * slots d + (d - i)) ≡ row_word d (slots d) m list (c' * slots d + (d - i')) = all (c * slots d + (d - i)) a.0 s ∙ ap (λ (z : ℕ). row_word d (slots d) m list z) y in
            sym (word_at (c * slots d + (d - i)) c i a.0 a.1 a.3) ∙ r ∙ word_at (c' * slots d + (d - i')) c' i' b.0 b.1 b.3;
      }

  pub agree-no : Clash d m mates list → AgreeOnFacets d cs ks → ⊥
  agree-no q o =
      let x = q.at in
      let h : x < length cs * slots d = rw many q.below in
      q.other (λ s. word-is x q.below ∙ o.one _ _ _ _ (t.meet x h s) ∙ sym (word-is (get_or mates x 0) (rw many at (t.below x h s))))

-- ---- as many cells as words, and no clash
pub decided-other : (d m count : ℕ) (mates list : List ℕ) → (m ≡ count → ⊥) → Decided d m count mates list false
decided-other d m count mates list f =
    record {
      many = λ z. let y : ◌≡◌ {A = ℕ} 0 1 = cc in absurd (omega arith);
      all = λ z. let y : ◌≡◌ {A = ℕ} 0 1 = cc in absurd (omega arith);
      not = λ z e. absurd (f e);
    }

pub decided-tested : (d m count : ℕ) (mates list : List ℕ) (r : Bool) → m ≡ count → (r ≡ true → (x : ℕ) → x < m * slots d → AgreesAt d m mates list x) → (r ≡ false → Clash d m mates list) → Decided d m count mates list r
decided-tested d m count mates list r e all clash = record { many = λ z. e; all = all; not = λ z k. clash z }

-- ---- what is handed out
module _ (size m : ℕ) (list : List ℕ) (w : Handing size m list) (cells order : List ℕ) where
  pub part-long : length (take (size + size - size) (drop size list)) ≡ size
  part-long = rw (add-sub_cancel_left size size) (length-take-le size (drop size list) (omega (arith, length-drop size list, w.long)))

  pub front_fits : size ≤ length list
  front_fits = omega (arith, w.long)

  laid_on : (p q out : List ℕ) → p ≡ q → length q ≡ size → p ++ drop size out ≡ onto q out
  laid_on p q out e l = rw (e, l)

  cells-part : (p : List ℕ) → p ≡ take (size + size - size) (drop size list) → p ++ drop size cells ≡ onto (take size (drop size list)) cells
  cells-part p e =
      let a : take (size + size - size) (drop size list) ≡ take size (drop size list) = rw (add-sub_cancel_left size size) in
      laid_on p (take size (drop size list)) cells (e ∙ a) (ap length (sym a) ∙ part-long)

  pub out-short : (b : Bool) → length cells < size → HandedOut size m list b (Err TooShort) cells cells order order
  out-short b h = record { handed = nothing; out = short h; the_cells = refl; the_order = refl }

  pub out-short-order : (b : Bool) → b ≡ true → length order < size → HandedOut size m list b (Err TooShort) cells cells order order
  out-short-order b e h = subst (λ (t : Bool). HandedOut size m list t (Err TooShort) cells cells order order) (sym e) (record { handed = nothing; out = short_order h; the_cells = refl; the_order = refl })

  pub out-unordered : (b : Bool) → b ≡ false → size ≤ length cells → (p : List ℕ) → p ≡ take (size + size - size) (drop size list) → HandedOut size m list b (Ok (Unordered m)) cells (p ++ drop size cells) order order
  out-unordered b e h p f =
      subst (λ (t : Bool). HandedOut size m list t (Ok (Unordered m)) cells (p ++ drop size cells) order order) (sym e)
      (record { handed = record { cells = take size (drop size list); order = [] }; out = unordered h; the_cells = cells-part p f; the_order = refl })

  pub out-ordered : (b : Bool) → b ≡ true → size ≤ length cells → size ≤ length order → (p q : List ℕ) → p ≡ take (size + size - size) (drop size list) → q ≡ take size list → HandedOut size m list b (Ok (Ordered m)) cells (p ++ drop size cells) order (q ++ drop size order)
  out-ordered b e h k p q f j =
      subst (λ (t : Bool). HandedOut size m list t (Ok (Ordered m)) cells (p ++ drop size cells) order (q ++ drop size order)) (sym e)
      (record { handed = record { cells = take size (drop size list); order = take size list }; out = ordered h k; the_cells = cells-part p f; the_order = laid_on q (take size list) order j (length-take-le size list front_fits) })
