-- The work of `triangulate_ordered` in its working lists, from the first call to the end. Assumes nothing.
use Rattle.refusal.specs.declared.Refusal.{Refusal}
use Rattle.refusal.specs.declared.Refusal.TheVariants.{CrowdedFacet}
use Rattle.std.specs.Prelude.{Err, Ok, Result}
use mathlib.Core.Bool.{Bool, true, false}
use mathlib.Core.List.{List, [], ◌∷◌, ◌++◌, append-nil}
use mathlib.Core.Path.{◌≡◌, refl, sym, ap, ◌∙◌, subst}
use Prim.Native.Nat.{ℕ, zero, suc, ◌+◌, ◌-◌, ◌*◌, ◌/◌, ◌<◌, ◌≤◌}
use native.Mathlib.Nat.{mul-suc, suc-mul, zero-mul, mul-le-mul_left, mul-le-mul_right}
use native.Mathlib.Numerals.{add-one}
use native.Mathlib.Omega.{arith}
use lib.ListN.{length, get_or, take, drop, length-append, length-drop, drop_of_length-le}
use lib.Seq.{length-take-le, take_at, drop_at, drop-drop, take_all, get_or-take, get_or-drop}
use Rattle.refusal.specs.Limits.{row_most, many_corners}
use Rattle.lists.specs.Rows.{cut, rows, flat, row}
use Rattle.lists.proofs.Flat.{flat-cut}
use Rattle.lists.proofs.Rows.{cut-length, cut_at}
use Rattle.lists.proofs.Words.{tail-part}
use Rattle.multiindex.specs.Sort.{sort_word}
use Rattle.sorting.specs.Gather.{rows_of}
use Rattle.sorting.proofs.Rows.{rows_of-pos, pos-room}
use Rattle.complex.specs.Cells as Complex
use Rattle.complex.specs.Facets.{Cells, Crowded, cell_at}
use Rattle.lists.specs.Words.{none}
use Rattle.complex_mates.specs.Table.{MateTable, Meeting}
use Rattle.complex_cells.specs.WorkMade.{Made}
use Rattle.complex_cells.proofs.Words.{In, in-at}
use Rattle.complex_cells.proofs.Order.{order_from}
use Rattle.complex_mates.proofs.Meeting.{slots-most}
use Rattle.complex_mates.proofs.Mated.{not-crowded, mate-below}
use Rattle.quotient.specs.declared.Grid.{Grid}
use Rattle.quotient.specs.Shape.{cell_count}
use Rattle.grid_words.specs.Cells.{flat_words}
use Rattle.grid_words.proofs.Listed.{words_long}
use Rattle.grid_words.proofs.Good.{words_count}
use Rattle.grid_words.proofs.Corners.{dim}
use Rattle.grid_words.proofs.Moved.{points-corners}
use Rattle.grid_mesh.specs.Words.{glued_cells, corners_of}
use Rattle.grid_mesh.specs.Work.{Finding, Found}
use Rattle.grid_mesh.proofs.Steps.{meeting, corners-few}
use Rattle.ordering_words.specs.Order.{word_of}
use Rattle.ordering.specs.WorkAgree.{Agreeing}
use Rattle.ordering_words.proofs.Lists.{cut-front, front_at}
use Rattle.ordering_words.proofs.Orders.{word-found, by-cell-at, by-cell-rows}
use Rattle.grid_order.specs.declared.Triangulated.{Triangulated}
use Rattle.grid_order.specs.declared.Triangulated.TheVariants.{Ordered, Unordered}
use Rattle.grid_order.specs.Promise.{own_words, words_by_cell, cells_length, HandsOut, Handed, nothing, Ends}
use Rattle.grid_order.specs.Promise.Ends.{crowded, short as ends-short, short_order as ends-short-order, ordered as ends-ordered, unordered as ends-unordered}
use Rattle.grid_order.specs.Work.{Laying, Laid, Decided, Handing, Out, HandedOut, Working, Worked}
use Rattle.grid_order.specs.Work.Out.{short, short_order, ordered, unordered}
use Rattle.grid_order.proofs.Entry.{need-bound}
use Rattle.grid_order.proofs.Steps.{first_word, agree-yes, agree-no}

-- cells that stay in the front are made again
pub made_again : (d : ℕ) (ws : List ℕ) (m : ℕ) (l k : List ℕ) → Made d ws m l → take (m * suc d) k ≡ take (m * suc d) l → Made d ws m k
made_again d ws m l k a e =
    let c : cut (suc d) m k ≡ cut (suc d) m l = cut-front (suc d) m k l e in
    record {
      same = c ∙ a.same;
      cells = subst (λ (cs : List (List ℕ)). Cells d cs) (sym c) a.cells;
      most = a.most;
      below = λ i h. rw (front_at (m * suc d) k l i h e) (a.below i h);
      corners = a.corners;
    }

-- rows gathered one after the other
rows_row : (keys : List ℕ) (n : ℕ) (xs : List ℕ) → ((c : ℕ) → c < length xs → length (row keys n (get_or xs c 0)) ≡ n) → (c : ℕ) → c < length xs → row (rows_of keys n xs) n c ≡ row keys n (get_or xs c 0)
unfolding rows_of
rows_row keys n [] f c h = absurd (omega arith)
rows_row keys n (x ∷ xs) f zero h = ap (λ (i : ℕ). take n (drop i (row keys n x ++ rows_of keys n xs))) (zero-mul n) ∙ take_at (row keys n x) (rows_of keys n xs) n (f 0 (omega arith))
rows_row keys n (x ∷ xs) f (suc c) h =
    let e : suc c * n ≡ n + c * n = omega (arith, suc-mul c n) in
    ap (λ (i : ℕ). take n (drop i (row keys n x ++ rows_of keys n xs))) e ∙ ap (take n) (sym (drop-drop (c * n) n (row keys n x ++ rows_of keys n xs)))
    ∙ ap (λ (l : List ℕ). row l n c) (drop_at (row keys n x) (rows_of keys n xs) n (f 0 (omega arith))) ∙ rows_row keys n xs (λ c h. f (suc c) (omega arith)) c (omega arith)

-- a cell of a grid is the sort of one of its words
cell-has : (g : Grid) (c : ℕ) → c < length (glued_cells g) → sort_word (word_of (own_words g) (cell_at (glued_cells g) c)) ≡ cell_at (glued_cells g) c
unfolding Complex.cells_of
cell-has g c h =
    let u =
    order_from (suc g.d) (own_words g) (cell_at (glued_cells g) c)
    (subst (λ (n : ℕ). In (cell_at (glued_cells g) c) (Complex.in_order n (rows n (flat_words g)))) (add-one g.d) (in-at (glued_cells g) c h)) in
    word-found (own_words g) (cell_at (glued_cells g) c) u.0 u.1 u.2

-- what is handed out is the end
module _ (g : Grid) (free : Crowded g.d (glued_cells g) → ⊥) (size m : ℕ) (list : List ℕ) (many : length (glued_cells g) ≡ m) (long : size ≡ cells_length g) (cells_are : take size (drop size list) ≡ flat (glued_cells g)) (words_are : take size list ≡ flat (words_by_cell g)) where
  ended : (cells order : ℕ) (b : Bool) (r : Result Triangulated Refusal) (h : Handed) → (b ≡ true → HandsOut g) → (b ≡ false → HandsOut g → ⊥) → Out size m list cells order b r h → Ends g cells order r h
  ended cells order b r h given never (short x) = ends-short free (omega (arith, long))
  ended cells order b r h given never (short_order x) = ends-short-order free (given refl) (omega (arith, long))
  ended cells order b r h given never (ordered x y) =
      subst (λ (l : List ℕ). Ends g cells order (Ok (Ordered m)) (record { cells = take size (drop size list); order = l })) (sym words_are)
      (subst (λ (l : List ℕ). Ends g cells order (Ok (Ordered m)) (record { cells = l; order = flat (words_by_cell g) })) (sym cells_are)
      (subst (λ (n : ℕ). Ends g cells order (Ok (Ordered n)) (record { cells = flat (glued_cells g); order = flat (words_by_cell g) })) many (ends-ordered free (given refl) (omega (arith, long)) (omega (arith, long)))))
  ended cells order b r h given never (unordered x) =
      subst (λ (l : List ℕ). Ends g cells order (Ok (Unordered m)) (record { cells = l; order = [] })) (sym cells_are)
      (subst (λ (n : ℕ). Ends g cells order (Ok (Unordered n)) (record { cells = flat (glued_cells g); order = [] })) many (ends-unordered free (never refl) (omega (arith, long))))

module _ (g : Grid) (at : ℕ) (keys rows₀ spare counts : List ℕ) (w : Working g at keys rows₀ spare counts) where
  pub finding : Finding g keys rows₀ spare counts
  finding = record { taken = w.taken; keys_long = omega (arith, w.keys_long); rows_long = w.rows_long; spare_long = w.spare_long; counts_long = w.counts_long }

  pub at_small : at < row_most * many_corners
  at_small = omega (arith, w.start, need-bound g.d (corners_of g) (dim g w.taken) (omega (arith, corners-few g w.taken)))

  module _ (m : ℕ) (keys₁ rows₁ spare₁ counts₁ : List ℕ) (lk : length keys₁ ≡ length keys) (lr : length rows₁ ≡ length rows₀) (ls : length spare₁ ≡ length spare) (lc : length counts₁ ≡ length counts) (f : Found g m rows₁ spare₁) where
    pub at-fits : at ≤ length keys₁
    at-fits = omega (arith, w.keys_long, w.start)

    part-long : length (take (length keys₁ - at) (drop at keys₁)) ≡ corners_of g + corners_of g
    part-long = ap length (tail-part keys₁ at) ∙ length-drop at keys₁ ∙ omega (arith, w.keys_long, w.start)

    pub laying : Laying g m (take (length keys₁ - at) (drop at keys₁)) rows₁ spare₁ counts₁
    laying =
        record {
          taken = w.taken;
          few = f.few;
          list_long = omega (arith, part-long);
          rows_long = lr ∙ w.rows_long;
          reps_long = omega (arith, f.few, w.spare_long, mul-suc (cell_count g) g.d);
          table_long = omega (arith, points-corners g w.taken, lc, w.counts_long);
          below = f.below;
        }

    module _ (ys rows₂ counts₂ : List ℕ) (ly : length ys ≡ length (take (length keys₁ - at) (drop at keys₁))) (lr₂ : length rows₂ ≡ length rows₁) (lc₂ : length counts₂ ≡ length counts₁) (b : Laid g m rows₁ spare₁ ys rows₂) where
      a₂ : Made g.d (flat_words g) m rows₂
      a₂ = made_again g.d (flat_words g) m rows₁ rows₂ f.made b.kept

      pub front-holds : at ≤ length (take at keys₁ ++ (ys ++ drop (length keys₁ - at) (drop at keys₁)))
      front-holds = omega (arith, length-append (take at keys₁) (ys ++ drop (length keys₁ - at) (drop at keys₁)), length-take-le at keys₁ at-fits)

      pub meets : (len : ℕ) → len ≡ corners_of g → Meeting g.d m len (take at (take at keys₁ ++ (ys ++ drop (length keys₁ - at) (drop at keys₁)))) rows₂ spare₁ counts₂
      meets len e =
          let front = take at (take at keys₁ ++ (ys ++ drop (length keys₁ - at) (drop at keys₁))) in
          meeting g front rows₂ spare₁ counts₂
          (record {
            taken = w.taken;
            keys_long = length-take-le at (take at keys₁ ++ (ys ++ drop (length keys₁ - at) (drop at keys₁))) front-holds ∙ w.start;
            rows_long = lr₂ ∙ lr ∙ w.rows_long;
            spare_long = ls ∙ w.spare_long;
            counts_long = lc₂ ∙ lc ∙ w.counts_long;
          })
          m front rows₂ spare₁ counts₂ refl refl refl refl a₂ len e

      -- 7
      pub worked-crowded : (cells order : List ℕ) → Crowded g.d (cut (suc g.d) m rows₂) → Worked g (Err CrowdedFacet) cells cells order order
      worked-crowded cells order x = record { handed = nothing; ends = crowded (subst (λ (cs : List (List ℕ)). Crowded g.d cs) a₂.same x); the_cells = refl; the_order = refl }

      pub free : (mates : List ℕ) → MateTable g.d (cut (suc g.d) m rows₂) mates → Crowded g.d (glued_cells g) → ⊥
      free mates t x = not-crowded g.d m (cut (suc g.d) m rows₂) (cut-length (suc g.d) m rows₂) mates t (omega (arith, a₂.most, a₂.corners)) (subst (λ (cs : List (List ℕ)). Crowded g.d cs) (sym a₂.same) x)

      -- ---- the table of mates stands in rows₃, the keys' first part is p
      module _ (p rows₃ : List ℕ) (lp : length p ≡ length (take at (take at keys₁ ++ (ys ++ drop (length keys₁ - at) (drop at keys₁))))) (lr₃ : length rows₃ ≡ length rows₂) (t : MateTable g.d (cut (suc g.d) m rows₂) rows₃) where
        last-part : drop at (p ++ drop at (take at keys₁ ++ (ys ++ drop (length keys₁ - at) (drop at keys₁)))) ≡ ys
        last-part =
            let over : length (drop at keys₁) ≤ length keys₁ - at = omega (arith, length-drop at keys₁) in
            drop_at p (drop at (take at keys₁ ++ (ys ++ drop (length keys₁ - at) (drop at keys₁)))) at (lp ∙ length-take-le at (take at keys₁ ++ (ys ++ drop (length keys₁ - at) (drop at keys₁))) front-holds)
            ∙ drop_at (take at keys₁) (ys ++ drop (length keys₁ - at) (drop at keys₁)) at (length-take-le at keys₁ at-fits)
            ∙ ap (λ (l : List ℕ). ys ++ l) (drop_of_length-le (drop at keys₁) over) ∙ append-nil ys

        -- the part that is lent on
        pub lent : take (length (p ++ drop at (take at keys₁ ++ (ys ++ drop (length keys₁ - at) (drop at keys₁)))) - at) (drop at (p ++ drop at (take at keys₁ ++ (ys ++ drop (length keys₁ - at) (drop at keys₁))))) ≡ ys
        lent = tail-part (p ++ drop at (take at keys₁ ++ (ys ++ drop (length keys₁ - at) (drop at keys₁)))) at ∙ last-part

        pub part-fits : at ≤ length (p ++ drop at (take at keys₁ ++ (ys ++ drop (length keys₁ - at) (drop at keys₁))))
        part-fits = omega (arith, length-append p (drop at (take at keys₁ ++ (ys ++ drop (length keys₁ - at) (drop at keys₁)))), lp, length-take-le at (take at keys₁ ++ (ys ++ drop (length keys₁ - at) (drop at keys₁))) front-holds)

        -- the keys keep their length
        pub keys_kept : length (p ++ drop at (take at keys₁ ++ (ys ++ drop (length keys₁ - at) (drop at keys₁)))) ≡ length keys
        keys_kept =
            let l = take at keys₁ ++ (ys ++ drop (length keys₁ - at) (drop at keys₁)) in
            omega (
              arith,
              length-append p (drop at l),
              lp,
              length-take-le at l front-holds,
              length-drop at l,
              length-append (take at keys₁) (ys ++ drop (length keys₁ - at) (drop at keys₁)),
              length-take-le at keys₁ at-fits,
              at-fits,
              length-append ys (drop (length keys₁ - at) (drop at keys₁)),
              length-drop (length keys₁ - at) (drop at keys₁),
              length-drop at keys₁,
              ly,
              ap length (tail-part keys₁ at),
              lk,
            )

        many : length (glued_cells g) ≡ m
        many = ap length (sym a₂.same) ∙ cut-length (suc g.d) m rows₂

        size-most : m * suc g.d ≤ corners_of g
        size-most = mul-le-mul_right (suc g.d) f.few

        size_few : m * suc g.d < none
        size_few = omega (arith, size-most, corners-few g w.taken)

        pub size_small : m * (g.d + 1) < many_corners
        size_small = rw (add-one g.d) (omega (arith, size-most, corners-few g w.taken))

        size-code : m * (g.d + 1) ≡ m * suc g.d
        size-code = ap (λ (n : ℕ). m * n) (add-one g.d)

        ys-long : length ys ≡ corners_of g + corners_of g
        ys-long = ly ∙ part-long

        table : MateTable g.d (glued_cells g) rows₃
        table = subst (λ (cs : List (List ℕ)). MateTable g.d cs rows₃) a₂.same t

        reps_long : m ≤ length spare₁
        reps_long = omega (arith, f.few, ls, w.spare_long, mul-suc (cell_count g) g.d)

        words-in : (r : ℕ) → r < cell_count g → r * suc g.d + suc g.d ≤ length (flat_words g)
        words-in r h = omega (arith, pos-room r (cell_count g) (suc g.d) h, words_long g w.taken)

        gathered-long : length (rows_of (flat_words g) (suc g.d) (take m spare₁)) ≡ m * suc g.d
        gathered-long = rows_of-pos (flat_words g) (suc g.d) spare₁ m m (λ j h. words-in (get_or spare₁ j 0) (f.below j h)) (omega arith) reps_long

        -- the words by cell stand in front
        front-rows : cut (suc g.d) m ys ≡ cut (suc g.d) m (rows_of (flat_words g) (suc g.d) (take m spare₁))
        front-rows =
            cut-front (suc g.d) m ys (rows_of (flat_words g) (suc g.d) (take m spare₁))
            (b.words ∙ sym (take_all (m * suc g.d) (rows_of (flat_words g) (suc g.d) (take m spare₁)) (omega (arith, gathered-long))))

        word_read : (c : ℕ) → c < m → row ys (suc g.d) c ≡ cell_at (words_by_cell g) c
        word_read c h =
            let n = suc g.d in
            let ws = flat_words g in
            let lt : length (take m spare₁) ≡ m = length-take-le m spare₁ reps_long in
            let hc : c < length (glued_cells g) = omega (arith, many) in
            let one : (i : ℕ) → i < length (take m spare₁) → length (row ws n (get_or (take m spare₁) i 0)) ≡ n =
            λ i k.
            let ki : i < m = omega (arith, lt) in
            ap (λ (r : ℕ). length (row ws n r)) (get_or-take m spare₁ i 0 ki)
            ∙ length-take-le n (drop (get_or spare₁ i 0 * n) ws) (omega (arith, length-drop (get_or spare₁ i 0 * n) ws, words-in (get_or spare₁ i 0) (f.below i ki))) in
            sym (cut_at n m ys c h) ∙ ap (λ (l : List (List ℕ)). get_or l c []) front-rows ∙ cut_at n m (rows_of ws n (take m spare₁)) c h
            ∙ rows_row ws n (take m spare₁) one c (omega (arith, lt)) ∙ ap (row ws n) (get_or-take m spare₁ c 0 h) ∙ sym (first_word g w.taken m rows₁ spare₁ f c h) ∙ sym (by-cell-at (own_words g) (glued_cells g) c hc)

        words-flat : take (m * suc g.d) ys ≡ flat (words_by_cell g)
        words-flat =
            let lt : length (take m spare₁) ≡ m = length-take-le m spare₁ reps_long in
            b.words
            ∙ sym (by-cell-rows (own_words g) (glued_cells g) (flat_words g) (suc g.d) (take m spare₁) (lt ∙ sym many)
            (λ c h. let hc : c < m = omega (arith, many) in first_word g w.taken m rows₁ spare₁ f c hc ∙ ap (row (flat_words g) (suc g.d)) (sym (get_or-take m spare₁ c 0 hc))))

        -- the cells stand behind them
        cells-flat : take (m * suc g.d) (drop (m * suc g.d) ys) ≡ flat (glued_cells g)
        cells-flat = b.behind ∙ sym (flat-cut (suc g.d) m rows₁) ∙ ap flat f.made.same

        cell-read : (c i : ℕ) → c < m → i ≤ g.d → get_or ys (m * suc g.d + c * suc g.d + i) 0 ≡ get_or (cell_at (glued_cells g) c) i 0
        cell-read c i h k =
            let n = suc g.d in
            let at_i : m * n + c * n + i ≡ m * n + (c * n + i) = omega arith in
            let inside : c * n + i < m * n = omega (arith, pos-room c m n h) in
            let small : i < n = omega arith in
            ap (λ (x : ℕ). get_or ys x 0) at_i ∙ sym (get_or-drop (m * n) ys (c * n + i) 0) ∙ front_at (m * n) (drop (m * n) ys) rows₁ (c * n + i) inside b.behind
            ∙ sym (get_or-drop (c * n) rows₁ i 0) ∙ sym (get_or-take n (drop (c * n) rows₁) i 0 small) ∙ ap (λ (l : List ℕ). get_or l i 0) (sym (cut_at n m rows₁ c h))
            ∙ ap (λ (cs : List (List ℕ)). get_or (cell_at cs c) i 0) f.made.same

        word-code : (c : ℕ) → c < m → row ys (g.d + 1) c ≡ cell_at (words_by_cell g) c
        word-code = subst (λ (n : ℕ). (c : ℕ) → c < m → row ys n c ≡ cell_at (words_by_cell g) c) (sym (add-one g.d)) word_read

        cell-code : (c i : ℕ) → c < m → i ≤ g.d → get_or ys (m * (g.d + 1) + c * (g.d + 1) + i) 0 ≡ get_or (cell_at (glued_cells g) c) i 0
        cell-code = subst (λ (n : ℕ). (c i : ℕ) → c < m → i ≤ g.d → get_or ys (m * n + c * n + i) 0 ≡ get_or (cell_at (glued_cells g) c) i 0) (sym (add-one g.d)) cell-read

        module _ (list : List ℕ) (el : list ≡ ys) where
          pub agreeing : Agreeing g.d m rows₃ list
          agreeing =
              record {
                mates_long = omega (arith, mul-le-mul_left m (slots-most g.d), size-most, lr₃, lr₂, lr, w.rows_long);
                long = omega (arith, ap length el, ys-long, size-code, size-most);
                below = mate-below g.d m (glued_cells g) many rows₃ table size_few;
                short = omega (arith, size-code, size-most, corners-few g w.taken);
                dim = omega (arith, dim g w.taken);
              }

          pub handing : Handing (m * (g.d + 1)) m list
          handing =
              record {
                long = omega (arith, ap length el, ys-long, size-code, size-most);
                small = omega (arith, size-code, size-most, corners-few g w.taken);
                few = omega (arith, f.few, corners-few g w.taken, mul-suc (cell_count g) g.d);
              }

          module _ (count : ℕ) (ec : count ≡ cell_count g) (o : Bool) (q : Decided g.d m count rows₃ list o) where
            own-many : length (own_words g) ≡ count
            own-many = cut-length (suc g.d) (length (flat_words g) / suc g.d) (flat_words g) ∙ subst (λ (n : ℕ). length (flat_words g) / n ≡ cell_count g) (add-one g.d) (words_count g w.taken) ∙ sym ec

            q-ys : Decided g.d m count rows₃ ys o
            q-ys = subst (λ (l : List ℕ). Decided g.d m count rows₃ l o) el q

            hands : o ≡ true → HandsOut g
            hands e =
                record {
                  order = record { many = own-many ∙ sym (q.many e) ∙ sym many; each = cell-has g };
                  agree = agree-yes g.d m (glued_cells g) (words_by_cell g) many rows₃ ys table size_few word-code cell-code (q-ys.all e);
                }

            hands-not : o ≡ false → HandsOut g → ⊥
            hands-not e x =
                let mc : m ≡ count = sym many ∙ sym x.order.many ∙ own-many in
                agree-no g.d m (glued_cells g) (words_by_cell g) many rows₃ ys table size_few word-code cell-code (q-ys.not e mc) x.agree

            list-words : take (m * (g.d + 1)) list ≡ flat (words_by_cell g)
            list-words = ap (take (m * (g.d + 1))) el ∙ ap (λ (i : ℕ). take i ys) size-code ∙ words-flat

            list-cells : take (m * (g.d + 1)) (drop (m * (g.d + 1)) list) ≡ flat (glued_cells g)
            list-cells = ap (λ (l : List ℕ). take (m * (g.d + 1)) (drop (m * (g.d + 1)) l)) el ∙ ap (λ (i : ℕ). take i (drop i ys)) size-code ∙ cells-flat

            pub worked-out : (r : Result Triangulated Refusal) (cells cells' order order' : List ℕ) → HandedOut (m * (g.d + 1)) m list o r cells cells' order order' → Worked g r cells cells' order order'
            worked-out r cells cells' order order' z =
                record {
                  handed = z.handed;
                  ends = ended g (free rows₃ t) (m * (g.d + 1)) m list many (size-code ∙ ap (λ (x : ℕ). x * suc g.d) (sym many)) list-cells list-words (length cells) (length order) o r z.handed hands hands-not z.out;
                  the_cells = z.the_cells;
                  the_order = z.the_order;
                }
