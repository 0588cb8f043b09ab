-- The work on a grid that is taken, step by step: what each call asks follows from what the calls before it gave. Assumes nothing.
use Rattle.refusal.specs.declared.Refusal.TheVariants.{CrowdedFacet, TooShort}
use Rattle.refusal.specs.Says.{fine}
use Rattle.std.specs.Prelude.{Err, Ok}
use mathlib.Core.Bool.{Bool, true, false}
use mathlib.Core.List.{List, [], ◌++◌}
use mathlib.Core.Path.{◌≡◌, refl, sym, ap, ◌∙◌, subst}
use Prim.Native.Nat.{ℕ, zero, suc, ◌+◌, ◌*◌, ◌/◌, ◌<◌, ◌≤◌}
use native.Mathlib.Nat.{mul_comm, mul-zero, suc-mul, mul-suc, mul-le-mul_right, le_trans}
use native.Mathlib.Numerals.{add-one}
use native.Mathlib.Omega.{arith}
use lib.ListN.{length, get_or, take, drop, length-append}
use Rattle.refusal.specs.Limits.{many_corners, most_cells}
use Rattle.lists.specs.Rows.{cut, row}
use Rattle.lists.proofs.Rows.{cut-length}
use Rattle.lists.proofs.Tables.{length-tab}
use Rattle.multiindex.specs.Sort.{sort_word, sort_words}
use Rattle.multiindex.proofs.WordsLaws.{words-length}
use Rattle.sorting.proofs.Colex.{row_same}
use Rattle.sorting.proofs.Rows.{pos-room}
use Rattle.sorting.specs.Bucket.{cell}
use Rattle.sorting.specs.Order.{Table}
use Rattle.sorting.specs.Distinct.{Distinct}
use Rattle.sorting.specs.Gather.{rows_of}
use Rattle.complex.specs.Room.{key_room}
use Rattle.complex.specs.Facets.{Crowded, cell_at, slots}
use Rattle.complex_cells.specs.WorkMade.{Made}
use Rattle.complex_cells.proofs.Making.{few-corners, words-table, key_row, made-cell, made}
use Rattle.complex_mates.specs.Table.{MateTable, Meeting}
use Rattle.complex_mates.proofs.Mated.{not-crowded}
use Rattle.quotient.specs.declared.Grid.{Grid}
use Rattle.quotient.specs.Shape.{check_of, cell_count}
use Rattle.quotient.proofs.Taken.{taken-cells}
use Rattle.grid_words.specs.Cells.{words_of, flat_words}
use Rattle.grid_words.proofs.Corners.{dim}
use Rattle.grid_words.proofs.Listed.{words-tab, words_long}
use Rattle.grid_words.proofs.Good.{words_count, words-pass}
use Rattle.grid_mesh.specs.Words.{glued_cells, corners_of, WordsEnd, crowded, short, written}
use Rattle.grid_mesh.specs.Work.{Finding, Found, IsCrowded, Working, Worked}

room-least : (d n : ℕ) → n ≤ key_room d n
room-least zero n = omega arith
room-least (suc d) n = omega (arith, suc-mul d n)

room-rows : (d m n : ℕ) → m * suc d ≤ n → m * slots d * d ≤ key_room d n
room-rows zero m n h = omega (arith, mul-zero (m * 0))
room-rows (suc d) m n h = omega (arith, mul-le-mul_right (suc d) h, mul_comm n (suc d))

-- ---- the number of a cell among the distinct rows is that of the first word that sorts to it
module _ (n count : ℕ) (ws rest : List ℕ) (whole : count * n ≡ length ws) (some : 0 < n) (m : ℕ) (reps ids rows tail : List ℕ) (q : Distinct (cell (sort_words n count (ws ++ rest)) n) n count m reps ids) (long : m ≤ length reps)
    (e : rows ≡ rows_of (sort_words n count (ws ++ rest)) n (take m reps) ++ tail) (fits : m * n ≤ length rows) where
  pub word-sorts : (c : ℕ) → c < m → sort_word (row ws n (get_or reps c 0)) ≡ get_or (cut n m rows) c []
  word-sorts c h = sym (made-cell n count ws rest whole some m reps ids rows tail q long e fits c h)

  pub word_none : (c t : ℕ) → c < m → t < get_or reps c 0 → sort_word (row ws n t) ≡ get_or (cut n m rows) c [] → ⊥
  word_none c t h l z =
      let r = get_or reps c 0 in
      let hr : r < count = q.below c h in
      let ht : t < count = omega arith in
      let same : row (sort_words n count (ws ++ rest)) n r ≡ row (sort_words n count (ws ++ rest)) n t =
      key_row n count ws rest whole some r hr ∙ word-sorts c h ∙ sym z ∙ sym (key_row n count ws rest whole some t ht) in
      omega (arith, q.least c t h ht (row_same (sort_words n count (ws ++ rest)) n r t same))

-- ---- a grid that is taken: its words are few
module _ (g : Grid) (passed : check_of g ≡ fine) where
  pub corners-few : corners_of g < many_corners
  corners-few = omega (arith, words_long g passed, few-corners g.d (flat_words g) (words-pass g passed))

  -- the number of corners as the code has it
  pub corners-are : (count : ℕ) → count ≡ cell_count g → count * (g.d + 1) ≡ corners_of g
  corners-are count e = rw (e, add-one g.d)

  pub count-few : (count : ℕ) → count ≡ cell_count g → count ≤ most_cells
  count-few count e = rw e (taken-cells g passed)

  pub words-many : length (words_of g) ≡ cell_count g
  words-many = ap length (words-tab g passed) ∙ length-tab (cell_count g) _

  -- ---- the cells of the words
  module _ (count : ℕ) (e : count ≡ cell_count g) (rest K : List ℕ) (k : K ≡ sort_words (g.d + 1) count (flat_words g ++ rest)) where
    count-is : count ≡ length (flat_words g) / (g.d + 1)
    count-is = e ∙ sym (words_count g passed)

    long-is : length (flat_words g) ≡ count * (g.d + 1)
    long-is = words_long g passed ∙ sym (corners-are count e)

    pub grid-table : Table K (g.d + 1) count (count * (g.d + 1))
    grid-table =
        subst (λ (l : List ℕ). Table l (g.d + 1) count (count * (g.d + 1))) (sym k)
        (subst (λ (b : ℕ). Table (sort_words (g.d + 1) count (flat_words g ++ rest)) (g.d + 1) count b) long-is
        (subst (λ (n : ℕ). Table (sort_words (g.d + 1) n (flat_words g ++ rest)) (g.d + 1) n (length (flat_words g))) (sym count-is)
        (words-table g.d (flat_words g) (words-pass g passed) rest)))

    pub keys-hold : corners_of g ≤ length K
    keys-hold = omega (arith, ap length k, words-length (g.d + 1) count (flat_words g ++ rest), length-append (flat_words g) rest, words_long g passed)

    pub count_fits_lem : count ≤ corners_of g
    count_fits_lem = omega (arith, mul-suc (cell_count g) g.d)

    pub rows_fit : count * (g.d + 1) ≤ length K
    rows_fit = omega (arith, keys-hold, corners-are count e)

    pub row_fits : (r : ℕ) → r < count → r * (g.d + 1) + (g.d + 1) ≤ length K
    row_fits r h = le_trans (pos-room r count (g.d + 1) h) rows_fit

    module _ (m : ℕ) (reps ids rows tail : List ℕ) (q : Distinct (cell K (g.d + 1)) (g.d + 1) count m reps ids) (long : m ≤ length reps) (f : rows ≡ rows_of K (g.d + 1) (take m reps) ++ tail) (room : corners_of g ≤ length rows) where
      pub grid-made : Made g.d (flat_words g) m rows
      grid-made =
          made g.d (flat_words g) (words-pass g passed) rest m reps ids rows tail
          (subst (λ (n : ℕ). Distinct (cell (sort_words (g.d + 1) n (flat_words g ++ rest)) (g.d + 1)) (g.d + 1) n m reps ids) count-is (subst (λ (l : List ℕ). Distinct (cell l (g.d + 1)) (g.d + 1) count m reps ids) k q))
          long
          (f ∙ ap (λ (l : List ℕ). rows_of l (g.d + 1) (take m reps) ++ tail) (k ∙ ap (λ (n : ℕ). sort_words (g.d + 1) n (flat_words g ++ rest)) count-is))
          (omega (arith, words_long g passed))

      here-q : Distinct (cell (sort_words (g.d + 1) count (flat_words g ++ rest)) (g.d + 1)) (g.d + 1) count m reps ids
      here-q = subst (λ (l : List ℕ). Distinct (cell l (g.d + 1)) (g.d + 1) count m reps ids) k q

      here-rows : rows ≡ rows_of (sort_words (g.d + 1) count (flat_words g ++ rest)) (g.d + 1) (take m reps) ++ tail
      here-rows = f ∙ ap (λ (l : List ℕ). rows_of l (g.d + 1) (take m reps) ++ tail) k

      here-fits : m * (g.d + 1) ≤ length rows
      here-fits = omega (arith, mul-le-mul_right (g.d + 1) q.few, corners-are count e)

      -- the row number n as the code has it, and as the definitions have it
      sorts-suc : (c : ℕ) → c < m → sort_word (row (flat_words g) (suc g.d) (get_or reps c 0)) ≡ get_or (cut (suc g.d) m rows) c []
      sorts-suc =
          subst (λ (n : ℕ). (c : ℕ) → c < m → sort_word (row (flat_words g) n (get_or reps c 0)) ≡ get_or (cut n m rows) c []) (add-one g.d)
          (word-sorts (g.d + 1) count (flat_words g) rest (sym long-is) (omega arith) m reps ids rows tail here-q long here-rows here-fits)

      none-suc : (c t : ℕ) → c < m → t < get_or reps c 0 → sort_word (row (flat_words g) (suc g.d) t) ≡ get_or (cut (suc g.d) m rows) c [] → ⊥
      none-suc =
          subst (λ (n : ℕ). (c t : ℕ) → c < m → t < get_or reps c 0 → sort_word (row (flat_words g) n t) ≡ get_or (cut n m rows) c [] → ⊥) (add-one g.d)
          (word_none (g.d + 1) count (flat_words g) rest (sym long-is) (omega arith) m reps ids rows tail here-q long here-rows here-fits)

      pub found : Found g m rows reps
      found =
          record {
            made = grid-made;
            few = omega (arith, q.few);
            below = λ c h. omega (arith, q.below c h);
            sorts = λ c h. sorts-suc c h ∙ ap (λ (cs : List (List ℕ)). cell_at cs c) grid-made.same;
            first = λ c t h l z. none-suc c t h l (z ∙ sym (ap (λ (cs : List (List ℕ)). cell_at cs c) grid-made.same));
          }

    pub most-rows : (m : ℕ) → m ≤ count → m * (g.d + 1) ≤ corners_of g
    most-rows m h = omega (arith, mul-le-mul_right (g.d + 1) h, corners-are count e)

-- ---- the work, in lists of just the lengths that are needed
module _ (g : Grid) (keys rows spare counts : List ℕ) (w : Working g keys rows spare counts) where
  pub finding : Finding g keys rows spare counts
  finding =
      record {
        taken = w.taken;
        keys_long = omega (arith, w.keys_long, room-least g.d (corners_of g));
        rows_long = w.rows_long;
        spare_long = w.spare_long;
        counts_long = w.counts_long;
      }

  module _ (m : ℕ) (keys' rows' spare' counts' : List ℕ) (lk : length keys' ≡ length keys) (lr : length rows' ≡ length rows) (ls : length spare' ≡ length spare) (lc : length counts' ≡ length counts) (a : Made g.d (flat_words g) m rows') where
    corners_long : length (flat_words g) ≡ corners_of g
    corners_long = words_long g w.taken

    pub meeting : (b : ℕ) → b ≡ corners_of g → Meeting g.d m b keys' rows' spare' counts'
    meeting b e =
        record {
          cells = a.cells;
          rows_long = omega (arith, a.most, w.rows_long, corners_long);
          keys_long = omega (arith, room-rows g.d m (corners_of g) (omega (arith, a.most, corners_long)), w.keys_long);
          spare_long = omega (arith, a.most, w.spare_long, corners_long);
          counts_long = omega (arith, a.most, w.counts_long, corners_long);
          buckets = omega (arith, w.counts_long);
          few = omega (arith, a.most, a.corners);
          small = omega (arith, dim g w.taken);
          below = λ i h. omega (arith, a.below i h, corners_long);
        }

    -- what the table of mates tells
    pub mates-crowded : Crowded g.d (cut (suc g.d) m rows') → Crowded g.d (glued_cells g)
    mates-crowded x = subst (λ (cs : List (List ℕ)). Crowded g.d cs) a.same x

    pub mates-free : (rows'' : List ℕ) → MateTable g.d (cut (suc g.d) m rows') rows'' → Crowded g.d (glued_cells g) → ⊥
    mates-free rows'' t x = not-crowded g.d m (cut (suc g.d) m rows') (cut-length (suc g.d) m rows') rows'' t (omega (arith, a.most, a.corners)) (subst (λ (cs : List (List ℕ)). Crowded g.d cs) (sym a.same) x)

-- ---- the ends of the work
module _ (g : Grid) (passed : check_of g ≡ fine) (r : Bool) (told : IsCrowded g r) where
  -- 7
  pub worked-crowded : r ≡ true → (out : List ℕ) → Worked g (Err CrowdedFacet) out out
  worked-crowded e out = record { handed = []; ends = crowded (told.yes e); result = refl }

  -- 12
  pub worked-short : r ≡ false → (out : List ℕ) (len : ℕ) → len ≡ corners_of g → length out < len → Worked g (Err TooShort) out out
  worked-short q out len e h = record { handed = []; ends = short (told.no q) (omega (arith, words_long g passed)); result = refl }

  -- the words
  pub worked-written : r ≡ false → (out part : List ℕ) (count len : ℕ) → count ≡ cell_count g → len ≡ corners_of g → len ≤ length out → part ≡ flat_words g → Worked g (Ok count) out (part ++ drop len out)
  worked-written q out part count len c e h p =
      record {
        handed = flat_words g;
        ends = subst (λ (n : ℕ). WordsEnd g (length out) (Ok n) (flat_words g)) (words-many g passed ∙ sym c) (written (told.no q) (omega (arith, words_long g passed)));
        result = rw (p, e, words_long g passed);
      }
