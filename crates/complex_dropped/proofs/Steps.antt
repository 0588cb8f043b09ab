-- The steps of `drop_cells` between its loops: what each call asks follows from what the calls before it gave. Assumes nothing.
use mathlib.Core.Bool.{Bool, true, false, not, ◌||◌}
use mathlib.Core.List.{List, [], ◌∷◌, ◌++◌}
use mathlib.Core.Path.{◌≡◌, refl, sym, ap, ◌∙◌, subst}
use Prim.Native.Nat.{ℕ, zero, suc, ◌+◌, ◌*◌, ◌/◌, ◌<◌, ◌≤◌}
use native.Mathlib.Nat.{zero-mul, suc-mul, mul-suc, mul-le-mul_right}
use native.Mathlib.Numerals.{add-one}
use native.Mathlib.Decide.{dec_lt}
use native.Mathlib.Omega.{arith}
use lib.Dec.{eqb, leb}
use lib.ListN.{length, get_or, take, drop, set, replicate, length-append, length-replicate, length-set, get_or-replicate}
use lib.Seq.{take_at, drop-drop, length-take-le, get_or-take}
use borrow.Author.Tests.{leb-false}
use Rattle.lists.specs.Words.{among, largest_of, marked}
use Rattle.lists.specs.Rows.{flat, cut, rows, row}
use Rattle.lists.proofs.Rows.{cut-length, cut_at}
use Rattle.lists.proofs.Words.{marked-at, free_after, below-largest, word-within}
use Rattle.lists.proofs.Members.{Mem-at, Mem-of}
use Rattle.lists.proofs.Flat.{flat-length}
use Rattle.sorting.specs.Bucket.{cell}
use Rattle.sorting.specs.Gather.{rows_of}
use Rattle.sorting.specs.Distinct.{Distinct}
use Rattle.sorting.proofs.Colex.{same_row}
use Rattle.multiindex.specs.Sort.{sort_word, sort_words}
use Rattle.complex.specs.Check.{Passed}
use Rattle.complex.specs.Room.{key_room}
use Rattle.complex.specs.Cells.{cells_of}
use Rattle.complex.specs.Facets.{cell_at}
use Rattle.complex.specs.Skeleton.{numbers, only_if, keep, keep_if}
use Rattle.complex_cells.specs.WorkMade.{Making, Made}
use Rattle.complex_cells.specs.WorkNamed.{row_list}
use Rattle.complex_cells.proofs.Words.{Word, In, in-at}
use Rattle.complex_cells.proofs.Making.{whole_words, few-corners, low-numbers, key_row, key-length, made-cell, made}
use Rattle.complex_cells.proofs.Named.{row_list-flat, row_list-length, row_list-append}
use Rattle.complex_dropped.specs.Kept.{cell_number, staying, corners, in_use, names_missing}
use Rattle.complex_dropped.specs.Work.{Within, WordCells, Staying, Numbered, Gathering, Gathered, Numbering, Renumbered, Handing}
use Rattle.complex_dropped.proofs.Counting.{numbers-same, numbers-past, count_most, numbers-stands}
use Rattle.complex_dropped.proofs.Members.{among-mem}
use Rattle.complex_dropped.proofs.Kept.{number_is, number-low, stay-memᴰ, corner-old}

pub room-least : (d n : ℕ) → n ≤ key_room d n
room-least zero n = omega arith
room-least (suc d) n = omega (arith, suc-mul d n)

-- ---- the cell of each word
module _ (d : ℕ) (ws : List ℕ) (p : Passed d ws) (rest : List ℕ) (m : ℕ) (reps ids : List ℕ)
    (q : Distinct (cell (sort_words (d + 1) (length ws / (d + 1)) (ws ++ rest)) (d + 1)) (d + 1) (length ws / (d + 1)) m reps ids) (long : m ≤ length reps) where
  abbrev sorted : List ℕ
  sorted = sort_words (d + 1) (length ws / (d + 1)) (ws ++ rest)

  -- the distinct rows gathered, as `cells` does it
  abbrev gathered : List ℕ
  gathered = rows_of sorted (d + 1) (take m reps) ++ replicate (length ws) 0

  room : length ws ≤ length gathered
  room = omega (arith, length-append (rows_of sorted (d + 1) (take m reps)) (replicate (length ws) 0), length-replicate {A = ℕ} (length ws) 0)

  as-made : Made d ws m gathered
  as-made = made d ws p rest m reps ids gathered (replicate (length ws) 0) q long refl room

  cells_are : cut (d + 1) m gathered ≡ cells_of d ws
  cells_are = ap (λ (n : ℕ). cut n m gathered) (add-one d) ∙ as-made.same

  cells-many : length (cells_of d ws) ≡ m
  cells-many = ap length (sym cells_are) ∙ cut-length (d + 1) m gathered

  cell_is : (c : ℕ) → c < m → cell_at (cells_of d ws) c ≡ sort_word (row ws (d + 1) (get_or reps c 0))
  cell_is c h =
      ap (λ (l : List Word). cell_at l c) (sym cells_are)
      ∙ made-cell (d + 1) (length ws / (d + 1)) ws rest (whole_words d ws p) (omega arith) m reps ids gathered (replicate (length ws) 0) q long refl
      (omega (arith, room, mul-le-mul_right (d + 1) q.few, whole_words d ws p)) c h

  row_room : (r : ℕ) → r < length ws / (d + 1) → r * (d + 1) + (d + 1) ≤ length sorted
  row_room r h = omega (arith, key-length (d + 1) (length ws / (d + 1)) ws rest (whole_words d ws p) (omega arith), suc-mul r (d + 1), mul-le-mul_right (d + 1) h, whole_words d ws p)

  pub word_cells : WordCells d ws ids
  word_cells k h =
      let c : ℕ = get_or ids k 0 in
      let hc : c < m = q.id_below k h in
      let r : ℕ = get_or reps c 0 in
      let hr : r < length ws / (d + 1) = q.below c hc in
      sym (number_is d ws [] p (row ws (d + 1) k) c (omega (arith, cells-many))
      (cell_is c hc
      ∙ sym (key_row (d + 1) (length ws / (d + 1)) ws rest (whole_words d ws p) (omega arith) r hr)
      ∙ same_row sorted (d + 1) r k (row_room r hr) (row_room k h) (q.id_same k h)
      ∙ key_row (d + 1) (length ws / (d + 1)) ws rest (whole_words d ws p) (omega arith) k h))

-- ---- marks
pub length_marked : (l xs : List ℕ) → length (marked l xs) ≡ length l
unfolding marked
length_marked l [] = refl
length_marked l (x ∷ xs) = length_marked (set l x 1) xs ∙ length-set l x 1

-- over an empty table a place is free exactly if it is not among the marks
pub free-at : (n : ℕ) (xs : List ℕ) (v : ℕ) → v < n → eqb (get_or (marked (replicate n 0) xs) v 0) 0 ≡ not (among v xs)
free-at n xs v h = marked-at xs (replicate n 0) v (rw length-replicate h) ∙ rw (get_or-replicate {A = ℕ} n v 0 0 h) (free-not (among v xs))
  where
    free-not : (t : Bool) → free_after t true ≡ not t
    free-not true = refl
    free-not false = refl

not-twice : (t : Bool) → not (not t) ≡ t
not-twice true = refl
not-twice false = refl

-- a set that names no missing cell
pub there-below : (m : ℕ) (gone : List ℕ) → names_missing m gone ≡ false → Within gone m
unfolding names_missing
there-below m [] e i h = absurd (omega arith)
there-below m (c ∷ gone) e i h = go (leb m c) refl e i h (there-below m gone)
  where
    go : (t : Bool) → leb m c ≡ t → (t || names_missing m gone) ≡ false → (i : ℕ) → i < length (c ∷ gone) → (names_missing m gone ≡ false → Within gone m) → get_or (c ∷ gone) i 0 < m
    go true q e i h r = let z : ◌≡◌ {A = ℕ} 0 1 = cc in absurd (omega arith)
    go false q e zero h r = leb-false m c q
    go false q e (suc i) h r = r e i (omega arith)

-- ---- the words that stay, by number
cut-snoc : (n c : ℕ) (ws : List ℕ) → cut n (suc c) ws ≡ cut n c ws ++ (row ws n c ∷ [])
unfolding cut
cut-snoc n zero ws = ap (λ (i : ℕ). take n (drop i ws) ∷ []) (sym (zero-mul n))
cut-snoc n (suc c) ws =
    let e : n + c * n ≡ suc c * n = omega (arith, suc-mul c n) in
    let r : row (drop n ws) n c ≡ row ws n (suc c) = ap (take n) (drop-drop (c * n) n ws) ∙ ap (λ (i : ℕ). take n (drop i ws)) e in
    ap (λ (l : List Word). take n ws ∷ l) (cut-snoc n c (drop n ws) ∙ ap (λ (w : Word). cut n c (drop n ws) ++ (w ∷ [])) r)

keep_append : (p : Word → Bool) (xs ys : List Word) → keep p (xs ++ ys) ≡ keep p xs ++ keep p ys
unfolding keep
keep_append p [] ys = refl
keep_append p (x ∷ xs) ys = go (p x) (keep_append p xs ys)
  where
    go : (t : Bool) → keep p (xs ++ ys) ≡ keep p xs ++ keep p ys → keep_if t x (keep p (xs ++ ys)) ≡ keep_if t x (keep p xs) ++ keep p ys
    go true r = ap (λ (l : List Word). x ∷ l) r
    go false r = r

keep_one : (p : Word → Bool) (ws : List ℕ) (n c : ℕ) → row_list ws n (only_if (p (row ws n c)) c) ≡ keep p (row ws n c ∷ [])
unfolding keep
keep_one p ws n c = go (p (row ws n c))
  where
    go : (t : Bool) → row_list ws n (only_if t c) ≡ keep_if t (row ws n c) []
    go true = refl
    go false = refl

pub rows-kept : (p : Word → Bool) (ws : List ℕ) (n count : ℕ) → row_list ws n (numbers (λ k. p (row ws n k)) count) ≡ keep p (cut n count ws)
unfolding numbers keep cut
rows-kept p ws n zero = refl
rows-kept p ws n (suc c) =
    row_list-append ws n (numbers (λ k. p (row ws n k)) c) (only_if (p (row ws n c)) c)
    ∙ ap (λ (l : List Word). l ++ row_list ws n (only_if (p (row ws n c)) c)) (rows-kept p ws n c)
    ∙ ap (λ (l : List Word). keep p (cut n c ws) ++ l) (keep_one p ws n c)
    ∙ sym (keep_append p (cut n c ws) (row ws n c ∷ []))
    ∙ ap (keep p) (sym (cut-snoc n c ws))

pub corners_long : (d : ℕ) (ws gone : List ℕ) → Passed d ws → length (corners d ws gone) ≡ length (staying d ws gone) * (d + 1)
corners_long d ws gone p = flat-length (d + 1) (staying d ws gone) (stay-memᴰ d ws gone p)

-- ---- gathering
module _ (d : ℕ) (ws gone keys order spare counts : List ℕ) (g : Gathering d ws gone keys order spare counts) where
  abbrev Stays : ℕ → Bool
  Stays k = not (among (cell_number (cells_of d ws) (row ws (d + 1) k)) gone)

  pub keys-enough : length ws ≤ length keys
  keys-enough = omega (arith, g.working.keys_long, room-least d (length ws))

  pub making : Making d ws keys order spare counts
  making = record { passed = g.working.passed; keys_long = keys-enough; rows_long = omega (arith, g.working.rows_long); spare_long = omega (arith, g.working.spare_long); counts_long = omega (arith, g.working.counts_long) }

  pub marks-are : (order' zeros marks : List ℕ) → length order' ≡ length order → zeros ≡ replicate (length order') 0 → marks ≡ marked zeros gone → marks ≡ marked (replicate (length ws) 0) gone
  marks-are order' zeros marks l e f = f ∙ ap (λ (z : List ℕ). marked z gone) (e ∙ ap (λ (n : ℕ). replicate n 0) (l ∙ g.working.rows_long))

  pub gone-low : Within gone (length ws)
  gone-low i h = omega (arith, there-below (length (cells_of d ws)) gone g.present.there i h, g.few_cells)

  pub count-few : length ws / (d + 1) ≤ length ws
  count-few = omega (arith, whole_words d ws g.working.passed, mul-suc (length ws / (d + 1)) d, ap (λ (n : ℕ). length ws / (d + 1) * n) (add-one d))

  module _ (ids : List ℕ) (q : WordCells d ws ids) where
    pub id-low : (k : ℕ) → k < length ws / (d + 1) → get_or ids k 0 < length ws
    id-low k h =
        omega (
          arith,
          q k h,
          number-low d ws gone g.working.passed (row ws (d + 1) k)
              (subst (λ (w : Word). In w (rows (d + 1) ws)) (cut_at (d + 1) (length ws / (d + 1)) ws k h) (in-at (rows (d + 1) ws) k (omega (arith, cut-length (d + 1) (length ws / (d + 1)) ws)))),
          g.few_cells,
        )

    pub staying-asked : (marks list : List ℕ) → length ids ≡ length ws → length list ≡ length ws → length marks ≡ length ws → Staying (length ws / (d + 1)) ids marks list
    staying-asked marks list li ll lm =
        record {
          few = omega (arith, count-few, few-corners d ws g.working.passed);
          ids_long = omega (arith, count-few);
          list_long = omega (arith, count-few);
          below = λ k h. omega (arith, id-low k h);
        }

    module _ (marks : List ℕ) (em : marks ≡ marked (replicate (length ws) 0) gone) where
      pub stays-are : numbers (λ k. eqb (get_or marks (get_or ids k 0) 0) 0) (length ws / (d + 1)) ≡ numbers Stays (length ws / (d + 1))
      stays-are =
          numbers-same (λ k. eqb (get_or marks (get_or ids k 0) 0) 0) Stays (length ws / (d + 1))
          (λ k h.
          ap (λ (l : List ℕ). eqb (get_or l (get_or ids k 0) 0) 0) em ∙ free-at (length ws) gone (get_or ids k 0) (id-low k h) ∙ ap (λ (v : ℕ). not (among v gone)) (q k h))

      module _ (j : ℕ) (list list₀ : List ℕ) (ej : j ≡ length (numbers (λ k. eqb (get_or marks (get_or ids k 0) 0) 0) (length ws / (d + 1))))
          (el : list ≡ numbers (λ k. eqb (get_or marks (get_or ids k 0) 0) 0) (length ws / (d + 1)) ++ drop j list₀) where
        pub list-is : take j list ≡ numbers Stays (length ws / (d + 1))
        list-is = ap (take j) el ∙ take_at (numbers (λ k. eqb (get_or marks (get_or ids k 0) 0) 0) (length ws / (d + 1))) (drop j list₀) j (sym ej) ∙ stays-are

        pub staying-many : j ≡ length (staying d ws gone)
        staying-many =
            ej ∙ ap length stays-are ∙ sym (row_list-length ws (d + 1) (numbers Stays (length ws / (d + 1))))
            ∙ ap length (rows-kept (λ w. not (among (cell_number (cells_of d ws) w) gone)) ws (d + 1) (length ws / (d + 1)))

        pub staying-few : j ≤ length ws / (d + 1)
        staying-few = omega (arith, ap length stays-are, count_most Stays (length ws / (d + 1)))

        pub staying-fits : j * (d + 1) ≤ length ws
        staying-fits = omega (arith, mul-le-mul_right (d + 1) staying-few, whole_words d ws g.working.passed)

        pub corners-are : rows_of ws (d + 1) (take j list) ≡ corners d ws gone
        corners-are =
            ap (rows_of ws (d + 1)) list-is ∙ sym (row_list-flat ws (d + 1) (numbers Stays (length ws / (d + 1))))
            ∙ ap flat (rows-kept (λ w. not (among (cell_number (cells_of d ws) w) gone)) ws (d + 1) (length ws / (d + 1)))

        -- each number listed is that of a word
        pub listed-low : (i : ℕ) → i < j → get_or list i 0 * (d + 1) + (d + 1) ≤ length ws
        listed-low i h =
            let e : get_or list i 0 ≡ get_or (numbers Stays (length ws / (d + 1))) i 0 = sym (get_or-take j list i 0 h) ∙ ap (λ (l : List ℕ). get_or l i 0) list-is in
            let b = numbers-stands Stays (length ws / (d + 1)) i (omega (arith, ap length stays-are)) in
            word-within (get_or list i 0) (d + 1) (length ws / (d + 1)) (length ws) (omega (arith, b.low)) (omega (arith, whole_words d ws g.working.passed))

        pub gathered-are : (keys' tail : List ℕ) → keys' ≡ rows_of ws (d + 1) (take j list) ++ tail → Gathered d ws gone j keys'
        gathered-are keys' tail e =
            record {
              many = staying-many;
              front = ap (take (j * (d + 1))) (e ∙ ap (λ (l : List ℕ). l ++ tail) corners-are) ∙ take_at (corners d ws gone) tail (j * (d + 1)) (corners_long d ws gone g.working.passed ∙ ap (λ (r : ℕ). r * (d + 1)) (sym staying-many));
              fits = staying-fits;
            }

-- ---- renumbering
among-low : (xs : List ℕ) (n v : ℕ) → Within xs n → among v xs ≡ true → v < n
among-low xs n v w e = let r = Mem-at v xs (among-mem v xs e) in omega (arith, w r.0 r.1, r.2)

among-high : (xs : List ℕ) (n v : ℕ) → Within xs n → n ≤ v → among v xs ≡ false
among-high xs n v w h = go (among v xs) refl
  where
    go : (t : Bool) → among v xs ≡ t → t ≡ false
    go true e = absurd (omega (arith, among-low xs n v w e))
    go false e = refl

pub within-largest : (xs : List ℕ) → Within xs (suc (largest_of xs))
within-largest xs i h = omega (arith, below-largest xs i)

-- the numbers in use, whatever the bound
pub used-same : (xs : List ℕ) (n : ℕ) → Within xs n → numbers (λ v. among v xs) n ≡ in_use xs
used-same xs n w =
    elim (dec_lt n (suc (largest_of xs))) [
      | yes l ↦ sym (numbers-past (λ v. among v xs) n (suc (largest_of xs)) (omega arith) (λ v h k. among-high xs n v w h))
      | no l ↦ numbers-past (λ v. among v xs) (suc (largest_of xs)) n (omega arith) (λ v h k. among-high xs (suc (largest_of xs)) v (within-largest xs) h)
    ]

module _ (xs order spare : List ℕ) (a : Numbering xs order spare) (marks : List ℕ) (em : marks ≡ marked (replicate (length spare) 0) xs) (r : ℕ) (marks' order' : List ℕ) (q : Numbered marks order r marks' order') where
  marks_long : length marks ≡ length spare
  marks_long = ap length em ∙ length_marked (replicate (length spare) 0) xs ∙ length-replicate (length spare) 0

  marked-is : (v : ℕ) → v < length spare → not (eqb (get_or marks v 0) 0) ≡ among v xs
  marked-is v h = ap (λ (l : List ℕ). not (eqb (get_or l v 0) 0)) em ∙ ap not (free-at (length spare) xs v h) ∙ not-twice (among v xs)

  listed-is : numbers (λ v. not (eqb (get_or marks v 0) 0)) (length marks) ≡ in_use xs
  listed-is =
      ap (numbers (λ v. not (eqb (get_or marks v 0) 0))) marks_long
      ∙ numbers-same (λ v. not (eqb (get_or marks v 0) 0)) (λ v. among v xs) (length spare) marked-is
      ∙ used-same xs (length spare) a.low

  pub renumbered : Renumbered xs r order' marks'
  renumbered =
      record {
        many = q.many ∙ ap length listed-is;
        old = ap (take r) q.listed ∙ take_at (numbers (λ v. not (eqb (get_or marks v 0) 0)) (length marks)) (drop r order) r (sym q.many) ∙ listed-is;
        most = omega (arith, ap length q.listed, length-append (numbers (λ v. not (eqb (get_or marks v 0) 0)) (length marks)) (drop r order), q.many);
        new = λ v e.
            let h : v < length spare = among-low xs (length spare) v a.low e in
            q.each v (omega (arith, marks_long)) (marked-is v h ∙ e)
            ∙ ap length (numbers-same (λ v. not (eqb (get_or marks v 0) 0)) (λ v. among v xs) v (λ u l. marked-is u (omega arith)));
      }

-- ---- the words that stay are renumbered
pub corners-low : (d : ℕ) (ws gone : List ℕ) → Passed d ws → Within (corners d ws gone) (length ws)
corners-low d ws gone p i h =
    let r = Mem-at (get_or (corners d ws gone) i 0) ws (corner-old d ws gone p (get_or (corners d ws gone) i 0) (Mem-of (corners d ws gone) i h)) in
    omega (arith, low-numbers d ws p r.0 r.1, r.2)

module _ (d : ℕ) (ws gone keys order spare counts : List ℕ) (g : Gathering d ws gone keys order spare counts) (n : ℕ) (keys' order' spare' : List ℕ) (lk : length keys' ≡ length keys) (lo : length order' ≡ length order) (ls : length spare' ≡ length spare)
    (a : Gathered d ws gone n keys') where
  pub front_fits : n * (d + 1) ≤ length keys'
  front_fits = omega (arith, a.fits, keys-enough d ws gone keys order spare counts g)

  pub front_low : Within (take (n * (d + 1)) keys') (length spare')
  front_low = subst (λ (xs : List ℕ). Within xs (length spare')) (sym a.front) (λ i h. omega (arith, corners-low d ws gone g.working.passed i h, g.working.spare_long))

  pub numbering : Numbering (take (n * (d + 1)) keys') order' spare'
  numbering = record { low = front_low; rows_long = omega (arith, g.working.rows_long, g.working.spare_long); few = omega (arith, g.working.spare_long, few-corners d ws g.working.passed) }

  module _ (r : ℕ) (order'' spare'' : List ℕ) (lo'' : length order'' ≡ length order') (ls'' : length spare'' ≡ length spare') (b : Renumbered (take (n * (d + 1)) keys') r order'' spare'') where
    pub handing : Handing n (take (n * (d + 1)) keys') spare'' (take r order'')
    handing =
        record {
          low = λ i h. omega (arith, front_low i h);
          named = b.new;
          few = omega (arith, a.fits, mul-suc n d, ap (λ (z : ℕ). n * z) (add-one d), few-corners d ws g.working.passed);
          few_old = omega (arith, length-take-le r order'' b.most, b.most, g.working.rows_long, few-corners d ws g.working.passed);
        }
