-- Corners sorted by vertex are the cells at each vertex, one vertex after the other. Assumes nothing.
use mathlib.Core.Bool.{Bool, true, false, ◌||◌}
use mathlib.Core.List.{List, [], ◌∷◌, ◌++◌, map, map-append, append-nil}
use mathlib.Core.Path.{◌≡◌, refl, sym, ap, ◌∙◌, subst}
use mathlib.Core.Logic.{⊎_elim}
use Prim.Native.Nat.{ℕ, zero, suc, ◌+◌, ◌-◌, ◌*◌, ◌/◌, ◌<◌, ◌≤◌}
use native.Mathlib.Nat.{eq-or-lt_of_le, suc-mul, zero-mul, zero-add, mul-one, add-zero}
use native.Mathlib.Decide.{dec_lt, ℕ_discrete}
use native.Mathlib.Numerals.{add-one}
use native.Mathlib.Omega.{arith}
use lib.Dec.{eqb}
use borrow.Author.Tests.{eq-eqb, ne_eqb}
use lib.ListN.{length, get_or, take, drop, set, length-append, length-take, length-map, get_or-append}
use lib.Seq.{take-suc, take_all, get_or-take, get_or-append-add}
use Rattle.lists.specs.Tables.{upto, tab}
use Rattle.lists.specs.Words.{among}
use Rattle.lists.specs.Rows.{flat, cut}
use Rattle.lists.proofs.Flat.{flat_append}
use Rattle.lists.proofs.Rows.{cut_at, row-div}
use Rattle.lists.proofs.Front.{put}
use Rattle.lists.proofs.Tables.{length-tab, tab-more}
use Rattle.lists.proofs.Members.{All-at}
use Rattle.sorting.specs.Bucket.{pick, bucket_sort, cell}
use Rattle.sorting.proofs.Laws.{pick-append, pick-hit, pick-miss, pick-nil, length-bucket-mono}
use Rattle.sorting.proofs.Sorts.{pick-keys}
use Rattle.sorting.proofs.Colex.{row-cell}
use Rattle.complex.specs.Facets.{cell_at, Cells}
use Rattle.complex.specs.Skeleton.{only_if, numbers}
use Rattle.complex_faces.specs.Index.{cells_at, index_of, starts_from, starts_of}
use Rattle.complex_incidence.specs.Work.{corners_below}

-- ---- lists written from the front
pub tab-put : (f : ℕ → ℕ) (d : List ℕ) (i a : ℕ) → a ≡ f i → i < length d → set (tab i f ++ drop i d) i a ≡ tab (i + 1) f ++ drop (i + 1) d
tab-put f d i a e h =
    put (tab i f) d i a (length-tab i f) h
    ∙ ap (λ (z : ℕ). (tab i f ++ (z ∷ [])) ++ drop (i + 1) d) e
    ∙ ap (λ (z : List ℕ). z ++ drop (i + 1) d) (sym (tab-more i f))
    ∙ ap (λ (z : ℕ). tab z f ++ drop (i + 1) d) (sym (add-one i))

pub tab-map : (g : ℕ → ℕ) (n : ℕ) (xs : List ℕ) → n ≤ length xs → tab n (λ i. g (get_or xs i 0)) ≡ map g (take n xs)
tab-map g zero xs h = refl
tab-map g (suc n) xs h =
    tab-more n (λ i. g (get_or xs i 0))
    ∙ ap (λ (z : List ℕ). z ++ (g (get_or xs n 0) ∷ [])) (tab-map g n xs (omega arith))
    ∙ sym (map-append g (take n xs) (get_or xs n 0 ∷ []))
    ∙ ap (map g) (sym (take-suc xs n 0 (omega arith)))

-- ---- a place of the sorted list, and the vertex there
module _ (k : ℕ → ℕ) (xs : List ℕ) where
  pub key-cuts : (b v i : ℕ) → v ≤ b → i < length (bucket_sort k b xs) →
      (i < length (bucket_sort k v xs) → k (get_or (bucket_sort k b xs) i 0) < v) × (length (bucket_sort k v xs) ≤ i → v ≤ k (get_or (bucket_sort k b xs) i 0))
  unfolding bucket_sort
  key-cuts zero v i h l = absurd (omega arith)
  key-cuts (suc b) v i h l =
      elim (dec_lt i (length (bucket_sort k b xs))) [
        | yes s ↦
            let e : get_or (bucket_sort k b xs ++ pick k b xs) i 0 ≡ get_or (bucket_sort k b xs) i 0 = get_or-append (bucket_sort k b xs) (pick k b xs) 0 i s in
            subst (λ (z : ℕ). (i < length (bucket_sort k v xs) → k z < v) × (length (bucket_sort k v xs) ≤ i → v ≤ k z)) (sym e)
            (⊎_elim
            (λ (q : v ≡ suc b). let t = (key-cuts b b i (omega arith) s).0 s in (λ z. omega (arith, t), λ z. absurd (omega (arith, length-bucket-mono k b v xs (omega arith)))))
            (λ (q : v < suc b). key-cuts b v i (omega arith) s)
            (eq-or-lt_of_le h))
        | no s ↦
            let j = i - length (bucket_sort k b xs) in
            let a : i ≡ length (bucket_sort k b xs) + (i - length (bucket_sort k b xs)) = omega arith in
            let n : i - length (bucket_sort k b xs) < length (pick k b xs) = omega (arith, length-append (bucket_sort k b xs) (pick k b xs)) in
            let e : get_or (bucket_sort k b xs ++ pick k b xs) i 0 ≡ get_or (pick k b xs) (i - length (bucket_sort k b xs)) 0 =
            ap (λ (z : ℕ). get_or (bucket_sort k b xs ++ pick k b xs) z 0) a ∙ get_or-append-add (bucket_sort k b xs) (pick k b xs) (i - length (bucket_sort k b xs)) 0 in
            let t : k (get_or (bucket_sort k b xs ++ pick k b xs) i 0) ≡ b = ap k e ∙ All-at (λ y. k y ≡ b) (pick k b xs) (i - length (bucket_sort k b xs)) (pick-keys k b xs) n in
            ⊎_elim
            (λ (q : v ≡ suc b). (λ z. omega arith, λ z. absurd (omega (arith, ap (λ (y : ℕ). length (bucket_sort k y xs)) q))))
            (λ (q : v < suc b). (λ z. absurd (omega (arith, length-bucket-mono k v b xs (omega arith))), λ z. omega arith))
            (eq-or-lt_of_le h)
      ]

-- ---- a number among others, and one more
or-true : (a : Bool) → (a || true) ≡ true
or-true true = refl
or-true false = refl

last-hit : (v y : ℕ) (xs : List ℕ) → y ≡ v → among v (xs ++ (y ∷ [])) ≡ true
unfolding among
last-hit v y [] e = rw (eq-eqb y v e)
last-hit v y (x ∷ xs) e = ap (λ (t : Bool). eqb x v || t) (last-hit v y xs e) ∙ or-true (eqb x v)

last-miss : (v y : ℕ) (xs : List ℕ) → (y ≡ v → ⊥) → among v (xs ++ (y ∷ [])) ≡ among v xs
unfolding among
last-miss v y [] e = rw (ne_eqb y v e)
last-miss v y (x ∷ xs) e = ap (λ (t : Bool). eqb x v || t) (last-miss v y xs e)

none-among : (v : ℕ) (xs : List ℕ) → ((i : ℕ) → i < length xs → get_or xs i 0 ≡ v → ⊥) → among v xs ≡ false
unfolding among
none-among v [] h = refl
none-among v (x ∷ xs) h = rw (ne_eqb x v (h 0 (omega arith))) (none-among v xs (λ i l. h (suc i) (omega arith)))

-- ---- the cells: corner c·(d + 1) + j is vertex j of cell c
module _ (d : ℕ) (cs : List (List ℕ)) (corners : List ℕ) (same : cs ≡ cut (suc d) (length cs) corners) (cells : Cells d cs) where
  abbrev key : ℕ → ℕ
  key = cell corners 1 0

  corner-key : (c j : ℕ) → c < length cs → j < suc d → cell corners 1 0 (c * suc d + j) ≡ get_or (cell_at cs c) j 0
  corner-key c j h l =
      ap (λ (x : ℕ). get_or corners x 0) (add-zero ((c * suc d + j) * 1) ∙ mul-one (c * suc d + j))
      ∙ sym (row-cell corners (suc d) c j l)
      ∙ ap (λ (w : List ℕ). get_or w j 0) (sym (cut_at (suc d) (length cs) corners c h))
      ∙ ap (λ (z : List (List ℕ)). get_or (get_or z c []) j 0) (sym same)

  module _ (v : ℕ) where
    abbrev has : ℕ → Bool
    has c = among v (cell_at cs c)

    -- one corner more of cell c
    one_more : (c j : ℕ) → c < length cs → j < suc d →
        map (λ (x : ℕ). x / suc d) (pick (cell corners 1 0) v (upto (c * suc d + j))) ≡ numbers has c ++ only_if (among v (take j (cell_at cs c))) c →
        map (λ (x : ℕ). x / suc d) (pick (cell corners 1 0) v (upto (suc (c * suc d + j)))) ≡ numbers has c ++ only_if (among v (take (suc j) (cell_at cs c))) c
    one_more c j h l old =
        let x = c * suc d + j in
        let w = cell_at cs c in
        let long : length (cell_at cs c) ≡ suc d = cells.long c h in
        let t : take (suc j) (cell_at cs c) ≡ take j (cell_at cs c) ++ (get_or (cell_at cs c) j 0 ∷ []) = take-suc (cell_at cs c) j 0 (omega arith) in
        let kx = corner-key c j h l in
        let q : ℕ → ℕ = λ x. x / suc d in
        ap (λ (z : List ℕ). map (λ (x : ℕ). x / suc d) (pick (cell corners 1 0) v z)) (tab-more (c * suc d + j) (λ i. i))
        ∙ ap (map (λ (x : ℕ). x / suc d)) (pick-append (cell corners 1 0) v (upto (c * suc d + j)) ((c * suc d + j) ∷ []))
        ∙ map-append (λ (x : ℕ). x / suc d) (pick (cell corners 1 0) v (upto (c * suc d + j))) (pick (cell corners 1 0) v ((c * suc d + j) ∷ []))
        ∙ ap (λ (z : List ℕ). z ++ map (λ (x : ℕ). x / suc d) (pick (cell corners 1 0) v ((c * suc d + j) ∷ []))) old
        ∙ elim (ℕ_discrete (get_or (cell_at cs c) j 0) v) [
          | yes e ↦
              let f : among v (take j (cell_at cs c)) ≡ false =
              none-among v (take j (cell_at cs c)) (λ i s g.
              let si : i < j = before-take i j (cell_at cs c) s in
              omega (arith, cells.rising c i j h si (omega arith), get_or-take j (cell_at cs c) i 0 si)) in
              ap (λ (z : List ℕ). (numbers has c ++ only_if (among v (take j (cell_at cs c))) c) ++ map (λ (x : ℕ). x / suc d) z)
              (pick-hit (cell corners 1 0) v (c * suc d + j) [] (kx ∙ e) ∙ ap (λ (z : List ℕ). (c * suc d + j) ∷ z) (pick-nil (cell corners 1 0) v))
              ∙ ap (λ (z : ℕ). (numbers has c ++ only_if (among v (take j (cell_at cs c))) c) ++ (z ∷ [])) (row-div c j (suc d) l)
              ∙ ap (λ (z : Bool). (numbers has c ++ only_if z c) ++ (c ∷ [])) f
              ∙ ap (λ (z : List ℕ). z ++ (c ∷ [])) (append-nil (numbers has c))
              ∙ ap (λ (z : Bool). numbers has c ++ only_if z c) (sym (ap (among v) t ∙ last-hit v (get_or (cell_at cs c) j 0) (take j (cell_at cs c)) e))
          | no e ↦
              ap (λ (z : List ℕ). (numbers has c ++ only_if (among v (take j (cell_at cs c))) c) ++ map (λ (x : ℕ). x / suc d) z)
              (pick-miss (cell corners 1 0) v (c * suc d + j) [] (λ z. e (sym kx ∙ z)) ∙ pick-nil (cell corners 1 0) v)
              ∙ append-nil (numbers has c ++ only_if (among v (take j (cell_at cs c))) c)
              ∙ ap (λ (z : Bool). numbers has c ++ only_if z c) (sym (ap (among v) t ∙ last-miss v (get_or (cell_at cs c) j 0) (take j (cell_at cs c)) e))
        ]
      where
        before-take : (i j : ℕ) (w : List ℕ) → i < length (take j w) → i < j
        before-take i j w s = omega (arith, length-take j w)

    -- all corners of a cell
    some-corners : (c j : ℕ) → c < length cs → j ≤ suc d → map (λ (x : ℕ). x / suc d) (pick (cell corners 1 0) v (upto (c * suc d))) ≡ numbers has c →
        map (λ (x : ℕ). x / suc d) (pick (cell corners 1 0) v (upto (c * suc d + j))) ≡ numbers has c ++ only_if (among v (take j (cell_at cs c))) c
    unfolding among
    some-corners c zero h l old = ap (λ (z : ℕ). map (λ (x : ℕ). x / suc d) (pick (cell corners 1 0) v (upto z))) (add-zero (c * suc d)) ∙ old ∙ sym (append-nil (numbers has c))
    some-corners c (suc j) h l old =
        ap (λ (z : ℕ). map (λ (x : ℕ). x / suc d) (pick (cell corners 1 0) v (upto z))) {x = c * suc d + suc j} {y = suc (c * suc d + j)} (omega arith)
        ∙ one_more c j h (omega arith) (some-corners c j h (omega arith) old)

    pub vertex-cells : (c : ℕ) → c ≤ length cs → map (λ (x : ℕ). x / suc d) (pick (cell corners 1 0) v (upto (c * suc d))) ≡ numbers has c
    unfolding numbers pick
    vertex-cells zero h = ap (λ (z : ℕ). map (λ (x : ℕ). x / suc d) (pick (cell corners 1 0) v (upto z))) (zero-mul (suc d))
    vertex-cells (suc c) h =
        ap (λ (z : ℕ). map (λ (x : ℕ). x / suc d) (pick (cell corners 1 0) v (upto z))) {x = suc c * suc d} {y = c * suc d + suc d} (omega (arith, suc-mul c (suc d)))
        ∙ some-corners c (suc d) h (omega arith) (vertex-cells c (omega arith))
        ∙ ap (λ (z : List ℕ). numbers has c ++ only_if (among v z) c) (take_all (suc d) (cell_at cs c) (omega (arith, cells.long c h)))

  -- the cells of the first n vertices
  pub index-flat : (n : ℕ) → flat (index_of cs n) ≡ map (λ (x : ℕ). x / suc d) (bucket_sort (cell corners 1 0) n (upto (length cs * suc d)))
  unfolding bucket_sort
  index-flat zero = refl
  index-flat (suc n) =
      ap flat (tab-more n (cells_at cs))
      ∙ flat_append (index_of cs n) (cells_at cs n ∷ [])
      ∙ ap (λ (z : List ℕ). z ++ flat (cells_at cs n ∷ [])) (index-flat n)
      ∙ ap (λ (z : List ℕ). map (λ (x : ℕ). x / suc d) (bucket_sort (cell corners 1 0) n (upto (length cs * suc d))) ++ z) (append-nil (cells_at cs n) ∙ sym (vertex-cells n (length cs) (omega arith)))
      ∙ sym (map-append (λ (x : ℕ). x / suc d) (bucket_sort (cell corners 1 0) n (upto (length cs * suc d))) (pick (cell corners 1 0) n (upto (length cs * suc d))))

  pub index_below : (n : ℕ) → length (flat (index_of cs n)) ≡ corners_below corners (length cs * suc d) n
  index_below n = ap length (index-flat n) ∙ length-map (bucket_sort (cell corners 1 0) n (upto (length cs * suc d))) (λ (x : ℕ). x / suc d)

  -- where they start
  starts-last : (a : ℕ) (ls : List (List ℕ)) (l : List ℕ) → starts_from a (ls ++ (l ∷ [])) ≡ starts_from a ls ++ ((a + length (flat (ls ++ (l ∷ [])))) ∷ [])
  unfolding starts_from
  starts-last a [] l = ap (λ (z : ℕ). a ∷ (a + z) ∷ []) (ap length (sym (append-nil l)))
  starts-last a (x ∷ ls) l =
      ap (λ (z : List ℕ). a ∷ z) (starts-last (a + length x) ls l)
      ∙ ap (λ (z : ℕ). a ∷ starts_from (a + length x) ls ++ (z ∷ [])) {x = a + length x + length (flat (ls ++ (l ∷ [])))} {y = a + length (x ++ flat (ls ++ (l ∷ [])))} (omega (arith, length-append x (flat (ls ++ (l ∷ [])))))

  start : starts_from 0 [] ≡ corners_below corners (length cs * suc d) 0 ∷ []
  unfolding bucket_sort starts_from
  start = refl

  starts-tab : (n : ℕ) → starts_of (index_of cs n) ≡ tab (suc n) (corners_below corners (length cs * suc d))
  starts-tab zero = start
  starts-tab (suc n) =
      ap (starts_from 0) (tab-more n (cells_at cs))
      ∙ starts-last 0 (index_of cs n) (cells_at cs n)
      ∙ ap (λ (z : List ℕ). z ++ ((0 + length (flat (index_of cs n ++ (cells_at cs n ∷ [])))) ∷ [])) (starts-tab n)
      ∙ ap (λ (z : ℕ). tab (suc n) (corners_below corners (length cs * suc d)) ++ (z ∷ []))
      (zero-add (length (flat (index_of cs n ++ (cells_at cs n ∷ [])))) ∙ ap (λ (z : List (List ℕ)). length (flat z)) (sym (tab-more n (cells_at cs))) ∙ index_below (suc n))
      ∙ sym (tab-more (suc n) (corners_below corners (length cs * suc d)))

  pub index-starts : (n : ℕ) → starts_of (index_of cs n) ≡ tab (n + 1) (corners_below corners (length cs * suc d))
  index-starts n = starts-tab n ∙ ap (λ (z : ℕ). tab z (corners_below corners (length cs * suc d))) (sym (add-one n))
