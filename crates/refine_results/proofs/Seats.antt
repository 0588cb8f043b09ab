-- A child sits in its parent: the weights that the pattern has for its corners are its vertices' shares of the parent's vertices. Assumes nothing.
use mathlib.Core.Bool.{Bool, true, false, cond}
use mathlib.Core.List.Memᴰ
use mathlib.Core.List.{List, [], ◌∷◌, ◌++◌, map, Memᴰ}
use mathlib.Core.Logic.{⊎_elim}
use mathlib.Core.Path.{◌≡◌, refl, sym, ap, ◌∙◌, subst}
use Prim.Native.Nat.{ℕ, zero, suc, ◌+◌, ◌*◌, ◌/◌, ◌%◌, ◌^◌, ◌<◌, ◌≤◌}
use native.Mathlib.Nat.{suc-mul, mul-le-mul_right, mul_assoc, add-mul, div-add-mod', mod-lt, div-lt_iff_lt-mul, zero-mul, one-le-pow}
use native.Mathlib.Decide.{dec_lt}
use native.Mathlib.Omega.{arith}
use lib.Dec.{eqb, ltb}
use lib.IntN.{pos}
use lib.ListN.{length, get_or, take, drop, length-take, get_or-append, length-map}
use lib.Seq.{get_or-take, get_or-drop, get_or-append-add}
use borrow.Author.Tests.{eqb-true, eqb-false}
use Rattle.refusal.specs.Limits.{square_most}
use Rattle.lists.specs.Rows.{cut, flat, row}
use Rattle.lists.proofs.Laws.{map_at}
use Rattle.lists.specs.Words.{found_at}
use Rattle.lists.proofs.Rows.{cut-length, cut_at}
use Rattle.lists.proofs.Members.{All-of, All-at}
use Rattle.sorting.proofs.Colex.{row-length, row-cell}
use Rattle.multiindex.specs.Sort.{sort_word}
use Rattle.multiindex.proofs.SortLaws.{sort-length}
use Rattle.complex_cells.proofs.Strict.{sort-all}
use Rattle.refine_lattice.specs.Lattice.{weights, Child}
use Rattle.refine_lattice.specs.Complex.{occurrences, Names}
use Rattle.refine_lattice.specs.Children.{gather, children}
use Rattle.refine_lattice.specs.Pattern.{pattern_of}
use Rattle.refine_lattice.specs.Refine.{point, births, number, words, share}
use Rattle.refine_lattice.proofs.Count.{count}
use Rattle.refine_lattice.proofs.Enumerate.{child-of-mem, times-at, place-of}
use Rattle.refine_lattice.proofs.Refines.{mem-at, names}
use Rattle.refine_lattice.proofs.Pattern.{child-corners, corner-long, added, row_count, row-sum, row_at, flat-row, flat-count}
use Rattle.refine_lattice.proofs.Seats.{weigh-at}
use Rattle.refine_lattice.proofs.Weights.{length-weights}
use Rattle.refine_lattice.specs.Jacobian.{jacobian}
use Rattle.lists.proofs.Tables.{tab-ext}
use Rattle.refine_jacobian.specs.Entries.{square_of, whole_of, float_of, float_step, nought}
use Rattle.refine_jacobian.proofs.Laws.{column-in, row_in, entry_past}
use Rattle.refine_jacobian.specs.WorkWeights.{place_of, Seated}
use Rattle.refine_children.specs.WorkFamily.{weights_at, whole_at, float_at, Family}
use Rattle.refine_results.specs.WorkFlat.{Refining}

-- ---- places
found_lt : (b : Bool) (n k : ℕ) → (b ≡ false → k < n) → found_at b k < suc n
unfolding found_at
found_lt true n k f = omega arith
found_lt false n k f = omega (arith, f refl)

pub place_at_lem : (w : List ℕ) (v : ℕ) → place_of w v < length w → get_or w (place_of w v) 0 ≡ v
unfolding place_of found_at
place_at_lem [] v h = absurd (omega arith)
place_at_lem (x ∷ w) v h = go (eqb x v) refl h (place_at_lem w v)
  where
    go : (b : Bool) → eqb x v ≡ b → found_at b (place_of w v) < suc (length w) → (place_of w v < length w → get_or w (place_of w v) 0 ≡ v) → get_or (x ∷ w) (found_at b (place_of w v)) 0 ≡ v
    go true e l f = eqb-true x v e
    go false e l f = f (omega arith)

pub place-lt : (w : List ℕ) (v i : ℕ) → i < length w → get_or w i 0 ≡ v → place_of w v < length w
unfolding place_of found_at
place-lt [] v i h e = absurd (omega arith)
place-lt (x ∷ w) v zero h e = found_lt (eqb x v) (length w) (place_of w v) (λ f. absurd (eqb-false x v f e))
place-lt (x ∷ w) v (suc i) h e = found_lt (eqb x v) (length w) (place_of w v) (λ f. place-lt w v i (omega arith) e)

pub place_in : (w : List ℕ) (v : ℕ) → 0 < occurrences w v → place_of w v < length w
place_in w v h = let q = place-of w v h in place-lt w v q.0 q.1 q.2

-- every number of the sorted word is one of the word
pub sorted-in : (w : List ℕ) (i : ℕ) → i < length w → 0 < occurrences w (get_or (sort_word w) i 0)
sorted-in w i h = All-at (λ x. 0 < occurrences w x) (sort_word w) i (sort-all (λ x. 0 < occurrences w x) w (All-of (λ x. 0 < occurrences w x) w (λ j l. times-at w j l))) (omega (arith, sort-length w))

-- ---- lists of lists of one length, one after the other
gather-at : (f : List ℕ → List (List ℕ)) (size : ℕ) → ((k : List ℕ) → length (f k) ≡ size) → (ks : List (List ℕ)) (a q : ℕ) → a < length ks → q < size → get_or (gather f ks) (a * size + q) [] ≡ get_or (f (get_or ks a [])) q []
gather-at f size h [] a q l b = absurd (omega arith)
gather-at f size h (k ∷ ks) zero q l b =
    ap (λ (i : ℕ). get_or (f k ++ gather f ks) i []) {x = 0 * size + q} {y = q} (omega (arith, zero-mul size)) ∙ get_or-append (f k) (gather f ks) [] q (omega (arith, h k))
gather-at f size h (k ∷ ks) (suc a) q l b =
    ap (λ (i : ℕ). get_or (f k ++ gather f ks) i []) {x = suc a * size + q} {y = length (f k) + (a * size + q)} (omega (arith, suc-mul a size, h k))
    ∙ get_or-append-add (f k) (gather f ks) (a * size + q) []
    ∙ gather-at f size h ks a q (omega arith) b

le-added : (r : List ℕ) (i : ℕ) → get_or r i 0 ≤ added r
le-added [] i = omega arith
le-added (x ∷ r) zero = omega arith
le-added (x ∷ r) (suc i) = omega (arith, le-added r i)

list-place : (l : List (List ℕ)) (x : List ℕ) → Memᴰ x l → (i : ℕ) × (i < length l) × (get_or l i [] ≡ x)
list-place [] x m = absurd (Memᴰ.not-nil m)
list-place (y ∷ l) x m =
    ⊎_elim (λ e. (0, omega arith, sym e)) (λ r. let q = list-place l x r in (suc q.0, omega (arith, q.1), q.2)) (Memᴰ.cases_cons m)

mem-of : {A : Type 0} (l : List A) (i : ℕ) (z : A) → i < length l → Memᴰ (get_or l i z) l
mem-of [] i z h = absurd (omega arith)
mem-of (x ∷ l) zero z h = Memᴰ.head refl
mem-of (x ∷ l) (suc i) z h = Memᴰ.tail (mem-of l i z (omega arith))

front_long : (n : ℕ) (l : List ℕ) → length (take n l) ≡ n → n ≤ length l
front_long n l e = omega (arith, length-take n l)

-- nine numbers agree where their d·d entries do
nine-ext : {A : Type 0} (d : ℕ) (none : A) (f g : ℕ → ℕ → A) → ((j l : ℕ) → j < d → l < d → f j l ≡ g j l) → square_of d none f ≡ square_of d none g
nine-ext {A} d none f g h =
    tab-ext square_most (λ e. cond (ltb e (d * d)) (f (e / d) (e % d)) none) (λ e. cond (ltb e (d * d)) (g (e / d) (e % d)) none)
    (λ e l.
    elim (dec_lt e (d * d)) [
      | yes b ↦ ap (λ (x : A). cond (ltb e (d * d)) x none) (h (e / d) (e % d) (column-in d e b) (row_in d e b))
      | no b ↦ sym (entry_past d e (f (e / d) (e % d)) none (omega arith)) ∙ entry_past d e (g (e / d) (e % d)) none (omega arith)
    ])

module _ (d R n m : ℕ) (along cells pattern names-list : List ℕ) (h : Refining d R n m along cells pattern names-list) where
  abbrev size : ℕ
  size = R ^ d

  abbrev ks : List (List ℕ)
  ks = cut (suc d) m along

  pub size-some : 0 < R ^ d
  size-some = one-le-pow d R h.some

  row_fits : (k x : ℕ) (l : List ℕ) → x < k → k * suc d ≤ length l → x * suc d + suc d ≤ length l
  row_fits k x l b r = omega (arith, suc-mul x (suc d), mul-le-mul_right (suc d) b)

  -- the words refined by
  word_long : (a : ℕ) → a < m → length (row along (suc d) a) ≡ suc d
  word_long a b = row-length along (suc d) a (row_fits m a along b h.words_of.along_long)

  word_low : (a : ℕ) → a < m → (v : ℕ) → 0 < occurrences (row along (suc d) a) v → v < n
  word_low a b v l =
      let q = place-of (row along (suc d) a) v l in
      let i : q.0 < suc d = omega (arith, q.1, word_long a b) in
      let e : get_or along (a * suc d + q.0) 0 ≡ v = sym (row-cell along (suc d) a q.0 i) ∙ q.2 in
      subst (λ (u : ℕ). u < n) e (h.words_of.below (a * suc d + q.0) (omega (arith, row_fits m a along b h.words_of.along_long, suc-mul a (suc d), mul-le-mul_right (suc d) b)))

  word_of : (a : ℕ) → a < m → get_or ks a [] ≡ row along (suc d) a
  word_of a b = cut_at (suc d) m along a b

  -- every word of the list is one of them
  in_cut : (k : List ℕ) → Memᴰ k ks → (a : ℕ) × (a < m) × (get_or ks a [] ≡ k)
  in_cut k i = let q = list-place ks k i in (q.0, omega (arith, q.1, cut-length (suc d) m along), q.2)

  pub ks-long : (k : List ℕ) → Memᴰ k ks → length k ≡ suc d
  ks-long k i = let q = in_cut k i in ap length (sym q.2 ∙ word_of q.0 q.1) ∙ word_long q.0 q.1

  pub ks-low : (k : List ℕ) → Memᴰ k ks → (v : ℕ) → 0 < occurrences k v → v < n
  ks-low k i v l = let q = in_cut k i in word_low q.0 q.1 v (subst (λ (w : List ℕ). 0 < occurrences w v) (sym q.2 ∙ word_of q.0 q.1) l)

  -- ---- child x: its parent a, its place q in the pattern
  module _ (x : ℕ) (b : x < m * R ^ d) where
    abbrev a : ℕ
    a = x / R ^ d

    abbrev q : ℕ
    q = x % R ^ d

    abbrev k : List ℕ
    k = row along (suc d) (x / R ^ d)

    abbrev w : List ℕ
    w = row names-list (suc d) x

    abbrev c : List (List ℕ)
    c = get_or (children d R) (x % R ^ d) []

    pub a_in : x / R ^ d < m
    a_in = (div-lt_iff_lt-mul size-some).1 b

    q-in : x % R ^ d < R ^ d
    q-in = mod-lt x size-some

    c-mem : Memᴰ c (children d R)
    c-mem = mem-of (children d R) q [] (omega (arith, q-in, count d R))

    c-child : Child d R c
    c-child = child-of-mem d R c c-mem

    k-mem : Memᴰ k ks
    k-mem = subst (λ (u : List ℕ). Memᴰ u ks) (word_of a a_in) (mem-at ks a (omega (arith, a_in, cut-length (suc d) m along)))

    w-is : w ≡ map (λ s. number n (births d R n ks) (point R n k s)) c
    w-is =
        sym (cut_at (suc d) (m * R ^ d) names-list x b)
        ∙ ap (λ (l : List (List ℕ)). get_or l x []) h.names_are
        ∙ ap (λ (i : ℕ). get_or (words d R n ks) i []) (sym (div-add-mod' x (R ^ d)))
        ∙ gather-at (λ u. map (map (λ s. number n (births d R n ks) (point R n u s))) (children d R)) (R ^ d) (λ u. length-map (children d R) (map (λ s. number n (births d R n ks) (point R n u s))) ∙ count d R) ks a q (omega (arith, a_in, cut-length (suc d) m along)) q-in
        ∙ map_at (map (λ s. number n (births d R n ks) (point R n (get_or ks a []) s))) (children d R) q [] [] (omega (arith, q-in, count d R))
        ∙ ap (λ (u : List ℕ). map (λ s. number n (births d R n ks) (point R n u s)) c) (word_of a a_in)

    named : Names R (share d R n ks) k c w
    named = subst (λ (u : List ℕ). Names R (share d R n ks) k c u) (sym w-is) (names d R n ks ks-long ks-low k c k-mem c-child)

    pub names-row : length w ≡ suc d
    names-row = named.long ∙ child-corners d R c c-mem

    -- the share of the word's vertex i in corner j
    shared : (j i : ℕ) → j < suc d → i < suc d → share d R n ks (get_or w j 0) (get_or k i 0) ≡ get_or (weights R (get_or c j [])) i 0
    shared j i lj li =
        named.shares j (omega (arith, child-corners d R c c-mem)) (get_or k i 0)
        ∙ weigh-at k (weights R (get_or c j [])) (h.words_of.plain a a_in) i (omega (arith, word_long a a_in)) (omega (arith, length-weights R (get_or c j []), corner-long d R c c-mem j lj))

    -- and as it stands in the pattern
    pub corners_long : length (row pattern (suc d * suc d) q) ≡ suc d * suc d
    corners_long = row-length pattern (suc d * suc d) q (omega (arith, suc-mul q (suc d * suc d), mul-le-mul_right (suc d * suc d) q-in, pattern_long))
      where
        pattern_long : R ^ d * (suc d * suc d) ≤ length pattern
        pattern_long = front_long (R ^ d * (suc d * suc d)) pattern (ap length h.pattern_is ∙ flat-count d R)

    stands : (j i : ℕ) → j < suc d → i < suc d → get_or (row pattern (suc d * suc d) q) (j * suc d + i) 0 ≡ get_or (get_or (pattern_of d R) (q * suc d + j) []) i 0
    stands j i lj li =
        let s : j * suc d + i < suc d * suc d = omega (arith, suc-mul j (suc d), mul-le-mul_right (suc d) lj) in
        let t : q * (suc d * suc d) + (j * suc d + i) < R ^ d * (suc d * suc d) = omega (arith, suc-mul q (suc d * suc d), mul-le-mul_right (suc d * suc d) q-in) in
        let u : q * suc d + j < R ^ d * suc d = omega (arith, suc-mul q (suc d), mul-le-mul_right (suc d) q-in) in
        let e : q * (suc d * suc d) + (j * suc d + i) ≡ (q * suc d + j) * suc d + i = omega (arith, mul_assoc q (suc d) (suc d), add-mul (q * suc d) j (suc d)) in
        get_or-take (suc d * suc d) (drop (q * (suc d * suc d)) pattern) (j * suc d + i) 0 s
        ∙ get_or-drop (q * (suc d * suc d)) pattern (j * suc d + i) 0
        ∙ sym (get_or-take (R ^ d * (suc d * suc d)) pattern (q * (suc d * suc d) + (j * suc d + i)) 0 t)
        ∙ ap (λ (l : List ℕ). get_or l (q * (suc d * suc d) + (j * suc d + i)) 0) h.pattern_is
        ∙ ap (λ (o : ℕ). get_or (flat (pattern_of d R)) o 0) e
        ∙ sym (get_or-drop ((q * suc d + j) * suc d) (flat (pattern_of d R)) i 0)
        ∙ sym (get_or-take (suc d) (drop ((q * suc d + j) * suc d) (flat (pattern_of d R))) i 0 li)
        ∙ ap (λ (r : List ℕ). get_or r i 0) (flat-row d R (q * suc d + j) u)

    weight_is : (j i : ℕ) → j < suc d → i < suc d → get_or (row pattern (suc d * suc d) q) (j * suc d + i) 0 ≡ get_or (weights R (get_or c j [])) i 0
    weight_is j i lj li =
        stands j i lj li
        ∙ ap (λ (r : List ℕ). get_or r i 0) (row_at d R q j q-in lj ∙ map_at (weights R) c j [] [] (omega (arith, child-corners d R c c-mem)))

    -- the weight of v in X is its share
    pub weight-share : (X v : ℕ) → 0 < occurrences w X → 0 < occurrences k v → weights_at d (R ^ d) pattern names-list along x X v ≡ share d R n ks X v
    weight-share X v lx lv =
        let p = place_in w X lx in
        let r = place_in k v lv in
        let j : place_of w X < suc d = omega (arith, p, names-row) in
        let i : place_of k v < suc d = omega (arith, r, word_long a a_in) in
        ap (λ (o : ℕ). get_or (row pattern (suc d * suc d) q) (place_of w X * o + place_of k v) 0) (word_long a a_in)
        ∙ weight_is (place_of w X) (place_of k v) j i
        ∙ sym (shared (place_of w X) (place_of k v) j i)
        ∙ ap (λ (y : ℕ). share d R n ks y (get_or k (place_of k v) 0)) (place_at_lem w X p)
        ∙ ap (λ (y : ℕ). share d R n ks X y) (place_at_lem k v r)

    -- ---- with the sorted words beside them, the child is seated
    module _ (sorted : List ℕ) (e : row sorted (suc d) x ≡ sort_word (row names-list (suc d) x)) where
      in-names : (j : ℕ) → j ≤ d → 0 < occurrences w (get_or (row sorted (suc d) x) j 0)
      in-names j l = rw e (sorted-in w j (omega (arith, names-row)))

      in-word : (l : ℕ) → l ≤ d → 0 < occurrences k (get_or (row cells (suc d) (x / R ^ d)) l 0)
      in-word l b' = subst (λ (u : List ℕ). 0 < occurrences k (get_or u l 0)) (h.words_of.matched a a_in) (sorted-in k l (omega (arith, word_long a a_in)))

      small_at : (i : ℕ) → i < suc d * suc d → get_or (row pattern (suc d * suc d) q) i 0 < 2147483648
      small_at i l =
          let one : 0 < suc d = omega arith in
          let lj : i / suc d < suc d = (div-lt_iff_lt-mul one).1 l in
          let li : i % suc d < suc d = mod-lt i one in
          let u : q * suc d + i / suc d < R ^ d * suc d = omega (arith, suc-mul q (suc d), mul-le-mul_right (suc d) q-in) in
          let r : List ℕ = get_or (pattern_of d R) (q * suc d + i / suc d) [] in
          let f : get_or (row pattern (suc d * suc d) q) i 0 ≡ get_or r (i % suc d) 0 = ap (λ (o : ℕ). get_or (row pattern (suc d * suc d) q) o 0) (sym (div-add-mod' i (suc d))) ∙ stands (i / suc d) (i % suc d) lj li in
          omega (arith, f, le-added r (i % suc d), row-sum d R r (mem-of (pattern_of d R) (q * suc d + i / suc d) [] (omega (arith, row_count d R))), h.most)

      seated : Seated d (row pattern (suc d * suc d) q) w k (row cells (suc d) (x / R ^ d)) (row sorted (suc d) x)
      seated = record {
        dim = h.dim;
        corners_long = corners_long;
        small = λ i l. small_at i (omega (arith, corners_long));
        names_long = names-row;
        word_long = word_long a a_in;
        parent_long = ap length (sym (h.words_of.matched a a_in)) ∙ sort-length k ∙ word_long a a_in;
        cell_long = ap length e ∙ sort-length w ∙ names-row;
        named = λ j l. omega (arith, place_in w (get_or (row sorted (suc d) x) j 0) (in-names j l), names-row);
        worded = λ l b'. omega (arith, place_in k (get_or (row cells (suc d) (x / R ^ d)) l 0) (in-word l b'), word_long a a_in);
      }

      -- its Jacobian is by the shares
      weights-agree : (j l : ℕ) → j ≤ d → l ≤ d → weights_at d (R ^ d) pattern names-list along x (get_or (row sorted (suc d) x) j 0) (get_or (row cells (suc d) (x / R ^ d)) l 0) ≡ share d R n ks (get_or (row sorted (suc d) x) j 0) (get_or (row cells (suc d) (x / R ^ d)) l 0)
      weights-agree j l lj ll = weight-share (get_or (row sorted (suc d) x) j 0) (get_or (row cells (suc d) (x / R ^ d)) l 0) (in-names j lj) (in-word l ll)

      pub whole_is : whole_at d (R ^ d) pattern names-list sorted along cells x ≡ whole_of d (share d R n ks) (row cells (suc d) (x / R ^ d)) (row sorted (suc d) x)
      whole_is =
          nine-ext d (pos 0) (jacobian (weights_at d (R ^ d) pattern names-list along x) (row cells (suc d) (x / R ^ d)) (row sorted (suc d) x)) (jacobian (share d R n ks) (row cells (suc d) (x / R ^ d)) (row sorted (suc d) x))
          (λ j l lj ll. cc (weights-agree (suc j) (suc l) (omega arith) (omega arith), weights-agree 0 (suc l) (omega arith) (omega arith)))

      pub float_is : float_at d R (R ^ d) pattern names-list sorted along cells x ≡ float_of d R (share d R n ks) (row cells (suc d) (x / R ^ d)) (row sorted (suc d) x)
      float_is =
          nine-ext d nought (float_step R (weights_at d (R ^ d) pattern names-list along x) (row cells (suc d) (x / R ^ d)) (row sorted (suc d) x)) (float_step R (share d R n ks) (row cells (suc d) (x / R ^ d)) (row sorted (suc d) x))
          (λ j l lj ll. cc (weights-agree (suc j) (suc l) (omega arith) (omega arith), weights-agree 0 (suc l) (omega arith) (omega arith)))

      pub family : m * R ^ d * suc d ≤ length sorted → Family d (R ^ d) pattern names-list sorted along cells x
      family long = record {
        some = size-some;
        seated = seated;
        in_pattern = omega (arith, mul-le-mul_right (suc d * suc d) q-in, front_long (R ^ d * (suc d * suc d)) pattern (ap length h.pattern_is ∙ flat-count d R));
        in_words = omega (arith, mul-le-mul_right (suc d) b, h.names_long);
        in_sorted = omega (arith, mul-le-mul_right (suc d) b);
        in_along = omega (arith, mul-le-mul_right (suc d) a_in, h.words_of.along_long);
        in_cells = omega (arith, mul-le-mul_right (suc d) a_in, h.words_of.cells_long);
      }
