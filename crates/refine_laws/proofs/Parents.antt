-- Each refined cell has its visit, each visit its cell, and the visits of one parent follow each other: so each parent has R ^ d children. Assumes nothing.
use mathlib.Core.Path.{◌≡◌, refl, sym, ap, ◌∙◌, subst}
use mathlib.Core.Logic.{◌≢◌}
use mathlib.Core.List.{List, [], ◌∷◌, ◌++◌, map, Memᴰ}
use Prim.Native.Nat.{ℕ, zero, suc, ◌+◌, ◌*◌, ◌/◌, ◌%◌, ◌^◌, ◌≤◌, ◌<◌, zero-le, suc-le-suc}
use native.Mathlib.Nat.{le_of_suc-le-suc, not-suc-le-zero, suc-mul, zero-mul, mul-le-mul_right, div-lt_iff_lt-mul, le-div_iff_mul-le, div-add-mod', mod-lt, pow-zero, pow-suc, mul-le-mul_left}
use native.Mathlib.Omega.{arith}
use lib.ListN.{length, get_or, length-map, get_or-map, get_or-append}
use lib.Seq.{get_or-append-add}
use Rattle.lists.proofs.Laws.{map_at}
use Rattle.multiindex.specs.Sort.{sort_word}
use Rattle.complex.specs.Facets.{cell_at}
use Rattle.complex_cells.proofs.Words.{at_in}
use Rattle.ordering_words.proofs.Orders.{by-cell-at, word_first}
use Rattle.refine_lattice.specs.Lattice.{Child}
use Rattle.lists.specs.Tables.{sum}
use Rattle.lists.specs.Words.{same}
use Rattle.refine_lattice.specs.Complex.{occurrences, Complex, Names}
use Rattle.refine_lattice.specs.Children.{gather, children}
use Rattle.refine_lattice.specs.Refine.{births, number, point, words, vertices, share, In}
use Rattle.refine_lattice.specs.Conform.{Sound, Distinct}
use Rattle.lists.proofs.Words.{same-yes, same-no}
use Rattle.lists.proofs.Sums.{sum-ext, sum-add, sum-zero, sum-pick, sum-split}
use Rattle.refine_lattice.proofs.Enumerate.{times-at, once-of-apart, child-of-mem}
use Rattle.refine_lattice.proofs.Count.{Nodup, count}
use Rattle.refine_lattice.proofs.Refines.{mem-at, names}
use Rattle.refine_lattice.proofs.Fits.{length-words}
use Rattle.refine_results.proofs.Firsts.{visit-first}
use Rattle.refine_results.specs.Refined.{visit_of, refined_cells, refined_words, parent_of, parents}
use Rattle.refine_laws.proofs.Words.{of_mem, sort-times}
use Rattle.refine_laws.proofs.Listed.{Listed}
use Rattle.refine_laws.proofs.Arranged.{from-word, to_cell}
use Rattle.refine_laws.proofs.Again.{visited, visited-nodup, refined-listed}

-- ---- lists
nodup-at : (l : List (List ℕ)) → Nodup l → (i j : ℕ) → i < j → j < length l → get_or l i [] ≢ get_or l j []
nodup-at [] n i j h b e = not-suc-le-zero b
nodup-at (x ∷ l) n i zero h b e = not-suc-le-zero h
nodup-at (x ∷ l) n zero (suc j) h b e = n.0 (subst (λ (w : List ℕ). Memᴰ w l) (sym e) (mem-at l j (le_of_suc-le-suc b)))
nodup-at (x ∷ l) n (suc i) (suc j) h b e = nodup-at l n.1 i j (le_of_suc-le-suc h) (le_of_suc-le-suc b) e

-- what stands in row p of rows of one length
gather-at : {A : Type 0} (f : A → List (List ℕ)) (m : ℕ) (z : A) (l : List A) → ((x : A) → length (f x) ≡ m) → (p j : ℕ) → p < length l → j < m
    → get_or (gather f l) (p * m + j) [] ≡ get_or (f (get_or l p z)) j []
gather-at f m z [] e p j h b = absurd (not-suc-le-zero h)
gather-at f m z (x ∷ l) e zero j h b =
    ap (λ (o : ℕ). get_or (f x ++ gather f l) o []) {x = zero * m + j} {y = j} (omega (arith, zero-mul m))
    ∙ get_or-append (f x) (gather f l) [] j (omega (arith, e x))
gather-at f m z (x ∷ l) e (suc p) j h b =
    ap (λ (o : ℕ). get_or (f x ++ gather f l) o []) {x = suc p * m + j} {y = length (f x) + (p * m + j)} (omega (arith, suc-mul p m, e x))
    ∙ get_or-append-add (f x) (gather f l) (p * m + j) []
    ∙ gather-at f m z l e p j (le_of_suc-le-suc h) b

pub mem-of : {A : Type 0} (z : A) (l : List A) (i : ℕ) → i < length l → Memᴰ (get_or l i z) l
mem-of z [] i h = absurd (not-suc-le-zero h)
mem-of z (x ∷ l) zero h = Memᴰ.head refl
mem-of z (x ∷ l) (suc i) h = Memᴰ.tail (mem-of z l i (le_of_suc-le-suc h))

-- how often p stands among f of numbers below L
times-along : (f : ℕ → ℕ) (g : List ℕ → ℕ) (cs : List (List ℕ)) (L p : ℕ) → ((i : ℕ) → i < length cs → g (get_or cs i []) < L)
    → occurrences (map (λ c. f (g c)) cs) p ≡ sum L (λ v. occurrences (map g cs) v * same p (f v))
times-along f g [] L p h = sym (sum-ext L (λ v. 0 * same p (f v)) (λ v. 0) (λ v l. omega arith) ∙ sum-zero L)
times-along f g (c ∷ cs) L p h =
    omega (
      arith,
      times-along f g cs L p (λ i l. h (suc i) (suc-le-suc l)),
      sum-ext L (λ v. (same v (g c) + occurrences (map g cs) v) * same p (f v)) (λ v. same v (g c) * same p (f v) + occurrences (map g cs) v * same p (f v)) (λ v l. omega arith),
      sum-add L (λ v. same v (g c) * same p (f v)) (λ v. occurrences (map g cs) v * same p (f v)),
      sum-pick L (g c) (λ v. same p (f v)) (h 0 (suc-le-suc zero-le)),
    )

-- of the numbers below k * m, m have the quotient p
module _ (m p : ℕ) (some : 0 < m) where
  abbrev is-p : ℕ → ℕ
  is-p v = same p (v / m)

  before : sum (p * m) is-p ≡ 0
  before =
      sum-ext (p * m) is-p (λ v. 0) (λ v h. same-no p (v / m) (λ e. omega (arith, (div-lt_iff_lt-mul {k = m} {x = v} {y = p} some).1 h)))
      ∙ sum-zero (p * m)

  block : (k : ℕ) → p < k → sum (k * m) is-p ≡ m
  block k h =
      let a : suc p * m ≤ k * m = mul-le-mul_right m h in
      omega (
        arith,
        sum-split (suc p * m) (k * m) 0 is-p a
            (λ i b l. same-no p (i / m) (λ e. omega (arith, (le-div_iff_mul-le {k = m} {x = suc p} {y = i} some).1 l))),
        sum-split (p * m) (suc p * m) 1 is-p (omega (arith, suc-mul p m))
            (λ i b l.
            same-yes p (i / m)
            (omega (
              arith,
              (le-div_iff_mul-le {k = m} {x = p} {y = i} some).1 l,
              (div-lt_iff_lt-mul {k = m} {x = i} {y = suc p} some).1 b,
            ))),
        before,
        suc-mul p m,
      )

pub pow-some : (R d : ℕ) → 0 < R → 0 < R ^ d
pow-some R zero h = omega (arith, pow-zero R)
pow-some R (suc d) h = omega (arith, pow-suc R d, pow-some R d h, mul-le-mul_left (R ^ d) h)

-- ---- a complex refined by R
module _ (d R n : ℕ) (ks : List (List ℕ)) (pos-R : 0 < R) (sound : Sound d n (In ks)) (nodup : Nodup ks) where
  abbrev N : ℕ
  N = vertices d R n ks

  abbrev ws : List (List ℕ)
  ws = words d R n ks

  abbrev cs : List (List ℕ)
  cs = refined_cells d R n ks

  complex : Complex d (vertices d R n ks) (In (words d R n ks))
  complex = (visited d R n ks pos-R sound nodup).complex

  listed : Listed d (vertices d R n ks) (refined_cells d R n ks) (refined_words d R n ks)
  listed = refined-listed d R n ks pos-R sound nodup

  some : 0 < R ^ d
  some = pow-some R d pos-R

  -- no two visits have one cell
  one-visit : (s r : ℕ) → s < r → r < length ws → sort_word (get_or ws s []) ≡ sort_word (get_or ws r []) → ⊥
  unfolding Distinct
  one-visit s r l h e =
      nodup-at ws (visited-nodup d R n ks pos-R sound nodup) s r l h
      ((visited d R n ks pos-R sound nodup).distinct (get_or ws s []) (get_or ws r []) (mem-at ws s (omega arith)) (mem-at ws r h)
      (λ v. sym (sort-times (get_or ws s []) v) ∙ ap (λ (u : List ℕ). occurrences u v) e ∙ sort-times (get_or ws r []) v))

  first-visit : (r : ℕ) → r < length ws → visit_of ws (sort_word (get_or ws r [])) ≡ r
  first-visit r h = visit-first ws (sort_word (get_or ws r [])) r h refl (λ s l. one-visit s r l h)

  -- the visit of a cell, and its word
  record Seen (i : ℕ) : Type 0 where
    visit : ℕ
    below : visit < length ws
    sorts : sort_word (get_or ws visit []) ≡ cell_at cs i
    is : visit_of ws (cell_at cs i) ≡ visit
    word : cell_at (refined_words d R n ks) i ≡ get_or ws visit []

  seen : (i : ℕ) → i < length cs → Seen i
  seen i h =
      let (w, m, e) = from-word d N ws complex i h in
      let (r, b, f) = at_in w ws (of_mem w ws m) in
      let s : sort_word (get_or ws r []) ≡ cell_at cs i = ap sort_word f ∙ e in
      record {
        visit = r;
        below = b;
        sorts = s;
        is = ap (visit_of ws) (sym s) ∙ first-visit r b;
        word = by-cell-at ws cs i h ∙ word_first ws (cell_at cs i) r b s (λ t l q. one-visit t r l b (q ∙ sym s));
      }

  parent_is : (i : ℕ) (h : i < length cs) → get_or (parents d R n ks) i 0 ≡ (seen i h).visit / R ^ d
  parent_is i h = map_at (parent_of d R n ks) cs i [] 0 h ∙ ap (λ (v : ℕ). v / R ^ d) (seen i h).is

  pub has-parent : (i : ℕ) → i < length (refined_cells d R n ks) → get_or (parents d R n ks) i 0 < length ks
  has-parent i h =
      let s = seen i h in
      omega (
        arith,
        parent_is i h,
        (div-lt_iff_lt-mul {k = R ^ d} {x = s.visit} {y = length ks} some).1 (omega (arith, s.below, length-words d R n ks)),
      )

  -- the word of a refined cell is that of a child of its parent's word
  pub has-child : (i : ℕ) → i < length (refined_cells d R n ks)
      → (c : List (List ℕ)) × Child d R c × Names R (share d R n ks) (cell_at ks (get_or (parents d R n ks) i 0)) c (cell_at (refined_words d R n ks) i)
  has-child i h =
      let s = seen i h in
      let p : ℕ = get_or (parents d R n ks) i 0 in
      let j : ℕ = s.visit % R ^ d in
      let hp : p < length ks = has-parent i h in
      let hj : j < R ^ d = mod-lt s.visit some in
      let c : List (List ℕ) = get_or (children d R) j [] in
      let child : Child d R c = child-of-mem d R c (mem-of [] (children d R) j (omega (arith, count d R))) in
      let rows : List ℕ → List (List ℕ) = λ k. map (map (λ s. number n (births d R n ks) (point R n k s))) (children d R) in
      let e : cell_at (refined_words d R n ks) i ≡ map (λ s. number n (births d R n ks) (point R n (cell_at ks p) s)) c =
      s.word
      ∙ ap (λ (r : ℕ). get_or ws r []) (sym (div-add-mod' s.visit (R ^ d)) ∙ ap (λ (q : ℕ). q * R ^ d + j) (sym (parent_is i h)))
      ∙ gather-at rows (R ^ d) [] ks
      (λ k. length-map (children d R) (map (λ s. number n (births d R n ks) (point R n k s))) ∙ count d R) p j hp hj
      ∙ get_or-map (map (λ s. number n (births d R n ks) (point R n (cell_at ks p) s))) (children d R) j [] in (
        c,
        child,
        subst (Names R (share d R n ks) (cell_at ks p) c) (sym e)
            (names d R n ks sound.complex.long sound.complex.below (cell_at ks p) c (mem-at ks p hp) child),
      )

  -- each visit is seen once
  abbrev seens : List ℕ
  seens = map (visit_of ws) cs

  seen_at : (i : ℕ) (h : i < length cs) → get_or seens i 0 ≡ (seen i h).visit
  seen_at i h = map_at (visit_of ws) cs i [] 0 h ∙ (seen i h).is

  seen-once : (r : ℕ) → r < length ws → occurrences seens r ≡ 1
  seen-once r h =
      let (i, b, e) = to_cell d N ws complex (get_or ws r []) (mem-at ws r h) in
      let q : get_or seens i 0 ≡ r = map_at (visit_of ws) cs i [] 0 b ∙ ap (visit_of ws) e ∙ first-visit r h in
      omega (
        arith,
        subst (λ (x : ℕ). 0 < occurrences seens x) q (times-at seens i (omega (arith, length-map cs (visit_of ws)))),
        once-of-apart seens
            (λ i j l g f.
            let hi : i < length cs = omega (arith, length-map cs (visit_of ws)) in
            let hj : j < length cs = omega (arith, length-map cs (visit_of ws)) in
            let si = seen i hi in
            let sj = seen j hj in
            let v : si.visit ≡ sj.visit = sym (seen_at i hi) ∙ f ∙ seen_at j hj in
            let same_number : i ≡ j = listed.apart i j hi hj (sym si.sorts ∙ ap (λ (x : ℕ). sort_word (get_or ws x [])) v ∙ sj.sorts) in
            omega arith) r,
      )

  pub so-many-children : (p : ℕ) → p < length ks → occurrences (parents d R n ks) p ≡ R ^ d
  so-many-children p h =
      times-along (λ v. v / R ^ d) (visit_of ws) cs (length ws) p (λ i l. omega (arith, (seen i l).is, (seen i l).below))
      ∙ sum-ext (length ws) (λ v. occurrences seens v * same p (v / R ^ d)) (λ v. same p (v / R ^ d)) (λ v l. ap (λ (t : ℕ). t * same p (v / R ^ d)) (seen-once v l) ∙ omega arith)
      ∙ ap (λ (l : ℕ). sum l (λ v. same p (v / R ^ d))) (length-words d R n ks)
      ∙ block (R ^ d) p some (length ks) h
