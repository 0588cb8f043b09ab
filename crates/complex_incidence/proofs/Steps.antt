-- The steps of the index: what each inner call asks follows from what the calls before it gave. Assumes nothing.
use Rattle.refusal.specs.declared.Refusal.TheVariants.{CrowdedFacet, TooShort}
use Rattle.refusal.specs.Says.{Counted}
use Rattle.std.specs.Prelude.{Err, Ok}
use mathlib.Core.Bool.{Bool, true, false}
use mathlib.Core.List.{List, [], ◌++◌, map}
use mathlib.Core.Path.{◌≡◌, refl, sym, ap, ◌∙◌, subst}
use Prim.Native.Nat.{ℕ, suc, ◌+◌, ◌*◌, ◌/◌, ◌%◌, ◌<◌, ◌≤◌}
use native.Mathlib.Nat.{mod-lt, div-lt_iff_lt-mul, div-add-mod', mul-one, add-zero}
use native.Mathlib.Numerals.{add-one}
use native.Mathlib.Decide.{dec_lt}
use native.Mathlib.Omega.{arith}
use lib.ListN.{length, get_or, take, drop, length-append, length-take, length-drop, take-append-drop}
use lib.Seq.{length-take-le, get_or-take, get_or-drop, take_at}
use Rattle.lists.specs.Tables.{upto, tab}
use Rattle.lists.specs.Words.{largest_of}
use Rattle.lists.specs.Rows.{flat, cut, rows as rows_of_lem}
use Rattle.lists.proofs.Words.{below-largest}
use Rattle.lists.proofs.Rows.{cut-length, cut_at}
use Rattle.lists.proofs.Flat.{each_long, cut-before}
use Rattle.lists.proofs.Members.{All, All-of, All-at}
use Rattle.sorting.specs.Bucket.{bucket_sort, cell, lsd}
use Rattle.sorting.specs.Order.{Table, Sorted}
use Rattle.sorting.proofs.Laws.{length-bucket-mono}
use Rattle.sorting.proofs.Colex.{row-cell}
use Rattle.lists.proofs.Tables.{length-tab}
use Rattle.sorting.proofs.Sorts.{table-sorted}
use Rattle.multiindex.specs.Sort.{sort_word}
use Rattle.complex.specs.Cells.{cells_of}
use Rattle.complex.specs.Facets.{Cells}
use Rattle.complex.specs.Room.{need_of}
use Rattle.complex_cells.specs.WorkMade.{Made}
use Rattle.complex_cells.proofs.Words.{Word, In, in-at, at_in}
use Rattle.complex_cells.proofs.Order.{order_from}
use Rattle.complex_cells.proofs.Strict.{sort-all}
use Rattle.complex_cells.proofs.Pigeon.{largest-low}
use Rattle.skeleton.specs.Promise.{GivesBoth, words_short, table_short, both_listed, crowded, rest}
use Rattle.skeleton.specs.Work.{Working, Sound}
use Rattle.skeleton.proofs.Steps.{room-least, cells-many, cells-flat}
use Rattle.complex_faces.specs.Index.{cells_at, index_of, starts_of}
use Rattle.complex_incidence.specs.Work.{corners_below, IsBelow, ByVertex, Sorting, Handing}
use Rattle.complex_incidence.specs.Work.{Handed, Worked}
use Rattle.complex_incidence.proofs.Corners.{tab-map, key-cuts, index-flat, index-starts}

-- ---- where a vertex's corners start
module _ (vertices long : ℕ) (corners order : List ℕ) (b : ByVertex vertices long corners order) where
  order-at : (i : ℕ) → i < long → cell corners 1 0 (get_or (bucket_sort (cell corners 1 0) vertices (upto long)) i 0) ≡ get_or corners (get_or order i 0) 0
  order-at i h =
      ap (λ (z : List ℕ). cell corners 1 0 (get_or z i 0)) (sym b.sorted)
      ∙ ap (cell corners 1 0) (get_or-take long order i 0 h)
      ∙ ap (λ (x : ℕ). get_or corners x 0) (add-zero (get_or order i 0 * 1) ∙ mul-one (get_or order i 0))

  whole : length (bucket_sort (cell corners 1 0) vertices (upto long)) ≡ long
  whole = ap length (sym b.sorted) ∙ length-take-le long order b.ordered.fits

  pub at_most : (v : ℕ) → v ≤ vertices → corners_below corners long v ≤ long
  at_most v h = omega (arith, whole, length-bucket-mono (cell corners 1 0) v vertices (upto long) h)

  pub at-rises : (v : ℕ) → corners_below corners long v ≤ corners_below corners long (v + 1)
  at-rises v = length-bucket-mono (cell corners 1 0) v (v + 1) (upto long) (omega arith)

  pub step-yes : (v i : ℕ) (r : Bool) → v ≤ vertices → IsBelow v i long corners order r → r ≡ true → i + 1 ≤ corners_below corners long v
  step-yes v i r h p e =
      let q = p.yes e in
      elim (dec_lt i (corners_below corners long v)) [
        | yes l ↦ omega arith
        | no l ↦ absurd (omega (arith, q.1, order-at i q.0, (key-cuts (cell corners 1 0) (upto long) vertices v i h (omega (arith, whole, q.0))).1 (omega arith)))
      ]

  pub step-no : (v i : ℕ) (r : Bool) → v ≤ vertices → i ≤ corners_below corners long v → IsBelow v i long corners order r → r ≡ false → i ≡ corners_below corners long v
  step-no v i r h l p e =
      elim (dec_lt i (corners_below corners long v)) [
        | yes s ↦
            let t : i < long = omega (arith, at_most v h) in
            absurd (omega (arith, p.no e t, order-at i t, (key-cuts (cell corners 1 0) (upto long) vertices v i h (omega (arith, whole))).0 s))
        | no s ↦ omega arith
      ]

-- ---- handing out
module _ (n long vertices : ℕ) (corners order : List ℕ) (b : ByVertex vertices long corners order) (cs : List (List ℕ)) (a : Handing n long vertices corners cs) where
  flat-is : flat (index_of cs vertices) ≡ tab long (λ i. get_or order i 0 / n)
  flat-is =
      index-flat a.d cs corners a.same a.cells vertices
      ∙ ap (λ (z : ℕ). map (λ (x : ℕ). x / suc a.d) (bucket_sort (cell corners 1 0) vertices (upto z))) (sym a.all)
      ∙ ap (map (λ (x : ℕ). x / suc a.d)) (sym b.sorted)
      ∙ sym (tab-map (λ (x : ℕ). x / suc a.d) long order b.ordered.fits)
      ∙ ap (λ (z : ℕ). tab long (λ i. get_or order i 0 / z)) (sym a.size)

  flat-long : length (flat (index_of cs vertices)) ≡ long
  flat-long = ap length flat-is ∙ length-tab long (λ i. get_or order i 0 / n)

  starts-are : starts_of (index_of cs vertices) ≡ tab (vertices + 1) (corners_below corners long)
  starts-are = index-starts a.d cs corners a.same a.cells vertices ∙ ap (λ (z : ℕ). tab (vertices + 1) (corners_below corners z)) (sym a.all)

  starts-long : length (starts_of (index_of cs vertices)) ≡ vertices + 1
  starts-long = ap length starts-are ∙ length-tab (vertices + 1) (corners_below corners long)

  pub cells-short : (touching starts : List ℕ) → length touching < long → Handed cs vertices (Err TooShort) touching touching starts starts
  cells-short touching starts h = record { handed = ([], []); gives = words_short (omega (arith, flat-long)); result = refl; sides = refl }

  pub starts-short : (touching starts : List ℕ) → length starts ≤ vertices → Handed cs vertices (Err TooShort) touching touching starts starts
  starts-short touching starts h = record { handed = ([], []); gives = table_short (omega (arith, starts-long)); result = refl; sides = refl }

  pub both-handed : (touching touching' starts starts' : List ℕ) → long ≤ length touching → vertices < length starts → touching' ≡ tab long (λ i. get_or order i 0 / n) ++ drop long touching → starts' ≡ tab (vertices + 1) (corners_below corners long) ++ drop (vertices + 1) starts → Handed cs vertices (Ok vertices) touching touching' starts starts'
  both-handed touching touching' starts starts' h l p q =
      record {
        handed = (flat (index_of cs vertices), starts_of (index_of cs vertices));
        gives =
            subst (λ (m : ℕ). GivesBoth (index_of cs vertices) (starts_of (index_of cs vertices)) (length touching) (length starts) (Ok m) (flat (index_of cs vertices), starts_of (index_of cs vertices))) (length-tab vertices (cells_at cs))
            (both_listed (omega (arith, flat-long)) (omega (arith, starts-long)));
        result = rw (flat-long, flat-is) p;
        sides = rw (starts-long, starts-are) q;
      }

-- ---- sorting the corners
-- a list whose front is a copy of another's
pub front_length : (long : ℕ) (keys rows part : List ℕ) → long ≤ length keys → long ≤ length rows → part ≡ take long rows → length (part ++ drop long keys) ≡ length keys
front_length long keys rows part h l e =
    length-append part (drop long keys) ∙ omega (arith, ap length e, length-take-le long rows l, length-drop long keys)

pub front_same : (long : ℕ) (keys rows part : List ℕ) → long ≤ length rows → part ≡ take long rows → take long (part ++ drop long keys) ≡ take long rows
front_same long keys rows part l e = take_at part (drop long keys) long (ap length e ∙ length-take-le long rows l) ∙ e

pub sort-table : (long vertices : ℕ) (keys rows spare counts keys' : List ℕ) → Sorting long vertices keys rows spare counts → length keys' ≡ length keys → take long keys' ≡ take long rows → Table keys' 1 long vertices
sort-table long vertices keys rows spare counts keys' s l e =
    record {
      few = s.few;
      long = omega (arith, s.in_keys);
      below =
          λ j h.
          let t : j < long = omega arith in
          subst (λ (z : ℕ). z < vertices) (sym (sym (get_or-take long keys' j 0 t) ∙ ap (λ (z : List ℕ). get_or z j 0) e ∙ get_or-take long rows j 0 t)) (s.below j t);
    }

first-pass : (keys : List ℕ) (b : ℕ) (xs : List ℕ) → lsd (cell keys 1) b 1 xs ≡ bucket_sort (cell keys 1 0) b xs
unfolding lsd
first-pass keys b xs = refl

pub sorted-by : (long vertices : ℕ) (keys rows spare counts keys' rows' : List ℕ) → Sorting long vertices keys rows spare counts → length keys' ≡ length keys → length rows' ≡ length rows → take long keys' ≡ take long rows →
    rows' ≡ lsd (cell keys' 1) vertices 1 (upto long) ++ drop long rows → Sorted (cell keys' 1) 1 long (take long rows') → ByVertex vertices long keys' rows'
sorted-by long vertices keys rows spare counts keys' rows' s lk lr e q o =
    let t = sort-table long vertices keys rows spare counts keys' s lk e in
    record {
      ordered =
          record {
            fits = omega (arith, s.in_rows);
            inside = λ i h. omega (arith, o.below i h, get_or-take long rows' i 0 h, s.in_keys);
          };
      few = s.few;
      some = s.some;
      sorted =
          ap (take long) q
          ∙ take_at (lsd (cell keys' 1) vertices 1 (upto long)) (drop long rows) long (table-sorted keys' 1 long vertices t).long
          ∙ first-pass keys' vertices (upto long);
      below = λ i h. t.below i (omega arith);
      corners_long = omega (arith, s.in_keys);
    }

-- ---- after the cells
module _ (d : ℕ) (ws keys rows spare counts : List ℕ) (w : Working (need_of d (length ws)) d ws keys rows spare counts) where
  pub few_vertices : largest_of ws + 1 ≤ length ws
  few_vertices = omega (arith, largest-low ws w.passed.some_words w.passed.used)

  word_of : (v : Word) → In v (cells_of d ws) → (u : Word) × In u (rows_of_lem (d + 1) ws) × (sort_word u ≡ v)
  unfolding cells_of
  word_of v k = order_from (d + 1) (rows_of_lem (d + 1) ws) v k

  word_low : (u : Word) → In u (rows_of_lem (d + 1) ws) → All (λ x. x ≤ largest_of ws) u
  word_low u k =
      let r = at_in u (rows_of_lem (d + 1) ws) k in
      let h : r.0 < length ws / (d + 1) = omega (arith, r.1, cut-length (d + 1) (length ws / (d + 1)) ws) in
      let e : take (d + 1) (drop (r.0 * (d + 1)) ws) ≡ u = sym (cut_at (d + 1) (length ws / (d + 1)) ws r.0 h) ∙ r.2 in
      subst (λ (z : Word). All (λ x. x ≤ largest_of ws) z) e
      (All-of (λ x. x ≤ largest_of ws) (take (d + 1) (drop (r.0 * (d + 1)) ws))
      (λ i l.
      let t : i < d + 1 = omega (arith, length-take (d + 1) (drop (r.0 * (d + 1)) ws)) in
      omega (arith, get_or-take (d + 1) (drop (r.0 * (d + 1)) ws) i 0 t, get_or-drop (r.0 * (d + 1)) ws i 0, below-largest ws (r.0 * (d + 1) + i))))

  module _ (m : ℕ) (keys' rows' spare' counts' : List ℕ) (lk : length keys' ≡ length keys) (lr : length rows' ≡ length rows) (ls : length spare' ≡ length spare) (lc : length counts' ≡ length counts) (a : Made d ws m rows') where
    cell-low : (c j : ℕ) → c < m → j < suc d → get_or (get_or (cut (suc d) m rows') c []) j 0 ≤ largest_of ws
    cell-low c j h l =
        let v = get_or (cut (suc d) m rows') c [] in
        let k : In (get_or (cut (suc d) m rows') c []) (cut (suc d) m rows') = in-at (cut (suc d) m rows') c (omega (arith, cut-length (suc d) m rows')) in
        let r = word_of (get_or (cut (suc d) m rows') c []) (subst (λ (z : List Word). In (get_or (cut (suc d) m rows') c []) z) a.same k) in
        let long : length (get_or (cut (suc d) m rows') c []) ≡ suc d = a.cells.long c (omega (arith, cut-length (suc d) m rows')) in
        let low = sort-all (λ x. x ≤ largest_of ws) r.0 (word_low r.0 r.1) in
        subst (λ (z : Word). get_or z j 0 ≤ largest_of ws) r.2 (All-at (λ x. x ≤ largest_of ws) (sort_word r.0) j low (omega (arith, ap length r.2)))

    corner-low : (i : ℕ) → i < m * suc d → get_or rows' i 0 < largest_of ws + 1
    corner-low i h =
        let hc : i / suc d < m = (div-lt_iff_lt-mul {k = suc d} (omega arith)).1 h in
        let hj : i % suc d < suc d = mod-lt i (omega arith) in
        let e : get_or rows' i 0 ≡ get_or (get_or (cut (suc d) m rows') (i / suc d) []) (i % suc d) 0 =
        ap (λ (z : ℕ). get_or rows' z 0) (sym (div-add-mod' i (suc d))) ∙ sym (row-cell rows' (suc d) (i / suc d) (i % suc d) hj) ∙ ap (λ (z : List ℕ). get_or z (i % suc d) 0) (sym (cut_at (suc d) m rows' (i / suc d) hc)) in
        omega (arith, e, cell-low (i / suc d) (i % suc d) hc hj)

    pub sorting : Sorting (m * (d + 1)) (largest_of ws + 1) keys' rows' spare' counts'
    sorting =
        let f = few_vertices in
        rw (add-one d)
        (record {
          few = omega (arith, a.most, a.corners);
          some = omega (arith, a.corners);
          in_keys = omega (arith, a.most, w.room.in_keys, room-least d (length ws));
          in_rows = omega (arith, a.most, w.room.in_rows);
          in_spare = omega (arith, a.most, w.room.in_spare);
          buckets = omega (arith, w.room.in_counts);
          below = corner-low;
        })

    pub handing : (vertices : ℕ) (corners : List ℕ) → take (m * (d + 1)) corners ≡ take (m * (d + 1)) rows' → Handing (d + 1) (m * (d + 1)) vertices corners (cells_of d ws)
    handing vertices corners e =
        record {
          d = d;
          size = add-one d;
          all = ap (λ (z : ℕ). m * z) (add-one d) ∙ ap (λ (z : ℕ). z * suc d) (sym (cells-many d ws m rows' a));
          same =
              sym
              (ap (cut (suc d) (length (cells_of d ws))) (sym (take-append-drop (m * (d + 1)) corners) ∙ ap (λ (z : List ℕ). z ++ drop (m * (d + 1)) corners) (e ∙ sym (cells-flat d ws m rows' a)))
              ∙ cut-before (suc d) (cells_of d ws) (drop (m * (d + 1)) corners) (each_long (suc d) (cells_of d ws) good.long));
          cells = good;
        }
      where
        good : Cells d (cells_of d ws)
        good = subst (λ (z : List (List ℕ)). Cells d z) a.same a.cells

-- ---- after 7
module _ (d : ℕ) (ws : List ℕ) (ok : Bool) (s : Sound d ws ok) where
  pub work-crowded : (touching starts : List ℕ) → ok ≡ false → Worked d ws (Err CrowdedFacet) touching touching starts starts
  work-crowded touching starts e = record { handed = ([], []); ends = crowded (s.no e); result = refl; sides = refl }

  pub work-rest : (r : Counted) (touching touching' starts starts' : List ℕ) → ok ≡ true → Handed (cells_of d ws) (largest_of ws + 1) r touching touching' starts starts' → Worked d ws r touching touching' starts starts'
  work-rest r touching touching' starts starts' e h = record { handed = h.handed; ends = rest (s.yes e) h.gives; result = h.result; sides = h.sides }
