-- From the rows of the visits and their classes to the words and births of the refined complex. Assumes nothing.
use mathlib.Core.Bool.{Bool, true, false, ◌||◌}
use mathlib.Core.Path.{◌≡◌, refl, sym, ap, ◌∙◌, subst}
use mathlib.Core.List.Memᴰ
use mathlib.Core.List.{List, [], ◌∷◌, ◌++◌, map, map-map, map-append, Memᴰ}
use Prim.Native.Nat.{ℕ, suc, ◌+◌, ◌*◌, ◌^◌, ◌/◌, ◌%◌, ◌≤◌, ◌<◌}
use native.Mathlib.Nat.{le_refl, mul_assoc}
use native.Mathlib.Omega.{arith}
use lib.Dec.{eqb, ltb}
use lib.ListN.{length, get_or, take, drop, replicate, length-append, length-map, length-replicate, get_or-replicate, take-append-drop}
use lib.Seq.{ext_get_or, get_or-take, length-take-le}
use Rattle.lists.specs.Rows.{cut, flat, row}
use Rattle.lists.proofs.Flat.{flat_append, cut-before}
use Rattle.lists.proofs.Laws.{front-part, map_at}
use Rattle.lists.proofs.Rows.{cut-length, cut_at, row_fits, row-cell-below, row-slot-below, row_is}
use Rattle.sorting.specs.Bucket.{cell}
use Rattle.sorting.specs.Order.{Table}
use Rattle.sorting.specs.Distinct.{Distinct}
use Rattle.sorting.proofs.Colex.{row-cell, row-length, row_same, same_row}
use Rattle.sorting.proofs.Firsts.{id-eq, id-row}
use Rattle.lists.specs.Tables.{tab}
use Rattle.refine_lattice.specs.Complex.{weigh}
use Rattle.refine_lattice.specs.Children.{gather, children, pick}
use Rattle.refine_lattice.specs.Pattern.{pattern_of}
use Rattle.refine_lattice.specs.Refine.{point, visits, positives, place, births_from, births, number, words, vertices}
use Rattle.lists.proofs.Tables.{length-tab}
use Rattle.refine_lattice.proofs.Count.{length-gather}
use Rattle.refine_lattice.proofs.Count as count
use Rattle.refine_lattice.proofs.Enumerate.{of-gather}
use Rattle.refine_lattice.proofs.Pattern.{added, child-corners, row-sum, row_count, gather-at, flat-row, flat-count, visits-pattern}
use Rattle.refine_lattice.proofs.Refines.{mem-at}
use Rattle.lists.specs.Words.{none}
use Rattle.refine_births.specs.Support.{row_of, total}
use Rattle.refine_births.specs.WorkVisits.{visit_at, Visiting, Visited}
use Rattle.refine_births.specs.WorkNumbers.{Classing, Classed, Numbering, Told, Numbered}
use Rattle.refine_births.specs.Promise.{Resolving, Resolved}
use Rattle.refine_births.proofs.Numbering.{enter}
use Rattle.refine_births.proofs.Points.{row_told, row_below, positives-most, point-most}

-- ---- classes
pub classed : (keys : List ℕ) (stride many m : ℕ) (reps ids : List ℕ) → Distinct (cell keys stride) stride many m reps ids → many * stride ≤ length keys → Classed stride many keys ids
classed keys stride many m reps ids q long =
    record {
      below = λ x h. omega (arith, q.id_below x h, q.few);
      one =
          λ x y hx hy e.
          same_row keys stride x y (row_fits x many stride (length keys) hx long) (row_fits y many stride (length keys) hy long)
          (id-row (cell keys stride) stride many m reps ids q x y hx hy e);
      apart = λ x y hx hy e. id-eq (cell keys stride) stride many m reps ids q x y hx hy (row_same keys stride x y e);
    }

-- ---- visits by number

total-added : (ws : List ℕ) → total ws ≡ added ws
total-added [] = refl
total-added (w ∷ ws) = ap (λ (i : ℕ). w + i) (total-added ws)

module _ (d R n m p : ℕ) (ws pattern : List ℕ) (corners : p ≡ R ^ d * suc d) (reads : take (p * suc d) pattern ≡ flat (pattern_of d R)) where
  pattern_long : length (pattern_of d R) ≡ p
  pattern_long = row_count d R ∙ sym corners

  pub pattern-room : p * suc d ≤ length pattern
  pattern-room =
      omega (
        arith,
        ap length reads,
        flat-count d R,
        mul_assoc (R ^ d) (suc d) (suc d),
        ap (λ (i : ℕ). i * suc d) corners,
        length-take-most (p * suc d) pattern,
      )
    where
      length-take-most : (n : ℕ) (l : List ℕ) → length (take n l) ≤ length l
      length-take-most n l = omega (arith, ap length (take-append-drop n l), length-append (take n l) (drop n l))

  pattern-row : (q : ℕ) → q < p → get_or (pattern_of d R) q [] ≡ row pattern (suc d) q
  pattern-row q h =
      let l : length (take (p * suc d) pattern) ≡ p * suc d = length-take-le (p * suc d) pattern pattern-room in
      sym (flat-row d R q (omega (arith, corners)))
      ∙ ap (λ (k : List ℕ). take (suc d) (drop (q * suc d) k)) (sym reads)
      ∙ sym (front-part (take (p * suc d) pattern) (drop (p * suc d) pattern) (q * suc d) (suc d) (rw l (row_fits q p (suc d) (p * suc d) h (le_refl (p * suc d)))))
      ∙ ap (λ (k : List ℕ). take (suc d) (drop (q * suc d) k)) (take-append-drop (p * suc d) pattern)

  pub row-total : (q : ℕ) → q < p → total (row pattern (suc d) q) ≡ R
  row-total q h =
      ap total (sym (pattern-row q h))
      ∙ total-added (get_or (pattern_of d R) q [])
      ∙ row-sum d R (get_or (pattern_of d R) q []) (mem-at (pattern_of d R) q (omega (arith, pattern_long)))

  parent_long : (k : List ℕ) → length (map (λ us. tab n (weigh k us)) (pattern_of d R)) ≡ p
  parent_long k = length-map (pattern_of d R) (λ us. tab n (weigh k us)) ∙ pattern_long

  pub visits-long : length (visits d R n (cut (suc d) m ws)) ≡ m * p
  visits-long =
      ap length (visits-pattern d R n (cut (suc d) m ws))
      ∙ length-gather (λ k. map (λ us. tab n (weigh k us)) (pattern_of d R)) p (cut (suc d) m ws) parent_long
      ∙ ap (λ (i : ℕ). i * p) (cut-length (suc d) m ws)

  pub visits-at : (x : ℕ) → x < m * p → get_or (visits d R n (cut (suc d) m ws)) x [] ≡ visit_at (suc d) n p ws pattern x
  visits-at x h =
      let a : x / p < m = row-cell-below x m p h in
      let b : x % p < p = row-slot-below x m p h in
      ap (λ (l : List (List ℕ)). get_or l x []) (visits-pattern d R n (cut (suc d) m ws))
      ∙ ap (λ (i : ℕ). get_or (gather (λ k. map (λ us. tab n (weigh k us)) (pattern_of d R)) (cut (suc d) m ws)) i []) (sym (row_is x m p h))
      ∙ gather-at (λ k. map (λ us. tab n (weigh k us)) (pattern_of d R)) p [] [] (cut (suc d) m ws) (λ k i. parent_long k) (x / p) (x % p) (omega (arith, cut-length (suc d) m ws)) b
      ∙ ap (λ (k : List ℕ). get_or (map (λ us. tab n (weigh k us)) (pattern_of d R)) (x % p) []) (cut_at (suc d) m ws (x / p) a)
      ∙ map_at (λ us. tab n (weigh (row ws (suc d) (x / p)) us)) (pattern_of d R) (x % p) [] [] (omega (arith, pattern_long))
      ∙ ap (λ (us : List ℕ). tab n (weigh (row ws (suc d) (x / p)) us)) (pattern-row (x % p) b)

-- ---- words in one list
child_words : (g : List ℕ → ℕ) (pt : List ℕ → List ℕ) (cs : List (List (List ℕ))) → flat (map (map (λ s. g (pt s))) cs) ≡ map g (gather (λ c. map pt c) cs)
child_words g pt [] = refl
child_words g pt (c ∷ cs) =
    ap (λ (l : List ℕ). map (λ s. g (pt s)) c ++ l) (child_words g pt cs)
    ∙ ap (λ (l : List ℕ). l ++ map g (gather (λ c. map pt c) cs)) (sym (map-map g pt c))
    ∙ sym (map-append g (map pt c) (gather (λ c. map pt c) cs))

all_words : (R n : ℕ) (g : List ℕ → ℕ) (cs : List (List (List ℕ))) (ks : List (List ℕ))
    → flat (gather (λ k. map (map (λ s. g (point R n k s))) cs) ks) ≡ map g (gather (λ k. gather (λ c. map (point R n k) c) cs) ks)
all_words R n g cs [] = refl
all_words R n g cs (k ∷ ks) =
    flat_append (map (map (λ s. g (point R n k s))) cs) (gather (λ k. map (map (λ s. g (point R n k s))) cs) ks)
    ∙ ap (λ (l : List ℕ). l ++ flat (gather (λ k. map (map (λ s. g (point R n k s))) cs) ks)) (child_words g (point R n k) cs)
    ∙ ap (λ (l : List ℕ). map g (gather (λ c. map (point R n k) c) cs) ++ l) (all_words R n g cs ks)
    ∙ sym (map-append g (gather (λ c. map (point R n k) c) cs) (gather (λ k. gather (λ c. map (point R n k) c) cs) ks))

-- the words are the numbers of the visits
pub words-flat : (d R n : ℕ) (ks : List (List ℕ)) → flat (words d R n ks) ≡ map (number n (births d R n ks)) (visits d R n ks)
words-flat d R n ks = all_words R n (number n (births d R n ks)) (children d R) ks

word_long : (d R n : ℕ) (ks : List (List ℕ)) (w : List ℕ) → Memᴰ w (words d R n ks) → length w ≡ suc d
word_long d R n ks w m =
    let (k, a, b) = of-gather (λ k. map (map (λ s. number n (births d R n ks) (point R n k s))) (children d R)) ks m in
    let (c, f, e) = Memᴰ.of_map (map (λ s. number n (births d R n ks) (point R n k s))) (children d R) b in
    ap length (sym e) ∙ length-map c (λ s. number n (births d R n ks) (point R n k s)) ∙ child-corners d R c f

-- the words, cut from the list that `resolve` leaves
pub words-cut : (d R n m p : ℕ) (ks : List (List ℕ)) (count : ℕ) (keys fresh corners : List ℕ) → Resolved d R n m p ks count keys fresh corners
    → cut (suc d) (length (words d R n ks)) corners ≡ words d R n ks
words-cut d R n m p ks count keys fresh corners r =
    ap (cut (suc d) (length (words d R n ks))) (sym (take-append-drop (m * p) corners) ∙ ap (λ (l : List ℕ). l ++ drop (m * p) corners) r.reads)
    ∙ cut-before (suc d) (words d R n ks) (drop (m * p) corners) (word_long d R n ks)

-- R^d words for each word
pub words-many : (d R n : ℕ) (ks : List (List ℕ)) → length (words d R n ks) ≡ length ks * R ^ d
words-many d R n ks =
    length-gather (λ k. map (map (λ s. number n (births d R n ks) (point R n k s))) (children d R)) (R ^ d) ks
    (λ k. length-map (children d R) (map (λ s. number n (births d R n ks) (point R n k s))) ∙ count.count d R)

-- all vertices are the first ones and the births
pub vertices-many : (d R n m p : ℕ) (ks : List (List ℕ)) (count : ℕ) (keys fresh corners : List ℕ) → Resolved d R n m p ks count keys fresh corners → vertices d R n ks ≡ n + count
vertices-many d R n m p ks count keys fresh corners r = ap (λ (i : ℕ). n + i) r.supports.long

-- ---- what `resolve` asks of its calls
module _ (d R n m p : ℕ) (ws pattern keys rows spare counts : List ℕ) (q : Resolving d R n m p ws pattern keys rows spare counts) (size : ℕ) (e : size ≡ suc d) where
  pub resolve-visiting : Visiting size n m p ws pattern keys
  resolve-visiting =
      subst (λ (s : ℕ). Visiting s n m p ws pattern keys) (sym e)
      (record {
        long = q.long;
        wide = pattern-room d R n m p ws pattern q.corners q.reads;
        room = q.keys_long;
        few = omega (arith, q.few);
        small = q.dim;
        below = q.below;
        named = omega (arith, q.few);
        light = λ r h. omega (arith, row-total d R n m p ws pattern q.corners q.reads r h, q.few);
      })

  -- the rows are written
  module _ (keys' : List ℕ) (el : length keys' ≡ length keys) where
    module _ (v : Visited (suc d) n p ws pattern keys' (m * p)) where
      key_below : (j : ℕ) → j < m * p * (suc d + suc d) → get_or keys' j 0 < n + R + 1
      key_below j h =
          let s : ℕ = suc d + suc d in
          let x : ℕ = j / (suc d + suc d) in
          let a : j / (suc d + suc d) < m * p = row-cell-below j (m * p) (suc d + suc d) h in
          let b : j % (suc d + suc d) < suc d + suc d = row-slot-below j (m * p) (suc d + suc d) h in
          let w : j / (suc d + suc d) % p < p = row-slot-below (j / (suc d + suc d)) m p a in
          let pt : List ℕ = visit_at (suc d) n p ws pattern (j / (suc d + suc d)) in
          let r = row_below (suc d) n R pt (j % (suc d + suc d)) (length-tab n (weigh (row ws (suc d) (x / p)) (row pattern (suc d) (x % p))))
          (λ i. omega (arith, point-most n (row ws (suc d) (x / p)) (row pattern (suc d) (x % p)) i, row-total d R n m p ws pattern q.corners q.reads (x % p) w)) b in
          omega (
            arith,
            r,
            ap (λ (l : List ℕ). get_or l (j % (suc d + suc d)) 0) (v x a),
            row-cell keys' (suc d + suc d) x (j % (suc d + suc d)) b,
            ap (λ (i : ℕ). get_or keys' i 0) (row_is j (m * p) (suc d + suc d) h),
          )

      table : Table keys' (suc d + suc d) (m * p) (n + R + 1)
      table = record { few = omega (arith, q.few); long = omega (arith, q.keys_long); below = key_below }

    pub resolve-classing : (b : ℕ) → b ≡ n + R + 1 → Visited size n p ws pattern keys' (m * p) → Classing (size + size) (m * p) b keys' rows spare counts
    resolve-classing b eb v =
        subst (λ (s : ℕ). Classing (s + s) (m * p) b keys' rows spare counts) (sym e)
        (subst (λ (c : ℕ). Classing (suc d + suc d) (m * p) c keys' rows spare counts) (sym eb)
        (record {
          table = table (subst (λ (s : ℕ). Visited s n p ws pattern keys' (m * p)) e v);
          rows_long = q.rows_long;
          spare_long = q.spare_long;
          counts_long = q.counts_long;
          buckets = q.buckets;
        }))

    pub resolve-numbering : (rows₁ rows' spare' counts' : List ℕ) → length rows₁ ≡ length rows → rows' ≡ replicate (length rows₁) none → length spare' ≡ length spare → length counts' ≡ length counts
        → Classed (size + size) (m * p) keys' counts' → Numbering size n (m * p) keys' rows' spare' counts'
    resolve-numbering rows₁ rows' spare' counts' l₁ er es ec c =
        let lr : length rows' ≡ length rows = ap length er ∙ length-replicate (length rows₁) none ∙ l₁ in
        record {
          some = omega arith;
          small = omega (arith, q.dim, e);
          few = omega (arith, q.few);
          room = rw (e, el) q.keys_long;
          fresh_long = omega (arith, q.spare_long);
          long = omega (arith, q.counts_long);
          below = λ x h. omega (arith, c.below x h, lr, q.rows_long);
          blank = λ i h. ap (λ (l : List ℕ). get_or l i 0) er ∙ get_or-replicate {A = ℕ} (length rows₁) i none 0 (omega (arith, lr, l₁));
        }

-- ---- what `resolve` leaves
births-few : (seen ls : List (List ℕ)) → length (births_from seen ls) ≤ length seen + length ls
births-few seen [] = omega arith
births-few seen (l ∷ ls) = omega (arith, births-few (enter seen l) ls, one_more (eqb (positives l) 1 || ltb (place seen l) (length seen)))
  where
    one_more : (b : Bool) → length (pick b seen (seen ++ (l ∷ []))) ≤ length seen + 1
    one_more true = omega arith
    one_more false = omega (arith, length-append seen (l ∷ []))

module _ (d R n m p : ℕ) (ws pattern keys rows spare counts : List ℕ) (q : Resolving d R n m p ws pattern keys rows spare counts) (keys' classes : List ℕ)
    (v : Visited (suc d) n p ws pattern keys' (m * p)) (c : Classed (suc d + suc d) (m * p) keys' classes) where
  is-visit : (x : ℕ) → x < m * p → get_or (visits d R n (cut (suc d) m ws)) x [] ≡ visit_at (suc d) n p ws pattern x
  is-visit x h = visits-at d R n m p ws pattern q.corners q.reads x h

  sized : (x : ℕ) → x < m * p → length (get_or (visits d R n (cut (suc d) m ws)) x []) ≡ n
  sized x h = ap length (is-visit x h) ∙ length-tab n (weigh (row ws (suc d) (x / p)) (row pattern (suc d) (x % p)))

  fits : (x : ℕ) → x < m * p → positives (get_or (visits d R n (cut (suc d) m ws)) x []) ≤ suc d
  fits x h =
      omega (
        arith,
        ap positives (is-visit x h),
        positives-most n (row ws (suc d) (x / p)) (row pattern (suc d) (x % p)),
        row-length ws (suc d) (x / p) (row_fits (x / p) m (suc d) (length ws) (row-cell-below x m p h) q.long),
      )

  written : (x : ℕ) → x < m * p → row keys' (suc d + suc d) x ≡ row_of (suc d) n (get_or (visits d R n (cut (suc d) m ws)) x [])
  written x h = v x h ∙ ap (row_of (suc d) n) (sym (is-visit x h))

  -- one class for one point
  resolve-told : Told (suc d) n (m * p) (visits d R n (cut (suc d) m ws)) keys' classes
  resolve-told =
      record {
        long = visits-long d R n m p ws pattern q.corners q.reads;
        sized = sized;
        fits = fits;
        rows = written;
        one =
            λ x y hx hy e.
            row_told (suc d) n (get_or (visits d R n (cut (suc d) m ws)) x []) (get_or (visits d R n (cut (suc d) m ws)) y []) (sized x hx) (sized y hy) (fits x hx) (fits y hy)
            (sym (written x hx) ∙ c.one x y hx hy e ∙ written y hy);
        apart = λ x y hx hy e. c.apart x y hx hy (written x hx ∙ ap (row_of (suc d) n) e ∙ sym (written y hy));
      }

  resolve-done-at : (count : ℕ) (fresh corners : List ℕ) → m * p ≤ length corners → Numbered n (visits d R n (cut (suc d) m ws)) count fresh corners → Resolved d R n m p (cut (suc d) m ws) count keys' fresh corners
  resolve-done-at count fresh corners long r =
      let l : length (visits d R n (cut (suc d) m ws)) ≡ m * p = visits-long d R n m p ws pattern q.corners q.reads in
      let low : (b : ℕ) → b < count → get_or fresh b 0 < m * p = λ b h. omega (arith, r.below b h) in
      record {
        most = omega (arith, r.many, births-few [] (visits d R n (cut (suc d) m ws)));
        reads =
            ext_get_or 0 (take (m * p) corners) (flat (words d R n (cut (suc d) m ws)))
            (length-take-le (m * p) corners long
            ∙ sym (ap length (words-flat d R n (cut (suc d) m ws)) ∙ length-map (visits d R n (cut (suc d) m ws)) (number n (births d R n (cut (suc d) m ws))) ∙ l))
            (λ x h.
            let g : x < m * p = omega (arith, length-take-le (m * p) corners long) in
            get_or-take (m * p) corners x 0 g
            ∙ r.done x (omega arith)
            ∙ sym (ap (λ (k : List ℕ). get_or k x 0) (words-flat d R n (cut (suc d) m ws)) ∙ map_at (number n (births d R n (cut (suc d) m ws))) (visits d R n (cut (suc d) m ws)) x [] 0 (omega arith)));
        below = low;
        supports =
            record {
              long = sym r.many;
              sized = λ b h. ap length (r.born b h) ∙ sized (get_or fresh b 0) (low b h);
              rows = λ b h. written (get_or fresh b 0) (low b h) ∙ ap (row_of (suc d) n) (sym (r.born b h));
            };
      }

pub resolve-done : (d R n m p : ℕ) (ws pattern keys rows spare counts : List ℕ) → Resolving d R n m p ws pattern keys rows spare counts → (size : ℕ) → size ≡ suc d
    → (keys' classes : List ℕ) (count : ℕ) (fresh corners : List ℕ) → length corners ≡ length counts
    → Visited size n p ws pattern keys' (m * p) → Classed (size + size) (m * p) keys' classes
    → ((points : List (List ℕ)) → Told size n (m * p) points keys' classes → Numbered n points count fresh corners)
    → Resolved d R n m p (cut (suc d) m ws) count keys' fresh corners
resolve-done d R n m p ws pattern keys rows spare counts q size e keys' classes count fresh corners el =
    subst
    (λ (s : ℕ). Visited s n p ws pattern keys' (m * p) → Classed (s + s) (m * p) keys' classes
    → ((points : List (List ℕ)) → Told s n (m * p) points keys' classes → Numbered n points count fresh corners)
    → Resolved d R n m p (cut (suc d) m ws) count keys' fresh corners)
    (sym e)
    (λ v c f.
    resolve-done-at d R n m p ws pattern keys rows spare counts q keys' classes v c count fresh corners (omega (arith, el, q.counts_long))
    (f (visits d R n (cut (suc d) m ws)) (resolve-told d R n m p ws pattern keys rows spare counts q keys' classes v c)))
