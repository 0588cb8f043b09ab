-- Finding the children's words: what is asked of the pattern and the births, and how it ends. Assumes nothing.
use Rattle.refusal.specs.declared.Refusal.TheVariants.{TooManyVertices}
use Rattle.std.specs.Prelude.{Err, Ok}
use mathlib.Core.List.{List, [], Memᴰ}
use mathlib.Core.Path.{◌≡◌, refl, sym, ap, ◌∙◌, subst}
use Prim.Native.Nat.{ℕ, suc, ◌+◌, ◌*◌, ◌/◌, ◌%◌, ◌^◌, ◌<◌, ◌≤◌}
use native.Mathlib.Nat.{mul_assoc, mul-le-mul_left, mul-le-mul_right, suc-mul, mul-one, mod-lt, div-lt_iff_lt-mul, div-add-mod'}
use native.Mathlib.Numerals.{add-one}
use native.Mathlib.Omega.{arith}
use lib.ListN.{length, get_or, take, drop}
use lib.Seq.{take_at, take-take, length-take-le}
use Rattle.refusal.specs.Limits.{most_dimension, most_cells, most_vertices, row_most}
use Rattle.refusal.specs.Lent.{onto}
use Rattle.lists.specs.Rows.{cut, flat, row}
use Rattle.lists.proofs.Rows.{cut-length, cut_at}
use Rattle.multiindex.proofs.Digits.{power-most}
use Rattle.sorting.proofs.Colex.{row-cell, row-length}
use Rattle.refine_lattice.specs.Pattern.{pattern_of}
use Rattle.refine_lattice.specs.Refine.{words}
use Rattle.refine_lattice.proofs.Enumerate.{times-at}
use Rattle.refine_lattice.proofs.Pattern.{flat-count}
use Rattle.refine_lattice.proofs.Refines.{mem-at, words-below}
use Rattle.refine_pattern.specs.WorkChains as chains
use Rattle.refine_births.specs.Promise.{Resolving, Resolved}
use Rattle.refine_births.proofs.Complex.{words-cut, words-many, vertices-many}
use Rattle.refine_results.specs.declared.Counts.{Counts}
use Rattle.refine_results.specs.WorkFlat.{Refining}
use Rattle.refine_results.specs.Results.{Inside}
use Rattle.refine_results.specs.WorkStage.{Spacious, Ready}
use Rattle.refine_results.specs.WorkSteps.{Seeking, Found, Sought, many_vertices, found, Finishing}
use Rattle.refine_results.proofs.Seats.{ks-long, ks-low}

-- the product of m cells and R^d children is a small number
pub children-fit : (d R m : ℕ) → d ≤ most_dimension → R ≤ 64 → m ≤ most_cells → m * R ^ d < 2 ^ 64
children-fit d R m h l f = omega (arith, mul-le-mul_right (R ^ d) f, power-most d R h (omega arith))

module _ (d R n m : ℕ) (along pattern keys rows spare counts : List ℕ) (q : Seeking d R n m along pattern keys rows spare counts) (w : Inside R) (f : m * R ^ d ≤ most_cells) where
  space : Spacious d R n (m * R ^ d) pattern keys rows spare counts q.sorted q.firsts q.buckets
  space = q.ready.room w f

  pub to-pattern : chains.Ready d R (length pattern)
  to-pattern = record { axes = q.ready.dim; most = w.most; room = space.pattern_long }

  pub corners-fit : (s : ℕ) → s ≡ R ^ d → (k : ℕ) → k ≡ suc d → s * k < 2 ^ 64
  corners-fit s e k g =
      subst (λ (x : ℕ). x * k < 2 ^ 64) (sym e)
      (subst (λ (x : ℕ). R ^ d * x < 2 ^ 64) (sym g) (omega (arith, mul-le-mul_left {m = suc d} {n = row_most} (R ^ d) (omega (arith, q.ready.dim)), power-most d R q.ready.dim (omega (arith, w.most)))))

  module _ (pattern' : List ℕ) (e : pattern' ≡ onto (flat (pattern_of d R)) pattern) where
    pub pattern-reads : take (R ^ d * (suc d * suc d)) pattern' ≡ flat (pattern_of d R)
    pattern-reads = ap (take (R ^ d * (suc d * suc d))) e ∙ take_at (flat (pattern_of d R)) (drop (length (flat (pattern_of d R))) pattern) (R ^ d * (suc d * suc d)) (flat-count d R)

    module _ (p : ℕ) (g : p ≡ R ^ d * suc d) where
      all-corners : m * p ≡ m * R ^ d * suc d
      all-corners = ap (λ (x : ℕ). m * x) g ∙ sym (mul_assoc m (R ^ d) (suc d))

      pub to-births : Resolving d R n m p along pattern' keys rows spare counts
      to-births = record {
        dim = omega (arith, q.ready.dim);
        long = q.ready.words_of.along_long;
        below = q.ready.words_of.below;
        corners = g;
        reads = ap (λ (x : ℕ). take x pattern') (ap (λ (x : ℕ). x * suc d) g ∙ mul_assoc (R ^ d) (suc d) (suc d)) ∙ pattern-reads;
        few = omega (arith, all-corners, mul-le-mul_right (suc d) f, mul-le-mul_left {m = suc d} {n = row_most} most_cells (omega (arith, q.ready.dim)), q.ready.low, w.most);
        keys_long = subst (λ (x : ℕ). x * (suc d + suc d) ≤ length keys) (sym all-corners) space.keys_long;
        rows_long = omega (arith, all-corners, space.rows_long);
        spare_long = omega (arith, all-corners, space.spare_long);
        counts_long = omega (arith, all-corners, space.counts_long);
        buckets = space.weights_long;
      }

      module _ (born : ℕ) (keys' fresh corners : List ℕ) (r : Resolved d R n m p (cut (suc d) m along) born keys' fresh corners) where
        pub born-few : born < 2 ^ 32
        born-few = omega (arith, r.most, all-corners, mul-le-mul_right (suc d) f, mul-le-mul_left {m = suc d} {n = row_most} most_cells (omega (arith, q.ready.dim)))

        pub sought-many : (s : ℕ) → s ≡ n → most_vertices < s + born → Sought d R n m along pattern' keys' fresh corners (Err TooManyVertices)
        sought-many s i h = many_vertices w f (omega (arith, vertices-many d R n m p (cut (suc d) m along) born keys' fresh corners r))

        pub sought-found : (s : ℕ) → s ≡ R ^ d → (v : ℕ) → v ≡ n → v + born ≤ most_vertices → Sought d R n m along pattern' keys' fresh corners (Ok (record { children = m * s; births = born }))
        sought-found s i v j h =
            subst (λ (x : ℕ). Sought d R n m along pattern' keys' fresh corners (Ok (record { children = m * x; births = born }))) (sym i)
            (found born (record {
              within = w;
              few_cells = f;
              few_vertices = omega arith;
              pattern_is = pattern-reads;
              resolved = subst (λ (x : ℕ). Resolved d R n m x (cut (suc d) m along) born keys' fresh corners) g r;
            }))

-- ---- what is found is asked for next
found_of : (d R n m : ℕ) (along pattern keys fresh corners : List ℕ) (counted : Counts) → Sought d R n m along pattern keys fresh corners (Ok counted)
    → (counted.children ≡ m * R ^ d) × Found d R n m along pattern keys fresh corners counted.births
found_of d R n m along pattern keys fresh corners counted (found b f) = (refl, f)

module _ (d R n m : ℕ) (cells along pattern keys rows spare counts sorted firsts buckets : List ℕ) (q : Ready d R n m cells along pattern keys rows spare counts sorted firsts buckets)
    (pattern' keys' rows' fresh corners : List ℕ) (counted : Counts) (sought : Sought d R n m along pattern' keys' fresh corners (Ok counted))
    (lk : length keys' ≡ length keys) (lr : length rows' ≡ length rows) (ls : length fresh ≡ length spare) (lc : length corners ≡ length counts) (count : ℕ) (ec : count ≡ counted.children) where
  told : (counted.children ≡ m * R ^ d) × Found d R n m along pattern' keys' fresh corners counted.births
  told = found_of d R n m along pattern' keys' fresh corners counted sought

  f : Found d R n m along pattern' keys' fresh corners counted.births
  f = told.1

  wide : Spacious d R n (m * R ^ d) pattern keys rows spare counts sorted firsts buckets
  wide = q.room f.within f.few_cells

  len_is : count * (d + 1) ≡ m * R ^ d * suc d
  len_is = ap (λ (x : ℕ). x * (d + 1)) (ec ∙ told.0) ∙ ap (λ (x : ℕ). m * R ^ d * x) (add-one d)

  pub len-fits : count * (d + 1) < 2 ^ 64
  len-fits = omega (arith, len_is, mul-le-mul_right (suc d) f.few_cells, mul-le-mul_left {m = suc d} {n = row_most} most_cells (omega (arith, q.dim)))

  pub names_long : count * (d + 1) ≤ length corners
  names_long = omega (arith, len_is, wide.counts_long)

  pub sorted_long : count * (d + 1) ≤ length sorted
  sorted_long = omega (arith, len_is, wide.sorted_long)

  all : m * (R ^ d * suc d) ≡ m * R ^ d * suc d
  all = sym (mul_assoc m (R ^ d) (suc d))

  many : length (words d R n (cut (suc d) m along)) ≡ m * R ^ d
  many = words-many d R n (cut (suc d) m along) ∙ ap (λ (x : ℕ). x * R ^ d) (cut-length (suc d) m along)

  -- the words stand in the first of the numbers
  read : Resolved d R n m (R ^ d * suc d) (cut (suc d) m along) counted.births keys' fresh (take (count * (d + 1)) corners)
  read = record {
    most = f.resolved.most;
    reads = take-take (m * (R ^ d * suc d)) (count * (d + 1)) corners (omega (arith, all, len_is)) ∙ f.resolved.reads;
    below = f.resolved.below;
    supports = f.resolved.supports;
  }

  length-names : m * R ^ d * suc d ≡ length (take (count * (d + 1)) corners)
  length-names = sym (length-take-le (count * (d + 1)) corners names_long ∙ len_is)

  pub refining : Refining d R n m along cells pattern' (take (count * (d + 1)) corners)
  refining = record {
    dim = q.dim;
    some = f.within.least;
    most = f.within.most;
    words_of = q.words_of;
    pattern_is = f.pattern_is;
    names_long = omega (arith, length-names);
    names_are = ap (λ (x : ℕ). cut (suc d) x (take (count * (d + 1)) corners)) (sym many) ∙ words-cut d R n m (R ^ d * suc d) (cut (suc d) m along) counted.births keys' fresh (take (count * (d + 1)) corners) read;
  }

  -- every number of a word is below the number of vertices
  low : (i : ℕ) → i < length (take (count * (d + 1)) corners) → get_or (take (count * (d + 1)) corners) i 0 < n + counted.births
  low i l =
      let one : 0 < suc d = omega arith in
      let a : i / suc d < m * R ^ d = (div-lt_iff_lt-mul one).1 (omega (arith, length-names)) in
      let b : i % suc d < suc d = mod-lt i one in
      let is : get_or (words d R n (cut (suc d) m along)) (i / suc d) [] ≡ row (take (count * (d + 1)) corners) (suc d) (i / suc d) =
      ap (λ (l : List (List ℕ)). get_or l (i / suc d) []) (sym refining.names_are) ∙ cut_at (suc d) (m * R ^ d) (take (count * (d + 1)) corners) (i / suc d) a in
      let long : length (row (take (count * (d + 1)) corners) (suc d) (i / suc d)) ≡ suc d =
      row-length (take (count * (d + 1)) corners) (suc d) (i / suc d) (omega (arith, length-names, mul-le-mul_right (suc d) a, suc-mul (i / suc d) (suc d))) in
      let here : get_or (row (take (count * (d + 1)) corners) (suc d) (i / suc d)) (i % suc d) 0 ≡ get_or (take (count * (d + 1)) corners) i 0 =
      row-cell (take (count * (d + 1)) corners) (suc d) (i / suc d) (i % suc d) b ∙ ap (λ (x : ℕ). get_or (take (count * (d + 1)) corners) x 0) (div-add-mod' i (suc d)) in
      let under = words-below d R n (cut (suc d) m along) (ks-long d R n m along cells pattern' (take (count * (d + 1)) corners) refining) (ks-low d R n m along cells pattern' (take (count * (d + 1)) corners) refining)
      (row (take (count * (d + 1)) corners) (suc d) (i / suc d))
      (subst (λ (w : List ℕ). Memᴰ w (words d R n (cut (suc d) m along))) is (mem-at (words d R n (cut (suc d) m along)) (i / suc d) (omega (arith, many))))
      (get_or (row (take (count * (d + 1)) corners) (suc d) (i / suc d)) (i % suc d) 0)
      (times-at (row (take (count * (d + 1)) corners) (suc d) (i / suc d)) (i % suc d) (omega (arith, long))) in
      omega (arith, under, here, f.few_vertices, vertices-many d R n m (R ^ d * suc d) (cut (suc d) m along) counted.births keys' fresh corners f.resolved)

  within-keys : (b : ℕ) → b < counted.births → get_or fresh b 0 * (suc d + suc d) + (suc d + suc d) ≤ length keys'
  within-keys b h =
      omega (
        arith,
        lk,
        wide.keys_long,
        mul-le-mul_right (suc d + suc d) (f.resolved.below b h),
        suc-mul (get_or fresh b 0) (suc d + suc d),
        ap (λ (x : ℕ). x * (suc d + suc d)) all,
      )

  pub finishing : Finishing d R n m counted.births cells along pattern' keys' rows' fresh (take (count * (d + 1)) corners) (take (count * (d + 1)) sorted) firsts buckets
  finishing = record {
    refining = refining;
    few_cells = f.few_cells;
    few_vertices = f.few_vertices;
    named = length-names;
    below = low;
    fresh_long = omega (arith, f.resolved.most, all, wide.spare_long);
    inside = within-keys;
    supports = f.resolved.supports;
    sorted_long = length-take-le (count * (d + 1)) sorted sorted_long ∙ len_is ∙ length-names;
    rows_long = omega (arith, lr, wide.rows_long, mul-le-mul_left {m = 1} {n = suc d} (m * R ^ d) (omega arith), mul-one (m * R ^ d));
    firsts_long = wide.firsts_long;
    buckets_long = omega (arith, wide.buckets_long, f.resolved.most, all);
    classes_long = omega (arith, wide.buckets_long, mul-le-mul_left {m = 1} {n = suc d} (m * R ^ d) (omega arith), mul-one (m * R ^ d));
  }
