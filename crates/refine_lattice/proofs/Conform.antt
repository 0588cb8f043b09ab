-- A refined complex: no vertex twice in a word, no two words over the same vertices, and no facet in three words. Assumes nothing.
use mathlib.Core.Path.{◌≡◌, refl, sym, ap, ◌∙◌, subst}
use mathlib.Core.Logic.{◌≢◌, ◌⊎◌, inl, inr, ⊎_elim}
use mathlib.Core.List.{List}
use Prim.Native.Nat.{ℕ, zero, suc, ◌+◌, ◌-◌, ◌≤◌, ◌<◌}
use native.Mathlib.Decide.{ℕ_discrete, dec_lt}
use native.Mathlib.Omega.{arith}
use lib.ListN.{length, get_or}
use Rattle.refine_lattice.specs.Lattice.{weights}
use Rattle.refine_lattice.specs.Complex.{Words, occurrences, weigh, Complex, Apart, Refined}
use Rattle.refine_lattice.specs.Conform.{rest, Meet, Distinct, Thin}
use Rattle.lists.proofs.Tables.{tab-ext}
use Rattle.refine_lattice.proofs.Tab.{step}
use Rattle.lists.proofs.Words.{same-yes, same-no}
use Rattle.refine_lattice.proofs.Codes.{Code}
use Rattle.refine_lattice.proofs.Enumerate.{times-at, times-two, place-of}
use Rattle.refine_lattice.proofs.Span.{low, high, low-in, low-out, load_is, Flat, tip, one-flat}
use Rattle.refine_lattice.proofs.Mirror.{Spot, Facing, Mirror, mirror}
use Rattle.refine_lattice.proofs.Seats.{one_word, stray, holds-all, Sits, sits, share-at, share-out, spans, spot_of, plain_word, word-of-set}

-- counts of at most one are equal where both or neither count
pub counts : {a b : ℕ} → (0 < a → 0 < b) → (0 < b → 0 < a) → a ≤ 1 → b ≤ 1 → a ≡ b
counts {a} {b} g g' p p' =
    elim (dec_lt 0 a) [
      | yes l ↦ omega (arith, g l)
      | no l ↦ elim (dec_lt 0 b) [ yes w ↦ omega (arith, g' w) | no w ↦ omega arith ]
    ]

pub meet-sym : (k l : List ℕ) (x y : ℕ) → Meet k x l y → Meet l y k x
unfolding Meet
meet-sym k l x y e v = sym (e v)

pub meet-trans : (k l m : List ℕ) (x y z : ℕ) → Meet k x l y → Meet l y m z → Meet k x m z
unfolding Meet
meet-trans k l m x y z e f v = e v ∙ f v

-- places of a facet that two words have
pub record Row (d : ℕ) (m : List ℕ) (z : ℕ) : Type 0 where
  pub long : length m ≡ suc d
  pub plain : (v : ℕ) → occurrences m v ≤ 1
  pub i : ℕ
  pub below : i < suc d
  pub at : get_or m i 0 ≡ z

pub row : (d : ℕ) (m : List ℕ) (z : ℕ) → length m ≡ suc d → ((v : ℕ) → occurrences m v ≤ 1) → 0 < occurrences m z → Row d m z
row d m z h p b = let (i, a, e) = place-of m z b in record { long = h; plain = p; i = i; below = omega arith; at = e }

pub apart-at : (m : List ℕ) → ((v : ℕ) → occurrences m v ≤ 1) → (x y : ℕ) → x < length m → y < length m → get_or m x 0 ≡ get_or m y 0 → x ≡ y
apart-at m p x y h b e =
    elim (dec_lt x y) [
      | yes l ↦ absurd (omega (arith, times-two m x y l b e, p (get_or m y 0)))
      | no l ↦
          elim (dec_lt y x) [ yes q ↦ absurd (omega (arith, times-two m y x q h (sym e), p (get_or m x 0))) | no q ↦ omega arith ]
    ]

pub across : (d : ℕ) (m m' : List ℕ) (z z' : ℕ) (r : Row d m z) (r' : Row d m' z') → Meet m z m' z'
    → (x : ℕ) → x < suc d → x ≢ r.i → (y : ℕ) × (y < suc d) × (y ≢ r'.i) × (get_or m x 0 ≡ get_or m' y 0)
unfolding Meet
across d m m' z z' r r' e x h n =
    let v : ℕ = get_or m x 0 in
    let b : x < length m = omega (arith, r.long) in
    let out : v ≢ z = λ q. n (apart-at m r.plain x r.i b (omega (arith, r.long, r.below)) (q ∙ sym r.at)) in
    let left : 0 < rest m' z' v = omega (arith, e v, times-at m x b, same-no v z out) in
    let (y, a, w) = place-of m' v (omega arith) in (
      y,
      omega (arith, r'.long),
      (λ q. omega (
        arith,
        same-yes v z' (sym w ∙ ap (λ (u : ℕ). get_or m' u 0) q ∙ r'.at),
        r'.plain v,
      )),
      sym w,
    )

-- where the facets meet and the vertices against them are one, the words have the same vertices
pub closes : (d : ℕ) (m m' : List ℕ) (z z' : ℕ) → Row d m z → Row d m' z' → Meet m z m' z' → z ≡ z' → (v : ℕ) → occurrences m v ≡ occurrences m' v
unfolding Meet
closes d m m' z z' r r' e q v =
    elim (ℕ_discrete v z) [
      | yes w ↦
          let a : 0 < occurrences m v = subst (λ (u : ℕ). 0 < occurrences m u) (r.at ∙ sym w) (times-at m r.i (omega (arith, r.long, r.below))) in
          let b : 0 < occurrences m' v =
          subst (λ (u : ℕ). 0 < occurrences m' u) (r'.at ∙ sym q ∙ sym w) (times-at m' r'.i (omega (arith, r'.long, r'.below))) in
          omega (arith, r.plain v, r'.plain v)
      | no w ↦ omega (arith, e v, same-no v z w, same-no v z' (λ y. w (y ∙ sym q)))
    ]

-- two children whose other corners lie opposite: no place weighs nothing on the facet
module _ (d R : ℕ) (base t base' t' : ℕ → ℕ) (c : Code d R base t) (c' : Code d R base' t') (i j u w : ℕ)
    (a : (l : ℕ) → l < d → (base l + step (t l) i) + (base' l + step (t' l) j) ≡ (base l + step (t l) u) + (base l + step (t l) w)) where
  abbrev lo : ℕ → ℕ → ℕ
  lo = low d R base t c

  abbrev lo' : ℕ → ℕ → ℕ
  lo' = low d R base' t' c'

  abbrev hi : ℕ → ℕ → ℕ
  hi = high d R base t c

  abbrev hi' : ℕ → ℕ → ℕ
  hi' = high d R base' t' c'

  low_sum : (l : ℕ) → lo l i + lo' l j ≡ lo l u + lo l w
  low_sum l =
      elim (dec_lt l d) [
        | yes q ↦
            omega (
              arith,
              a l q,
              low-in d R base t c l i q,
              low-in d R base t c l u q,
              low-in d R base t c l w q,
              low-in d R base' t' c' l j q,
            )
        | no q ↦
            omega (
              arith,
              low-out d R base t c l i (omega arith),
              low-out d R base t c l u (omega arith),
              low-out d R base t c l w (omega arith),
              low-out d R base' t' c' l j (omega arith),
            )
      ]

  high_sum : (l : ℕ) → hi l i + hi' l j ≡ hi l u + hi l w
  high_sum zero = refl
  high_sum (suc l) = low_sum l

  no-mirror : 0 < R → (l : ℕ) → l < suc d → Flat d R base t c l i → u < suc d → w < suc d → u ≢ i → w ≢ i → ⊥
  unfolding Flat
  no-mirror pos l g flat bu bw nu nw =
      omega (
        arith,
        tip d R base t c pos l i g flat,
        flat u bu nu,
        flat w bw nw,
        low_sum l,
        high_sum l,
        load_is d R base t c l i,
        load_is d R base t c l u,
        load_is d R base t c l w,
        load_is d R base' t' c' l j,
      )

module _ (d R n : ℕ) (K M : Words) (share : ℕ → ℕ → ℕ) (pos : 0 < R) (complex : Complex d n K) (refined : Refined d R K M share) where
  -- the cell that a word is in
  pub record Seat (m : List ℕ) : Type 0 where
    pub k : List ℕ
    pub in_K : K k
    pub in_M : M m
    pub sat : Sits d R share k m

  pub seat : (m : List ℕ) → M m → Seat m
  seat m h =
      let (k, c, in_K, child, names) = refined.each m h in
      record { k = k; in_K = in_K; in_M = h; sat = sits child names }

  pub plain-refined : (m : List ℕ) → M m → (v : ℕ) → occurrences m v ≤ 1
  plain-refined m h =
      let s = seat m h in
      plain_word d R share s.k (complex.long s.k s.in_K) (complex.plain s.k s.in_K) m s.sat

  pub long-refined : (m : List ℕ) → M m → length m ≡ suc d
  long-refined m h = (seat m h).sat.long

  pub row_of : (m : List ℕ) → M m → (z : ℕ) → 0 < occurrences m z → Row d m z
  row_of m h z b = row d m z (long-refined m h) (plain-refined m h) b

  -- words over the same vertices
  pub inside : (m m' : List ℕ) (s : Seat m) (s' : Seat m') → ((v : ℕ) → 0 < occurrences m v → 0 < occurrences m' v)
      → (v : ℕ) → 0 < occurrences s.k v → 0 < occurrences s'.k v
  inside m m' s s' e v h =
      let (i, b, w) = spans d R share s.k (complex.long s.k s.in_K) (complex.plain s.k s.in_K) m s.sat pos v h in
      let (y, a, q) = place-of m' (get_or m i 0) (e (get_or m i 0) (times-at m i (omega (arith, s.sat.long)))) in
      elim (dec_lt 0 (occurrences s'.k v)) [
        | yes l ↦ l
        | no l ↦
            absurd
            (omega (
              arith,
              share-out d R share s'.k (complex.long s'.k s'.in_K) (complex.plain s'.k s'.in_K) m' s'.sat y v
                  (omega (arith, s'.sat.long)) (omega arith),
              ap (λ (u : ℕ). share u v) q,
            ))
      ]

  pub distinct-refined : Distinct K → Distinct M
  unfolding Distinct
  distinct-refined f m m' h h' e =
      let s = seat m h in
      let s' = seat m' h' in
      let q : s.k ≡ s'.k =
      f s.k s'.k s.in_K s'.in_K (λ v.
      counts (inside m m' s s' (λ u b. omega (arith, e u)) v) (inside m' m s' s (λ u b. omega (arith, e u)) v)
      (complex.plain s.k s.in_K v) (complex.plain s'.k s'.in_K v)) in
      word-of-set d R share s.k (complex.long s.k s.in_K) (complex.plain s.k s.in_K) m m' s.sat
      (subst (λ (k : List ℕ). Sits d R share k m') (sym q) s'.sat) e

  -- `v` has no share on the facet of `m` against its corner i
  unfoldable pub Blank : List ℕ → ℕ → ℕ → Type 0
  Blank m i v = (x : ℕ) → x < suc d → x ≢ i → share (get_or m x 0) v ≡ 0

  -- words of one cell
  module _ (k : List ℕ) (in_K : K k) where
    long : length k ≡ suc d
    long = complex.long k in_K

    plain : (v : ℕ) → occurrences k v ≤ 1
    plain = complex.plain k in_K

    pub flat-of : (m : List ℕ) (s : Sits d R share k m) (i l : ℕ) → l < suc d → Blank m i (get_or k l 0)
        → Flat d R s.base s.time s.code l i
    unfolding Blank Flat
    flat-of m s i l h b x g n = sym (share-at d R share k long plain m s x l g h) ∙ b x g n

    -- at most one vertex has no share on a facet
    pub one-blank : (m : List ℕ) → Sits d R share k m → (i : ℕ) → i < suc d → (v u : ℕ) → 0 < occurrences k v → 0 < occurrences k u
        → Blank m i v → Blank m i u → v ≡ u
    one-blank m s i h v u a b f g =
        let (l, p, e) = place-of k v a in
        let (l', p', e') = place-of k u b in
        sym e
        ∙ ap (λ (y : ℕ). get_or k y 0)
        (one-flat d R s.base s.time s.code pos l l' i (omega (arith, long)) (omega (arith, long)) h
        (flat-of m s i l (omega (arith, long)) (subst (Blank m i) (sym e) f))
        (flat-of m s i l' (omega (arith, long)) (subst (Blank m i) (sym e') g)))
        ∙ e'

    pub facing : (m m' : List ℕ) (s : Sits d R share k m) (s' : Sits d R share k m') (z z' : ℕ) (r : Row d m z) (r' : Row d m' z')
        → Meet m z m' z' → Facing d s.base s.time r.i s'.base s'.time r'.i
    facing m m' s s' z z' r r' e = record {
      forth = λ x h q.
          let (y, b, w, a) = across d m m' z z' r r' e x h q in
          (y, b, w, spot_of d R share k long plain m m' s s' x y h b a);
      back = λ y h q.
          let (x, b, w, a) = across d m' m z' z r' r (meet-sym m m' z z' e) y h q in
          (x, b, w, spot_of d R share k long plain m m' s s' x y b h (sym a));
    }

    -- where the other corners are one point too, the words are one
    pub twin : (m m' : List ℕ) → M m → M m' → (s : Sits d R share k m) (s' : Sits d R share k m') (z z' : ℕ) (r : Row d m z) (r' : Row d m' z')
        → Meet m z m' z' → Spot d s.base s.time r.i s'.base s'.time r'.i → m ≡ m'
    unfolding Apart
    twin m m' h h' s s' z z' r r' e q =
        word-of-set d R share k long plain m m' s s'
        (closes d m m' z z' r r' e
        (sym r.at
        ∙ refined.one m m' h h' r.i r'.i r.below r'.below
        (λ v.
        s.names r.i r.below v
        ∙ ap (λ (p : List ℕ). weigh k (weights R p) v)
        (tab-ext d (λ j. s.base j + step (s.time j) r.i) (λ j. s'.base j + step (s'.time j) r'.i) q)
        ∙ sym (s'.names r'.i r'.below v))
        ∙ r'.at))

    -- of three words of one cell with one facet two are the same
    pub two-in-cell : 0 < d → (m m' m'' : List ℕ) → M m → M m' → M m''
        → Sits d R share k m → Sits d R share k m' → Sits d R share k m'' → (z z' z'' : ℕ) → Row d m z → Row d m' z' → Row d m'' z''
        → Meet m z m' z' → Meet m z m'' z'' → (m ≡ m') ⊎ ((m ≡ m'') ⊎ (m' ≡ m''))
    two-in-cell p m m' m'' h h' h'' s s' s'' z z' z'' r r' r'' e f =
        let mr : Mirror d s.base s.time r.i = mirror d s.base s.time s.code.perm p r.i r.below in
        ⊎_elim
        (λ a. inl (twin m m' h h' s s' z z' r r' e a))
        (λ a. inr (⊎_elim
        (λ b. inl (twin m m'' h h'' s s'' z z'' r r'' f b))
        (λ b. inr (twin m' m'' h' h'' s' s'' z' z'' r' r'' (meet-trans m' m m'' z' z z'' (meet-sym m m' z z' e) f)
        (λ l g. omega (arith, a l g, b l g))))
        (mr.sends s''.base s''.time r''.i s''.code.perm r''.below (facing m m'' s s'' z z'' r r'' f))))
        (mr.sends s'.base s'.time r'.i s'.code.perm r'.below (facing m m' s s' z z' r r' e))

    -- of two words with one facet that lies in a facet of the cell, each is the other
    pub one-at-edge : 0 < d → (m m' : List ℕ) → M m → M m' → Sits d R share k m → Sits d R share k m'
        → (z z' : ℕ) (r : Row d m z) → Row d m' z' → Meet m z m' z' → (v : ℕ) → 0 < occurrences k v → Blank m r.i v → m ≡ m'
    one-at-edge p m m' h h' s s' z z' r r' e v b blank =
        let mr : Mirror d s.base s.time r.i = mirror d s.base s.time s.code.perm p r.i r.below in
        ⊎_elim
        (λ a. twin m m' h h' s s' z z' r r' e a)
        (λ a.
        let (l, q, f) = place-of k v b in
        let g : l < suc d = omega (arith, long) in
        absurd
        (no-mirror d R s.base s.time s'.base s'.time s.code s'.code r.i r'.i mr.u mr.v a pos l g
        (flat-of m s r.i l g (subst (Blank m r.i) (sym f) blank))
        mr.u-below mr.v_below mr.u-kept mr.v-kept))
        (mr.sends s'.base s'.time r'.i s'.code.perm r'.below (facing m m' s s' z z' r r' e))

  -- a vertex that another cell lacks has no share on a facet that a word of that cell has too
  pub blank-across : (m m' : List ℕ) → Seat m → (s' : Seat m') → (z z' : ℕ) (r : Row d m z) → Row d m' z' → Meet m z m' z'
      → (v : ℕ) → occurrences s'.k v ≡ 0 → Blank m r.i v
  unfolding Blank
  blank-across m m' s s' z z' r r' e v h x b q =
      let (y, a, w, f) = across d m m' z z' r r' e x b q in
      ap (λ (u : ℕ). share u v) f
      ∙ share-out d R share s'.k (complex.long s'.k s'.in_K) (complex.plain s'.k s'.in_K) m' s'.sat y v a h

  -- two cells that are not one each have a vertex that the other lacks
  pub differ : Distinct K → (k l : List ℕ) → K k → K l → k ≢ l → (v : ℕ) × (0 < occurrences k v) × (occurrences l v ≡ 0)
  unfolding Distinct
  differ f k l h b q =
      stray k l (λ g.
      q (f k l h b
      (holds-all n k l (complex.below k h) (complex.below l b) (omega (arith, complex.long k h, complex.long l b))
      (λ v. elim (dec_lt 0 (occurrences k v)) [ yes a ↦ omega (arith, g v a, complex.plain k h v) | no a ↦ omega arith ]))))

  -- all other vertices of the cell are in the other cell
  pub shared : (m m' : List ℕ) (s : Seat m) (s' : Seat m') (z z' : ℕ) (r : Row d m z) → Row d m' z' → Meet m z m' z'
      → (v : ℕ) → 0 < occurrences s.k v → Blank m r.i v → (u : ℕ) → 0 < occurrences s.k u → u ≢ v → 0 < occurrences s'.k u
  shared m m' s s' z z' r r' e v h f u b q =
      elim (dec_lt 0 (occurrences s'.k u)) [
        | yes a ↦ a
        | no a ↦
            absurd
            (q (one-blank s.k s.in_K m s.sat r.i r.below u v b h
            (blank-across m m' s s' z z' r r' e u (omega arith)) f))
      ]

  pub cells_meet : (m m' : List ℕ) (s : Seat m) (s' : Seat m') (z z' : ℕ) (r : Row d m z) (r' : Row d m' z') → Meet m z m' z'
      → (v v' : ℕ) → 0 < occurrences s.k v → occurrences s'.k v ≡ 0 → 0 < occurrences s'.k v' → occurrences s.k v' ≡ 0
      → Meet s.k v s'.k v'
  unfolding Meet
  cells_meet m m' s s' z z' r r' e v v' h b h' b' u =
      elim (ℕ_discrete u v) [
        | yes q ↦ omega (arith, same-yes u v q, complex.plain s.k s.in_K u, ap (occurrences s'.k) q)
        | no q ↦
            elim (ℕ_discrete u v') [
              | yes w ↦ omega (arith, same-yes u v' w, complex.plain s'.k s'.in_K u, ap (occurrences s.k) w)
              | no w ↦
                  omega (
                    arith,
                    same-no u v q,
                    same-no u v' w,
                    counts
                        (λ a. shared m m' s s' z z' r r' e v h (blank-across m m' s s' z z' r r' e v b) u a q)
                        (λ a.
                        shared m' m s' s z' z r' r (λ y. sym (e y)) v' h' (blank-across m' m s' s z' z r' r (λ y. sym (e y)) v' b') u a w)
                        (complex.plain s.k s.in_K u)
                        (complex.plain s'.k s'.in_K u),
                  )
            ]
      ]

  -- two words of one cell and one of another
  edge_by : 0 < d → Distinct K → (m m' m'' : List ℕ) (s : Seat m) (s' : Seat m') (s'' : Seat m'') (z z' z'' : ℕ)
      → Row d m z → Row d m' z' → Row d m'' z'' → Meet m z m' z' → Meet m z m'' z'' → s.k ≡ s'.k → s.k ≢ s''.k → m ≡ m'
  edge_by p f m m' m'' s s' s'' z z' z'' r r' r'' e e' q q' =
      let (v, a, b) = differ f s.k s''.k s.in_K s''.in_K q' in
      one-at-edge s.k s.in_K p m m' s.in_M s'.in_M s.sat (subst (λ (k : List ℕ). Sits d R share k m') (sym q) s'.sat)
      z z' r r' e v a (blank-across m m'' s s'' z z'' r r'' e' v b)

  three-cells : 0 < d → Distinct K → Thin d K → (m m' m'' : List ℕ) (s : Seat m) (s' : Seat m') (s'' : Seat m'') (z z' z'' : ℕ)
      → Row d m z → Row d m' z' → Row d m'' z'' → Meet m z m' z' → Meet m z m'' z'' → s.k ≢ s'.k → s.k ≢ s''.k → s'.k ≢ s''.k → ⊥
  unfolding Thin
  three-cells p f g m m' m'' s s' s'' z z' z'' r r' r'' e e' q q' q'' =
      let (v, a, b) = differ f s.k s'.k s.in_K s'.in_K q in
      let (v', a', b') = differ f s'.k s.k s'.in_K s.in_K (λ w. q (sym w)) in
      let (u, x, y) = differ f s.k s''.k s.in_K s''.in_K q' in
      let (u'', x'', y'') = differ f s''.k s.k s''.in_K s.in_K (λ w. q' (sym w)) in
      let w : v ≡ u =
      one-blank s.k s.in_K m s.sat r.i r.below v u a x
      (blank-across m m' s s' z z' r r' e v b) (blank-across m m'' s s'' z z'' r r'' e' u y) in
      ⊎_elim q (λ t. ⊎_elim q' q'' t)
      (g p s.k s'.k s''.k s.in_K s'.in_K s''.in_K v v' u'' a a' x''
      (cells_meet m m' s s' z z' r r' e v v' a b a' b')
      (cells_meet m m'' s s'' z z'' r r'' e' v u'' a (ap (occurrences s''.k) w ∙ y) x'' y''))

  -- no facet lies in three words
  pub thin-refined : Distinct K → Thin d K → Thin d M
  unfolding Thin
  thin-refined f g p m m' m'' h h' h'' z z' z'' b b' b'' e e' =
      go (seat m h) (seat m' h') (seat m'' h'') (row_of m h z b) (row_of m' h' z' b') (row_of m'' h'' z'' b'')
    where
      go : Seat m → Seat m' → Seat m'' → Row d m z → Row d m' z' → Row d m'' z'' → (m ≡ m') ⊎ ((m ≡ m'') ⊎ (m' ≡ m''))
      go s s' s'' r r' r'' =
          elim (one_word s.k s'.k) [
            | yes q ↦
                elim (one_word s.k s''.k) [
                  | yes q' ↦
                      two-in-cell s.k s.in_K p m m' m'' h h' h'' s.sat
                      (subst (λ (k : List ℕ). Sits d R share k m') (sym q) s'.sat)
                      (subst (λ (k : List ℕ). Sits d R share k m'') (sym q') s''.sat)
                      z z' z'' r r' r'' e e'
                  | no q' ↦ inl (edge_by p f m m' m'' s s' s'' z z' z'' r r' r'' e e' q q')
                ]
            | no q ↦
                elim (one_word s.k s''.k) [
                  | yes q' ↦ inr (inl (edge_by p f m m'' m' s s'' s' z z'' z' r r'' r' e' e q' q))
                  | no q' ↦
                      elim (one_word s'.k s''.k) [
                        | yes q'' ↦
                            inr (inr (edge_by p f m' m'' m s' s'' s z' z'' z r' r'' r
                            (meet-trans m' m m'' z' z z'' (meet-sym m m' z z' e) e') (meet-sym m m' z z' e) q'' (λ w. q (sym w))))
                        | no q'' ↦ absurd (three-cells p f g m m' m'' s s' s'' z z' z'' r r' r'' e e' q q' q'')
                      ]
                ]
          ]
