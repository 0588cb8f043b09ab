-- The words of a refined complex list what they share in one sequence where the cells' words do. Assumes nothing.
use mathlib.Core.Path.{◌≡◌, refl, sym, ap, ◌∙◌, subst}
use mathlib.Core.Logic.{◌≢◌}
use mathlib.Core.List.{List, [], ◌∷◌}
use Prim.Native.Nat.{ℕ, zero, suc, ◌+◌, ◌*◌, ◌-◌, ◌≤◌, ◌<◌}
use native.Mathlib.Nat.{not-suc-le-zero, le_of_suc-le-suc, suc_inj}
use native.Mathlib.Decide.{ℕ_discrete, dec_lt}
use native.Mathlib.Omega.{arith}
use lib.ListN.{length, get_or}
use Rattle.refine_lattice.specs.Lattice.{Falls, dot, weights}
use Rattle.lists.specs.Words.{same}
use Rattle.refine_lattice.specs.Complex.{Words, occurrences, common, weigh, Complex, Refined, AgreeOnFaces, WordsAgreeOnFacets}
use Rattle.lists.proofs.Tables.{length-tab}
use Rattle.refine_lattice.proofs.Tab.{step, step-yes, step-no}
use Rattle.lists.proofs.Words.{same_self, same-yes, same-no}
use Rattle.lists.proofs.Sums.{sum-ext}
use Rattle.refine_lattice.proofs.Codes.{corner, falls-corner}
use Rattle.refine_lattice.proofs.Weights.{dot-const}
use Rattle.refine_lattice.proofs.Shares.{map_is}
use Rattle.refine_lattice.proofs.After.{after, after-here, after-there, after-le, after_both, keep-yes, keep-no, times-common, after-common, later, later_first, later-rest}
use Rattle.refine_lattice.proofs.Faces.{times-common-le, times-common-no, length-common}
use Rattle.refine_lattice.proofs.Enumerate.{times-at, place-of}
use Rattle.refine_lattice.proofs.Span.{low, high, low-in, low_up, load_is}
use Rattle.refine_lattice.proofs.Mirror.{spot-level}
use Rattle.refine_lattice.proofs.Seats.{share-at, share-out}
use Rattle.refine_lattice.proofs.Conform.{Seat, seat, plain-refined, Blank, one-blank}

no-share : (w a b : ℕ) → w ≡ 0 → w * a ≡ w * b
no-share w a b e = ap (λ (y : ℕ). y * a) e ∙ omega arith ∙ sym (ap (λ (y : ℕ). y * b) e)

-- words by what stands after what
after-absent : (k : List ℕ) (v u : ℕ) → occurrences k v ≡ 0 → after k v u ≡ 0
after-absent [] v u h = refl
after-absent (x ∷ k) v u h =
    let n : v ≢ x = λ e. omega (arith, same-yes v x e) in
    after-there x k v u n ∙ after-absent k v u (omega arith)

pub by_after : (k l : List ℕ) → ((v : ℕ) → occurrences k v ≤ 1) → ((v : ℕ) → occurrences k v ≡ occurrences l v) → ((v u : ℕ) → after k v u ≡ after l v u) → k ≡ l
by_after [] [] p e f = refl
by_after [] (y ∷ l) p e f = absurd (omega (arith, e y, same_self y))
by_after (x ∷ k) [] p e f = absurd (omega (arith, e x, same_self x))
by_after (x ∷ k) (y ∷ l) p e f =
    let q : x ≡ y =
    elim (ℕ_discrete x y) [
      | yes q ↦ q
      | no q ↦
          absurd
          (omega (
            arith,
            f x y,
            f y x,
            e x,
            e y,
            p x,
            p y,
            same_self x,
            same_self y,
            same-no x y q,
            same-no y x (λ w. q (sym w)),
            after-here x k x y refl,
            after-here y l y x refl,
            after_both (y ∷ l) (λ v. omega (arith, e v, p v)) x y q (omega (arith, e x, same_self x)) (omega (arith, same_self y)),
          ))
    ] in
    cc (
      q,
      by_after k l (λ v. omega (arith, p v)) (λ v. omega (arith, e v, ap (same v) q))
          (λ v u.
          elim (ℕ_discrete v x) [
            | yes w ↦
                after-absent k v u (omega (arith, p v, same-yes v x w))
                ∙ sym (after-absent l v u (omega (arith, e v, p v, same-yes v x w, same-yes v y (w ∙ q))))
            | no w ↦ sym (after-there x k v u w) ∙ f v u ∙ after-there y l v u (λ z. w (z ∙ sym q))
          ]),
    )

elsewhere : (x : ℕ) (k : List ℕ) → ((v : ℕ) → occurrences (x ∷ k) v ≤ 1) → (i : ℕ) → i < length k → get_or k i 0 ≢ x
elsewhere x k p i h e = omega (arith, p (get_or k i 0), times-at k i h, same-yes (get_or k i 0) x e)

pub after-at : (k : List ℕ) → ((v : ℕ) → occurrences k v ≤ 1) → (i j : ℕ) → i < length k → j < length k → after k (get_or k i 0) (get_or k j 0) ≡ step i j
after-at [] p i j h b = absurd (not-suc-le-zero h)
after-at (x ∷ k) p zero zero h b = after-here x k x x refl ∙ omega (arith, p x, same_self x)
after-at (x ∷ k) p zero (suc j) h b =
    after-here x k x (get_or k j 0) refl ∙ omega (arith, p (get_or k j 0), times-at k j (le_of_suc-le-suc b))
after-at (x ∷ k) p (suc i) zero h b =
    after-there x k (get_or k i 0) x (elsewhere x k p i (le_of_suc-le-suc h)) ∙ omega (arith, after-le k (get_or k i 0) x, p x, same_self x)
after-at (x ∷ k) p (suc i) (suc j) h b =
    after-there x k (get_or k i 0) (get_or k j 0) (elsewhere x k p i (le_of_suc-le-suc h))
    ∙ after-at k (λ v. omega (arith, p v)) i j (le_of_suc-le-suc h) (le_of_suc-le-suc b)

-- the vertices that two words share stand in one sequence where each two of them do
pub one-sequence : (k l : List ℕ) → ((v : ℕ) → occurrences k v ≤ 1) → ((v : ℕ) → occurrences l v ≤ 1)
    → ((v u : ℕ) → 0 < occurrences k v → 0 < occurrences l v → 0 < occurrences k u → 0 < occurrences l u → after k v u ≡ after l v u) → common k l ≡ common l k
one-sequence k l p p' f =
    by_after (common k l) (common l k) (λ v. omega (arith, times-common-le k l v, p v)) counts places
  where
    counts : (v : ℕ) → occurrences (common k l) v ≡ occurrences (common l k) v
    counts v =
        elim (dec_lt 0 (occurrences l v)) [
          | yes m ↦
              elim (dec_lt 0 (occurrences k v)) [
                | yes q ↦ omega (arith, times-common k l v m, times-common l k v q, p v, p' v)
                | no q ↦ omega (arith, times-common-le k l v, times-common-no l k v (omega arith))
              ]
          | no m ↦ omega (arith, times-common-no k l v (omega arith), times-common-le l k v)
        ]

    places : (v u : ℕ) → after (common k l) v u ≡ after (common l k) v u
    places v u =
        elim (dec_lt 0 (occurrences (common k l) v)) [
          | yes a ↦
              elim (dec_lt 0 (occurrences (common k l) u)) [
                | yes b ↦
                    let kv : 0 < occurrences k v = omega (arith, times-common-le k l v) in
                    let ku : 0 < occurrences k u = omega (arith, times-common-le k l u) in
                    let lv : 0 < occurrences l v = omega (arith, counts v, times-common-le l k v) in
                    let lu : 0 < occurrences l u = omega (arith, counts u, times-common-le l k u) in
                    after-common k l v u lv lu ∙ f v u kv lv ku lu ∙ sym (after-common l k v u kv ku)
                | no b ↦ omega (arith, after-le (common k l) v u, after-le (common l k) v u, counts u)
              ]
          | no a ↦ after-absent (common k l) v u (omega arith) ∙ sym (after-absent (common l k) v u (omega (arith, counts v)))
        ]

-- a point's coordinate is the weight of all that stands after the place
pub coordinate : (n R : ℕ) (s k : List ℕ) → length k ≡ suc (length s) → Falls R s → ((v : ℕ) → occurrences k v ≤ 1) → ((v : ℕ) → 0 < occurrences k v → v < n)
    → (l : ℕ) → l < length k → later n k (weigh k (weights R s)) (get_or k l 0) ≡ get_or s l 0
coordinate n R s [] h f p b l g = absurd (not-suc-le-zero g)
coordinate n R [] (x ∷ y ∷ k) h f p b l g = absurd (omega arith)
coordinate n R [] (x ∷ []) h f p b zero g = later_first n R x [] [] p b x refl
coordinate n R [] (x ∷ []) h f p b (suc l) g = absurd (not-suc-le-zero (le_of_suc-le-suc g))
coordinate n R (y ∷ s) (x ∷ k) h f p b zero g =
    later_first n (R - y) x k (weights y s) p b x refl
    ∙ ap (dot (weights y s)) (map_is (λ u. 1) k (suc (length s)) (suc_inj h))
    ∙ dot-const y s 1 f.1
    ∙ omega arith
coordinate n R (y ∷ s) (x ∷ k) h f p b (suc l) g =
    let v : ℕ = get_or k l 0 in
    let q : v ≢ x = λ e. omega (arith, p v, times-at k l (le_of_suc-le-suc g), same-yes v x e) in
    later-rest n (R - y) x k (weights y s) p b v q
    ∙ coordinate n y s k (suc_inj h) f.1 (λ u. omega (arith, p u)) (λ u a. b u (omega arith)) l (le_of_suc-le-suc g)

-- how many vertices two words share
pub all-shared : (k l : List ℕ) → ((v : ℕ) → 0 < occurrences k v → 0 < occurrences l v) → length (common k l) ≡ length k
all-shared [] l h = refl
all-shared (x ∷ k) l h =
    ap length (keep-yes (occurrences l x) x (common k l) (h x (omega (arith, same_self x)))) ∙ ap suc (all-shared k l (λ v a. h v (omega arith)))

pub all_but_one : (k l : List ℕ) → ((v : ℕ) → occurrences k v ≤ 1)
    → ((v u : ℕ) → 0 < occurrences k v → 0 < occurrences k u → occurrences l v ≡ 0 → occurrences l u ≡ 0 → v ≡ u) → length k ≤ suc (length (common k l))
all_but_one [] l p h = omega arith
all_but_one (x ∷ k) l p h =
    elim (dec_lt 0 (occurrences l x)) [
      | yes m ↦
          omega (
            arith,
            ap length (keep-yes (occurrences l x) x (common k l) m),
            all_but_one k l (λ v. omega (arith, p v)) (λ v u a b. h v u (omega arith) (omega arith)),
          )
      | no m ↦
          omega (
            arith,
            ap length (keep-no (occurrences l x) x (common k l) (omega arith)),
            all-shared k l (λ v a.
                elim (dec_lt 0 (occurrences l v)) [
                  | yes q ↦ q
                  | no q ↦
                      absurd (omega (arith, p x, same_self x, ap (occurrences k) (h v x (omega arith) (omega (arith, same_self x)) (omega arith) (omega arith))))
                ]),
          )
    ]

-- and where they are many: all but one place
shared-all : (k l : List ℕ) → length k ≤ length (common k l) → (x : ℕ) → x < length k → 0 < occurrences l (get_or k x 0)
shared-all [] l h x b = absurd (not-suc-le-zero b)
shared-all (y ∷ k) l h zero b =
    elim (dec_lt 0 (occurrences l y)) [
      | yes m ↦ m
      | no m ↦ absurd (omega (arith, ap length (keep-no (occurrences l y) y (common k l) (omega arith)), length-common k l))
    ]
shared-all (y ∷ k) l h (suc x) b =
    elim (dec_lt 0 (occurrences l y)) [
      | yes m ↦ shared-all k l (omega (arith, ap length (keep-yes (occurrences l y) y (common k l) m))) x (le_of_suc-le-suc b)
      | no m ↦ absurd (omega (arith, ap length (keep-no (occurrences l y) y (common k l) (omega arith)), length-common k l))
    ]

pub but-one : (k l : List ℕ) → length k ≤ suc (length (common k l))
    → (i : ℕ) × ((x : ℕ) → x < length k → x ≢ i → 0 < occurrences l (get_or k x 0))
but-one [] l h = (0, λ x b n. absurd (not-suc-le-zero b))
but-one (y ∷ k) l h =
    elim (dec_lt 0 (occurrences l y)) [
      | yes m ↦
          let (i, f) = but-one k l (omega (arith, ap length (keep-yes (occurrences l y) y (common k l) m))) in
          (suc i, λ x. go i f m x)
      | no m ↦
          (0, λ x. gone (omega (arith, ap length (keep-no (occurrences l y) y (common k l) (omega arith)))) x)
    ]
  where
    go : (i : ℕ) → ((x : ℕ) → x < length k → x ≢ i → 0 < occurrences l (get_or k x 0)) → 0 < occurrences l y
        → (x : ℕ) → x < length (y ∷ k) → x ≢ suc i → 0 < occurrences l (get_or (y ∷ k) x 0)
    go i f m zero b n = m
    go i f m (suc x) b n = f x (le_of_suc-le-suc b) (λ e. n (ap suc e))

    gone : length k ≤ length (common k l) → (x : ℕ) → x < length (y ∷ k) → x ≢ 0 → 0 < occurrences l (get_or (y ∷ k) x 0)
    gone h zero b n = absurd (n refl)
    gone h (suc x) b n = shared-all k l h x (le_of_suc-le-suc b)

module _ (d R n : ℕ) (K M : Words) (share : ℕ → ℕ → ℕ) (pos : 0 < R) (complex : Complex d n K) (refined : Refined d R K M share) where
  -- a word in its cell
  abbrev pub Home : List ℕ → Type 0
  Home = Seat d R n K M share pos complex refined

  -- the coordinate of a vertex of a word, by its shares and by what stands after the place in the cell's word
  pub seen : (m : List ℕ) (s : Home m) (i l : ℕ) → i < suc d → l < suc d
      → later n s.k (share (get_or m i 0)) (get_or s.k l 0) ≡ low d R s.sat.base s.sat.time s.sat.code l i
  seen m s i l h b =
      let k : List ℕ = s.k in
      let p : List ℕ = corner d s.sat.base s.sat.time i in
      sum-ext n (λ u. share (get_or m i 0) u * after k (get_or k l 0) u) (λ u. weigh k (weights R p) u * after k (get_or k l 0) u)
      (λ u g. ap (λ (y : ℕ). y * after k (get_or k l 0) u) (s.sat.names i h u))
      ∙ coordinate n R p k
      (complex.long k s.in_K ∙ sym (ap suc (length-tab d (λ j. s.sat.base j + step (s.sat.time j) i))))
      (falls-corner d R s.sat.base s.sat.time s.sat.code i)
      (complex.plain k s.in_K) (complex.below k s.in_K) l (omega (arith, complex.long k s.in_K))

  -- from corner to corner what stands after weighs more
  grows : (m : List ℕ) (s : Home m) (i j : ℕ) → i ≤ j → j < suc d → (v : ℕ) → 0 < occurrences s.k v
      → later n s.k (share (get_or m i 0)) v ≤ later n s.k (share (get_or m j 0)) v
  grows m s i j h b v g =
      let (l, a, e) = place-of s.k v g in
      let c : l < suc d = omega (arith, complex.long s.k s.in_K) in
      subst (λ (u : ℕ). later n s.k (share (get_or m i 0)) u ≤ later n s.k (share (get_or m j 0)) u) e
      (omega (
        arith,
        seen m s i l (omega arith) c,
        seen m s j l b c,
        low_up d R s.sat.base s.sat.time s.sat.code l i j h,
      ))

  pub home_out : (m : List ℕ) (s : Home m) (i v : ℕ) → i < suc d → occurrences s.k v ≡ 0 → share (get_or m i 0) v ≡ 0
  home_out m s i v h e =
      share-out d R share s.k (complex.long s.k s.in_K) (complex.plain s.k s.in_K) m s.sat i v h e

  -- two words and their cells, whose words agree
  module _ (m m' : List ℕ) (s : Home m) (s' : Home m') (agree : common s.k s'.k ≡ common s'.k s.k) where
    -- a vertex that both words have: what stands after a vertex that both cells have weighs the same in both
    pub level : (i i' : ℕ) → i < suc d → i' < suc d → get_or m i 0 ≡ get_or m' i' 0 → (v : ℕ) → 0 < occurrences s.k v → 0 < occurrences s'.k v
        → later n s.k (share (get_or m i 0)) v ≡ later n s'.k (share (get_or m i 0)) v
    level i i' h h' e v a b =
        sum-ext n (λ u. share (get_or m i 0) u * after s.k v u) (λ u. share (get_or m i 0) u * after s'.k v u) (λ u g. each u)
      where
        each : (u : ℕ) → share (get_or m i 0) u * after s.k v u ≡ share (get_or m i 0) u * after s'.k v u
        each u =
            elim (dec_lt 0 (occurrences s.k u)) [
              | yes p ↦
                  elim (dec_lt 0 (occurrences s'.k u)) [
                    | yes q ↦
                        ap (λ (y : ℕ). share (get_or m i 0) u * y)
                        (sym (after-common s.k s'.k v u b q)
                        ∙ ap (λ (c : List ℕ). after c v u) agree
                        ∙ after-common s'.k s.k v u a p)
                    | no q ↦
                        let z : share (get_or m i 0) u ≡ 0 = ap (λ (y : ℕ). share y u) e ∙ home_out m' s' i' u h' (omega arith) in
                        no-share (share (get_or m i 0) u) (after s.k v u) (after s'.k v u) z
                  ]
              | no p ↦
                  let z : share (get_or m i 0) u ≡ 0 = home_out m s i u h (omega arith) in
                  no-share (share (get_or m i 0) u) (after s.k v u) (after s'.k v u) z
            ]

    -- two vertices that both words have, in one sequence in the one and in the other in the opposite one
    module _ (i j i' j' : ℕ) (h : i < j) (b : j < suc d) (h' : j' ≤ i') (b' : i' < suc d)
        (e : get_or m i 0 ≡ get_or m' i' 0) (f : get_or m j 0 ≡ get_or m' j' 0) where
      flat : (v : ℕ) → 0 < occurrences s.k v → 0 < occurrences s'.k v
          → later n s.k (share (get_or m i 0)) v ≡ later n s.k (share (get_or m j 0)) v
      flat v a c =
          omega (
            arith,
            grows m s i j (omega arith) b v a,
            grows m' s' j' i' h' b' v c,
            level i i' (omega arith) b' e v a c,
            level j j' b (omega arith) f v a c,
            ap (λ (y : ℕ). later n s'.k (share y) v) e,
            ap (λ (y : ℕ). later n s'.k (share y) v) f,
          )

      abbrev lo : ℕ → ℕ → ℕ
      lo = low d R s.sat.base s.sat.time s.sat.code

      abbrev hi : ℕ → ℕ → ℕ
      hi = high d R s.sat.base s.sat.time s.sat.code

      down : (l : ℕ) → l < suc d → hi l i ≡ hi l j → lo l i ≡ lo l j
      down l g q =
          let v : ℕ = get_or s.k l 0 in
          let a : 0 < occurrences s.k v = times-at s.k l (omega (arith, complex.long s.k s.in_K)) in
          elim (dec_lt 0 (occurrences s'.k v)) [
            | yes w ↦ sym (seen m s i l (omega arith) g) ∙ flat v a w ∙ seen m s j l b g
            | no w ↦
                let zi : share (get_or m i 0) v ≡ 0 = ap (λ (y : ℕ). share y v) e ∙ home_out m' s' i' v b' (omega arith) in
                let zj : share (get_or m j 0) v ≡ 0 = ap (λ (y : ℕ). share y v) f ∙ home_out m' s' j' v (omega arith) (omega arith) in
                omega (
                  arith,
                  share-at d R share s.k (complex.long s.k s.in_K) (complex.plain s.k s.in_K) m s.sat i l (omega arith) g,
                  share-at d R share s.k (complex.long s.k s.in_K) (complex.plain s.k s.in_K) m s.sat j l b g,
                  load_is d R s.sat.base s.sat.time s.sat.code l i,
                  load_is d R s.sat.base s.sat.time s.sat.code l j,
                )
          ]

      even : (l : ℕ) → l < suc d → lo l i ≡ lo l j
      even zero g = down zero g refl
      even (suc l) g = down (suc l) g (even l (omega arith))

      never : ⊥
      never =
          omega (
            arith,
            spot-level s.sat.code.perm s.sat.code.perm s.sat.base s.sat.base i j (omega arith) (omega arith)
                (λ l g.
                sym (low-in d R s.sat.base s.sat.time s.sat.code l i g)
                ∙ even l (omega arith)
                ∙ low-in d R s.sat.base s.sat.time s.sat.code l j g),
          )

  keeps-order : (m m' : List ℕ) (s : Home m) (s' : Home m') → common s.k s'.k ≡ common s'.k s.k
      → (i j i' j' : ℕ) → i < suc d → j < suc d → i' < suc d → j' < suc d → get_or m i 0 ≡ get_or m' i' 0 → get_or m j 0 ≡ get_or m' j' 0
      → step i j ≡ step i' j'
  keeps-order m m' s s' g i j i' j' a b a' b' e f =
      elim (dec_lt i j) [
        | yes h ↦
            elim (dec_lt i' j') [
              | yes h' ↦ step-yes i j h ∙ sym (step-yes i' j' h')
              | no h' ↦ absurd (never m m' s s' g i j i' j' h b (omega arith) a' e f)
            ]
        | no h ↦
            elim (dec_lt i' j') [
              | yes h' ↦ absurd (never m' m s' s (sym g) i' j' i j h' b' (omega arith) a (sym e) (sym f))
              | no h' ↦ step-no i j (omega arith) ∙ sym (step-no i' j' (omega arith))
            ]
      ]

  -- where the cells' words agree, so do the words
  pub agree-refined : (m m' : List ℕ) (s : Home m) (s' : Home m') → common s.k s'.k ≡ common s'.k s.k → common m m' ≡ common m' m
  agree-refined m m' s s' g =
      let p = plain-refined d R n K M share pos complex refined m s.in_M in
      let p' = plain-refined d R n K M share pos complex refined m' s'.in_M in
      one-sequence m m' p p'
      (λ v u a a' b b'.
      let (i, h, e) = place-of m v a in
      let (i', h', e') = place-of m' v a' in
      let (j, c, f) = place-of m u b in
      let (j', c', f') = place-of m' u b' in
      sym (cc (e, f))
      ∙ after-at m p i j h c
      ∙ keeps-order m m' s s' g i j i' j'
      (omega (arith, s.sat.long)) (omega (arith, s.sat.long)) (omega (arith, s'.sat.long)) (omega (arith, s'.sat.long))
      (e ∙ sym e') (f ∙ sym f')
      ∙ sym (after-at m' p' i' j' h' c')
      ∙ cc (e', f'))

  -- so the words agree on all faces where the cells' words do
  pub faces-refined : AgreeOnFaces K → AgreeOnFaces M
  unfolding AgreeOnFaces
  faces-refined f m m' h h' =
      let s = seat d R n K M share pos complex refined m h in
      let s' = seat d R n K M share pos complex refined m' h' in
      agree-refined m m' s s' (f s.k s'.k s.in_K s'.in_K)

  -- two words that share a facet lie in cells that share one
  cells-share : (m m' : List ℕ) (s : Home m) (s' : Home m') → d ≤ length (common m m') → d ≤ length (common s.k s'.k)
  unfolding Blank
  cells-share m m' s s' h =
      let (i, f) = but-one m m' (omega (arith, s.sat.long)) in
      elim (dec_lt i (suc d)) [ yes g ↦ go i g f | no g ↦ go 0 (omega arith) (λ x b q. f x b (omega (arith, s.sat.long))) ]
    where
      go : (i : ℕ) → i < suc d → ((x : ℕ) → x < length m → x ≢ i → 0 < occurrences m' (get_or m x 0)) → d ≤ length (common s.k s'.k)
      go i g f =
          omega (
            arith,
            complex.long s.k s.in_K,
            all_but_one s.k s'.k (complex.plain s.k s.in_K)
                (λ v u a b e e'.
                one-blank d R n K M share pos complex refined s.k s.in_K m s.sat i g v u a b (blank v e) (blank u e')),
          )
        where
          blank : (v : ℕ) → occurrences s'.k v ≡ 0 → Blank d R n K M share pos complex refined m i v
          blank v e x b q =
              let (y, a, w) = place-of m' (get_or m x 0) (f x (omega (arith, s.sat.long)) q) in
              ap (λ (z : ℕ). share z v) (sym w) ∙ home_out m' s' y v (omega (arith, s'.sat.long)) e

  -- and on all facets where the cells' words do
  pub facets-refined : WordsAgreeOnFacets d K → WordsAgreeOnFacets d M
  unfolding WordsAgreeOnFacets
  facets-refined f m m' h h' b =
      let s = seat d R n K M share pos complex refined m h in
      let s' = seat d R n K M share pos complex refined m' h' in
      agree-refined m m' s s' (f s.k s'.k s.in_K s'.in_K (cells-share m m' s s' b))
