-- The lists of a refined complex: every vertex is used, no word is listed twice, and refinement takes the complex again. Assumes nothing.
use mathlib.Core.Path.{◌≡◌, refl, sym, ap, ◌∙◌, subst}
use mathlib.Core.Logic.{◌≢◌, ◌⊎◌, inl, inr, ⊎_elim}
use mathlib.Core.Bool.{Bool, true, false, ◌||◌}
use mathlib.Core.List.Memᴰ
use mathlib.Core.List.{List, [], ◌∷◌, ◌++◌, map, Memᴰ}
use Prim.Native.Nat.{ℕ, zero, suc, ◌+◌, ◌*◌, ◌-◌, ◌≤◌, ◌<◌, suc-le-suc}
use native.Mathlib.Nat.{not-suc-le-zero, le_of_suc-le-suc}
use native.Mathlib.Decide.{ℕ_discrete, dec_lt}
use native.Mathlib.Omega.{arith}
use lib.Dec.{T, eqb, eqb→eq, eqb_refl, ltb, lt→ltb}
use lib.ListN.{length, get_or}
use Rattle.refine_lattice.specs.Lattice.{weights, Child}
use Rattle.lists.specs.Words.{same, same_word}
use Rattle.refine_lattice.specs.Complex.{occurrences, weigh, Complex, Refined, AgreeOnFaces, WordsAgreeOnFacets}
use Rattle.refine_lattice.specs.Children.{gather, children, pick}
use Rattle.refine_lattice.specs.Refine.{point, visits, positives, first, place, births_from, births, number, words, vertices, share, In}
use Rattle.refine_lattice.specs.Conform.{Distinct, Used, Sound}
use Rattle.lists.proofs.Tables.{length-tab, get_or-tab, tab-ext}
use Rattle.refine_lattice.proofs.Tab.{step, step-yes, step-no}
use Rattle.lists.proofs.Words.{same_self, same-yes, same-no}
use Rattle.refine_lattice.proofs.Codes.{Code, corner, corners, to-child}
use Rattle.refine_lattice.proofs.Weights.{weights-at, length-weights, past}
use Rattle.refine_lattice.proofs.After.{weigh-absent}
use Rattle.refine_lattice.proofs.Enumerate.{of-gather, to-tab, child-of-mem, place-of, times-of-mem}
use Rattle.refine_lattice.proofs.Count.{Nodup, nodup_append, nodup-map, nodup-gather, nodup-children}
use Rattle.refine_lattice.proofs.Refines.{yes-pick, no-pick, dec-T, equal-eq, equal-refl, mem-at, place-lt, names, in_words, refined, words_long, words-below}
use Rattle.refine_lattice.proofs.Seats.{Sits, sits, sits-is, weigh-at, spot_of}
use Rattle.refine_lattice.proofs.Conform.{counts, apart-at, Seat, inside, plain-refined, distinct-refined, thin-refined}
use Rattle.refine_lattice.proofs.Inherit.{faces-refined, facets-refined}

-- births: none twice
grown : (b : Bool) (seen : List (List ℕ)) (x : List ℕ) → Nodup seen → (T b → ⊥) ⊎ T b → ((T b → ⊥) → Memᴰ x seen → ⊥)
    → Nodup (pick b seen (seen ++ (x ∷ [])))
grown true seen x h d n = h
grown false seen x h d n =
    nodup_append seen (x ∷ []) h (Memᴰ.not-nil, tt)
    (λ y p q. ⊎_elim (λ e. n (λ t. t) (Memᴰ.cast (sym e) p)) (λ r. Memᴰ.not-nil r) (Memᴰ.cases_cons q))

or_right : (a b : Bool) → T b → T (a || b)
or_right true b h = tt
or_right false b h = h

or_left : (a b : Bool) → T a → T (a || b)
or_left true b h = tt
or_left false b h = absurd h

nodup-births : (ls seen : List (List ℕ)) → Nodup seen → Nodup (births_from seen ls)
nodup-births [] seen h = h
nodup-births (x ∷ ls) seen h =
    let b : Bool = eqb (positives x) 1 || ltb (place seen x) (length seen) in
    nodup-births ls (pick b seen (seen ++ (x ∷ [])))
    (grown b seen x h (elim (dec-T b) [ yes t ↦ inr t | no t ↦ inl t ])
    (λ n q. n (or_right (eqb (positives x) 1) (ltb (place seen x) (length seen)) (lt→ltb (place seen x) (length seen) (place-lt seen x q)))))

-- and each of them visited, and no vertex
came : (b : Bool) (seen : List (List ℕ)) (x l : List ℕ) → Memᴰ l (pick b seen (seen ++ (x ∷ [])))
    → Memᴰ l seen ⊎ ((l ≡ x) × (T b → ⊥))
came true seen x l h = inl h
came false seen x l h =
    ⊎_elim inl (λ q. inr (⊎_elim (λ e. e) (λ r. absurd (Memᴰ.not-nil r)) (Memᴰ.cases_cons q), λ t. t)) (Memᴰ.append_cases seen h)

births-of : (ls seen : List (List ℕ)) (l : List ℕ) → Memᴰ l (births_from seen ls)
    → Memᴰ l seen ⊎ (Memᴰ l ls × (positives l ≢ 1))
births-of [] seen l h = inl h
births-of (x ∷ ls) seen l h =
    let b : Bool = eqb (positives x) 1 || ltb (place seen x) (length seen) in
    ⊎_elim
    (λ q. ⊎_elim inl
    (λ r. inr (
      Memᴰ.head r.0,
      λ e. r.1 (or_left (eqb (positives x) 1) (ltb (place seen x) (length seen))
          (subst (λ (y : ℕ). T (eqb y 1)) (sym (ap positives (sym r.0) ∙ e)) (eqb_refl 1))),
    ))
    (came b seen x l q))
    (λ q. inr (Memᴰ.tail q.0, q.1))
    (births-of ls (pick b seen (seen ++ (x ∷ []))) l h)

-- the place of an entry where none stands twice
nodup-place : (ms : List (List ℕ)) → Nodup ms → (p : ℕ) → p < length ms → place ms (get_or ms p []) ≡ p
nodup-place [] h p b = absurd (not-suc-le-zero b)
nodup-place (x ∷ ms) h zero b = yes-pick (same_word x x) 0 (suc (place ms x)) (equal-refl x)
nodup-place (x ∷ ms) h (suc p) b =
    let l : List ℕ = get_or ms p [] in
    no-pick (same_word x l) 0 (suc (place ms l)) (λ t. h.0 (Memᴰ.cast (equal-eq x l t) (mem-at ms p (le_of_suc-le-suc b))))
    ∙ ap suc (nodup-place ms h.1 p (le_of_suc-le-suc b))

-- a list with one positive entry
no-positive : (l : List ℕ) → ((u : ℕ) → u < length l → get_or l u 0 ≡ 0) → positives l ≡ 0
no-positive [] h = refl
no-positive (zero ∷ l) h = no-positive l (λ u b. h (suc u) (suc-le-suc b))
no-positive (suc w ∷ l) h = absurd (omega (arith, h 0 (omega arith)))

single : (l : List ℕ) (R v : ℕ) → 0 < R → v < length l → ((u : ℕ) → u < length l → get_or l u 0 ≡ R * same u v) → (positives l ≡ 1) × (first l ≡ v)
single [] R v r b h = absurd (not-suc-le-zero b)
single (zero ∷ l) R zero r b h = absurd (omega (arith, h 0 (omega arith)))
single (zero ∷ l) R (suc v) r b h =
    let (p, q) = single l R v r (le_of_suc-le-suc b) (λ u g. h (suc u) (suc-le-suc g)) in
    (p, ap suc q)
single (suc w ∷ l) R zero r b h = (
  ap suc (no-positive l (λ u g. h (suc u) (suc-le-suc g) ∙ omega arith)),
  refl,
)
single (suc w ∷ l) R (suc v) r b h = absurd (omega (arith, h 0 (omega arith)))

-- the child at a vertex of the cell: its corner l is the vertex at place l
module _ (d R l : ℕ) (r : 0 < R) where
  abbrev near : ℕ → ℕ
  near j = (R - 1) * step j l

  near-yes : (j : ℕ) → j < l → near j ≡ R - 1
  near-yes j h = ap (λ (y : ℕ). (R - 1) * y) (step-yes j l h) ∙ omega arith

  near-no : (j : ℕ) → l ≤ j → near j ≡ 0
  near-no j h = ap (λ (y : ℕ). (R - 1) * y) (step-no j l h) ∙ omega arith

  code-near : Code d R near (λ j. j)
  code-near = record {
    perm = record { below = λ j h. h; apart = λ i j h b e. omega arith };
    top = λ j h. elim (dec_lt j l) [ yes q ↦ omega (arith, near-yes j q) | no q ↦ omega (arith, near-no j (omega arith)) ];
    falls = λ i j h b.
        elim (dec_lt j l) [
          | yes q ↦ omega (arith, near-yes j q, near-yes i (omega arith))
          | no q ↦ omega (arith, near-no j (omega arith))
        ];
    ties = λ i j h b e. h;
  }

  abbrev tipped : List ℕ
  tipped = corner d near (λ j. j) l

  low-yes : (q : ℕ) → l ≤ d → q < l → get_or tipped q 0 ≡ R
  low-yes q b h = get_or-tab d (λ j. near j + step j l) q 0 (omega arith) ∙ omega (arith, near-yes q h, step-yes q l h)

  low-no : (q : ℕ) → l ≤ q → get_or tipped q 0 ≡ 0
  low-no q h =
      elim (dec_lt q d) [
        | yes b ↦ get_or-tab d (λ j. near j + step j l) q 0 b ∙ omega (arith, near-no q h, step-no q l h)
        | no b ↦ past d (λ j. near j + step j l) q (omega arith)
      ]

  high-yes : (q : ℕ) → l ≤ d → q ≤ l → get_or (R ∷ tipped) q 0 ≡ R
  high-yes zero b h = refl
  high-yes (suc q) b h = low-yes q b h

  high-no : (q : ℕ) → l < q → get_or (R ∷ tipped) q 0 ≡ 0
  high-no zero h = absurd (not-suc-le-zero h)
  high-no (suc q) h = low-no q (le_of_suc-le-suc h)

  all_there : (q : ℕ) → l ≤ d → get_or (weights R tipped) q 0 ≡ R * same q l
  all_there q b =
      elim (ℕ_discrete q l) [
        | yes e ↦
            omega (
              arith,
              weights-at R tipped q,
              high-yes q b (omega arith),
              low-no q (omega arith),
              ap (λ (y : ℕ). R * y) (same-yes q l e),
            )
        | no e ↦
            elim (dec_lt q l) [
              | yes h ↦
                  omega (
                    arith,
                    weights-at R tipped q,
                    high-yes q b (omega arith),
                    low-yes q b h,
                    ap (λ (y : ℕ). R * y) (same-no q l e),
                  )
              | no h ↦
                  omega (
                    arith,
                    weights-at R tipped q,
                    high-no q (omega arith),
                    ap (λ (y : ℕ). R * y) (same-no q l e),
                  )
            ]
      ]

  weigh-there : (k : List ℕ) → length k ≡ suc d → ((v : ℕ) → occurrences k v ≤ 1) → l < suc d → (u : ℕ)
      → weigh k (weights R tipped) u ≡ R * same u (get_or k l 0)
  weigh-there k h p b u =
      elim (dec_lt 0 (occurrences k u)) [
        | yes a ↦
            let (q, g, e) = place-of k u a in
            subst (λ (w : ℕ). weigh k (weights R tipped) w ≡ R * same w (get_or k l 0)) e
            (weigh-at k (weights R tipped) p q g
            (omega (arith, length-weights R tipped, length-tab d (λ j. near j + step j l)))
            ∙ all_there q (omega arith)
            ∙ ap (λ (y : ℕ). R * y)
            (elim (ℕ_discrete q l) [
              | yes f ↦ same-yes q l f ∙ sym (same-yes (get_or k q 0) (get_or k l 0) (ap (λ (y : ℕ). get_or k y 0) f))
              | no f ↦
                  same-no q l f
                  ∙ sym (same-no (get_or k q 0) (get_or k l 0) (λ w. f (apart-at k p q l g (omega arith) w)))
            ]))
        | no a ↦
            weigh-absent k (weights R tipped) u (omega arith)
            ∙ sym (ap (λ (y : ℕ). R * y) (same-no u (get_or k l 0) (λ e. a (subst (λ (w : ℕ). 0 < occurrences k w) (sym e) (there k l (omega arith)))))
            ∙ omega arith)
      ]
    where
      there : (k : List ℕ) (l : ℕ) → l < length k → 0 < occurrences k (get_or k l 0)
      there [] l b = absurd (not-suc-le-zero b)
      there (x ∷ k) zero b = omega (arith, same_self x)
      there (x ∷ k) (suc l) b = omega (arith, there k l (le_of_suc-le-suc b))

-- a complex given by its words, refined
module _ (d R n : ℕ) (ks : List (List ℕ)) (pos : 0 < R) (complex : Complex d n (In ks)) where
  abbrev bs : List (List ℕ)
  bs = births d R n ks

  abbrev names_of : (k : List ℕ) (c : List (List ℕ)) → List ℕ
  names_of k c = map (λ s. number n bs (point R n k s)) c

  -- a point of a child of one of the words is in one of the words
  pub holds : (k : List ℕ) (c : List (List ℕ)) (s : List ℕ) → Memᴰ k ks → Child d R c → Memᴰ s c
      → (w : List ℕ) × Memᴰ w (words d R n ks) × (0 < occurrences w (number n bs (point R n k s)))
  holds k c s h child b = (
    names_of k c,
    in_words d R n ks complex.long complex.below k c h child,
    times-of-mem (names_of k c) (number n bs (point R n k s)) (Memᴰ.map (λ s. number n bs (point R n k s)) b),
  )

  -- a vertex of the complex keeps its number
  old : (k : List ℕ) (v : ℕ) → Memᴰ k ks → 0 < occurrences k v
      → (w : List ℕ) × Memᴰ w (words d R n ks) × (0 < occurrences w v)
  old k v h b =
      let (l, g, e) = place-of k v b in
      let g' : l < suc d = omega (arith, complex.long k h) in
      let s : List ℕ = tipped d R l pos in
      let (w, i, t) = holds k (corners d (near d R l pos) (λ j. j)) s h (to-child (code-near d R l pos)) (to-tab (suc d) (corner d (near d R l pos) (λ j. j)) l g') in
      let a : v < n = complex.below k h v b in
      let (p, q) =
      single (point R n k s) R v pos (omega (arith, length-tab n (weigh k (weights R s))))
      (λ u f.
      get_or-tab n (weigh k (weights R s)) u 0 (omega (arith, length-tab n (weigh k (weights R s))))
      ∙ weigh-there d R l pos k (complex.long k h) (complex.plain k h) g' u
      ∙ ap (λ (y : ℕ). R * same u y) e) in (
        w,
        i,
        subst (λ (y : ℕ). 0 < occurrences w y)
            (yes-pick (eqb (positives (point R n k s)) 1) (first (point R n k s)) (n + place bs (point R n k s))
            (subst (λ (y : ℕ). T (eqb y 1)) (sym p) (eqb_refl 1))
            ∙ q) t,
      )

  -- and a birth has the number of its place
  new : (p : ℕ) → p < length bs → (w : List ℕ) × Memᴰ w (words d R n ks) × (0 < occurrences w (n + p))
  new p b =
      let l : List ℕ = get_or bs p [] in
      let (in-visits, not-one) = ⊎_elim (λ q. absurd (Memᴰ.not-nil q)) (λ q. q) (births-of (visits d R n ks) [] l (mem-at bs p b)) in
      let (k, i, j) = of-gather (λ k. gather (λ c. map (point R n k) c) (children d R)) ks in-visits in
      let (c, f, g) = of-gather (λ c. map (point R n k) c) (children d R) j in
      let (s, h, e) = Memᴰ.of_map (point R n k) c g in
      let (w, a, t) = holds k c s i (child-of-mem d R c f) h in (
        w,
        a,
        subst (λ (y : ℕ). 0 < occurrences w y)
            (ap (number n bs) e
            ∙ no-pick (eqb (positives l) 1) (first l) (n + place bs l) (λ t. not-one (eqb→eq (positives l) 1 t))
            ∙ ap (λ (y : ℕ). n + y) (nodup-place bs (nodup-births (visits d R n ks) [] tt) p b)) t,
      )

  -- each vertex of the refined complex is used
  pub used-words : Used n (In ks) → Used (vertices d R n ks) (In (words d R n ks))
  unfolding Used
  used-words f v h =
      elim (dec_lt v n) [
        | yes b ↦ let (k, i, t) = f v b in old k v i t
        | no b ↦
            let e : n + (v - n) ≡ v = omega arith in
            let (w, i, t) = new (v - n) (omega arith) in
            (w, i, subst (λ (y : ℕ). 0 < occurrences w y) e t)
      ]

  abbrev is-refined : Refined d R (In ks) (In (words d R n ks)) (share d R n ks)
  is-refined = refined d R n ks complex.long complex.below

  pub complex-words : Complex d (vertices d R n ks) (In (words d R n ks))
  complex-words = record {
    long = words_long d R n ks complex.long complex.below;
    plain = plain-refined d R n (In ks) (In (words d R n ks)) (share d R n ks) pos complex is-refined;
    below = words-below d R n ks complex.long complex.below;
  }

  -- no word is listed twice
  sits-in : (k : List ℕ) (c : List (List ℕ)) → Memᴰ k ks → Child d R c → Sits d R (share d R n ks) k (names_of k c)
  sits-in k c h child = sits child (names d R n ks complex.long complex.below k c h child)

  one_child : (k : List ℕ) → Memᴰ k ks → (c c' : List (List ℕ)) → Child d R c → Child d R c' → names_of k c ≡ names_of k c' → c ≡ c'
  unfolding sits-in
  one_child k i c c' a b e =
      let s = sits-in k c i a in
      let s' = sits-in k c' i b in
      sits-is a (names d R n ks complex.long complex.below k c i a)
      ∙ tab-ext (suc d) (corner d s.base s.time) (corner d s'.base s'.time)
      (λ x h.
      tab-ext d (λ j. s.base j + step (s.time j) x) (λ j. s'.base j + step (s'.time j) x)
      (spot_of d R (share d R n ks) k (complex.long k i) (complex.plain k i) (names_of k c) (names_of k c') s s' x x h h
      (ap (λ (w : List ℕ). get_or w x 0) e)))
      ∙ sym (sits-is b (names d R n ks complex.long complex.below k c' i b))

  seat-in : (k : List ℕ) (c : List (List ℕ)) → Memᴰ k ks → Child d R c
      → Seat d R n (In ks) (In (words d R n ks)) (share d R n ks) pos complex is-refined (names_of k c)
  seat-in k c i a = record {
    k = k;
    in_K = i;
    in_M = in_words d R n ks complex.long complex.below k c i a;
    sat = sits-in k c i a;
  }

  in_cell : (k k' : List ℕ) (i : Memᴰ k ks) (i' : Memᴰ k' ks) (c c' : List (List ℕ)) → Child d R c → Child d R c'
      → names_of k c ≡ names_of k' c' → (v : ℕ) → 0 < occurrences k v → 0 < occurrences k' v
  unfolding seat-in
  in_cell k k' i i' c c' a b e v h =
      inside d R n (In ks) (In (words d R n ks)) (share d R n ks) pos complex is-refined (names_of k c) (names_of k' c')
      (seat-in k c i a) (seat-in k' c' i' b) (λ u g. subst (λ (w : List ℕ). 0 < occurrences w u) e g) v h

  pub nodup-words : Nodup ks → Distinct (In ks) → Nodup (words d R n ks)
  unfolding Distinct
  nodup-words h f =
      nodup-gather (λ k. map (names_of k) (children d R)) ks h
      (λ k i. nodup-map (names_of k) (children d R) (nodup-children d R) (λ c c' a b e. one_child k i c c' (child-of-mem d R c a) (child-of-mem d R c' b) e))
      (λ k k' z i i' a b.
      let (c, p, e) = Memᴰ.of_map (names_of k) (children d R) a in
      let (c', p', e') = Memᴰ.of_map (names_of k') (children d R) b in
      f k k' i i' (λ v.
      counts
      (in_cell k k' i i' c c' (child-of-mem d R c p) (child-of-mem d R c' p') (e ∙ sym e') v)
      (in_cell k' k i' i c' c (child-of-mem d R c' p') (child-of-mem d R c p) (e' ∙ sym e) v)
      (complex.plain k i v) (complex.plain k' i' v)))

-- THE REFINED COMPLEX IS TAKEN AGAIN: refinement of a complex that it takes gives one that it takes
module _ (d R n : ℕ) (ks : List (List ℕ)) (pos : 0 < R) (sound : Sound d n (In ks)) where
  abbrev made : Refined d R (In ks) (In (words d R n ks)) (share d R n ks)
  made = refined d R n ks sound.complex.long sound.complex.below

  pub sound-words : Sound d (vertices d R n ks) (In (words d R n ks))
  sound-words = record {
    complex = complex-words d R n ks pos sound.complex;
    used = used-words d R n ks pos sound.complex sound.used;
    distinct = distinct-refined d R n (In ks) (In (words d R n ks)) (share d R n ks) pos sound.complex made sound.distinct;
    thin = thin-refined d R n (In ks) (In (words d R n ks)) (share d R n ks) pos sound.complex made sound.distinct sound.thin;
  }

  -- with words that agree on facets, or on all faces, again
  pub facets-words : WordsAgreeOnFacets d (In ks) → WordsAgreeOnFacets d (In (words d R n ks))
  facets-words = facets-refined d R n (In ks) (In (words d R n ks)) (share d R n ks) pos sound.complex made

  pub faces-words : AgreeOnFaces (In ks) → AgreeOnFaces (In (words d R n ks))
  faces-words = faces-refined d R n (In ks) (In (words d R n ks)) (share d R n ks) pos sound.complex made
