-- The lists of a refined complex are a refinement, and so refining twice is refining once. Assumes nothing.
use mathlib.Core.Path.{◌≡◌, refl, sym, ap, ◌∙◌, subst}
use mathlib.Core.Logic.{◌≢◌, ◌⊎◌, ⊎_elim}
use mathlib.Core.Bool.{Bool, true, false, ◌||◌}
use mathlib.Core.List.Memᴰ
use mathlib.Core.List.{List, [], ◌∷◌, ◌++◌, map, Memᴰ}
use Prim.Native.Nat.{ℕ, zero, suc, ◌+◌, ◌*◌, ◌-◌, ◌≤◌, ◌<◌, suc-le-suc}
use native.Mathlib.Nat.{not-suc-le-zero, le_of_suc-le-suc, suc_inj}
use native.Mathlib.Decide.{dec_lt}
use native.Mathlib.Omega.{arith}
use lib.Dec.{T, eqb, eqb→eq, eqb_refl, ltb, ltb→lt, lt→ltb}
use lib.ListN.{length, get_or, length-map}
use lib.Seq.{ext_get_or}
use Rattle.lists.proofs.Laws.{map_at}
use Rattle.lists.specs.Tables.{sum}
use Rattle.refine_lattice.specs.Lattice.{weights, Child}
use Rattle.lists.specs.Words.{same, same_word}
use Rattle.refine_lattice.specs.Complex.{occurrences, weigh, Names, Complex, Apart, Refined, Agree, AgreeOnFaces, WordsAgreeOnFacets, Rises}
use Rattle.refine_lattice.specs.Children.{gather, children, pick}
use Rattle.refine_lattice.specs.Refine.{point, visits, positives, first, place, births_from, births, number, words, vertices, share, In, WordsCompose}
use Rattle.lists.proofs.Tables.{length-tab, get_or-tab}
use Rattle.refine_lattice.proofs.Tab.{step}
use Rattle.refine_lattice.proofs.Codes.{corner, of-child}
use Rattle.refine_lattice.proofs.Weights.{past}
use Rattle.refine_lattice.proofs.After.{weigh-absent, total-weight}
use Rattle.refine_lattice.proofs.Faces.{facets-do, faces-do, edges-do, rising}
use Rattle.refine_lattice.proofs.Tower.{alike}
use Rattle.lists.proofs.Sums.{sum-ext, sum-zero, sum-front}
use Rattle.refine_lattice.proofs.Enumerate.{to-gather, of-gather, child-of-mem, mem-of-child, place-of, both, and}

-- tests
pub yes-pick : {A : Type 0} (b : Bool) (x y : A) → T b → pick b x y ≡ x
yes-pick true x y h = refl
yes-pick false x y h = absurd h

pub no-pick : {A : Type 0} (b : Bool) (x y : A) → (T b → ⊥) → pick b x y ≡ y
no-pick true x y h = absurd (h tt)
no-pick false x y h = refl

pub dec-T : (b : Bool) → Dec (T b)
dec-T true = yes tt
dec-T false = no (λ h. h)

pub equal-eq : (l m : List ℕ) → T (same_word l m) → l ≡ m
equal-eq [] [] h = refl
equal-eq [] (y ∷ m) h = absurd h
equal-eq (x ∷ l) [] h = absurd h
equal-eq (x ∷ l) (y ∷ m) h = cc (eqb→eq x y (both (eqb x y) (same_word l m) h).0, equal-eq l m (both (eqb x y) (same_word l m) h).1)

pub equal-refl : (l : List ℕ) → T (same_word l l)
equal-refl [] = tt
equal-refl (x ∷ l) = and (eqb x x) (same_word l l) (eqb_refl x) (equal-refl l)

-- the place of an entry
pub place-lt : (ms : List (List ℕ)) (l : List ℕ) → Memᴰ l ms → place ms l < length ms
place-lt [] l m = absurd (Memᴰ.not-nil m)
place-lt (x ∷ ms) l m =
    elim (dec-T (same_word x l)) [
      | yes t ↦ omega (arith, yes-pick (same_word x l) 0 (suc (place ms l)) t)
      | no t ↦
          omega (
            arith,
            no-pick (same_word x l) 0 (suc (place ms l)) t,
            place-lt ms l
                (⊎_elim (λ e. absurd (t (subst (λ (y : List ℕ). T (same_word x y)) (sym e) (equal-refl x)))) (λ r. r) (Memᴰ.cases_cons m)),
          )
    ]

place_at_lem : (ms : List (List ℕ)) (l : List ℕ) → place ms l < length ms → get_or ms (place ms l) [] ≡ l
place_at_lem [] l h = absurd (not-suc-le-zero h)
place_at_lem (x ∷ ms) l h =
    elim (dec-T (same_word x l)) [
      | yes t ↦ ap (λ (i : ℕ). get_or (x ∷ ms) i []) (yes-pick (same_word x l) 0 (suc (place ms l)) t) ∙ equal-eq x l t
      | no t ↦
          ap (λ (i : ℕ). get_or (x ∷ ms) i []) (no-pick (same_word x l) 0 (suc (place ms l)) t)
          ∙ place_at_lem ms l (omega (arith, no-pick (same_word x l) 0 (suc (place ms l)) t))
    ]

pub mem-at : (ms : List (List ℕ)) (i : ℕ) → i < length ms → Memᴰ (get_or ms i []) ms
mem-at [] i h = absurd (not-suc-le-zero h)
mem-at (x ∷ ms) zero h = Memᴰ.head refl
mem-at (x ∷ ms) (suc i) h = Memᴰ.tail (mem-at ms i (le_of_suc-le-suc h))

mem-of-place : (ms : List (List ℕ)) (l : List ℕ) → place ms l < length ms → Memᴰ l ms
mem-of-place ms l h = Memᴰ.cast (sym (place_at_lem ms l h)) (mem-at ms (place ms l) h)

-- what is visited is born, unless it is a vertex
stays : (b : Bool) (seen more : List (List ℕ)) (l : List ℕ) → Memᴰ l seen → Memᴰ l (pick b seen (seen ++ more))
stays true seen more l m = m
stays false seen more l m = Memᴰ.append_left more m

keeps : (ls seen : List (List ℕ)) (l : List ℕ) → Memᴰ l seen → Memᴰ l (births_from seen ls)
keeps [] seen l m = m
keeps (x ∷ ls) seen l m =
    let b : Bool = eqb (positives x) 1 || ltb (place seen x) (length seen) in
    keeps ls (pick b seen (seen ++ (x ∷ []))) l (stays b seen (x ∷ []) l m)

enters : (p q : Bool) (seen : List (List ℕ)) (x : List ℕ) → (T p → ⊥) → (T q → Memᴰ x seen) → Memᴰ x (pick (p || q) seen (seen ++ (x ∷ [])))
enters true q seen x h f = absurd (h tt)
enters false true seen x h f = f tt
enters false false seen x h f = Memᴰ.append_right seen (Memᴰ.head refl)

born : (ls seen : List (List ℕ)) (l : List ℕ) → Memᴰ l ls → positives l ≢ 1 → Memᴰ l (births_from seen ls)
born [] seen l m n = absurd (Memᴰ.not-nil m)
born (x ∷ ls) seen l m n =
    let b : Bool = eqb (positives x) 1 || ltb (place seen x) (length seen) in
    ⊎_elim
    (λ e.
    keeps ls (pick b seen (seen ++ (x ∷ []))) l
    (Memᴰ.cast e
    (enters (eqb (positives x) 1) (ltb (place seen x) (length seen)) seen x
    (λ t. n (ap positives e ∙ eqb→eq (positives x) 1 t))
    (λ t. mem-of-place seen x (ltb→lt (place seen x) (length seen) t)))))
    (λ r. born ls (pick b seen (seen ++ (x ∷ []))) l r n)
    (Memᴰ.cases_cons m)

-- one positive share is the whole
none : (l : List ℕ) → positives l ≡ 0 → (v : ℕ) → get_or l v 0 ≡ 0
none [] h v = refl
none (zero ∷ l) h zero = refl
none (zero ∷ l) h (suc v) = none l h v
none (suc w ∷ l) h v = absurd (omega arith)

sole : (l : List ℕ) (R : ℕ) → positives l ≡ 1 → sum (length l) (λ i. get_or l i 0) ≡ R → (v : ℕ) → R * same (first l) v ≡ get_or l v 0
sole [] R h e v = absurd (omega arith)
sole (zero ∷ l) R h e zero = omega arith
sole (zero ∷ l) R h e (suc v) = sole l R h (omega (arith, sum-front (length l) (λ i. get_or (zero ∷ l) i 0))) v
sole (suc w ∷ l) R h e v = go v
  where
    z : sum (length l) (λ i. get_or l i 0) ≡ 0
    z = sum-ext (length l) (λ i. get_or l i 0) (λ i. 0) (λ i m. none l (suc_inj h) i) ∙ sum-zero (length l)

    go : (v : ℕ) → R * same 0 v ≡ get_or (suc w ∷ l) v 0
    go zero = omega (arith, z, sum-front (length l) (λ i. get_or (suc w ∷ l) i 0))
    go (suc v) = omega (arith, none l (suc_inj h) v)

first-lt : (l : List ℕ) → positives l ≡ 1 → first l < length l
first-lt [] h = absurd (omega arith)
first-lt (zero ∷ l) h = suc-le-suc (first-lt l h)
first-lt (suc w ∷ l) h = omega arith

child-long : {d R : ℕ} {c : List (List ℕ)} → Child d R c → length c ≡ suc d
child-long {d} h = let (base, t, code, e) = of-child h in ap length e ∙ length-tab (suc d) (corner d base t)

child-point : {d R : ℕ} {c : List (List ℕ)} → Child d R c → (i : ℕ) → i < suc d → length (get_or c i []) ≡ d
child-point {d} h i l =
    let (base, t, code, e) = of-child h in
    ap (λ (w : List (List ℕ)). length (get_or w i [])) e
    ∙ ap length (get_or-tab (suc d) (corner d base t) i [] l)
    ∙ length-tab d (λ j. base j + step (t j) i)

-- words of d + 1 vertices below n, refined by R
module _ (d R n : ℕ) (ks : List (List ℕ)) (long : (k : List ℕ) → Memᴰ k ks → length k ≡ suc d)
    (below : (k : List ℕ) → Memᴰ k ks → (v : ℕ) → 0 < occurrences k v → v < n) where
  abbrev pub bs : List (List ℕ)
  bs = births d R n ks

  -- a list of shares that is visited
  record Visited (l : List ℕ) : Type 0 where
    size : length l ≡ n
    whole : sum n (λ v. get_or l v 0) ≡ R
    there : positives l ≢ 1 → Memᴰ l bs

  share-number : (l : List ℕ) → Visited l → (v : ℕ) → share d R n ks (number n bs l) v ≡ get_or l v 0
  share-number l a v =
      elim (dec-T (eqb (positives l) 1)) [
        | yes t ↦
            let p : positives l ≡ 1 = eqb→eq (positives l) 1 t in
            ap (λ (x : ℕ). share d R n ks x v) (yes-pick (eqb (positives l) 1) (first l) (n + place bs l) t)
            ∙ yes-pick (ltb (first l) n) (R * same (first l) v) (get_or (get_or bs (first l - n) []) v 0)
            (lt→ltb (first l) n (omega (arith, first-lt l p, a.size)))
            ∙ sole l R p (ap (λ (m : ℕ). sum m (λ i. get_or l i 0)) a.size ∙ a.whole) v
        | no t ↦
            let p : positives l ≢ 1 = λ e. t (subst (λ (x : ℕ). T (eqb x 1)) (sym e) (eqb_refl 1)) in
            ap (λ (x : ℕ). share d R n ks x v) (no-pick (eqb (positives l) 1) (first l) (n + place bs l) t)
            ∙ no-pick (ltb (n + place bs l) n) (R * same (n + place bs l) v) (get_or (get_or bs (n + place bs l - n) []) v 0)
            (λ u. omega (arith, ltb→lt (n + place bs l) n u))
            ∙ ap (λ (i : ℕ). get_or (get_or bs i []) v 0) {x = n + place bs l - n} {y = place bs l} (omega arith)
            ∙ ap (λ (m : List ℕ). get_or m v 0) (place_at_lem bs l (place-lt bs l (a.there p)))
      ]

  number_lt : (l : List ℕ) → Visited l → number n bs l < vertices d R n ks
  number_lt l a =
      elim (dec-T (eqb (positives l) 1)) [
        | yes t ↦
            omega (
              arith,
              yes-pick (eqb (positives l) 1) (first l) (n + place bs l) t,
              first-lt l (eqb→eq (positives l) 1 t),
              a.size,
            )
        | no t ↦
            omega (
              arith,
              no-pick (eqb (positives l) 1) (first l) (n + place bs l) t,
              place-lt bs l (a.there (λ e. t (subst (λ (x : ℕ). T (eqb x 1)) (sym e) (eqb_refl 1)))),
            )
      ]

  -- a child of one of the words
  module _ (k : List ℕ) (c : List (List ℕ)) (in-ks : Memᴰ k ks) (child : Child d R c) where
    abbrev pub m : List ℕ
    m = map (λ s. number n bs (point R n k s)) c

    visited : (i : ℕ) → i < suc d → Visited (point R n k (get_or c i []))
    visited i h =
        let s : List ℕ = get_or c i [] in
        record {
          size = length-tab n (weigh k (weights R s));
          whole =
              sum-ext n (λ v. get_or (point R n k s) v 0) (weigh k (weights R s)) (λ v l. get_or-tab n (weigh k (weights R s)) v 0 l)
              ∙ total-weight n k s R (long k in-ks ∙ sym (ap suc (child-point child i h))) (child.kept i (omega (arith, child-long child)))
              (below k in-ks);
          there =
              born (visits d R n ks) [] (point R n k s)
              (to-gather (λ k. gather (λ c. map (point R n k) c) (children d R)) ks in-ks
              (to-gather (λ c. map (point R n k) c) (children d R) (mem-of-child d R c child)
              (Memᴰ.map (point R n k) (mem-at c i (omega (arith, child-long child))))));
        }

    number_at : (i : ℕ) → i < suc d → get_or m i 0 ≡ number n bs (point R n k (get_or c i []))
    number_at i h = map_at (λ s. number n bs (point R n k s)) c i [] 0 (omega (arith, child-long child))

    weight-at : (s : List ℕ) (v : ℕ) → get_or (point R n k s) v 0 ≡ weigh k (weights R s) v
    weight-at s v =
        elim (dec_lt v n) [
          | yes h ↦ get_or-tab n (weigh k (weights R s)) v 0 h
          | no h ↦
              past n (weigh k (weights R s)) v (omega arith)
              ∙ sym (weigh-absent k (weights R s) v
              (elim (dec_lt 0 (occurrences k v)) [ yes l ↦ omega (arith, below k in-ks v l) | no l ↦ omega arith ]))
        ]

    pub names : Names R (share d R n ks) k c m
    names = record {
      long = length-map c (λ s. number n bs (point R n k s));
      shares = λ i h v.
          let l : i < suc d = omega (arith, child-long child) in
          ap (λ (x : ℕ). share d R n ks x v) (number_at i l)
          ∙ share-number (point R n k (get_or c i [])) (visited i l) v
          ∙ weight-at (get_or c i []) v;
    }

    pub in_words : Memᴰ m (words d R n ks)
    in_words =
        to-gather (λ k. map (map (λ s. number n bs (point R n k s))) (children d R)) ks in-ks
        (Memᴰ.map (map (λ s. number n bs (point R n k s))) (mem-of-child d R c child))

  -- each word is that of a child
  record From (w : List ℕ) : Type 0 where
    k : List ℕ
    c : List (List ℕ)
    in-ks : Memᴰ k ks
    child : Child d R c
    is : w ≡ map (λ s. number n bs (point R n k s)) c

  from : (w : List ℕ) → Memᴰ w (words d R n ks) → From w
  from w h =
      let (k, i, l) = of-gather (λ k. map (map (λ s. number n bs (point R n k s))) (children d R)) ks h in
      let (c, j, e) = Memᴰ.of_map (map (λ s. number n bs (point R n k s))) (children d R) l in
      record { k = k; c = c; in-ks = i; child = child-of-mem d R c j; is = sym e }

  from_at_lem : (w : List ℕ) (r : From w) (i : ℕ) → i < suc d → get_or w i 0 ≡ number n bs (point R n r.k (get_or r.c i []))
  from_at_lem w r i h = ap (λ (u : List ℕ). get_or u i 0) r.is ∙ number_at r.k r.c r.in-ks r.child i h

  from-share : (w : List ℕ) (r : From w) (i : ℕ) → i < suc d → (v : ℕ)
      → share d R n ks (get_or w i 0) v ≡ get_or (point R n r.k (get_or r.c i [])) v 0
  from-share w r i h v =
      ap (λ (x : ℕ). share d R n ks x v) (from_at_lem w r i h)
      ∙ share-number (point R n r.k (get_or r.c i [])) (visited r.k r.c r.in-ks r.child i h) v

  apart : Apart d (In (words d R n ks)) (share d R n ks)
  unfolding Apart
  apart w z h l i j a b e =
      let r = from w h in
      let q = from z l in
      from_at_lem w r i a
      ∙ ap (number n bs)
      (ext_get_or 0 (point R n r.k (get_or r.c i [])) (point R n q.k (get_or q.c j []))
      (length-tab n (weigh r.k (weights R (get_or r.c i []))) ∙ sym (length-tab n (weigh q.k (weights R (get_or q.c j [])))))
      (λ v g. sym (from-share w r i a v) ∙ e v ∙ from-share z q j b v))
      ∙ sym (from_at_lem z q j b)

  pub refined : Refined d R (In ks) (In (words d R n ks)) (share d R n ks)
  refined = record {
    each = λ w h.
        let r = from w h in (
          r.k,
          r.c,
          r.in-ks,
          r.child,
          subst (Names R (share d R n ks) r.k r.c) (sym r.is) (names r.k r.c r.in-ks r.child),
        );
    all = λ k c h child. (m k c h child, in_words k c h child, names k c h child);
    one = apart;
  }

  pub words_long : (w : List ℕ) → Memᴰ w (words d R n ks) → length w ≡ suc d
  words_long w h =
      let r = from w h in
      ap length r.is ∙ length-map r.c (λ s. number n bs (point R n r.k s)) ∙ child-long r.child

  pub words-below : (w : List ℕ) → Memᴰ w (words d R n ks) → (v : ℕ) → 0 < occurrences w v → v < vertices d R n ks
  words-below w h v l =
      let r = from w h in
      let (i, g, e) = place-of w v l in
      let a : i < suc d = omega (arith, words_long w h) in
      omega (
        arith,
        from_at_lem w r i a,
        number_lt (point R n r.k (get_or r.c i [])) (visited r.k r.c r.in-ks r.child i a),
      )

-- refining by a and then by b is refining by a * b
module _ (d a b n : ℕ) (ks : List (List ℕ)) (complex : Complex d n (In ks)) where
  -- the complex refined by a: its vertices and its words
  abbrev n₁ : ℕ
  n₁ = vertices d a n ks

  abbrev ks₁ : List (List ℕ)
  ks₁ = words d a n ks

  first-is : Refined d a (In ks) (In ks₁) (share d a n ks)
  first-is = refined d a n ks complex.long complex.below

  second_is : Refined d b (In ks₁) (In (words d b n₁ ks₁)) (share d b n₁ ks₁)
  second_is = refined d b n₁ ks₁ (words_long d a n ks complex.long complex.below) (words-below d a n ks complex.long complex.below)

  single-is : Refined d (a * b) (In ks) (In (words d (a * b) n ks)) (share d (a * b) n ks)
  single-is = refined d (a * b) n ks complex.long complex.below

  middle-below : (w : List ℕ) → In ks₁ w → (v : ℕ) → 0 < occurrences w v → v < n₁
  middle-below = words-below d a n ks complex.long complex.below

  -- where two words that share three vertices or more list them in one sequence
  pub composes : ((k l : List ℕ) → In ks k → In ks l → Agree k l) → WordsCompose d a b n ks
  unfolding WordsCompose
  composes agree =
      alike d a b n n₁ (In ks) (In ks₁) (In (words d b n₁ ks₁)) (In (words d (a * b) n ks)) (share d a n ks) (share d b n₁ ks₁) (share d (a * b) n ks)
      complex agree middle-below first-is second_is single-is

  -- up to dimension 1, always
  pub composes-low : d ≤ 1 → WordsCompose d a b n ks
  composes-low h = composes (edges-do d n (In ks) h complex)

  -- up to dimension 3, where the words agree on facets
  pub composes-by-facets : d ≤ 3 → WordsAgreeOnFacets d (In ks) → WordsCompose d a b n ks
  composes-by-facets h f = composes (facets-do d (In ks) h f)

  -- in any dimension, where they agree on all shared faces
  pub composes-by-faces : AgreeOnFaces (In ks) → WordsCompose d a b n ks
  composes-by-faces f = composes (faces-do (In ks) f)

  -- in any dimension, where the words are the cells' sorted vertices
  pub composes-sorted : ((k : List ℕ) → In ks k → Rises k) → WordsCompose d a b n ks
  unfolding AgreeOnFaces
  composes-sorted h = composes-by-faces (λ k l p q. rising k l (h k p) (h l q))
