-- Cells with one word each. What complex and ordering say of the cells, by number and by facets dropped, is what lattice says of the set of their words: no facet in
-- three cells, and agreement on facets. Assumes nothing.
use mathlib.Core.Path.{◌≡◌, refl, sym, ap, ◌∙◌, subst}
use mathlib.Core.Logic.{◌≢◌}
use mathlib.Core.List.{List, [], ◌∷◌, Memᴰ}
use Prim.Native.Nat.{ℕ, zero, suc, ◌≤◌, ◌<◌}
use native.Mathlib.Nat.{le_of_suc-le-suc, not-suc-le-zero}
use native.Mathlib.Decide.{ℕ_discrete, dec_lt}
use native.Mathlib.Omega.{arith}
use lib.ListN.{length, get_or}
use Rattle.multiindex.specs.Sort.{sort_word}
use Rattle.multiindex.proofs.SortLaws.{sort-length}
use Rattle.complex_cells.proofs.Words.{at_in}
use Rattle.complex.specs.Facets.{cell_at, facet_at, Mates}
use Rattle.lists.specs.Words.{without, skip, same}
use Rattle.refine_lattice.specs.Complex.{occurrences, keep, common, Complex, Rises}
use Rattle.refine_lattice.specs.Refine.{In}
use Rattle.refine_lattice.specs.Conform.{rest, Meet, Distinct, omit}
use Rattle.lists.proofs.Words.{same_self, same-yes, same-no, same-eq}
use Rattle.refine_lattice.proofs.After.{keep-yes, keep-no, times-common}
use Rattle.refine_lattice.proofs.Enumerate.{place-of}
use Rattle.refine_lattice.proofs.Faces.{times-common-le, times-common-no}
use Rattle.refine_lattice.proofs.Seats.{holds-all, stray}
use Rattle.refine_lattice.proofs.Inherit.{but-one}
use Rattle.refine_lattice.proofs.Fits.{omit-rest}
use Rattle.refine_lattice.proofs.Refines.{mem-at}
use Rattle.refine_laws.proofs.Words.{of_mem, sort-times, one-rising, rises-plain}

-- m cells of dimension d over n vertices, each rising, no two the same, and a word for each that sorts to it
pub record Listed (d n : ℕ) (cs ks : List (List ℕ)) : Type 0 where
  pub many : length ks ≡ length cs
  pub long : (c : ℕ) → c < length cs → length (cell_at cs c) ≡ suc d
  pub rises : (c : ℕ) → c < length cs → Rises (cell_at cs c)
  pub below : (c : ℕ) → c < length cs → (v : ℕ) → 0 < occurrences (cell_at cs c) v → v < n
  pub apart : (c c' : ℕ) → c < length cs → c' < length cs → cell_at cs c ≡ cell_at cs c' → c ≡ c'
  pub sorts : (c : ℕ) → c < length cs → sort_word (cell_at ks c) ≡ cell_at cs c

-- ---- facets

-- a place left out
facet-omit : (w : List ℕ) (i : ℕ) → i < length w → facet_at w i ≡ omit w i
facet-omit [] i h = absurd (not-suc-le-zero h)
facet-omit (x ∷ w) zero h = refl
facet-omit (x ∷ w) (suc i) h = ap (λ (r : List ℕ). x ∷ r) (facet-omit w i (le_of_suc-le-suc h))

pub facet-times : (w : List ℕ) (i : ℕ) → i < length w → (v : ℕ) → occurrences (facet_at w i) v ≡ rest w (get_or w i 0) v
facet-times w i h v = ap (λ (r : List ℕ). occurrences r v) (facet-omit w i h) ∙ omit-rest w i h v

rises-omit : (w : List ℕ) → Rises w → (i : ℕ) → i < length w → Rises (omit w i)
rises-omit [] r i h = absurd (not-suc-le-zero h)
rises-omit (x ∷ w) r zero h = r.1
rises-omit (x ∷ w) r (suc i) h =
    let g : i < length w = le_of_suc-le-suc h in
    ((λ v p. r.0 v (omega (arith, omit-rest w i g v))), rises-omit w r.1 i g)

pub rises-facet : (w : List ℕ) → Rises w → (i : ℕ) → i < length w → Rises (facet_at w i)
rises-facet w r i h = subst Rises (sym (facet-omit w i h)) (rises-omit w r i h)

-- what two words share, where one number is only in the first
pub common-without : (x : ℕ) (k l : List ℕ) → occurrences l x ≡ 0 → ((v : ℕ) → 0 < occurrences k v → v ≢ x → 0 < occurrences l v) → common k l ≡ without x k
common-without x [] l z f = refl
common-without x (y ∷ k) l z f = go (same x y) refl (common-without x k l z (λ v h. f v (omega arith)))
  where
    go : (n : ℕ) → same x y ≡ n → common k l ≡ without x k → keep (occurrences l y) y (common k l) ≡ skip n y (without x k)
    go zero e r = keep-yes (occurrences l y) y (common k l) (f y (omega (arith, same_self y)) (λ q. omega (arith, e, same-yes x y (sym q)))) ∙ ap (λ (w : List ℕ). y ∷ w) r
    go (suc n) e r = keep-no (occurrences l y) y (common k l) (ap (occurrences l) (sym (same-eq x y (omega (arith, e)))) ∙ z) ∙ r

-- words that share all but one of their numbers meet in a facet
pub record Beside (k l : List ℕ) : Type 0 where
  pub x : ℕ
  pub y : ℕ
  pub x-in : 0 < occurrences k x
  pub y-in : 0 < occurrences l y
  pub x-out : occurrences l x ≡ 0
  pub y-out : occurrences k y ≡ 0
  pub meet : Meet k x l y

module _ (d n : ℕ) (k l : List ℕ) (lk : length k ≡ suc d) (ll : length l ≡ suc d) (pk : (v : ℕ) → occurrences k v ≤ 1) (pl : (v : ℕ) → occurrences l v ≤ 1)
    (bk : (v : ℕ) → 0 < occurrences k v → v < n) (bl : (v : ℕ) → 0 < occurrences l v → v < n) where
  -- where the one holds the other they have the same numbers
  pub same-counts : ((v : ℕ) → 0 < occurrences k v → 0 < occurrences l v) → (v : ℕ) → occurrences k v ≡ occurrences l v
  same-counts f =
      holds-all n k l bk bl (omega arith)
      (λ v. elim (dec_lt 0 (occurrences k v)) [ yes h ↦ omega (arith, f v h, pk v) | no h ↦ omega arith ])

-- all but one of k's numbers are l's
only_one : (d : ℕ) (k l : List ℕ) → length k ≡ suc d → d ≤ length (common k l) → (x : ℕ) → 0 < occurrences k x → occurrences l x ≡ 0
    → (v : ℕ) → 0 < occurrences k v → v ≢ x → 0 < occurrences l v
only_one d k l lk h x a b v g n =
    let (i, f) = but-one k l (omega arith) in
    let (p, q, e) = place-of k x a in
    let (p', q', e') = place-of k v g in
    elim (ℕ_discrete p' i) [
      | yes s ↦
          elim (ℕ_discrete p i) [
            | yes t ↦ absurd (n (sym e' ∙ ap (λ (j : ℕ). get_or k j 0) (s ∙ sym t) ∙ e))
            | no t ↦ absurd (omega (arith, f p q t, ap (occurrences l) e))
          ]
      | no s ↦ subst (λ (z : ℕ). 0 < occurrences l z) e' (f p' q' s)
    ]

module _ (d n : ℕ) (k l : List ℕ) (lk : length k ≡ suc d) (ll : length l ≡ suc d) (pk : (v : ℕ) → occurrences k v ≤ 1) (pl : (v : ℕ) → occurrences l v ≤ 1)
    (bk : (v : ℕ) → 0 < occurrences k v → v < n) (bl : (v : ℕ) → 0 < occurrences l v → v < n) where
  common-le : (v : ℕ) → occurrences (common k l) v ≤ occurrences l v
  common-le v =
      elim (dec_lt 0 (occurrences l v)) [
        | yes h ↦ omega (arith, times-common k l v h, pk v)
        | no h ↦ omega (arith, times-common-no k l v (omega arith))
      ]

  pub beside : d ≤ length (common k l) → (((v : ℕ) → occurrences k v ≡ occurrences l v) → ⊥) → Beside k l
  unfolding Meet
  beside h n' =
      let (x, x-in, x-out) = stray k l (λ f. n' (same-counts d n k l lk ll pk pl bk bl f)) in
      let (y, y-in, y-out) = stray l k (λ f. n' (λ v. sym (same-counts d n l k ll lk pl pk bl bk f v))) in
      let y-not : occurrences (common k l) y ≡ 0 = omega (arith, times-common-le k l y) in
      let all : (v : ℕ) → occurrences (y ∷ common k l) v ≡ occurrences l v =
      holds-all n (y ∷ common k l) l
      (λ v p.
      elim (ℕ_discrete v y) [
        | yes e ↦ bl v (omega (arith, ap (occurrences l) e))
        | no e ↦ bl v (omega (arith, common-le v, same-no v y e))
      ])
      bl (omega arith)
      (λ v.
      elim (ℕ_discrete v y) [
        | yes e ↦ omega (arith, same-yes v y e, ap (occurrences (common k l)) e, ap (occurrences l) e)
        | no e ↦ omega (arith, same-no v y e, common-le v)
      ]) in
      record {
        x = x;
        y = y;
        x-in = x-in;
        y-in = y-in;
        x-out = x-out;
        y-out = y-out;
        meet = λ v.
            elim (ℕ_discrete v x) [
              | yes e ↦
                  omega (arith, same-yes v x e, pk v, all v, ap (occurrences l) e)
              | no e ↦
                  elim (dec_lt 0 (occurrences l v)) [
                    | yes q ↦ omega (arith, same-no v x e, all v, times-common k l v q)
                    | no q ↦
                        elim (dec_lt 0 (occurrences k v)) [
                          | yes s ↦ absurd (q (only_one d k l lk h x x-in x-out v s e))
                          | no s ↦ omega (arith, same-no v x e)
                        ]
                  ]
            ];
      }

-- ---- cells and their words
module _ (d n : ℕ) (cs ks : List (List ℕ)) (l : Listed d n cs ks) where
  pub counts-at : (c : ℕ) → c < length cs → (v : ℕ) → occurrences (cell_at ks c) v ≡ occurrences (cell_at cs c) v
  counts-at c h v = sym (sort-times (cell_at ks c) v) ∙ ap (λ (w : List ℕ). occurrences w v) (l.sorts c h)

  pub long-at : (c : ℕ) → c < length cs → length (cell_at ks c) ≡ suc d
  long-at c h = sym (sort-length (cell_at ks c)) ∙ ap length (l.sorts c h) ∙ l.long c h

  pub plain_at : (c : ℕ) → c < length cs → (v : ℕ) → occurrences (cell_at ks c) v ≤ 1
  plain_at c h v = omega (arith, counts-at c h v, rises-plain (cell_at cs c) (l.rises c h) v)

  -- the number of a word
  pub number_of : (k : List ℕ) → Memᴰ k ks → (c : ℕ) × (c < length cs) × (cell_at ks c ≡ k)
  number_of k m = let (c, h, e) = at_in k ks (of_mem k ks m) in (c, omega (arith, l.many), e)

  pub word_in : (c : ℕ) → c < length cs → Memᴰ (cell_at ks c) ks
  word_in c h = mem-at ks c (omega (arith, l.many))

  pub one_cell : (c c' : ℕ) → c < length cs → c' < length cs → ((v : ℕ) → occurrences (cell_at ks c) v ≡ occurrences (cell_at ks c') v) → c ≡ c'
  one_cell c c' h h' e =
      l.apart c c' h h'
      (one-rising (cell_at cs c) (cell_at cs c') (l.rises c h) (l.rises c' h') (λ v. sym (counts-at c h v) ∙ e v ∙ counts-at c' h' v))

  pub listed-complex : Complex d n (In ks)
  listed-complex = record {
    long = λ k m. let (c, h, e) = number_of k m in ap length (sym e) ∙ long-at c h;
    plain = λ k m v. let (c, h, e) = number_of k m in subst (λ (w : List ℕ). occurrences w v ≤ 1) e (plain_at c h v);
    below = λ k m v p.
        let (c, h, e) = number_of k m in
        l.below c h v (omega (arith, counts-at c h v, ap (λ (w : List ℕ). occurrences w v) e));
  }

  pub listed-distinct : Distinct (In ks)
  unfolding Distinct
  listed-distinct k m p q e =
      let (c, h, f) = number_of k p in
      let (c', h', g) = number_of m q in
      sym f
      ∙ ap (cell_at ks) (one_cell c c' h h' (λ v. ap (λ (w : List ℕ). occurrences w v) f ∙ e v ∙ ap (λ (w : List ℕ). occurrences w v) (sym g)))
      ∙ g

  pub listed-apart : (i j : ℕ) → i < j → j < length ks → cell_at ks i ≢ cell_at ks j
  listed-apart i j h b e =
      let q : i ≡ j = one_cell i j (omega (arith, l.many)) (omega (arith, l.many)) (λ v. ap (λ (w : List ℕ). occurrences w v) e) in
      omega arith

  -- facets dropped and facets met
  pub meets : (c i c' i' : ℕ) → Mates d cs c i c' i' → Meet (cell_at ks c) (get_or (cell_at cs c) i 0) (cell_at ks c') (get_or (cell_at cs c') i' 0)
  unfolding Meet
  meets c i c' i' m v =
      let h : c < length cs = m.this.cell in
      let h' : c' < length cs = m.that.cell in
      omega (
        arith,
        counts-at c h v,
        counts-at c' h' v,
        facet-times (cell_at cs c) i (omega (arith, l.long c h, m.this.place)) v,
        facet-times (cell_at cs c') i' (omega (arith, l.long c' h', m.that.place)) v,
        ap (λ (w : List ℕ). occurrences w v) m.one,
      )

  pub mates : 0 < d → (c i c' i' : ℕ) → c < length cs → c' < length cs → i ≤ d → i' ≤ d → c ≢ c'
      → Meet (cell_at ks c) (get_or (cell_at cs c) i 0) (cell_at ks c') (get_or (cell_at cs c') i' 0) → Mates d cs c i c' i'
  unfolding Meet
  mates s c i c' i' h h' b b' n e =
      let g : i < length (cell_at cs c) = omega (arith, l.long c h) in
      let g' : i' < length (cell_at cs c') = omega (arith, l.long c' h') in
      record {
        this = record { some = s; cell = h; place = b };
        that = record { some = s; cell = h'; place = b' };
        apart = n;
        one =
            one-rising (facet_at (cell_at cs c) i) (facet_at (cell_at cs c') i') (rises-facet (cell_at cs c) (l.rises c h) i g)
            (rises-facet (cell_at cs c') (l.rises c' h') i' g')
            (λ v.
            omega (
              arith,
              e v,
              counts-at c h v,
              counts-at c' h' v,
              facet-times (cell_at cs c) i g v,
              facet-times (cell_at cs c') i' g' v,
            ));
      }

  -- the place in the cell of a number of its word
  pub seat : (c : ℕ) → c < length cs → (x : ℕ) → 0 < occurrences (cell_at ks c) x → (i : ℕ) × (i ≤ d) × (get_or (cell_at cs c) i 0 ≡ x)
  seat c h x p =
      let (i, g, e) = place-of (cell_at cs c) x (omega (arith, counts-at c h x)) in
      (i, omega (arith, l.long c h), e)

  pub mates-of : 0 < d → (c c' x y : ℕ) → c < length cs → c' < length cs → 0 < occurrences (cell_at ks c) x → 0 < occurrences (cell_at ks c') y → c ≢ c'
      → Meet (cell_at ks c) x (cell_at ks c') y
      → (i : ℕ) × (i' : ℕ) × (get_or (cell_at cs c) i 0 ≡ x) × (get_or (cell_at cs c') i' 0 ≡ y) × Mates d cs c i c' i'
  mates-of s c c' x y h h' p q n e =
      let (i, b, f) = seat c h x p in
      let (i', b', f') = seat c' h' y q in (
        i,
        i',
        f,
        f',
        mates s c i c' i' h h' b b' n
            (subst (λ (u : ℕ). Meet (cell_at ks c) u (cell_at ks c') (get_or (cell_at cs c') i' 0)) (sym f)
            (subst (λ (u : ℕ). Meet (cell_at ks c) x (cell_at ks c') u) (sym f') e)),
      )
