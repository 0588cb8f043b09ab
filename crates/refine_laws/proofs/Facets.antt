-- Cells with one word each: no facet in three cells is thin, agreement by facets dropped is agreement on what two words share, and no word stands twice.
-- Assumes nothing.
use mathlib.Core.Path.{◌≡◌, sym, ap, ◌∙◌, subst}
use mathlib.Core.Logic.{◌≢◌, ◌⊎◌, inl, inr, ⊎_elim}
use mathlib.Core.List.{List, [], ◌∷◌}
use Prim.Native.Nat.{ℕ, suc, ◌≤◌, ◌<◌, zero-le, suc-le-suc}
use native.Mathlib.Decide.{ℕ_discrete, dec_lt}
use native.Mathlib.Omega.{arith}
use lib.ListN.{length, get_or}
use Rattle.complex_cells.proofs.Words.{at_in}
use Rattle.complex.specs.Facets.{cell_at, Mates, Crowded}
use Rattle.lists.specs.Words.{without}
use Rattle.ordering_words.specs.Order as order
use Rattle.refine_lattice.specs.Complex.{occurrences, common, Complex, WordsAgreeOnFacets}
use Rattle.refine_lattice.specs.Refine.{In}
use Rattle.refine_lattice.specs.Conform.{Meet, Thin}
use Rattle.lists.proofs.Words.{same_self, same-no}
use Rattle.refine_lattice.proofs.After.{keep-no}
use Rattle.refine_lattice.proofs.Enumerate.{times-at}
use Rattle.refine_lattice.proofs.Count.{Nodup}
use Rattle.refine_lattice.proofs.Conform.{row, closes, apart-at}
use Rattle.refine_lattice.proofs.Inherit.{all_but_one}
use Rattle.refine_laws.proofs.Words.{of_mem, rises-plain}
use Rattle.refine_laws.proofs.Listed.{Listed, common-without, Beside, beside, counts-at, long-at, plain_at, number_of, word_in, one_cell, listed-complex, listed-apart, meets, mates-of}

-- a list whose entries differ by number has none twice
pub nodup-by : (ks : List (List ℕ)) → ((i j : ℕ) → i < j → j < length ks → get_or ks i [] ≢ get_or ks j []) → Nodup ks
nodup-by [] f = tt
nodup-by (k ∷ ks) f = (
  (λ m. let (i, h, e) = at_in k ks (of_mem k ks m) in f 0 (suc i) (suc-le-suc zero-le) (suc-le-suc h) (sym e)),
  nodup-by ks (λ i j h b. f (suc i) (suc j) (suc-le-suc h) (suc-le-suc b)),
)

-- a word of one number shares nothing with a word that has it not
alone : (k l : List ℕ) → length k ≡ 1 → (x : ℕ) → 0 < occurrences k x → occurrences l x ≡ 0 → common k l ≡ []
alone [] l e x p q = absurd (omega arith)
alone (y ∷ []) l e x p q =
    elim (ℕ_discrete x y) [
      | yes f ↦ keep-no (occurrences l y) y [] (ap (occurrences l) (sym f) ∙ q)
      | no f ↦ absurd (omega (arith, same-no x y f))
    ]
alone (y ∷ z ∷ k) l e x p q = absurd (omega arith)

module _ (d n : ℕ) (cs ks : List (List ℕ)) (l : Listed d n cs ks) where
  pub listed-nodup : Nodup ks
  listed-nodup = nodup-by ks (listed-apart d n cs ks l)

  -- three words with one facet
  module _ (free : Crowded d cs → ⊥) (s : 0 < d) (c c' c'' x y z : ℕ) (h : c < length cs) (h' : c' < length cs) (h'' : c'' < length cs)
      (p : 0 < occurrences (cell_at ks c) x) (q : 0 < occurrences (cell_at ks c') y) (r : 0 < occurrences (cell_at ks c'') z)
      (e : Meet (cell_at ks c) x (cell_at ks c') y) (f : Meet (cell_at ks c) x (cell_at ks c'') z) where
    three : c ≢ c' → c ≢ c'' → c' ≢ c'' → ⊥
    three a b g =
        let (i, i', t, t', m) = mates-of d n cs ks l s c c' x y h h' p q a e in
        let (j, j', u, u', w) = mates-of d n cs ks l s c c'' x z h h'' p r b f in
        let k : i ≡ j =
        apart-at (cell_at cs c) (rises-plain (cell_at cs c) (l.rises c h)) i j (omega (arith, l.long c h, m.this.place))
        (omega (arith, l.long c h, w.this.place)) (t ∙ sym u) in
        free (record {
          cell = c;
          first = c';
          second = c'';
          at = i;
          at_first = i';
          at_second = j';
          one = m;
          other = subst (λ (a : ℕ). Mates d cs c a c'' j') (sym k) w;
          apart = g;
        })

    thin_at : (c ≡ c') ⊎ ((c ≡ c'') ⊎ (c' ≡ c''))
    thin_at =
        elim (ℕ_discrete c c') [
          | yes a ↦ inl a
          | no a ↦
              elim (ℕ_discrete c c'') [
                | yes b ↦ inr (inl b)
                | no b ↦ elim (ℕ_discrete c' c'') [ yes g ↦ inr (inr g) | no g ↦ absurd (three a b g) ]
              ]
        ]

  pub listed-thin : (Crowded d cs → ⊥) → Thin d (In ks)
  unfolding Thin
  listed-thin free s k k' k'' a b c x y z p q r e f =
      let (m, h, g) = number_of d n cs ks l k a in
      let (m', h', g') = number_of d n cs ks l k' b in
      let (m'', h'', g'') = number_of d n cs ks l k'' c in
      ⊎_elim (λ u. inl (sym g ∙ ap (cell_at ks) u ∙ g'))
      (λ w. inr (⊎_elim (λ u. inl (sym g ∙ ap (cell_at ks) u ∙ g'')) (λ u. inr (sym g' ∙ ap (cell_at ks) u ∙ g'')) w))
      (thin_at free s m m' m'' x y z h h' h'' (rw g p) (rw g' q) (rw g'' r) (rw (g, g') e) (rw (g, g'') f))

  -- and back
  at-cell : (c i : ℕ) → c < length cs → i ≤ d → 0 < occurrences (cell_at ks c) (get_or (cell_at cs c) i 0)
  at-cell c i h b = omega (arith, counts-at d n cs ks l c h (get_or (cell_at cs c) i 0), times-at (cell_at cs c) i (omega (arith, l.long c h)))

  pub listed-uncrowded : Thin d (In ks) → Crowded d cs → ⊥
  unfolding Thin
  listed-uncrowded t w =
      let one = w.one in
      let other = w.other in
      let hc = one.this.cell in
      let hf = one.that.cell in
      let hs = other.that.cell in
      ⊎_elim (λ e. one.apart (index w.cell w.first hc hf e))
      (⊎_elim (λ e. other.apart (index w.cell w.second hc hs e)) (λ e. w.apart (index w.first w.second hf hs e)))
      (t one.this.some (cell_at ks w.cell) (cell_at ks w.first) (cell_at ks w.second)
      (word_in d n cs ks l w.cell hc) (word_in d n cs ks l w.first hf) (word_in d n cs ks l w.second hs)
      (get_or (cell_at cs w.cell) w.at 0) (get_or (cell_at cs w.first) w.at_first 0) (get_or (cell_at cs w.second) w.at_second 0)
      (at-cell w.cell w.at hc one.this.place) (at-cell w.first w.at_first hf one.that.place)
      (at-cell w.second w.at_second hs other.that.place)
      (meets d n cs ks l w.cell w.at w.first w.at_first one) (meets d n cs ks l w.cell w.at w.second w.at_second other))
    where
      index : (c c' : ℕ) → c < length cs → c' < length cs → cell_at ks c ≡ cell_at ks c' → c ≡ c'
      index c c' h h' e = one_cell d n cs ks l c c' h h' (λ v. ap (λ (w : List ℕ). occurrences w v) e)

  -- two cells whose words share d vertices
  agree_at : order.AgreeOnFacets d cs ks → (c c' : ℕ) → c < length cs → c' < length cs → d ≤ length (common (cell_at ks c) (cell_at ks c'))
      → common (cell_at ks c) (cell_at ks c') ≡ common (cell_at ks c') (cell_at ks c)
  unfolding Meet
  agree_at a c c' h h' e =
      let k : List ℕ = cell_at ks c in
      let m : List ℕ = cell_at ks c' in
      let X : Complex d n (In ks) = listed-complex d n cs ks l in
      elim (ℕ_discrete c c') [
        | yes q ↦ ap (λ (j : ℕ). common k (cell_at ks j)) (sym q) ∙ ap (λ (j : ℕ). common (cell_at ks j) k) q
        | no q ↦
            let b : Beside k m =
            beside d n k m (long-at d n cs ks l c h) (long-at d n cs ks l c' h') (plain_at d n cs ks l c h) (plain_at d n cs ks l c' h')
            (X.below k (word_in d n cs ks l c h)) (X.below m (word_in d n cs ks l c' h')) e
            (λ f. q (one_cell d n cs ks l c c' h h' f)) in
            elim (dec_lt 0 d) [
              | yes s ↦
                  let (i, i', t, t', w) = mates-of d n cs ks l s c c' b.x b.y h h' b.x-in b.y-in q b.meet in
                  common-without b.x k m b.x-out (λ v p g. omega (arith, b.meet v, same-no v b.x g))
                  ∙ ap (λ (z : ℕ). without z k) (sym t)
                  ∙ a.one c i c' i' w
                  ∙ ap (λ (z : ℕ). without z m) t'
                  ∙ sym (common-without b.y m k b.y-out (λ v p g. omega (arith, b.meet v, same-no v b.y g)))
              | no s ↦
                  alone k m (omega (arith, long-at d n cs ks l c h)) b.x b.x-in b.x-out
                  ∙ sym (alone m k (omega (arith, long-at d n cs ks l c' h')) b.y b.y-in b.y-out)
            ]
      ]

  pub listed-agree : order.AgreeOnFacets d cs ks → WordsAgreeOnFacets d (In ks)
  unfolding WordsAgreeOnFacets
  listed-agree a k m p q e =
      let (c, h, g) = number_of d n cs ks l k p in
      let (c', h', g') = number_of d n cs ks l m q in
      rw (← g, ← g')
      (agree_at a c c' h h'
      (subst (λ (w : List ℕ). d ≤ length (common w (cell_at ks c'))) (sym g) (subst (λ (w : List ℕ). d ≤ length (common k w)) (sym g') e)))

  -- and back: the vertex that a mate has not on the facet is not the other's
  stands-out : (c i c' i' : ℕ) → Mates d cs c i c' i' → occurrences (cell_at ks c') (get_or (cell_at cs c) i 0) ≡ 0
  unfolding Meet
  stands-out c i c' i' m =
      let k : List ℕ = cell_at ks c in
      let k' : List ℕ = cell_at ks c' in
      let x : ℕ = get_or (cell_at cs c) i 0 in
      let y : ℕ = get_or (cell_at cs c') i' 0 in
      let h : c < length cs = m.this.cell in
      let h' : c' < length cs = m.that.cell in
      let e : Meet k x k' y = meets d n cs ks l c i c' i' m in
      elim (dec_lt 0 (occurrences k' x)) [
        | yes p ↦
            elim (ℕ_discrete x y) [
              | yes q ↦
                  absurd (m.apart (one_cell d n cs ks l c c' h h'
                  (closes d k k' x y
                  (row d k x (long-at d n cs ks l c h) (plain_at d n cs ks l c h) (at-cell c i h m.this.place))
                  (row d k' y (long-at d n cs ks l c' h') (plain_at d n cs ks l c' h') (at-cell c' i' h' m.that.place)) e q)))
              | no q ↦ absurd (omega (arith, e x, same_self x, same-no x y q, plain_at d n cs ks l c h x))
            ]
        | no p ↦ omega arith
      ]

  others : (c i c' i' : ℕ) → Mates d cs c i c' i' → (v : ℕ) → 0 < occurrences (cell_at ks c) v → v ≢ get_or (cell_at cs c) i 0 → 0 < occurrences (cell_at ks c') v
  unfolding Meet
  others c i c' i' m v p g = omega (arith, meets d n cs ks l c i c' i' m v, same-no v (get_or (cell_at cs c) i 0) g)

  many-shared : (c i c' i' : ℕ) → Mates d cs c i c' i' → d ≤ length (common (cell_at ks c) (cell_at ks c'))
  many-shared c i c' i' m =
      let h : c < length cs = m.this.cell in
      omega (
        arith,
        long-at d n cs ks l c h,
        all_but_one (cell_at ks c) (cell_at ks c') (plain_at d n cs ks l c h)
            (λ v u a b z w. is-it v a z ∙ sym (is-it u b w)),
      )
    where
      is-it : (v : ℕ) → 0 < occurrences (cell_at ks c) v → occurrences (cell_at ks c') v ≡ 0 → v ≡ get_or (cell_at cs c) i 0
      is-it v a z =
          elim (ℕ_discrete v (get_or (cell_at cs c) i 0)) [ yes e ↦ e | no e ↦ absurd (omega (arith, others c i c' i' m v a e)) ]

  pub listed-agree-back : WordsAgreeOnFacets d (In ks) → order.AgreeOnFacets d cs ks
  unfolding WordsAgreeOnFacets
  listed-agree-back a = record {
    one = λ c i c' i' m.
        let w : Mates d cs c' i' c i = record { this = m.that; that = m.this; apart = λ e. m.apart (sym e); one = sym m.one } in
        sym (common-without (get_or (cell_at cs c) i 0) (cell_at ks c) (cell_at ks c') (stands-out c i c' i' m) (others c i c' i' m))
        ∙ a (cell_at ks c) (cell_at ks c') (word_in d n cs ks l c m.this.cell) (word_in d n cs ks l c' m.that.cell) (many-shared c i c' i' m)
        ∙ common-without (get_or (cell_at cs c') i' 0) (cell_at ks c') (cell_at ks c) (stands-out c' i' c i w) (others c' i' c i w);
  }
