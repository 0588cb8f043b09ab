-- What the proofs say of the lists of a refined complex, in one place: it is taken again, the law iterates, and children inherit direction. Assumes nothing.
use mathlib.Core.Path.{◌≡◌, refl, sym, ap, ◌∙◌, subst}
use mathlib.Core.Logic.{◌≢◌, ◌⊎◌, inl, inr, ⊎_elim}
use mathlib.Core.List.Memᴰ
use mathlib.Core.List.{List, [], ◌∷◌}
use Prim.Native.Nat.{ℕ, zero, suc, ◌+◌, ◌*◌, ◌-◌, ◌≤◌, ◌<◌}
use native.Mathlib.Decide.{ℕ_discrete, dec_lt}
use native.Mathlib.Omega.{arith}
use lib.ListN.{length}
use lib.IntN.{ℤ, pos, ◌*ℤ◌}
use Rattle.lists.specs.Words.{same}
use Rattle.refine_lattice.specs.Complex.{Words, occurrences, Refined, WordsAgreeOnFacets, AgreeOnFaces, Rises}
use Rattle.refine_lattice.specs.Refine.{words, vertices, share, In, WordsCompose}
use Rattle.refine_lattice.specs.Conform.{Distinct, Thin, Used, Facewise}
use Rattle.multiindex.specs.Sort.{inversions}
use Rattle.refine_lattice.specs.Signs.{Signs, CoherentByRank}
use Rattle.refine_lattice.specs.Jacobian.{flips, Sorted, laplace, Descends}
use Rattle.lists.proofs.Words.{same_self, same-yes, same-no}
use Rattle.refine_lattice.proofs.Refines.{refined}
use Rattle.refine_lattice.proofs.Whole.{complex-words}
use Rattle.refine_lattice.proofs.Fits.{Stage, stage-next, composes-facewise, tower-vertices, tower-words, middle-vertices, middle-words}
use Rattle.refine_lattice.proofs.Jacobian.{determinant}
use Rattle.refine_lattice.proofs.Laplace.{is-determinant}
use Rattle.refine_lattice.proofs.Descent.{flips-times, inherits}

-- each word has its vertices sorted
insert-one : (x : ℕ) (l : List ℕ) → Rises l → occurrences l x ≡ 0
    → (r : List ℕ) × Rises r × (length r ≡ suc (length l)) × ((v : ℕ) → occurrences r v ≡ same v x + occurrences l v)
insert-one x [] h z = (x ∷ [], ((λ v p. absurd (omega arith)), tt), refl, (λ v. refl))
insert-one x (y ∷ l) h z =
    elim (dec_lt x y) [
      | yes b ↦ (
        x ∷ y ∷ l,
        (
          (λ v p.
              elim (ℕ_discrete v y) [
                | yes e ↦ omega arith
                | no e ↦ omega (arith, h.0 v (omega (arith, same-no v y e)))
              ]),
          h,
        ),
        refl,
        (λ v. refl),
      )
      | no b ↦
          let n : x ≢ y = λ e. omega (arith, same-yes x y e) in
          let (r, g, e, f) = insert-one x l h.1 (omega arith) in (
            y ∷ r,
            (
              (λ v p.
                  elim (ℕ_discrete v x) [
                    | yes q ↦ omega arith
                    | no q ↦ h.0 v (omega (arith, f v, same-no v x q))
                  ]),
              g,
            ),
            ap suc e,
            (λ v. omega (arith, f v)),
          )
    ]

pub sorted : (k : List ℕ) → ((v : ℕ) → occurrences k v ≤ 1) → (l : List ℕ) × Sorted k l
sorted [] p = ([], record { long = refl; rises = tt; counts = λ v. refl })
sorted (x ∷ k) p =
    let (l, s) = sorted k (λ v. omega (arith, p v)) in
    let (r, g, e, f) = insert-one x l s.rises (omega (arith, s.counts x, p x, same_self x)) in
    (r, record { long = e ∙ ap suc s.long; rises = g; counts = λ v. omega (arith, f v, s.counts v) })

-- the lists of a complex, refined
module _ (d R n : ℕ) (ks : List (List ℕ)) (pos-R : 0 < R) (stage : Stage d n ks) where
  abbrev K : Words
  K = In ks

  abbrev M : Words
  M = In (words d R n ks)

  made : Refined d R K M (share d R n ks)
  made = refined d R n ks stage.sound.complex.long stage.sound.complex.below

  -- the refined complex is taken again, and its words agree again
  pub again : Stage d (vertices d R n ks) (words d R n ks)
  again = stage-next d R n ks pos-R stage

  -- and so it can be refined on, by any number: that is refining by the product
  pub law : (b : ℕ) → WordsCompose d R b n ks
  law b = composes-facewise d R b n ks stage.sound.complex stage.facewise

  -- with as many words and vertices in the end, and no more in between
  pub as_many : (b : ℕ) → 0 < b
      → (vertices d b (vertices d R n ks) (words d R n ks) ≡ vertices d (R * b) n ks)
      × (length (words d b (vertices d R n ks) (words d R n ks)) ≡ length (words d (R * b) n ks))
      × (vertices d R n ks ≤ vertices d (R * b) n ks)
      × (length (words d R n ks) ≤ length (words d (R * b) n ks))
  as_many b p = (
    tower-vertices d R b n ks pos-R p stage.sound (law b),
    tower-words d R b n ks,
    middle-vertices d R b n ks pos-R p stage.sound (law b),
    middle-words d R b n ks p,
  )

  -- K12, where the cells' words agree on facets
  module _ (S : Signs) (in-S : (k : List ℕ) (s : ℕ) → S k s → In ks k) (agree : WordsAgreeOnFacets d (In ks)) where
    pub children-inherit : CoherentByRank d S → CoherentByRank d (Descends d R K M (share d R n ks) S)
    children-inherit =
        inherits d R n (vertices d R n ks) K M (share d R n ks) S in-S pos-R stage.sound.complex
        (complex-words d R n ks pos-R stage.sound.complex) made stage.sound.distinct agree

    -- and each child has such a sign where each cell has a sign
    pub each-child : ((k : List ℕ) → In ks k → (s : ℕ) × S k s) → (m : List ℕ) → M m → (s : ℕ) × Descends d R K M (share d R n ks) S m s
    each-child f m h =
        let (k, c, in_K, child, names) = made.each m h in
        let (s, g) = f k in_K in
        let long : length k ≡ suc d = stage.sound.complex.long k in_K in
        let plain : (v : ℕ) → occurrences k v ≤ 1 = stage.sound.complex.plain k in_K in
        let (a, a-is) = sorted k plain in
        let (b, b-is) = sorted m ((complex-words d R n ks pos-R stage.sound.complex).plain m h) in
        let N : ℕ = inversions k + inversions child.order + inversions m in (
          s + N,
          record {
            k = k;
            c = c;
            in_K = in_K;
            in_M = h;
            child = child;
            names = names;
            parent = a;
            parent_is = a-is;
            cell = b;
            cell_is = b-is;
            sign = s;
            signed = g;
            is =
                sym
                (ap (λ (x : ℤ). flips s (pos 1) *ℤ x)
                (determinant d R (share d R n ks) k m long plain c child names a b a-is b-is (laplace d) (is-determinant d))
                ∙ flips-times s N);
          },
        )

-- a complex to begin with: one triangle
single-word : (k : List ℕ) → In ((0 ∷ 1 ∷ 2 ∷ []) ∷ []) k → k ≡ 0 ∷ 1 ∷ 2 ∷ []
single-word k h = ⊎_elim (λ e. e) (λ r. absurd (Memᴰ.not-nil r)) (Memᴰ.cases_cons h)

counts-triangle : (v : ℕ) → (occurrences (0 ∷ 1 ∷ 2 ∷ []) v ≤ 1) × (0 < occurrences (0 ∷ 1 ∷ 2 ∷ []) v → v < 3)
counts-triangle zero = (omega arith, λ h. omega arith)
counts-triangle (suc zero) = (omega arith, λ h. omega arith)
counts-triangle (suc (suc zero)) = (omega arith, λ h. omega arith)
counts-triangle (suc (suc (suc v))) = (omega arith, λ h. omega arith)

pub triangle : Stage 2 3 ((0 ∷ 1 ∷ 2 ∷ []) ∷ [])
unfolding Used Distinct Thin Facewise AgreeOnFaces
triangle = record {
  sound = record {
    complex = record {
      long = λ k h. ap length (single-word k h);
      plain = λ k h v. subst (λ (w : List ℕ). occurrences w v ≤ 1) (sym (single-word k h)) (counts-triangle v).0;
      below = λ k h v. subst (λ (w : List ℕ). 0 < occurrences w v → v < 3) (sym (single-word k h)) (counts-triangle v).1;
    };
    used = λ v h. (0 ∷ 1 ∷ 2 ∷ [], Memᴰ.head refl, there v h);
    distinct = λ k l h g e. single-word k h ∙ sym (single-word l g);
    thin = λ p k l m h g f x y z a b c u w. inl (single-word k h ∙ sym (single-word l g));
  };
  facewise = inr (λ k l h g. cc (single-word k h, single-word l g));
  nodup = (Memᴰ.not-nil, tt);
}
  where
    there : (v : ℕ) → v < 3 → 0 < occurrences (0 ∷ 1 ∷ 2 ∷ []) v
    there zero h = omega arith
    there (suc zero) h = omega arith
    there (suc (suc zero)) h = omega arith
    there (suc (suc (suc v))) h = absurd (omega arith)
