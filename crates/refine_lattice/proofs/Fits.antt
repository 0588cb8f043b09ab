-- The tower fits where the single refinement does: as many words and as many vertices in the end, and no more in between. Assumes nothing.
use mathlib.Core.Path.{◌≡◌, sym, ap, ◌∙◌}
use mathlib.Core.Logic.{◌⊎◌, inl, inr, ⊎_elim}
use mathlib.Core.List.{List, [], ◌∷◌, map}
use Prim.Native.Nat.{ℕ, zero, suc, ◌*◌, ◌-◌, ◌^◌, ◌≤◌, ◌<◌}
use native.Mathlib.Nat.{not-suc-le-zero, le_of_suc-le-suc, mul-le-mul_left, pow-zero, pow-suc, pow-le-pow_left, mul-mul-mul_comm}
use native.Mathlib.Decide.{ℕ_discrete}
use native.Mathlib.Omega.{arith}
use lib.ListN.{length, get_or, length-map}
use Rattle.lists.specs.Tables.{upto}
use Rattle.lists.specs.Words.{same}
use Rattle.refine_lattice.specs.Complex.{Words, occurrences, through, Complex, Apart, Within}
use Rattle.refine_lattice.specs.Children.{children}
use Rattle.refine_lattice.specs.Refine.{births, number, point, words, vertices, share, In, WordsCompose}
use Rattle.refine_lattice.specs.Conform.{rest, Used, Sound, Facewise, omit}
use Rattle.lists.proofs.Tables.{length-tab}
use Rattle.refine_lattice.proofs.Enumerate.{of-tab, to-tab, times-at, place-of}
use Rattle.refine_lattice.proofs.Count.{Nodup, nodup-upto, no_longer, length-gather, count}
use Rattle.lists.proofs.Words.{same-yes, same-no}
use Rattle.refine_lattice.proofs.Refines.{composes-by-facets, composes-by-faces}
use Rattle.refine_lattice.proofs.Whole.{sound-words, facets-words, faces-words, nodup-words}

-- how many words there are
pub length-words : (d R n : ℕ) (ks : List (List ℕ)) → length (words d R n ks) ≡ length ks * R ^ d
length-words d R n ks =
    length-gather (λ k. map (map (λ s. number n (births d R n ks) (point R n k s))) (children d R)) (R ^ d) ks
    (λ k. length-map (children d R) (map (λ s. number n (births d R n ks) (point R n k s))) ∙ count d R)

-- complexes that are alike have as many vertices
module _ (d N N' : ℕ) (T C : Words) (share share' : ℕ → ℕ → ℕ) where
  record Twin (x y : ℕ) : Type 0 where
    w : List ℕ
    in-T : T w
    i : ℕ
    below : i < suc d
    at : get_or w i 0 ≡ x
    same : (v : ℕ) → share x v ≡ share' y v

  pub fits : Within d T C share share' → Apart d T share → ((w : List ℕ) → T w → length w ≡ suc d) → Used N T → Complex d N' C → N ≤ N'
  unfolding Within Apart Used
  fits forth apart long used complex =
      omega (
        arith,
        no_longer Twin (upto N) (upto N') (nodup-upto N)
            (λ x m.
            let (j, b, e) = of-tab N (λ i. i) m in
            let (w, in-T, h) = used x (omega arith) in
            let (i, g, f) = place-of w x h in
            let bi : i < suc d = omega (arith, long w in-T) in
            let (y, in-C, s) = forth w in-T in
            let by : get_or y i 0 < N' = complex.below y in-C (get_or y i 0) (times-at y i (omega (arith, complex.long y in-C))) in (
              get_or y i 0,
              to-tab N' (λ i. i) (get_or y i 0) by,
              record {
                w = w;
                in-T = in-T;
                i = i;
                below = bi;
                at = f;
                same = λ v. ap (λ (z : ℕ). share z v) (sym f) ∙ s i bi v;
              },
            ))
            (λ x x' y a b.
            sym a.at
            ∙ apart a.w b.w a.in-T b.in-T a.i b.i a.below b.below
            (λ v.
            ap (λ (z : ℕ). share z v) a.at ∙ a.same v ∙ sym (b.same v) ∙ ap (λ (z : ℕ). share z v) (sym b.at))
            ∙ b.at),
        length-tab N (λ i. i),
        length-tab N' (λ i. i),
      )

-- refining by a and then by b, against refining by a * b
module _ (d a b n : ℕ) (ks : List (List ℕ)) (pa : 0 < a) (pb : 0 < b) (sound : Sound d n (In ks)) where
  abbrev n₁ : ℕ
  n₁ = vertices d a n ks

  abbrev ks₁ : List (List ℕ)
  ks₁ = words d a n ks

  middle : Sound d n₁ (In ks₁)
  middle = sound-words d a n ks pa sound

  twice : Sound d (vertices d b n₁ ks₁) (In (words d b n₁ ks₁))
  twice = sound-words d b n₁ ks₁ pb middle

  single : Sound d (vertices d (a * b) n ks) (In (words d (a * b) n ks))
  single = sound-words d (a * b) n ks (omega (arith, mul-le-mul_left a pb)) sound

  module _ (law : WordsCompose d a b n ks) where
    -- as many vertices as the single refinement has, and no more in between
    pub tower-vertices : vertices d b n₁ ks₁ ≡ vertices d (a * b) n ks
    unfolding WordsCompose
    tower-vertices =
        omega (
          arith,
          fits d (vertices d b n₁ ks₁) (vertices d (a * b) n ks) (In (words d b n₁ ks₁)) (In (words d (a * b) n ks))
              (through n₁ (share d a n ks) (share d b n₁ ks₁)) (share d (a * b) n ks)
              law.forth law.apart twice.complex.long twice.used single.complex,
          fits d (vertices d (a * b) n ks) (vertices d b n₁ ks₁) (In (words d (a * b) n ks)) (In (words d b n₁ ks₁))
              (share d (a * b) n ks) (through n₁ (share d a n ks) (share d b n₁ ks₁))
              law.back law.apart' single.complex.long single.used twice.complex,
        )

    pub middle-vertices : vertices d a n ks ≤ vertices d (a * b) n ks
    middle-vertices = omega (arith, tower-vertices)

pow-mul : (a b d : ℕ) → (a * b) ^ d ≡ a ^ d * b ^ d
pow-mul a b zero = omega (arith, pow-zero (a * b), pow-zero a, pow-zero b, ap (λ (x : ℕ). x * b ^ 0) (pow-zero a))
pow-mul a b (suc d) =
    pow-suc (a * b) d
    ∙ ap (λ (x : ℕ). x * (a * b)) (pow-mul a b d)
    ∙ mul-mul-mul_comm (a ^ d) (b ^ d) a b
    ∙ sym (cc (pow-suc a d, pow-suc b d))

-- as many words
pub tower-words : (d a b n : ℕ) (ks : List (List ℕ))
    → length (words d b (vertices d a n ks) (words d a n ks)) ≡ length (words d (a * b) n ks)
tower-words d a b n ks =
    length-words d b (vertices d a n ks) (words d a n ks)
    ∙ ap (λ (x : ℕ). x * b ^ d) (length-words d a n ks)
    ∙ omega (arith, length-words d (a * b) n ks, ap (λ (x : ℕ). length ks * x) (pow-mul a b d))

pub middle-words : (d a b n : ℕ) (ks : List (List ℕ)) → 0 < b → length (words d a n ks) ≤ length (words d (a * b) n ks)
middle-words d a b n ks p =
    omega (
      arith,
      length-words d a n ks,
      length-words d (a * b) n ks,
      mul-le-mul_left (length ks) (pow-le-pow_left {n = a} {m = a * b} (omega (arith, mul-le-mul_left a p)) d),
    )

-- the facet at a place
pub omit-rest : (k : List ℕ) (i : ℕ) → i < length k → (v : ℕ) → occurrences (omit k i) v ≡ rest k (get_or k i 0) v
omit-rest [] i h v = absurd (not-suc-le-zero h)
omit-rest (x ∷ k) zero h v = omega arith
omit-rest (x ∷ k) (suc i) h v =
    omega (arith, omit-rest k i (le_of_suc-le-suc h) v, short (get_or k i 0) (times-at k i (le_of_suc-le-suc h)))
  where
    short : (y : ℕ) → 0 < occurrences k y → same v y ≤ occurrences k v
    short y g =
        elim (ℕ_discrete v y) [
          | yes e ↦ omega (arith, same-yes v y e, ap (occurrences k) e)
          | no e ↦ omega (arith, same-no v y e)
        ]

-- THE LAW ITERATES
pub composes-facewise : (d a b n : ℕ) (ks : List (List ℕ)) → Complex d n (In ks) → Facewise d (In ks) → WordsCompose d a b n ks
unfolding Facewise
composes-facewise d a b n ks c f =
    ⊎_elim (λ g. composes-by-facets d a b n ks c g.0 g.1) (λ g. composes-by-faces d a b n ks c g) f

pub facewise-words : (d R n : ℕ) (ks : List (List ℕ)) → 0 < R → Sound d n (In ks) → Facewise d (In ks) → Facewise d (In (words d R n ks))
unfolding Facewise
facewise-words d R n ks p s f =
    ⊎_elim (λ g. inl (g.0, facets-words d R n ks p s g.1)) (λ g. inr (faces-words d R n ks p s g)) f

-- a complex refined by one number after the other
pub record Stage (d n : ℕ) (ks : List (List ℕ)) : Type 0 where
  pub sound : Sound d n (In ks)
  pub facewise : Facewise d (In ks)
  pub nodup : Nodup ks

pub stage-next : (d R n : ℕ) (ks : List (List ℕ)) → 0 < R → Stage d n ks → Stage d (vertices d R n ks) (words d R n ks)
stage-next d R n ks p s = record {
  sound = sound-words d R n ks p s.sound;
  facewise = facewise-words d R n ks p s.sound s.facewise;
  nodup = nodup-words d R n ks p s.sound.complex s.nodup s.sound.distinct;
}
