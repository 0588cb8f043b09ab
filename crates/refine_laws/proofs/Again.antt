-- The refined words in the colex order of their cells: the same words as in visiting order, so a refined complex again, with as many cells. Assumes nothing.
use mathlib.Core.Path.{◌≡◌, refl, sym, ◌∙◌}
use mathlib.Core.Logic.{inl, inr, ⊎_elim}
use mathlib.Core.List.{List}
use Prim.Native.Nat.{ℕ, ◌*◌, ◌^◌, ◌<◌}
use native.Mathlib.Omega.{arith}
use lib.ListN.{length}
use Rattle.refine_lattice.specs.Complex.{Words, Apart, Refined, AgreeOnFaces, WordsAgreeOnFacets}
use Rattle.refine_lattice.specs.Refine.{words, vertices, share, In}
use Rattle.refine_lattice.specs.Conform.{Used, Distinct, Thin, Sound, Facewise}
use Rattle.refine_lattice.proofs.Count.{Nodup, no_longer}
use Rattle.refine_lattice.proofs.Whole.{sound-words, nodup-words}
use Rattle.refine_lattice.proofs.Fits.{Stage, facewise-words, length-words}
use Rattle.refine_lattice.proofs.Refines.{refined}
use Rattle.refine_results.specs.Refined.{refined_cells, refined_words}
use Rattle.refine_laws.proofs.Listed.{Listed}
use Rattle.refine_laws.proofs.Facets.{listed-nodup}
use Rattle.refine_laws.proofs.Arranged.{listed_by, in-by, of-by}

-- ---- words in another sequence
pub sound-along : (d n : ℕ) (K M : Words) → ((w : List ℕ) → K w → M w) → ((w : List ℕ) → M w → K w) → Sound d n K → Sound d n M
unfolding Used Distinct Thin
sound-along d n K M f g s = record {
  complex = record {
    long = λ k m. s.complex.long k (g k m);
    plain = λ k m. s.complex.plain k (g k m);
    below = λ k m. s.complex.below k (g k m);
  };
  used = λ v h. let (k, m, p) = s.used v h in (k, f k m, p);
  distinct = λ k l m p. s.distinct k l (g k m) (g l p);
  thin = λ h k l m a b c. s.thin h k l m (g k a) (g l b) (g m c);
}

pub facewise-along : (d : ℕ) (K M : Words) → ((w : List ℕ) → M w → K w) → Facewise d K → Facewise d M
unfolding Facewise WordsAgreeOnFacets AgreeOnFaces
facewise-along d K M g f =
    ⊎_elim (λ h. inl (h.0, λ k l a b. h.1 k l (g k a) (g l b))) (λ h. inr (λ k l a b. h k l (g k a) (g l b))) f

pub refined-along : (d R : ℕ) (K M N : Words) (share : ℕ → ℕ → ℕ) → ((w : List ℕ) → M w → N w) → ((w : List ℕ) → N w → M w)
    → Refined d R K M share → Refined d R K N share
unfolding Apart
refined-along d R K M N share f g r = record {
  each = λ m h. r.each m (g m h);
  all = λ k c h child. let (m, p, q) = r.all k c h child in (m, f m p, q);
  one = λ m m' h h'. r.one m m' (g m h) (g m' h');
}

-- agreement on facets, however it is given
pub facets-of : (d : ℕ) (K : Words) → Facewise d K → WordsAgreeOnFacets d K
unfolding Facewise WordsAgreeOnFacets AgreeOnFaces
facets-of d K f = ⊎_elim (λ h. h.1) (λ h k l a b e. h k l a b) f

-- ---- a complex refined by R, whether its words agree or not
module _ (d R n : ℕ) (ks : List (List ℕ)) (pos-R : 0 < R) (sound : Sound d n (In ks)) (nodup : Nodup ks) where
  abbrev N : ℕ
  N = vertices d R n ks

  abbrev ws : List (List ℕ)
  ws = words d R n ks

  pub visited : Sound d (vertices d R n ks) (In (words d R n ks))
  visited = sound-words d R n ks pos-R sound

  pub visited-nodup : Nodup (words d R n ks)
  visited-nodup = nodup-words d R n ks pos-R sound.complex nodup sound.distinct

  -- the cells in colex order, with their words
  pub refined-listed : Listed d (vertices d R n ks) (refined_cells d R n ks) (refined_words d R n ks)
  refined-listed = listed_by d N ws visited.complex

  pub to_sorted : (w : List ℕ) → In (words d R n ks) w → In (refined_words d R n ks) w
  to_sorted = in-by d N ws visited.complex visited.distinct

  pub of_sorted : (w : List ℕ) → In (refined_words d R n ks) w → In (words d R n ks) w
  of_sorted = of-by d N ws visited.complex visited.distinct

  -- they are a complex that is taken again
  pub sorted-sound : Sound d (vertices d R n ks) (In (refined_words d R n ks))
  sorted-sound = sound-along d N (In ws) (In (refined_words d R n ks)) to_sorted of_sorted visited

  pub sorted-nodup : Nodup (refined_words d R n ks)
  sorted-nodup = listed-nodup d N (refined_cells d R n ks) (refined_words d R n ks) refined-listed

  -- and the complex refined by R
  pub sorted-refined : Refined d R (In ks) (In (refined_words d R n ks)) (share d R n ks)
  sorted-refined =
      refined-along d R (In ks) (In ws) (In (refined_words d R n ks)) (share d R n ks) to_sorted of_sorted
      (refined d R n ks sound.complex.long sound.complex.below)

  -- each cell has R ^ d children, no two of them the same: so many cells there are
  pub sorted-many : length (refined_words d R n ks) ≡ length ks * R ^ d
  sorted-many =
      omega (
        arith,
        length-words d R n ks,
        no_longer (λ (x y : List ℕ). x ≡ y) ws (refined_words d R n ks) visited-nodup (λ w m. (w, to_sorted w m, refl)) (λ x x' y e e'. e ∙ sym e'),
        no_longer (λ (x y : List ℕ). x ≡ y) (refined_words d R n ks) ws sorted-nodup (λ w m. (w, of_sorted w m, refl)) (λ x x' y e e'. e ∙ sym e'),
      )

  pub cells-many : length (refined_cells d R n ks) ≡ length ks * R ^ d
  cells-many = omega (arith, sorted-many, refined-listed.many)

-- and where they agree they agree again
pub sorted-stage : (d R n : ℕ) (ks : List (List ℕ)) → 0 < R → Stage d n ks → Stage d (vertices d R n ks) (refined_words d R n ks)
sorted-stage d R n ks pos-R s = record {
  sound = sorted-sound d R n ks pos-R s.sound s.nodup;
  facewise =
      facewise-along d (In (words d R n ks)) (In (refined_words d R n ks)) (of_sorted d R n ks pos-R s.sound s.nodup)
      (facewise-words d R n ks pos-R s.sound s.facewise);
  nodup = sorted-nodup d R n ks pos-R s.sound s.nodup;
}
