-- How many facets and edges a glued grid has, where 7 is not given: twice the facets is d + 1 facets for each cell, and the border once more. In dimension 2 the facets
-- are the edges, and in dimension 1 the cells are. Assumes nothing.
use Rattle.refusal.specs.Says.{fine}
use mathlib.Core.Path.{◌≡◌, refl, sym, ap, subst, ◌∙◌}
use mathlib.Core.List.{List, [], ◌∷◌}
use Prim.Native.Nat.{ℕ, zero, suc, ◌+◌, ◌*◌, ◌≤◌, ◌<◌}
use native.Mathlib.Omega.{arith}
use lib.ListN.{length, get_or}
use Rattle.complex.specs.Facets.{cell_at, facet_at, Crowded, Cells}
use Rattle.complex.specs.Skeleton.{facets_of, border_of}
use Rattle.complex.specs.Skeleton as Skeleton
use Rattle.complex_cells.proofs.Words.{Word, In, Rising, at_in, in-at, one_list}
use Rattle.complex_cells.proofs.Order.{Colex, colex-irr, colex-trans}
use Rattle.complex_mates.proofs.Places.{slots-pos}
use Rattle.quotient.specs.declared.Grid.{Grid}
use Rattle.quotient.specs.Fold.{product, factorial}
use Rattle.quotient.specs.Shape.{cells_on, check_of}
use Rattle.quotient.proofs.Taken.{taken-low}
use Rattle.grid_words.specs.Cells.{flat_words}
use Rattle.grid_lengths.specs.Edges.{edges_of}
use Rattle.grid_mesh.specs.Words.{glued_cells}
use Rattle.skeleton.proofs.Laws.{cells-rising, edges-rising, edges-from, edges-has, facets-rising, facets-from, facets-has}
use Rattle.skeleton.proofs.Count.{rows-count}
use Rattle.grid_mesh.proofs.Words.{glued-good}
use Rattle.grid_laws.proofs.Count.{cells-number}
use Rattle.grid_laws.proofs.Edges.{edges-same}

-- ---- triangles: a facet is a pair of vertices
facet-three : (w : Word) → length w ≡ 3 → (facet_at w 0 ≡ get_or w 1 0 ∷ get_or w 2 0 ∷ []) × (facet_at w 1 ≡ get_or w 0 0 ∷ get_or w 2 0 ∷ []) × (facet_at w 2 ≡ get_or w 0 0 ∷ get_or w 1 0 ∷ [])
facet-three [] e = absurd (let z : ⊥ = omega arith in z)
facet-three (a ∷ []) e = absurd (let z : ⊥ = omega arith in z)
facet-three (a ∷ b ∷ []) e = absurd (let z : ⊥ = omega arith in z)
facet-three (a ∷ b ∷ c ∷ []) e = (refl, refl, refl)
facet-three (a ∷ b ∷ c ∷ x ∷ w) e = absurd (let z : ⊥ = omega arith in z)

module _ (cs : List Word) (good : Cells 2 cs) where
  facet-edge : (c i : ℕ) → c < length cs → i ≤ 2 → In (facet_at (cell_at cs c) i) (Skeleton.edges_of cs)
  facet-edge c zero h l = rw (facet-three (cell_at cs c) (good.long c h)).0 (edges-has cs c 1 2 h (omega arith) (omega (arith, good.long c h)))
  facet-edge c (suc zero) h l = rw (facet-three (cell_at cs c) (good.long c h)).1 (edges-has cs c 0 2 h (omega arith) (omega (arith, good.long c h)))
  facet-edge c (suc (suc zero)) h l = rw (facet-three (cell_at cs c) (good.long c h)).2 (edges-has cs c 0 1 h (omega arith) (omega (arith, good.long c h)))
  facet-edge c (suc (suc (suc i))) h l = absurd (let z : ⊥ = omega arith in z)

  facet-in : (c i : ℕ) → c < length cs → i ≤ 2 → In (facet_at (cell_at cs c) i) (facets_of 2 cs)
  facet-in c i h l = facets-has 2 cs good c i (record { some = omega arith; cell = h; place = l })

  edge-facet : (c i j : ℕ) → c < length cs → i < j → j < 3 → In (get_or (cell_at cs c) i 0 ∷ get_or (cell_at cs c) j 0 ∷ []) (facets_of 2 cs)
  edge-facet c zero (suc zero) h l m = subst (λ (f : Word). In f (facets_of 2 cs)) (facet-three (cell_at cs c) (good.long c h)).2 (facet-in c 2 h (omega arith))
  edge-facet c zero (suc (suc zero)) h l m = subst (λ (f : Word). In f (facets_of 2 cs)) (facet-three (cell_at cs c) (good.long c h)).1 (facet-in c 1 h (omega arith))
  edge-facet c (suc zero) (suc (suc zero)) h l m = subst (λ (f : Word). In f (facets_of 2 cs)) (facet-three (cell_at cs c) (good.long c h)).0 (facet-in c 0 h (omega arith))
  edge-facet c i zero h l m = absurd (let z : ⊥ = omega arith in z)
  edge-facet c (suc i) (suc zero) h l m = absurd (let z : ⊥ = omega arith in z)
  edge-facet c (suc (suc i)) (suc (suc zero)) h l m = absurd (let z : ⊥ = omega arith in z)
  edge-facet c i (suc (suc (suc j))) h l m = absurd (let z : ⊥ = omega arith in z)

  -- in dimension 2 the facets are the edges
  pub facets-edges : facets_of 2 cs ≡ Skeleton.edges_of cs
  facets-edges =
      one_list (Colex 2) (colex-irr 2) (colex-trans 2) (facets_of 2 cs) (Skeleton.edges_of cs) (facets-rising 2 cs) (edges-rising cs)
      (λ f m. let (c, i, u, e) = facets-from 2 cs f m in subst (λ (z : Word). In z (Skeleton.edges_of cs)) e (facet-edge c i u.cell u.place))
      (λ f m. let (c, i, j, h, l, k, e) = edges-from cs f m in subst (λ (z : Word). In z (facets_of 2 cs)) (sym e) (edge-facet c i j h l (omega (arith, good.long c h))))

-- ---- lines: a cell is a pair of vertices
pair_is : (w : Word) → length w ≡ 2 → w ≡ get_or w 0 0 ∷ get_or w 1 0 ∷ []
pair_is [] e = absurd (let z : ⊥ = omega arith in z)
pair_is (a ∷ []) e = absurd (let z : ⊥ = omega arith in z)
pair_is (a ∷ b ∷ []) e = refl
pair_is (a ∷ b ∷ c ∷ w) e = absurd (let z : ⊥ = omega arith in z)

module _ (cs : List Word) (good : Cells 1 cs) (up : Rising (Colex 2) cs) where
  edge-cell : (c i j : ℕ) → c < length cs → i < j → j < 2 → In (get_or (cell_at cs c) i 0 ∷ get_or (cell_at cs c) j 0 ∷ []) cs
  edge-cell c zero (suc zero) h l m = subst (λ (w : Word). In w cs) (pair_is (cell_at cs c) (good.long c h)) (in-at cs c h)
  edge-cell c i zero h l m = absurd (let z : ⊥ = omega arith in z)
  edge-cell c (suc i) (suc zero) h l m = absurd (let z : ⊥ = omega arith in z)
  edge-cell c i (suc (suc j)) h l m = absurd (let z : ⊥ = omega arith in z)

  -- in dimension 1 the cells are the edges
  pub cells-edges : Skeleton.edges_of cs ≡ cs
  cells-edges =
      one_list (Colex 2) (colex-irr 2) (colex-trans 2) (Skeleton.edges_of cs) cs (edges-rising cs) up
      (λ f m. let (c, i, j, h, l, k, e) = edges-from cs f m in subst (λ (z : Word). In z cs) (sym e) (edge-cell c i j h l (omega (arith, good.long c h))))
      (λ f m. let (c, h, e) = at_in f cs m in subst (λ (z : Word). In z (Skeleton.edges_of cs)) (sym (pair_is (cell_at cs c) (good.long c h)) ∙ e) (edges-has cs c 0 1 h (omega arith) (omega (arith, good.long c h))))

-- ---- a grid that is taken
module _ (g : Grid) (taken : check_of g ≡ fine) where
  -- d + 1 facets for each of d! cells for each box, each facet twice but for the border
  pub facets-number : (Crowded g.d (glued_cells g) → ⊥) → factorial g.d * product (cells_on g) g.d * suc g.d + length (border_of g.d (glued_cells g)) ≡ 2 * length (facets_of g.d (glued_cells g))
  facets-number free =
      ap (λ (n : ℕ). n * suc g.d + length (border_of g.d (glued_cells g))) (sym (cells-number g taken free))
      ∙ ap (λ (k : ℕ). length (glued_cells g) * k + length (border_of g.d (glued_cells g))) (sym (slots-pos g.d (taken-low g taken)))
      ∙ rows-count g.d (glued_cells g) (glued-good g taken) free

  -- in dimension 2: three for each of two triangles for each box
  pub edges-number : g.d ≡ 2 → (Crowded g.d (glued_cells g) → ⊥) → 6 * product (cells_on g) g.d + length (border_of g.d (glued_cells g)) ≡ 2 * length (edges_of g)
  unfolding product
  edges-number e free =
      let a : length (edges_of g) ≡ length (facets_of g.d (glued_cells g)) =
      ap length (edges-same g taken ∙ sym (facets-edges (glued_cells g) (subst (λ (d : ℕ). Cells d (glued_cells g)) e (glued-good g taken)))) ∙ ap (λ (d : ℕ). length (facets_of d (glued_cells g))) (sym e) in
      let b : factorial g.d * product (cells_on g) g.d * suc g.d ≡ 2 * product (cells_on g) g.d * 3 = ap (λ (d : ℕ). factorial d * product (cells_on g) g.d * suc d) e in
      omega (arith, facets-number free)

  -- in dimension 1: the cells
  pub edges-line : g.d ≡ 1 → edges_of g ≡ glued_cells g
  edges-line e =
      edges-same g taken
      ∙ cells-edges (glued_cells g) (subst (λ (d : ℕ). Cells d (glued_cells g)) e (glued-good g taken)) (subst (λ (n : ℕ). Rising (Colex n) (glued_cells g)) (ap (λ (d : ℕ). d + 1) e) (cells-rising g.d (flat_words g)))
