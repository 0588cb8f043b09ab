-- THE COMPOSITION LAW over the definitions that the refinement calls promise. Assumes nothing.
use mathlib.Core.Path.{◌≡◌, sym, ap, ◌∙◌, subst}
use mathlib.Core.Logic.{⊎_elim}
use mathlib.Core.List.{List}
use Prim.Native.Nat.{ℕ, zero, suc, ◌*◌, ◌^◌, ◌≤◌, ◌<◌}
use native.Mathlib.Nat.{zero-mul, mul-zero, mul-le-mul_left, mul-le-mul_right, pow-le-pow_left}
use native.Mathlib.Decide.{ℕ_discrete}
use native.Mathlib.Omega.{arith}
use lib.ListN.{length}
use Rattle.refusal.specs.Limits.{most_cells}
use Rattle.lists.specs.Rows.{flat}
use Rattle.complex.specs.Cells.{cells_of}
use Rattle.complex.specs.Check.{Passed}
use Rattle.complex.specs.Facets.{Crowded}
use Rattle.complex.proofs.Fine.{fine-passed, passed-fine}
use Rattle.complex_cells.proofs.Order.{order-rising}
use Rattle.ordering_words.specs.Order.{Orders}
use Rattle.ordering_words.specs.Order as order
use Rattle.lists.specs.Words.{same}
use Rattle.refine_lattice.specs.Complex.{through, Alike}
use Rattle.refine_lattice.specs.Refine.{words, vertices, share, In}
use Rattle.refine_lattice.specs.Conform.{Used, Facewise}
use Rattle.lists.proofs.Words.{same-yes, same-no}
use Rattle.lists.proofs.Sums.{sum-ext, sum-scale, sum-pick}
use Rattle.refine_lattice.proofs.Faces.{by-facets, by-faces}
use Rattle.refine_lattice.proofs.Fits.{Stage, fits, length-words, tower-words}
use Rattle.refine_results.specs.Refined.{coarse, order_words, refined_cells, refined_words}
use Rattle.refine_results.specs.Results.{Refines}
use Rattle.refine_laws.specs.Refinement.{Counted}
use Rattle.refine_laws.specs.Composition.{Renamed, Composes, Law, LawSorted}
use Rattle.refine_laws.proofs.Listed.{Listed, number_of}
use Rattle.refine_laws.proofs.Facets.{listed-uncrowded, listed-agree-back}
use Rattle.refine_laws.proofs.Checked.{order-listed, stage-of, stage-sorted}
use Rattle.refine_laws.proofs.Flat.{flat-cells, flat-coarse, flat-passed, flat-orders, flat-words}
use Rattle.refine_laws.proofs.Renaming.{renamed}
use Rattle.refine_laws.proofs.Refinement.{share-old}
use Rattle.refine_laws.proofs.Again.{facets-of, refined-listed, sorted-stage, sorted-refined, sorted-many, cells-many}

same_turn : (x y : ℕ) → same x y ≡ same y x
same_turn x y =
    elim (ℕ_discrete x y) [
      | yes e ↦ same-yes x y e ∙ sym (same-yes y x (sym e))
      | no e ↦ same-no x y e ∙ sym (same-no y x (λ q. e (sym q)))
    ]

through-old : (n b x : ℕ) (outer inner : ℕ → ℕ → ℕ) → x < n → ((m : ℕ) → inner x m ≡ b * same x m) → (v : ℕ) → through n outer inner x v ≡ b * outer x v
through-old n b x outer inner h e v =
    sum-ext n (λ m. inner x m * outer m v) (λ m. b * (same m x * outer m v))
    (λ m l. ap (λ (z : ℕ). z * outer m v) (e m ∙ ap (λ (z : ℕ). b * z) (same_turn x m)) ∙ omega arith)
    ∙ sum-scale n b (λ m. same m x * outer m v)
    ∙ ap (λ (z : ℕ). b * z) (sum-pick n x (λ m. outer m v) h)

-- ---- words that are taken, refined by a and then along the children's own words by b
module _ (d a b n : ℕ) (ks : List (List ℕ)) (pa : 0 < a) (pb : 0 < b) (stage : Stage d n ks) where
  abbrev n₁ : ℕ
  n₁ = vertices d a n ks

  abbrev ks₁ : List (List ℕ)
  ks₁ = refined_words d a n ks

  abbrev n₂ : ℕ
  n₂ = vertices d b n₁ ks₁

  abbrev outer : ℕ → ℕ → ℕ
  outer = share d a n ks

  abbrev inner : ℕ → ℕ → ℕ
  inner = share d b n₁ ks₁

  pab : 0 < a * b
  pab = omega (arith, mul-le-mul_left a pb)

  middle : Stage d n₁ ks₁
  middle = sorted-stage d a n ks pa stage

  tower : Stage d n₂ (refined_words d b n₁ ks₁)
  tower = sorted-stage d b n₁ ks₁ pb middle

  single : Stage d (vertices d (a * b) n ks) (refined_words d (a * b) n ks)
  single = sorted-stage d (a * b) n ks pab stage

  pub alike : Alike d (In (refined_words d b n₁ ks₁)) (In (refined_words d (a * b) n ks)) (through n₁ outer inner) (share d (a * b) n ks)
  unfolding Facewise
  alike =
      ⊎_elim
      (λ f. by-facets d a b n n₁ (In ks) (In ks₁) (In (refined_words d b n₁ ks₁)) (In (refined_words d (a * b) n ks)) outer inner (share d (a * b) n ks)
      stage.sound.complex middle.sound.complex.below (sorted-refined d a n ks pa stage.sound stage.nodup) (sorted-refined d b n₁ ks₁ pb middle.sound middle.nodup)
      (sorted-refined d (a * b) n ks pab stage.sound stage.nodup) f.0 f.1)
      (λ f. by-faces d a b n n₁ (In ks) (In ks₁) (In (refined_words d b n₁ ks₁)) (In (refined_words d (a * b) n ks)) outer inner (share d (a * b) n ks)
      stage.sound.complex middle.sound.complex.below (sorted-refined d a n ks pa stage.sound stage.nodup) (sorted-refined d b n₁ ks₁ pb middle.sound middle.nodup)
      (sorted-refined d (a * b) n ks pab stage.sound stage.nodup) f)
      stage.facewise

  -- as many vertices
  pub as_many : vertices d b (vertices d a n ks) (refined_words d a n ks) ≡ vertices d (a * b) n ks
  as_many =
      omega (
        arith,
        fits d n₂ (vertices d (a * b) n ks) (In (refined_words d b n₁ ks₁)) (In (refined_words d (a * b) n ks)) (through n₁ outer inner)
            (share d (a * b) n ks) alike.forth alike.apart tower.sound.complex.long tower.sound.used single.sound.complex,
        fits d (vertices d (a * b) n ks) n₂ (In (refined_words d (a * b) n ks)) (In (refined_words d b n₁ ks₁)) (share d (a * b) n ks)
            (through n₁ outer inner) alike.back alike.apart' single.sound.complex.long single.sound.used tower.sound.complex,
      )

  -- and as many cells
  so-many : length ks₁ * b ^ d ≡ length ks * (a * b) ^ d
  so-many =
      omega (
        arith,
        ap (λ (z : ℕ). z * b ^ d) (sorted-many d a n ks pa stage.sound stage.nodup),
        length-words d (a * b) n ks,
        tower-words d a b n ks,
        length-words d b n₁ (words d a n ks),
        ap (λ (z : ℕ). z * b ^ d) (length-words d a n ks),
      )

  pub as_many_cells : length (refined_cells d b (vertices d a n ks) (refined_words d a n ks)) ≡ length (refined_cells d (a * b) n ks)
  as_many_cells =
      cells-many d b n₁ ks₁ pb middle.sound middle.nodup ∙ so-many ∙ sym (cells-many d (a * b) n ks pab stage.sound stage.nodup)

  fixed : (x : ℕ) → x < n → (v : ℕ) → through n₁ outer inner x v ≡ share d (a * b) n ks x v
  fixed x h v =
      through-old n₁ b x outer inner (omega arith) (share-old d b n₁ ks₁ x (omega arith)) v
      ∙ ap (λ (z : ℕ). b * z) (share-old d a n ks x h v)
      ∙ omega arith
      ∙ sym (share-old d (a * b) n ks x h v)

  -- in any dimension: the tower is the single refinement, renamed
  pub same-words : Renamed n (vertices d b (vertices d a n ks) (refined_words d a n ks)) (vertices d (a * b) n ks)
      (refined_words d b (vertices d a n ks) (refined_words d a n ks)) (refined_words d (a * b) n ks)
      (through (vertices d a n ks) (share d a n ks) (share d b (vertices d a n ks) (refined_words d a n ks))) (share d (a * b) n ks)
  same-words =
      renamed d n n₂ (vertices d (a * b) n ks) (refined_words d b n₁ ks₁) (refined_words d (a * b) n ks) (through n₁ outer inner) (share d (a * b) n ks)
      tower.sound.complex tower.sound.used single.sound.complex single.sound.used alike (omega arith) (omega arith) fixed

  -- the limits: what the single refinement keeps, the tower keeps
  module _ (fit : Refines d (a * b) n ks) where
    first_fits : Refines d a n ks
    first_fits = record {
      least = pa;
      most = omega (arith, fit.most, mul-le-mul_left a pb);
      few_cells =
          omega (
            arith,
            fit.few_cells,
            mul-le-mul_left (length ks) (pow-le-pow_left {n = a} {m = a * b} (omega (arith, mul-le-mul_left a pb)) d),
          );
      few_vertices = omega (arith, fit.few_vertices, as_many);
    }

    second_fits : Refines d b n₁ ks₁
    second_fits = record {
      least = pb;
      most = omega (arith, fit.most, mul-le-mul_right b pa);
      few_cells = omega (arith, fit.few_cells, so-many);
      few_vertices = omega (arith, fit.few_vertices, as_many);
    }

    -- the cells handed out by the first call, and their words
    abbrev cs₁ : List (List ℕ)
    cs₁ = refined_cells d a n ks

    listed₁ : Listed d n₁ cs₁ ks₁
    listed₁ = refined-listed d a n ks pa stage.sound stage.nodup

    module _ (small : d ≤ 3) (some : 0 < n) where
      some-cells : 0 < length cs₁
      unfolding Used
      some-cells =
          let (k, m, p) = middle.sound.used 0 (omega arith) in
          let (c, h, e) = number_of d n₁ cs₁ ks₁ listed₁ k m in
          omega arith

      not-too-many : length cs₁ ≤ most_cells
      not-too-many = omega (arith, first_fits.few_cells, sorted-many d a n ks pa stage.sound stage.nodup, listed₁.many)

      passed : Passed d (flat cs₁)
      passed = flat-passed d n₁ cs₁ ks₁ listed₁ some-cells middle.sound.used small not-too-many first_fits.few_vertices

      same-cells : cells_of d (flat cs₁) ≡ cs₁
      same-cells = flat-cells d n₁ cs₁ ks₁ listed₁ (order-rising (suc d) (words d a n ks))

      same-order : order_words d (flat cs₁) (flat ks₁) ≡ ks₁
      same-order = flat-words d n₁ cs₁ ks₁ listed₁ (order-rising (suc d) (words d a n ks))

      counted : coarse (flat cs₁) ≡ n₁
      counted = flat-coarse d n₁ cs₁ ks₁ listed₁ some-cells middle.sound.used

      pub composed : Composes d a b n ks (flat (refined_cells d a n ks)) (flat (refined_words d a n ks))
      composed = record {
        first = first_fits;
        accepted = record {
          fine = passed-fine d (flat cs₁) passed;
          uncrowded =
              subst (λ (cs : List (List ℕ)). Crowded d cs → ⊥) (sym same-cells) (listed-uncrowded d n₁ cs₁ ks₁ listed₁ middle.sound.thin);
        };
        ordered = record {
          orders = subst (λ (cs : List (List ℕ)). Orders d cs (flat ks₁)) (sym same-cells) (flat-orders d n₁ cs₁ ks₁ listed₁);
          agrees =
              subst (λ (ws : List (List ℕ)). order.AgreeOnFacets d (cells_of d (flat cs₁)) ws) (sym same-order)
              (subst (λ (cs : List (List ℕ)). order.AgreeOnFacets d cs ks₁) (sym same-cells)
              (listed-agree-back d n₁ cs₁ ks₁ listed₁ (facets-of d (In ks₁) middle.facewise)));
        };
        counted = counted;
        second = subst (λ (ws : List (List ℕ)). Refines d b (coarse (flat cs₁)) ws) (sym same-order) (subst (λ (m : ℕ). Refines d b m ks₁) (sym counted) second_fits);
        as_many_cells =
            subst (λ (ws : List (List ℕ)). length (refined_cells d b (coarse (flat cs₁)) ws) ≡ length (refined_cells d (a * b) n ks)) (sym same-order)
            (subst (λ (m : ℕ). length (refined_cells d b m ks₁) ≡ length (refined_cells d (a * b) n ks)) (sym counted) as_many_cells);
        as_many_vertices =
            subst (λ (ws : List (List ℕ)). vertices d b (coarse (flat cs₁)) ws ≡ vertices d (a * b) n ks) (sym same-order)
            (subst (λ (m : ℕ). vertices d b m ks₁ ≡ vertices d (a * b) n ks) (sym counted) as_many);
        same =
            subst
            (λ (ws : List (List ℕ)).
            Renamed n (vertices d b (coarse (flat cs₁)) ws) (vertices d (a * b) n ks) (refined_words d b (coarse (flat cs₁)) ws) (refined_words d (a * b) n ks)
            (through (coarse (flat cs₁)) (share d a n ks) (share d b (coarse (flat cs₁)) ws)) (share d (a * b) n ks))
            (sym same-order)
            (subst
            (λ (m : ℕ).
            Renamed n (vertices d b m ks₁) (vertices d (a * b) n ks) (refined_words d b m ks₁) (refined_words d (a * b) n ks)
            (through m (share d a n ks) (share d b m ks₁)) (share d (a * b) n ks))
            (sym counted) same-words);
      }

-- a product of 1 or more: both are 1 or more
factors : (a b : ℕ) → 1 ≤ a * b → (1 ≤ a) × (1 ≤ b)
factors zero b h = absurd (omega (arith, zero-mul b))
factors (suc a) zero h = absurd (omega (arith, mul-zero (suc a)))
factors (suc a) (suc b) h = (omega arith, omega arith)

-- DEMAND 3, for an order that agrees on every shared facet
pub composition : (d a b : ℕ) (ws os : List ℕ) → Law d a b ws os
unfolding Law
composition d a b ws os acc ord fit =
    let (pa, pb) = factors a b fit.least in
    let p : Passed d ws = fine-passed d ws acc.fine in
    let ks : List (List ℕ) = order_words d ws os in
    composed d a b (coarse ws) ks pa pb (stage-of d ws p ks (order-listed d ws p os ord.orders) acc.uncrowded ord.agrees) fit p.small (omega arith)

-- and where no order is given
pub composition-sorted : (d a b : ℕ) (ws : List ℕ) → LawSorted d a b ws
unfolding LawSorted
composition-sorted d a b ws acc fit =
    let (pa, pb) = factors a b fit.least in
    let p : Passed d ws = fine-passed d ws acc.fine in
    composed d a b (coarse ws) (cells_of d ws) pa pb (stage-sorted d ws p acc.uncrowded) fit p.small (omega arith)

-- there is only one such renaming: the single refinement counts no vertex twice
pub renaming-one : (d R n N : ℕ) (ts ks : List (List ℕ)) (shares : ℕ → ℕ → ℕ) → Counted d R n ks
    → (r r' : Renamed n N (vertices d R n ks) ts (refined_words d R n ks) shares (share d R n ks)) → (x : ℕ) → x < N → r.to x ≡ r'.to x
renaming-one d R n N ts ks shares c r r' x h = c.once (r.to x) (r'.to x) (r.into x h) (r'.into x h) (λ v. r.keeps x h v ∙ sym (r'.keeps x h v))
