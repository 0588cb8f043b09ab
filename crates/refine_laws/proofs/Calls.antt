-- The law of three calls over what they say and hand out, from the law of their definitions: proofs/Demand reads it from the caller's lists. Assumes nothing.
use Rattle.refusal.specs.declared.Refusal.{Refusal}
use Rattle.std.specs.Prelude.{Result}
use mathlib.Core.Path.{◌≡◌, sym, ap, ◌∙◌, subst}
use mathlib.Core.List.{List}
use Prim.Native.Nat.{ℕ, suc, ◌*◌, ◌≤◌, ◌<◌}
use native.Mathlib.Omega.{arith}
use lib.ListN.{length}
use Rattle.lists.specs.Rows.{rows, flat}
use Rattle.complex.specs.Check.{Passed}
use Rattle.complex.specs.Cells.{cells_of}
use Rattle.complex.proofs.Fine.{fine-passed}
use Rattle.ordering_words.specs.Order.{Orders}
use Rattle.refine_lattice.specs.Complex.{through}
use Rattle.refine_lattice.specs.Refine.{vertices, share}
use Rattle.lists.proofs.Sums.{sum-ext}
use Rattle.refine_lattice.proofs.Fits.{Stage}
use Rattle.refine_results.specs.declared.Refinement.{Refinement}
use Rattle.refine_results.specs.Says.{sizes}
use Rattle.refine_results.specs.Refined.{coarse, order_words, refined_cells, refined_words}
use Rattle.refine_results.specs.Results.{Results, Refines, results_of}
use Rattle.refine_laws.specs.Composition.{Accepted, Renamed, Composes}
use Rattle.refine_laws.specs.Calls.{told, Tower}
use Rattle.refine_laws.specs.Demand.{children_said, vertices_said}
use Rattle.refine_laws.proofs.Checked.{order-listed, stage-of}
use Rattle.lists.proofs.Flat.{rows-flat}
use Rattle.refine_laws.proofs.Again.{sorted-stage}
use Rattle.refine_laws.proofs.Made.{Makes}
use Rattle.refine_laws.proofs.Told.{told-share}

-- ---- the tower
module _ (d a b : ℕ) (ws : List ℕ) (Good : Type 0) (ks : List (List ℕ)) (stage : Accepted d ws → Good → Stage d (coarse ws) ks) (law : Accepted d ws → Good → Refines d (a * b) (coarse ws) ks → Composes d a b (coarse ws) ks (flat (refined_cells d a (coarse ws) ks)) (flat (refined_words d a (coarse ws) ks))) where
  abbrev n : ℕ
  n = coarse ws

  abbrev ws₁ : List ℕ
  ws₁ = flat (refined_cells d a n ks)

  abbrev os₁ : List ℕ
  os₁ = flat (refined_words d a n ks)

  abbrev n₁ : ℕ
  n₁ = coarse ws₁

  abbrev ks₁ : List (List ℕ)
  ks₁ = order_words d ws₁ os₁

  abbrev single : Results
  single = results_of d (a * b) n (cells_of d ws) ks

  abbrev first : Results
  first = results_of d a n (cells_of d ws) ks

  abbrev second : Results
  second = results_of d b n₁ (cells_of d ws₁) ks₁

  module _ (s : Stage d n ks) (c : Composes d a b n ks ws₁ os₁) (pab : 1 ≤ a * b) where
    stage₁ : Stage d n₁ ks₁
    stage₁ =
        let p : Passed d ws₁ = fine-passed d ws₁ c.accepted.fine in
        stage-of d ws₁ p ks₁ (order-listed d ws₁ p os₁ c.ordered.orders) c.accepted.uncrowded c.ordered.agrees

    abbrev N : ℕ
    N = vertices d (a * b) n ks

    single-words : rows (suc d) single.words_out ≡ refined_words d (a * b) n ks
    single-words = rows-flat d (refined_words d (a * b) n ks) (sorted-stage d (a * b) n ks pab s).sound.complex.long

    second-words : rows (suc d) second.words_out ≡ refined_words d b n₁ ks₁
    second-words = rows-flat d (refined_words d b n₁ ks₁) (sorted-stage d b n₁ ks₁ c.second.least stage₁).sound.complex.long

    through-told : (x : ℕ) → x < vertices d b n₁ ks₁ → (v : ℕ) → through n₁ (told d a n first) (told d b n₁ second) x v ≡ through n₁ (share d a n ks) (share d b n₁ ks₁) x v
    through-told x h v =
        sum-ext n₁ (λ m. told d b n₁ second x m * told d a n first m v) (λ m. share d b n₁ ks₁ x m * share d a n ks m v)
        (λ m l.
        ap (λ (y : ℕ). y * told d a n first m v) (told-share d b n₁ ks₁ stage₁.sound.complex.long (cells_of d ws₁) x m h)
        ∙ ap (λ (y : ℕ). share d b n₁ ks₁ x m * y) (told-share d a n ks s.sound.complex.long (cells_of d ws) m v (omega (arith, c.counted))))

    renamed : Renamed n (vertices d b n₁ ks₁) (vertices d (a * b) n ks) (refined_words d b n₁ ks₁) (refined_words d (a * b) n ks)
        (through n₁ (told d a n first) (told d b n₁ second)) (told d (a * b) n single)
    renamed = record {
      to = c.same.to;
      from = c.same.from;
      into = c.same.into;
      back = c.same.back;
      from_to = c.same.from_to;
      to_from = c.same.to_from;
      fixes = c.same.fixes;
      keeps = λ x h v.
          told-share d (a * b) n ks s.sound.complex.long (cells_of d ws) (c.same.to x) v (c.same.into x h) ∙ c.same.keeps x h v ∙ sym (through-told x h v);
      words = c.same.words;
      words_back = c.same.words_back;
    }

    same_lists : Renamed n (vertices d (a * b) n ks) (vertices d (a * b) n ks) (rows (suc d) second.words_out) (rows (suc d) single.words_out)
        (through n₁ (told d a n first) (told d b n₁ second)) (told d (a * b) n single)
    same_lists =
        subst (λ (y : List (List ℕ)). Renamed n N N (rows (suc d) second.words_out) y (through n₁ (told d a n first) (told d b n₁ second)) (told d (a * b) n single)) (sym single-words)
        (subst (λ (y : List (List ℕ)). Renamed n N N y (refined_words d (a * b) n ks) (through n₁ (told d a n first) (told d b n₁ second)) (told d (a * b) n single)) (sym second-words)
        (subst
        (λ (m : ℕ). Renamed n m N (refined_words d b n₁ ks₁) (refined_words d (a * b) n ks) (through n₁ (told d a n first) (told d b n₁ second)) (told d (a * b) n single))
        c.as_many_vertices renamed))

    -- the second call, on what the first hands out
    over : (r₁ r₂ : Result Refinement Refusal) (h₂ : Results) → r₁ ≡ sizes (length (refined_cells d a n ks)) (vertices d a n ks)
        → Makes d b ws₁ (Orders d (cells_of d ws₁) os₁) ks₁ r₂ h₂
        → Tower d a b ws (length (refined_cells d (a * b) n ks)) (vertices d (a * b) n ks) single r₁ first r₂ h₂
    over r₁ r₂ h₂ e m =
        record {
          children = length (refined_cells d a n ks);
          first = e ∙ ap (sizes (length (refined_cells d a n ks))) (sym c.counted);
          second = m.says ∙ ap (λ (i : ℕ). sizes i (vertices d b n₁ ks₁)) c.as_many_cells ∙ ap (sizes (length (refined_cells d (a * b) n ks))) c.as_many_vertices;
          words =
              subst
              (λ (y : Results). Renamed n N N (rows (suc d) y.words_out) (rows (suc d) single.words_out) (through n₁ (told d a n first) (told d b n₁ y)) (told d (a * b) n single))
              (sym m.hands) same_lists;
        }

  pub tower-of : (m M : ℕ) (h : Results) (r₁ : Result Refinement Refusal) (h₁ : Results) (r₂ : Result Refinement Refusal) (h₂ : Results)
      → Makes d (a * b) ws Good ks (sizes m M) h
      → Makes d a ws Good ks r₁ h₁
      → Makes d b h₁.cells_out (Orders d (cells_of d h₁.cells_out) h₁.words_out) (order_words d h₁.cells_out h₁.words_out) r₂ h₂
      → Tower d a b ws m M h r₁ h₁ r₂ h₂
  tower-of m M h r₁ h₁ r₂ h₂ k k₁ k₂ =
      let c : Composes d a b n ks ws₁ os₁ = law k.accepted k.good k.fits in
      let s : Stage d n ks = stage k.accepted k.good in
      let step : Makes d b first.cells_out (Orders d (cells_of d first.cells_out) first.words_out) (order_words d first.cells_out first.words_out) r₂ h₂
      → Tower d a b ws (length (refined_cells d (a * b) n ks)) (vertices d (a * b) n ks) single r₁ first r₂ h₂ =
      over s c k.fits.least r₁ r₂ h₂ k₁.says in
      subst (λ (i : ℕ). Tower d a b ws i M h r₁ h₁ r₂ h₂) (ap children_said (sym k.says))
      (subst (λ (i : ℕ). Tower d a b ws (length (refined_cells d (a * b) n ks)) i h r₁ h₁ r₂ h₂) (ap vertices_said (sym k.says))
      (subst (λ (y : Results). Tower d a b ws (length (refined_cells d (a * b) n ks)) (vertices d (a * b) n ks) y r₁ h₁ r₂ h₂) (sym k.hands)
      (subst
      (λ (y : Results).
      Makes d b y.cells_out (Orders d (cells_of d y.cells_out) y.words_out) (order_words d y.cells_out y.words_out) r₂ h₂
      → Tower d a b ws (length (refined_cells d (a * b) n ks)) (vertices d (a * b) n ks) single r₁ y r₂ h₂)
      (sym k₁.hands) step k₂)))
