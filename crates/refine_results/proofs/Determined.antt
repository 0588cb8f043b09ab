-- How a refinement ends determines what it says and hands out: two refinements of equal cells and words, with result lists as long, end alike. Assumes nothing.
use Rattle.refusal.specs.declared.Refusal.{Refusal}
use Rattle.std.specs.Prelude.{Result}
use mathlib.Core.List.{List}
use mathlib.Core.Path.{◌≡◌, refl, sym, ap, ◌∙◌}
use Prim.Native.Nat.{ℕ, suc}
use native.Mathlib.Omega.{arith}
use lib.IntN.{ℤ}
use lib.Ieee.{Float}
use Rattle.refusal.specs.Lent.{onto}
use Rattle.lists.specs.Rows.{cut}
use Rattle.refine_results.specs.declared.Refinement.{Refinement}
use Rattle.refine_results.specs.Results.{Results, Lengths, lengths_of, Inside, Refines, Finishes, outside, many_cells, many_vertices, short, made, Stored}
use Rattle.refine_results.specs.WorkStage.{Handed}

within : (d R n : ℕ) (ks : List (List ℕ)) → Refines d R n ks → Inside R
within d R n ks f = record { least = f.least; most = f.most }

pub finishes-one : (d R n : ℕ) (cs ks : List (List ℕ)) (g : Lengths) (r r' : Result Refinement Refusal) (h h' : Results) → Finishes d R n cs ks g r h → Finishes d R n cs ks g r' h' → (r ≡ r') × (h ≡ h')
finishes-one d R n cs ks g r r' h h' (outside x) (outside y) = (refl, refl)
finishes-one d R n cs ks g r r' h h' (outside x) (many_cells w y) = absurd (x w)
finishes-one d R n cs ks g r r' h h' (outside x) (many_vertices w f y) = absurd (x w)
finishes-one d R n cs ks g r r' h h' (outside x) (short f y) = absurd (x (within d R n ks f))
finishes-one d R n cs ks g r r' h h' (outside x) (made f y) = absurd (x (within d R n ks f))
finishes-one d R n cs ks g r r' h h' (many_cells w x) (outside y) = absurd (y w)
finishes-one d R n cs ks g r r' h h' (many_cells w x) (many_cells v y) = (refl, refl)
finishes-one d R n cs ks g r r' h h' (many_cells w x) (many_vertices v f y) = absurd (omega arith)
finishes-one d R n cs ks g r r' h h' (many_cells w x) (short f y) = absurd (omega (arith, f.few_cells))
finishes-one d R n cs ks g r r' h h' (many_cells w x) (made f y) = absurd (omega (arith, f.few_cells))
finishes-one d R n cs ks g r r' h h' (many_vertices w e x) (outside y) = absurd (y w)
finishes-one d R n cs ks g r r' h h' (many_vertices w e x) (many_cells v y) = absurd (omega arith)
finishes-one d R n cs ks g r r' h h' (many_vertices w e x) (many_vertices v f y) = (refl, refl)
finishes-one d R n cs ks g r r' h h' (many_vertices w e x) (short f y) = absurd (omega (arith, f.few_vertices))
finishes-one d R n cs ks g r r' h h' (many_vertices w e x) (made f y) = absurd (omega (arith, f.few_vertices))
finishes-one d R n cs ks g r r' h h' (short e x) (outside y) = absurd (y (within d R n ks e))
finishes-one d R n cs ks g r r' h h' (short e x) (many_cells v y) = absurd (omega (arith, e.few_cells))
finishes-one d R n cs ks g r r' h h' (short e x) (many_vertices v f y) = absurd (omega (arith, e.few_vertices))
finishes-one d R n cs ks g r r' h h' (short e x) (short f y) = (refl, refl)
finishes-one d R n cs ks g r r' h h' (short e x) (made f y) = absurd (x y)
finishes-one d R n cs ks g r r' h h' (made e x) (outside y) = absurd (y (within d R n ks e))
finishes-one d R n cs ks g r r' h h' (made e x) (many_cells v y) = absurd (omega (arith, e.few_cells))
finishes-one d R n cs ks g r r' h h' (made e x) (many_vertices v f y) = absurd (omega (arith, e.few_vertices))
finishes-one d R n cs ks g r r' h h' (made e x) (short f y) = absurd (y x)
finishes-one d R n cs ks g r r' h h' (made e x) (made f y) = (refl, refl)

-- equal results are stored alike
pub record Same (a a' b b' c c' : List ℕ) (d d' : List Float) (e e' : List ℤ) (f f' g g' : List ℕ) (h h' : List Float) : Type 0 where
  pub cells_same : a ≡ a'
  pub words_same : b ≡ b'
  pub parents-same : c ≡ c'
  pub jacobians-same : d ≡ d'
  pub wholes-same : e ≡ e'
  pub vertices-same : f ≡ f'
  pub weights-same : g ≡ g'
  pub shares-same : h ≡ h'

pub stored_one : (h h' : Results) → h ≡ h' → (cells x x' words y y' parents z z' : List ℕ) (jacobians j j' : List Float) (wholes w w' : List ℤ) (vertices v v' weights u u' : List ℕ) (shares s s' : List Float)
    → Stored h cells x words y parents z jacobians j wholes w vertices v weights u shares s → Stored h' cells x' words y' parents z' jacobians j' wholes w' vertices v' weights u' shares s'
    → Same x x' y y' z z' j j' w w' v v' u u' s s'
stored_one h h' e cells x x' words y y' parents z z' jacobians j j' wholes w w' vertices v v' weights u u' shares s s' p q =
    record {
      cells_same = p.in_cells ∙ ap (λ (k : Results). onto k.cells_out cells) e ∙ sym q.in_cells;
      words_same = p.in_words ∙ ap (λ (k : Results). onto k.words_out words) e ∙ sym q.in_words;
      parents-same = p.in_parents ∙ ap (λ (k : Results). onto k.parents_out parents) e ∙ sym q.in_parents;
      jacobians-same = p.in_jacobians ∙ ap (λ (k : Results). onto k.jacobians_out jacobians) e ∙ sym q.in_jacobians;
      wholes-same = p.in_wholes ∙ ap (λ (k : Results). onto k.wholes_out wholes) e ∙ sym q.in_wholes;
      vertices-same = p.in_vertices ∙ ap (λ (k : Results). onto k.birth_vertices vertices) e ∙ sym q.in_vertices;
      weights-same = p.in_weights ∙ ap (λ (k : Results). onto k.birth_weights weights) e ∙ sym q.in_weights;
      shares-same = p.in_shares ∙ ap (λ (k : Results). onto k.birth_shares shares) e ∙ sym q.in_shares;
    }

-- two exits of one refinement: what is said and every result list are equal
pub handed-one : (d R n m : ℕ) (coarse along : List ℕ) (r r' : Result Refinement Refusal) (cells x x' words y y' parents z z' : List ℕ) (jacobians j j' : List Float) (wholes w w' : List ℤ) (vertices v v' weights u u' : List ℕ) (shares s s' : List Float)
    → Handed d R n m coarse along r cells x words y parents z jacobians j wholes w vertices v weights u shares s
    → Handed d R n m coarse along r' cells x' words y' parents z' jacobians j' wholes w' vertices v' weights u' shares s'
    → (r ≡ r') × Same x x' y y' z z' j j' w w' v v' u u' s s'
handed-one d R n m coarse along r r' cells x x' words y y' parents z z' jacobians j j' wholes w w' vertices v v' weights u u' shares s s' p q =
    let o = finishes-one d R n (cut (suc d) m coarse) (cut (suc d) m along) (lengths_of cells words parents jacobians wholes vertices weights shares) r r' p.handed q.handed p.ends q.ends in
    (o.0, stored_one p.handed q.handed o.1 cells x x' words y y' parents z z' jacobians j j' wholes w w' vertices v v' weights u u' shares s s' p.stored q.stored)
