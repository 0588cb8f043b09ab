-- A ring's positions one after another, and the corners in their order. Assumes nothing.
use mathlib.Core.Path.{◌≡◌, sym, ap, ◌∙◌}
use mathlib.Core.Bool.{Bool, true, false, cond}
use mathlib.Core.List.{List, [], ◌∷◌, ◌++◌, append_assoc, append-nil}
use Prim.Native.Nat.{ℕ, ◌+◌}
use borrow.Author.Tests.{eq-eqb, ne_eqb}
use lib.Dec.{eqb}
use Rattle.quotient.specs.declared.Grid.{Grid}
use Rattle.grid_words.specs.WorkNumbered.{cell_no, corner_of}
use Rattle.file_geojson.specs.File.{comma_each, joined, position_of, ring_corners, ring_of}

pub ring-is : (g : Grid) (low high a b c : ℕ) →
    91 ∷ (position_of g low high a ++ (44 ∷ (position_of g low high b ++ (44 ∷ (position_of g low high c ++ (44 ∷ (position_of g low high a ++ (93 ∷ [])))))))) ≡ ring_of g low high (a ∷ b ∷ c ∷ a ∷ [])
unfolding ring_of joined comma_each
ring-is g low high a b c = simp (append_assoc, append-nil)

module _ (g : Grid) (x a b c : ℕ) (p : a ≡ corner_of g x 0) (q : b ≡ corner_of g x 1) (r : c ≡ corner_of g x 2) where
  east : (t : Bool) → t ≡ true → (v w : List ℕ) → cond t v w ≡ v
  east t e v w = ap (λ (b : Bool). cond b v w) e

  north : (t : Bool) → t ≡ false → (v w : List ℕ) → cond t v w ≡ w
  north t e v w = ap (λ (b : Bool). cond b v w) e

  pub round-east : b ≡ a + 1 → a ∷ b ∷ c ∷ a ∷ [] ≡ ring_corners (cell_no g x)
  round-east e =
      (rw (p, q, r))
      ∙ sym (east (eqb (corner_of g x 1) (corner_of g x 0 + 1)) (eq-eqb _ _ (sym q ∙ e ∙ ap (λ (n : ℕ). n + 1) p)) _ _)

  pub round-north : (b ≡ a + 1 → ⊥) → a ∷ c ∷ b ∷ a ∷ [] ≡ ring_corners (cell_no g x)
  round-north f =
      (rw (p, q, r))
      ∙ sym (north (eqb (corner_of g x 1) (corner_of g x 0 + 1)) (ne_eqb _ _ (λ e. f (q ∙ e ∙ ap (λ (n : ℕ). n + 1) (sym p)))) _ _)
