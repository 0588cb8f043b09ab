-- The quick engine's answers: what the search across the axes finds, and the labels made of it. Assumes nothing.
use mathlib.Core.Path.{◌≡◌, sym, ap, subst, ◌∙◌}
use mathlib.Core.Bool.{true, false}
use mathlib.Core.List.{List}
use mathlib.Core.Logic.{⊎_elim}
use Prim.Native.Nat.{ℕ, suc, ◌+◌, ◌≤◌, ◌<◌, min}
use native.Mathlib.Omega.{arith}
use lib.ListN.{length, set}
use lib.Seq.{get_or-set_same, get_or-set_other}
use Rattle.quotient.specs.declared.Grid.{Grid}
use Rattle.quotient.specs.Points.{points_of}
use Rattle.quotient.proofs.Laws.{lt-or-ge}
use Rattle.grid_chained.specs.Classing.{Least}
use Rattle.grid_chained.specs.WorkTurn.{end_at, across_of, least_below}
use Rattle.grid_chained.proofs.Turns.{least_of}
use Rattle.grid_chained.specs.Classing.{at}
use Rattle.grid_chained.specs.WorkNumber.{Labelled}
use Rattle.grid_chained.proofs.Orbit.{least-law}

module _ (g : Grid) (v : ℕ) where
  pub least-none : (a : ℕ) → a ≡ 0 → v ≡ least_below g a v
  unfolding least_below
  least-none a e = rw e

  module _ (a b here : ℕ) (e : a ≡ suc b) (hh : here ≡ least_below g b v) where
    pub least-stay : end_at g v b ≡ false → here ≡ least_below g a v
    unfolding least_below
    least-stay f = rw (e, f) hh

    module _ (w there : ℕ) (t : end_at g v b ≡ true) (hw : w ≡ across_of g v b) (ht : there ≡ least_below g b w) where
      at-across : there ≡ least_below g b (across_of g v b)
      at-across = ht ∙ ap (least_below g b) hw

      pub least-there : there < here → there ≡ least_below g a v
      unfolding least_below
      least-there l = rw (e, t, ← hh, ← at-across) (let z : there ≡ min here there = omega arith in z)

      pub least-here : here ≤ there → here ≡ least_below g a v
      unfolding least_below
      least-here l = rw (e, t, ← hh, ← at-across) (let z : here ≡ min here there = omega arith in z)

module _ (g : Grid) where
  -- one point more has its least point
  pub labels-more : (l : List ℕ) (v x : ℕ) → v < length l → ((p : ℕ) → p < v → at l p ≡ least_of g p) → x ≡ least_of g v → (p : ℕ) → p < v + 1 → at (set l v x) p ≡ least_of g p
  labels-more l v x h k e p o =
      ⊎_elim
      (λ (w : p < v). get_or-set_other l v p x 0 (λ z. omega arith) ∙ k p w)
      (λ (w : v ≤ p). let z : p ≡ v = omega arith in subst (λ (y : ℕ). at (set l v x) y ≡ least_of g y) (sym z) (get_or-set_same l v x 0 h ∙ e))
      (lt-or-ge p v)

  pub labels-done : (l : List ℕ) → length l ≡ points_of g → ((p : ℕ) → p < points_of g → at l p ≡ least_of g p) → Labelled g l
  labels-done l e k = record { long = e; least = λ p h. subst (λ (x : ℕ). Least g p x) (sym (k p h)) (least-law g p h) }
