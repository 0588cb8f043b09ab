-- The test of a tangled grid: where it does not hold, no axis with a non-empty set is itself reflected, and 7 is never given (proofs/Seven). Assumes nothing.
use Rattle.refusal.specs.Says.{fine}
use mathlib.Core.Path.{◌≡◌, refl, sym, ap, ◌∙◌}
use mathlib.Core.Bool.{Bool, true, false, not, ◌&&◌, false≢true}
use Prim.Native.Nat.{ℕ, ◌<◌}
use lib.Dec.{eqb}
use borrow.Author.Tests.{eqb-true}
use Rattle.quotient.specs.declared.Axis.{Axis}
use Rattle.quotient.specs.declared.Grid.{Grid}
use Rattle.quotient.specs.Fold.{member, some}
use Rattle.quotient.specs.Shape.{axis_of, mask_of, mask_at, check_of}
use Rattle.quotient.specs.Chain.{Untangled}
use Rattle.quotient.proofs.Laws.{some-true}
use Rattle.grid_mesh.specs.Work.{tangled_by, tangled_at, is_tangled, IsCrowded}
use Rattle.grid_mesh.proofs.Seven.{none-reflected, untangled-never-seven}

false-some : (p : ℕ → Bool) (n k : ℕ) → some p n ≡ false → k < n → p k ≡ false
false-some p n k e l = by-test (p k) refl
  where
    by-test : (b : Bool) → p k ≡ b → b ≡ false
    by-test true t = sym (some-true p n k l t) ∙ e
    by-test false t = refl

and-false : (a b : Bool) → a ≡ true → a && b ≡ false → b ≡ false
and-false true b e f = f
and-false false b e f = absurd (false≢true e)

not-not : (b : Bool) → not b ≡ false → b ≡ true
not-not true e = refl
not-not false e = absurd (false≢true (sym e))

pub told-untangled : (g : Grid) → is_tangled g ≡ false → Untangled g
told-untangled g e a b k la lb lk m =
    let t : tangled_by g a b ≡ false = false-some (tangled_by g a) g.d b (false-some (tangled_at g) g.d a e la) lb in
    none-reflected (mask_at g b) k (eqb-true (mask_at g b) 0 (not-not (eqb (mask_at g b) 0) (and-false (member (mask_at g a) b) (not (eqb (mask_at g b) 0)) m t)))

pub not-tangled : (g : Grid) → check_of g ≡ fine → is_tangled g ≡ false → IsCrowded g false
not-tangled g taken e = record { yes = λ q. absurd (false≢true q); no = λ q x. untangled-never-seven g taken (told-untangled g e) x }

-- ---- the test of two axes
module _ (g : Grid) (a b : ℕ) (x y : Axis) (hx : x ≡ axis_of g a) (hy : y ≡ axis_of g b) (m n : ℕ) (hm : m ≡ mask_of x.glue) (hn : n ≡ mask_of y.glue) where
  reflects : member m b ≡ member (mask_at g a) b
  reflects = ap (λ (z : ℕ). member z b) (hm ∙ ap (λ (z : Axis). mask_of z.glue) hx)

  pub by-yes : member m b ≡ true → not (eqb n 0) ≡ tangled_by g a b
  by-yes t = ap (λ (z : ℕ). not (eqb z 0)) (hn ∙ ap (λ (z : Axis). mask_of z.glue) hy) ∙ ap (λ (s : Bool). s && not (eqb (mask_at g b) 0)) (sym (sym reflects ∙ t))

pub by-no : (g : Grid) (a b : ℕ) (x : Axis) → x ≡ axis_of g a → (m : ℕ) → m ≡ mask_of x.glue → member m b ≡ false → false ≡ tangled_by g a b
by-no g a b x hx m hm t =
    ap (λ (s : Bool). s && not (eqb (mask_at g b) 0)) (sym (ap (λ (z : ℕ). member z b) (sym (hm ∙ ap (λ (z : Axis). mask_of z.glue) hx)) ∙ t))
