-- The lists as the functions write them down. Assumes nothing.
use mathlib.Core.Bool.{Bool, cond}
use mathlib.Core.List.{List, [], ◌∷◌}
use mathlib.Core.Path.{◌≡◌, refl, sym, ap, ◌∙◌, subst}
use Prim.Native.Nat.{ℕ, suc, ◌+◌, ◌*◌, ◌/◌, ◌^◌, ◌<◌, ◌≤◌, min}
use native.Mathlib.Nat.{zero-mul, mul-le-mul_right, div-le_self, div-lt_iff_lt-mul, suc-mul}
use native.Mathlib.Numerals.{add-one}
use native.Mathlib.Omega.{arith}
use borrow.Author.Tests.{lt-ltb, le-ltb}
use Rattle.refusal.specs.Limits.{most_dimension, most_cells, most_vertices, most_refinement, most_corners, row_most, square_most}
use Rattle.refine.specs.Space.{counted, children_room}
use Rattle.refine.proofs.Needed.{children-most, children-in, corners-few, pattern-few}
use Rattle.needs.specs.Needs.{worked, Worked}
use Rattle.needs.proofs.Laws.{some-low, some-few}
use Rattle.planner_needs_refinement.specs.Needs.{eight, refine_need, corners_need}
use Rattle.planner_needs_refinement.specs.Work.{Told}

-- ---- the children that there is room for
no_words : (d : ℕ) → 0 / suc d ≡ 0
no_words d = omega (arith, div-le_self 0 (suc d))

no-children : (d R : ℕ) → children_room d (0 / suc d) R ≡ 0
no-children d R =
    let e : 0 / suc d * counted R ^ d ≡ 0 = ap (λ (x : ℕ). x * counted R ^ d) (no_words d) ∙ zero-mul (counted R ^ d) in
    sym (children-in d (0 / suc d) R (omega (arith, e))) ∙ e

pub told_none : (d R n m : ℕ) → Worked d n m → m ≡ 0 → Told d R n 0
told_none d R n m w e =
    record {
      is = sym (no-children d R) ∙ ap (λ (x : ℕ). children_room d (x / suc d) R) (sym e ∙ w.is);
      few = omega arith;
      wide = omega (arith, zero-mul (d + 1));
      square = omega (arith, zero-mul (d + 1), ap (λ (x : ℕ). x * (d + 1)) (zero-mul (d + 1)));
    }

pub told-some : (d R n m c : ℕ) → Worked d n m → (m ≡ 0 → ⊥) → c ≡ children_room d (m / (d + 1)) R → Told d R n c
told-some d R n m c w s e =
    let few : c ≤ most_cells = subst (λ (x : ℕ). x ≤ most_cells) (sym e) (children-most d (m / (d + 1)) R) in
    let low : d ≤ most_dimension = some-low d n m w s in
    record {
      is = e ∙ ap (λ (x : ℕ). children_room d (m / x) R) (add-one d) ∙ ap (λ (x : ℕ). children_room d (x / suc d) R) w.is;
      few = few;
      wide = corners-few d c low few;
      square = pattern-few d c low few;
    }

-- words of a number of corners that is worked on are few
pub few_words : (d n m : ℕ) → Worked d n m → (m ≡ 0 → ⊥) → m / (d + 1) ≤ most_cells
few_words d n m w h =
    let e : m / suc d < suc most_cells = (div-lt_iff_lt-mul {k = suc d} (omega arith)).1 (omega (arith, some-few d n m w h, suc-mul most_cells (suc d))) in
    omega (arith, e, ap (λ (x : ℕ). m / x) (add-one d))

-- no more new vertices than there may be, and so many times d + 1
pub births-small : (d k x : ℕ) → k ≡ min x most_vertices → k * (d + 1) ≤ most_vertices * (d + 1)
births-small d k x e = let h : k ≤ most_vertices = omega arith in mul-le-mul_right (d + 1) h

-- ---- all lists
made : (d c m w b j : ℕ) → w ≡ suc d → j ≡ c * square_most → b ≡ min (c * suc d) most_vertices * suc d → ◌≡◌ {A = List ℕ}
    (c * w ∷ c * w ∷ c ∷ j ∷ j ∷ b ∷ b ∷ b ∷ m ∷ m ∷ c * w * w ∷ (4 * m + 2 * row_most * (c * w)) ∷ (m + c * w) ∷ (m + c * w) ∷ (m + c * w + suc most_refinement) ∷ c * w ∷ c ∷ (m + c * w) ∷ [])
    (eight d c (m ∷ m ∷ c * suc d * suc d ∷ (4 * m + 2 * row_most * (c * suc d)) ∷ (m + c * suc d) ∷ (m + c * suc d) ∷ (m + c * suc d + suc most_refinement) ∷ c * suc d ∷ c ∷ (m + c * suc d) ∷ []))
made d c m w b j e f g = rw (e, f, g) refl

lists_of : ℕ → ℕ → ℕ → List ℕ
lists_of d m c = eight d c (m ∷ m ∷ c * suc d * suc d ∷ (4 * m + 2 * row_most * (c * suc d)) ∷ (m + c * suc d) ∷ (m + c * suc d) ∷ (m + c * suc d + suc most_refinement) ∷ c * suc d ∷ c ∷ (m + c * suc d) ∷ [])

need-lists : (d n R : ℕ) → lists_of d n (children_room d (n / suc d) R) ≡ refine_need d n R
unfolding lists_of
need-lists d n R = refl

pub refine-made : (d R n m c b k : ℕ) → Worked d n m → Told d R n c → k ≡ min (c * (d + 1)) most_vertices → b ≡ k * (d + 1) → ◌≡◌ {A = List ℕ}
    (c * (d + 1) ∷ c * (d + 1) ∷ c ∷ c * square_most ∷ c * square_most ∷ b ∷ b ∷ b ∷ m ∷ m ∷ c * (d + 1) * (d + 1) ∷ (4 * m + 2 * row_most * (c * (d + 1))) ∷ (m + c * (d + 1)) ∷ (m + c * (d + 1)) ∷ (m + c * (d + 1) + suc most_refinement) ∷ c * (d + 1) ∷ c ∷ (m + c * (d + 1)) ∷ [])
    (refine_need d (worked d n) R)
unfolding lists_of
refine-made d R n m c b k v t e f =
    made d c m (d + 1) b (c * square_most) (add-one d) refl (f ∙ ap (λ (x : ℕ). x * (d + 1)) e ∙ ap (λ (x : ℕ). min (c * x) most_vertices * x) (add-one d))
    ∙ ap (lists_of d m) t.is
    ∙ ap (λ (x : ℕ). lists_of d x (children_room d (worked d n / suc d) R)) v.is
    ∙ need-lists d (worked d n) R

-- ---- the pattern of one cell
pub corners-none : (d R : ℕ) → most_dimension < d → ◌≡◌ {A = List ℕ} (0 ∷ []) (corners_need d R)
unfolding corners_need
corners-none d R h = sym (ap (λ (t : Bool). cond t 0 (children_room d 1 R * suc d * suc d) ∷ []) (lt-ltb most_dimension d h))

pub corners-some : (d R c : ℕ) → d ≤ most_dimension → c ≡ children_room d 1 R → ◌≡◌ {A = List ℕ} (c * (d + 1) * (d + 1) ∷ []) (corners_need d R)
unfolding corners_need
corners-some d R c h e =
    ap (λ (x : ℕ). c * x * x ∷ []) (add-one d)
    ∙ ap (λ (x : ℕ). x * suc d * suc d ∷ []) e
    ∙ sym (ap (λ (t : Bool). cond t 0 (children_room d 1 R * suc d * suc d) ∷ []) (le-ltb most_dimension d h))

pub corners-small : (d R c : ℕ) → d ≤ most_dimension → c ≡ children_room d 1 R → (c * (d + 1) ≤ most_corners) × (c * (d + 1) * (d + 1) ≤ most_corners * row_most)
corners-small d R c h e =
    let few : c ≤ most_cells = subst (λ (x : ℕ). x ≤ most_cells) (sym e) (children-most d 1 R) in
    (corners-few d c h few, pattern-few d c h few)
