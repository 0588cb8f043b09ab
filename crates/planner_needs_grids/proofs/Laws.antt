-- The lists as the functions write them down, and the corners of a grid's words. Assumes nothing.
use Rattle.refusal.specs.declared.Refusal.{Refusal}
use Rattle.refusal.specs.Says.{Answer, fine}
use Rattle.std.specs.Prelude.{Err, Ok}
use mathlib.Core.List.{List, [], ◌∷◌}
use mathlib.Core.Path.{◌≡◌, sym, ap, ◌∙◌}
use Prim.Native.Nat.{ℕ, suc, ◌+◌, ◌*◌, ◌/◌, ◌≤◌}
use native.Mathlib.Nat.{div-le_self, mul-le-mul_right, mul-le-mul_left, le_trans}
use native.Mathlib.Numerals.{add-one}
use native.Mathlib.Omega.{arith}
use Rattle.refusal.specs.Limits.{most_cells, most_dimension}
use Rattle.complex.specs.Room.{key_room}
use Rattle.quotient.specs.declared.Grid.{Grid}
use Rattle.quotient.specs.Shape.{check_of, counted_after, cell_count}
use Rattle.quotient.proofs.Taken.{taken-cells, taken-high}
use Rattle.grid_mesh.specs.Words.{corners_of}
use Rattle.grid_chained.specs.Shape.{shape_of, need_of}
use Rattle.needs.specs.Needs.{worked, Worked}
use Rattle.planner_needs_grids.specs.Needs.{words_need, triangulated_need, lengths_need, map_need, classes_need, corners_said, chained_said}

pub words-made : (d n m k : ℕ) → Worked d n m → k ≡ key_room d m → ◌≡◌ {A = List ℕ} (m ∷ k ∷ m ∷ m ∷ m ∷ []) (words_need d (worked d n))
words-made d n m k w e = ap (λ (k : ℕ). m ∷ k ∷ m ∷ m ∷ m ∷ []) e ∙ ap (words_need d) w.is

-- no more cells than the limit lets through, with room to spare
pub few-cells-told : (d n m : ℕ) → Worked d n m → m / (d + 1) ≤ most_cells * suc most_dimension
few-cells-told d n m w = omega (arith, div-le_self m (d + 1), w.most)

pub map-made : (d n m k : ℕ) → Worked d n m → k ≡ key_room d m → ◌≡◌ {A = List ℕ} ((43 + 276 * (m / (d + 1))) ∷ k ∷ m ∷ m ∷ m ∷ []) (map_need d (worked d n))
map-made d n m k w e = ap (λ (x : ℕ). (43 + 276 * (m / x)) ∷ k ∷ m ∷ m ∷ m ∷ []) (add-one d) ∙ ap (λ (k : ℕ). (43 + 276 * (m / suc d)) ∷ k ∷ m ∷ m ∷ m ∷ []) e ∙ ap (map_need d) w.is

pub classes-made : (d n m : ℕ) → Worked d n m → ◌≡◌ {A = List ℕ} (m ∷ m ∷ []) (classes_need d (worked d n))
classes-made d n m w = ap (classes_need d) w.is

pub triangulated-made : (d n m k : ℕ) → Worked d n m → k ≡ key_room d m → ◌≡◌ {A = List ℕ} (m ∷ m ∷ (k + m + m) ∷ m ∷ m ∷ m ∷ []) (triangulated_need d (worked d n))
triangulated-made d n m k w e = ap (λ (k : ℕ). m ∷ m ∷ (k + m + m) ∷ m ∷ m ∷ m ∷ []) e ∙ ap (triangulated_need d) w.is

pub lengths-made : (d n m : ℕ) → Worked d n m → ◌≡◌ {A = List ℕ} (d * m ∷ d * m ∷ d * m ∷ d * m ∷ d * m ∷ []) (lengths_need d (worked d n))
lengths-made d n m w = ap (lengths_need d) w.is

-- ---- the corners of a grid's words
pub corners-refused : (g : Grid) (a : Answer) (why : Refusal) → a ≡ check_of g → a ≡ Err why → Err why ≡ corners_said g
unfolding corners_said
corners-refused g a why e f = ap (λ (x : Answer). counted_after x (Ok (corners_of g))) (sym f ∙ e)

pub corners-counted : (g : Grid) (a : Answer) (c : ℕ) → a ≡ check_of g → a ≡ fine → c ≡ cell_count g → Ok (c * (g.d + 1)) ≡ corners_said g
unfolding corners_said
corners-counted g a c e f h = ap (λ (x : ℕ). Ok (x * (g.d + 1))) h ∙ ap (λ (x : ℕ). Ok (cell_count g * x)) (add-one g.d) ∙ ap (λ (x : Answer). counted_after x (Ok (corners_of g))) (sym f ∙ e)

pub corners-low : (g : Grid) → check_of g ≡ fine → (c : ℕ) → c ≡ cell_count g → (g.d ≤ most_dimension) × (c ≤ most_cells) × (c * (g.d + 1) ≤ most_cells * suc most_dimension)
corners-low g fine c h = (taken-high g fine, omega (arith, taken-cells g fine), le_trans (mul-le-mul_right (g.d + 1) (let x : c ≤ most_cells = omega (arith, taken-cells g fine) in x)) (mul-le-mul_left most_cells (let y : g.d + 1 ≤ suc most_dimension = omega (arith, taken-high g fine) in y)))

-- ---- where the grid is glued honestly
pub chained_refused : (g : Grid) (a : Answer) (why : Refusal) → a ≡ shape_of g → a ≡ Err why → Err why ≡ chained_said g
unfolding chained_said
chained_refused g a why e f = ap (λ (x : Answer). counted_after x (Ok (corners_of g))) (sym f ∙ e)

pub chained-counted : (g : Grid) (a : Answer) (c : ℕ) → a ≡ shape_of g → a ≡ fine → c ≡ need_of g → Ok c ≡ chained_said g
unfolding chained_said
chained-counted g a c e f h = ap Ok h ∙ ap (λ (x : Answer). counted_after x (Ok (corners_of g))) (sym f ∙ e)
