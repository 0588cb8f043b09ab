-- The lists as the functions write them down. Assumes nothing.
use mathlib.Core.List.{List, [], ◌∷◌}
use mathlib.Core.Path.{◌≡◌, ap, ◌∙◌}
use Prim.Native.Nat.{ℕ, ◌+◌, ◌*◌, ◌/◌}
use native.Mathlib.Numerals.{add-one}
use Rattle.complex.specs.Room.{key_room}
use Rattle.needs.specs.Needs.{worked, Worked}
use Rattle.planner_needs.specs.Needs.{cells_need, edges_need, facets_need, border_need, signs_need, plain_need, ordered_need, turns_need}

pub cells-made : (d n m k : ℕ) → Worked d n m → k ≡ key_room d m → ◌≡◌ {A = List ℕ} (m ∷ k ∷ m ∷ m ∷ m ∷ []) (cells_need d (worked d n))
cells-made d n m k w e = ap (λ (k : ℕ). m ∷ k ∷ m ∷ m ∷ m ∷ []) e ∙ ap (cells_need d) w.is

pub edges-made : (d n m k : ℕ) → Worked d n m → k ≡ key_room d m → ◌≡◌ {A = List ℕ} (k ∷ k * 2 ∷ k ∷ k ∷ k ∷ []) (edges_need d (worked d n))
edges-made d n m k w e = ap (λ (k : ℕ). k ∷ k * 2 ∷ k ∷ k ∷ k ∷ []) e ∙ ap (edges_need d) w.is

pub facets-made : (d n m k : ℕ) → Worked d n m → k ≡ key_room d m → ◌≡◌ {A = List ℕ} (d * m ∷ 4 * m ∷ k ∷ m ∷ m ∷ m ∷ []) (facets_need d (worked d n))
facets-made d n m k w e = ap (λ (k : ℕ). d * m ∷ 4 * m ∷ k ∷ m ∷ m ∷ m ∷ []) e ∙ ap (facets_need d) w.is

pub border-made : (d n m k : ℕ) → Worked d n m → k ≡ key_room d m → ◌≡◌ {A = List ℕ} (d * m ∷ k ∷ m ∷ m ∷ m ∷ []) (border_need d (worked d n))
border-made d n m k w e = ap (λ (k : ℕ). d * m ∷ k ∷ m ∷ m ∷ m ∷ []) e ∙ ap (border_need d) w.is

pub orientation-made : (d n m : ℕ) → Worked d n m → ◌≡◌ {A = List ℕ} (m / (d + 1) ∷ m * 5 ∷ m ∷ m ∷ m ∷ []) (signs_need d (worked d n))
orientation-made d n m w = ap (λ (x : ℕ). m / x ∷ m * 5 ∷ m ∷ m ∷ m ∷ []) (add-one d) ∙ ap (signs_need d) w.is

pub orient-by-made : (d n m : ℕ) → Worked d n m → ◌≡◌ {A = List ℕ} (m * 5 ∷ m ∷ m ∷ m ∷ []) (plain_need (worked d n))
orient-by-made d n m w = ap plain_need w.is

pub ordering-made : (d n m : ℕ) → Worked d n m → ◌≡◌ {A = List ℕ} (m ∷ (m * 5 + m + m) ∷ m ∷ m ∷ m ∷ []) (ordered_need (worked d n))
ordering-made d n m w = ap ordered_need w.is

pub induced-orientation-made : (d n m : ℕ) → Worked d n m → ◌≡◌ {A = List ℕ} ((m * 5 + m + m) ∷ m ∷ m ∷ m ∷ []) (turns_need (worked d n))
induced-orientation-made d n m w = ap turns_need w.is
