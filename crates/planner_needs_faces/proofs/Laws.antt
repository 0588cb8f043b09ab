-- The lists as the functions write them down. Assumes nothing.
use mathlib.Core.List.{List, [], ◌∷◌}
use mathlib.Core.Path.{◌≡◌, refl, sym, ap, ◌∙◌, subst}
use Prim.Native.Nat.{ℕ, suc, ◌+◌, ◌*◌, ◌/◌, ◌≤◌}
use native.Mathlib.Nat.{mul-zero, mul-le-mul_right, div-le_self}
use native.Mathlib.Numerals.{add-one}
use native.Mathlib.Omega.{arith}
use Rattle.refusal.specs.declared.Room.{Room}
use Rattle.refusal.specs.Limits.{many_corners, most_cells, most_dimension}
use Rattle.complex.specs.Room.{key_room}
use Rattle.complex_boundary.specs.Need.{face_rows, face_keys, face_need}
use Rattle.complex_boundary.proofs.Room.{rows-most}
use Rattle.needs.specs.Needs.{worked, Worked, lists}
use Rattle.needs.proofs.Laws.{some-low}
use Rattle.planner_needs_faces.specs.Needs.{index_need, faces_need, boundary_need, market_need, dropped_need}
use Rattle.planner_needs_faces.specs.Work.{FaceRoom}

pub index-made : (d n m k : ℕ) → Worked d n m → k ≡ key_room d m → ◌≡◌ {A = List ℕ} ((m + 1) ∷ m ∷ k ∷ m ∷ m ∷ m ∷ []) (index_need d (worked d n))
index-made d n m k w e = ap (λ (x : ℕ). x ∷ m ∷ k ∷ m ∷ m ∷ m ∷ []) (add-one m) ∙ ap (λ (k : ℕ). suc m ∷ m ∷ k ∷ m ∷ m ∷ m ∷ []) e ∙ ap (index_need d) w.is

pub dropped-made : (d n m k : ℕ) → Worked d n m → k ≡ key_room d m → ◌≡◌ {A = List ℕ} (m ∷ m ∷ k ∷ m ∷ m ∷ m ∷ []) (dropped_need d (worked d n))
dropped-made d n m k w e = ap (λ (k : ℕ). m ∷ m ∷ k ∷ m ∷ m ∷ m ∷ []) e ∙ ap (dropped_need d) w.is

-- ---- the room for faces
nothing-of : (a b m : ℕ) → m ≡ 0 → ◌≡◌ {A = Room} (record { keys = 0; rows = 0; spare = 0; counts = 0 }) (record { keys = a * m; rows = b * m; spare = b * m; counts = b * m })
nothing-of a b m e = rw (e, mul-zero a, mul-zero b) refl

no_words : (d : ℕ) → 0 / suc d ≡ 0
no_words d = omega (arith, div-le_self 0 (suc d))

pub face-none : (d n m : ℕ) → Worked d n m → m ≡ 0 → FaceRoom d n (record { keys = 0; rows = 0; spare = 0; counts = 0 })
face-none d n m w e =
    record {
      is = nothing-of (face_keys d) (face_rows d) (0 / suc d) (no_words d) ∙ ap (face_need d) (sym e ∙ w.is);
      few = omega arith;
    }

few-rows : (d n m : ℕ) → d ≤ most_dimension → m ≤ most_cells * suc most_dimension → face_rows d * (m / suc d) ≤ many_corners
few-rows d n m h l = omega (arith, mul-le-mul_right (m / suc d) (rows-most d h).1, div-le_self m (suc d))

pub face-some : (d n m : ℕ) (r : Room) → Worked d n m → (m ≡ 0 → ⊥) → r ≡ face_need d m → FaceRoom d n r
face-some d n m r w s e =
    record {
      is = e ∙ ap (face_need d) w.is;
      few = subst (λ (x : Room). x.rows ≤ many_corners) (sym e) (few-rows d n m (some-low d n m w s) w.most);
    }

pub faces-made : (d n : ℕ) (r : Room) → FaceRoom d n r → ◌≡◌ {A = List ℕ} (r.rows ∷ r.keys ∷ r.rows ∷ r.spare ∷ r.counts ∷ []) (faces_need d (worked d n))
faces-made d n r f = ap (λ (x : Room). x.rows ∷ lists x) f.is

pub boundary-made : (d n : ℕ) (r : Room) → FaceRoom d n r → ◌≡◌ {A = List ℕ} (r.rows ∷ r.rows ∷ r.rows ∷ r.keys ∷ r.rows ∷ r.spare ∷ r.counts ∷ []) (boundary_need d (worked d n))
boundary-made d n r f = ap (λ (x : Room). x.rows ∷ x.rows ∷ x.rows ∷ lists x) f.is

pub market-made : (d n : ℕ) (r : Room) → FaceRoom d n r → ◌≡◌ {A = List ℕ} ((83 + 34 * r.rows) ∷ r.keys ∷ r.rows ∷ r.spare ∷ r.counts ∷ []) (market_need d (worked d n))
market-made d n r f = ap (λ (x : Room). (83 + 34 * x.rows) ∷ lists x) f.is
