-- How long the results are at most: faces and entries no longer than the rows, an index no longer than the corners, and what stays no longer than what was there. Assumes nothing.
use mathlib.Core.Bool.{not}
use mathlib.Core.List.{List, [], ◌∷◌}
use mathlib.Core.Path.{◌≡◌, refl, ap}
use Prim.Native.Nat.{ℕ, zero, suc, ◌+◌, ◌*◌, ◌/◌, ◌<◌, ◌≤◌}
use native.Mathlib.Nat.{mul-le-mul_left, mul-le-mul_right, mul_assoc, mul_comm, suc-mul, le_trans}
use native.Mathlib.Omega.{arith}
use lib.ListN.{length, get_or, length-append}
use Rattle.lists.specs.Rows.{flat, rows}
use Rattle.lists.specs.Words.{among, largest_of}
use Rattle.lists.proofs.Tables.{length-tab}
use Rattle.lists.proofs.Rows.{cut-length}
use Rattle.complex.specs.Check.{Passed}
use Rattle.complex.specs.Cells.{cells_of}
use Rattle.complex.specs.Facets.{cell_at}
use Rattle.complex_cells.proofs.Words.{Word, each_in, each_of, in-at}
use Rattle.complex_cells.proofs.Making.{whole_words}
use Rattle.complex_faces.specs.Faces.{faces_of}
use Rattle.complex_faces.specs.Entries.{entry_at, entries_at, entries_below, entries_of}
use Rattle.complex_faces.specs.Index.{cells_at, starts_from, starts_of, word_index}
use Rattle.complex_faces.proofs.Members.{face-long}
use Rattle.complex_faces.proofs.Shape.{faces-most}
use Rattle.complex_descent.specs.Down.{per_cell}
use Rattle.complex_boundary.specs.Need.{face_rows, face_need}
use Rattle.complex_boundary.proofs.Room.{largest-above}
use Rattle.complex_dropped.specs.Kept.{cell_number, staying, kept_words, old_numbers}
use Rattle.complex_dropped.proofs.Kept.{kept-long, kept-passed, dense}
use Rattle.complex_dropped.proofs.Members.{keep-most}
use Rattle.skeleton.proofs.Sizes.{cells-most, corners-most}
use Rattle.needs.proofs.Sizes.{flat-most, each_long, vertices-most}
use Rattle.planner_needs_faces.proofs.Counting.{index-most}

-- ---- faces and entries
module _ (d : ℕ) (ws : List ℕ) (p : Passed d ws) where
  face-numbers : (k : ℕ) → k ≤ d → length (faces_of (cells_of d ws) k) * suc k ≤ (face_need d (length ws)).rows
  face-numbers k h =
      let m = length (cells_of d ws) in
      let a : length (faces_of (cells_of d ws) k) * suc k ≤ length (cells_of d ws) * per_cell d k * suc k = mul-le-mul_right (suc k) (faces-most d k (cells_of d ws) (each_long d ws p)) in
      let b : length (cells_of d ws) * (per_cell d k * suc k) ≤ length (cells_of d ws) * face_rows d = mul-le-mul_left (length (cells_of d ws)) (largest-above (λ e. per_cell d e * suc e) d k h) in
      let c : length (cells_of d ws) * face_rows d ≤ length ws / suc d * face_rows d = mul-le-mul_right (face_rows d) (cells-most d ws p) in
      omega (arith, a, mul_assoc (length (cells_of d ws)) (per_cell d k) (suc k), b, c, mul_comm (length ws / suc d) (face_rows d))

  pub faces-fit : (k : ℕ) → k ≤ d → length (flat (faces_of (cells_of d ws) k)) ≤ (face_need d (length ws)).rows
  faces-fit k h =
      le_trans (flat-most (suc k) (faces_of (cells_of d ws) k) (each_of (λ v. length v ≤ suc k) (faces_of (cells_of d ws) k) (λ v m. omega (arith, face-long (cells_of d ws) k v m)))) (face-numbers k h)

entries-at : (faces : List Word) (c : ℕ) (w : Word) (n : ℕ) → length (entries_at faces c w n) ≡ n
unfolding entries_at
entries-at faces c w zero = refl
entries-at faces c w (suc n) = omega (arith, length-append (entries_at faces c w n) (entry_at faces c w n ∷ []), entries-at faces c w n)

entries_below_lem : (faces cofaces : List Word) (s n : ℕ) → ((c : ℕ) → c < n → length (get_or cofaces c []) ≤ s) → length (entries_below faces cofaces n) ≤ n * s
unfolding entries_below
entries_below_lem faces cofaces s zero h = omega arith
entries_below_lem faces cofaces s (suc n) h =
    omega (
      arith,
      length-append (entries_below faces cofaces n) (entries_at faces n (get_or cofaces n []) (length (get_or cofaces n []))),
      entries-at faces n (get_or cofaces n []) (length (get_or cofaces n [])),
      h n (omega arith),
      entries_below_lem faces cofaces s n (λ c l. h c (omega arith)),
      suc-mul n s,
    )

entries-few : (cs : List Word) (k : ℕ) → 1 ≤ k → length (entries_of cs k) ≤ length (faces_of cs k) * suc k
unfolding entries_of
entries-few cs zero h = absurd (omega arith)
entries-few cs (suc k) h =
    entries_below_lem (faces_of cs k) (faces_of cs (suc k)) (suc (suc k)) (length (faces_of cs (suc k)))
    (λ c l. omega (arith, face-long cs (suc k) (get_or (faces_of cs (suc k)) c []) (in-at (faces_of cs (suc k)) c l)))

pub entries_fit : (d : ℕ) (ws : List ℕ) → Passed d ws → (k : ℕ) → 1 ≤ k → k ≤ d → length (entries_of (cells_of d ws) k) ≤ (face_need d (length ws)).rows
entries_fit d ws p k l h = le_trans (entries-few (cells_of d ws) k l) (face-numbers d ws p k h)

-- ---- the index
pub index-fits : (d : ℕ) (ws : List ℕ) → Passed d ws → length (flat (word_index d ws)) ≤ length ws
index-fits d ws p =
    omega (
      arith,
      index-most (cell_at (cells_of d ws)) (largest_of ws + 1) (length (cells_of d ws)) (suc d)
          (λ c h. omega (arith, each_in (λ v. length v ≡ suc d) (cell_at (cells_of d ws) c) (cells_of d ws) (each_long d ws p) (in-at (cells_of d ws) c h))),
      corners-most d ws p,
    )

starts-long : (at : ℕ) (ls : List (List ℕ)) → length (starts_from at ls) ≡ suc (length ls)
unfolding starts_from
starts-long at [] = refl
starts-long at (l ∷ ls) = omega (arith, starts-long (at + length l) ls)

pub starts_fit : (d : ℕ) (ws : List ℕ) → Passed d ws → length (starts_of (word_index d ws)) ≤ suc (length ws)
starts_fit d ws p = omega (arith, starts-long 0 (word_index d ws), length-tab (largest_of ws + 1) (cells_at (cells_of d ws)), vertices-most d ws p)

-- ---- what stays
module _ (d : ℕ) (ws gone : List ℕ) (p : Passed d ws) where
  pub kept-fits : length (kept_words d ws gone) ≤ length ws
  kept-fits =
      omega (
        arith,
        kept-long d ws gone p,
        mul-le-mul_right (d + 1) (keep-most (λ w. not (among (cell_number (cells_of d ws) w) gone)) (rows (d + 1) ws)),
        ap (λ (x : ℕ). x * (d + 1)) (cut-length (d + 1) (length ws / (d + 1)) ws),
        whole_words d ws p,
      )

  pub old-fits : (length (staying d ws gone) ≡ 0 → ⊥) → length (old_numbers d ws gone) ≤ length ws
  old-fits s = omega (arith, dense d ws gone p s, vertices-most d (kept_words d ws gone) (kept-passed d ws gone p s), kept-fits)
