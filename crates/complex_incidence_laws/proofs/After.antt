-- The index after cells went: vertex by vertex, its cells are the old ones that stay (K11's `kept-cells`), by their new numbers. Assumes nothing.
use mathlib.Core.Bool.{true}
use mathlib.Core.List.{List, []}
use mathlib.Core.Path.{◌≡◌, sym, ap, ◌∙◌}
use Prim.Native.Nat.{ℕ, suc, ◌+◌, ◌<◌}
use native.Mathlib.Numerals.{add-one}
use native.Mathlib.Omega.{arith}
use lib.ListN.{length, get_or}
use Rattle.lists.specs.Tables.{tab}
use Rattle.lists.specs.Words.{among, largest_of}
use Rattle.lists.proofs.Words.{below-largest}
use Rattle.lists.proofs.Tables.{get_or-tab}
use Rattle.lists.proofs.Members.{Mem-at}
use Rattle.complex.specs.Check.{Passed}
use Rattle.complex.specs.Cells.{cells_of}
use Rattle.complex.specs.Facets.{cell_at}
use Rattle.complex.specs.Skeleton.{numbers}
use Rattle.complex_faces.specs.Index.{cells_at, word_index}
use Rattle.complex_dropped.specs.Kept.{staying, new_number, corners, kept_words, old_numbers, cells_left}
use Rattle.complex_dropped.proofs.Counting.{numbers-same, numbers-stands}
use Rattle.complex_dropped.proofs.Renaming.{among-map}
use Rattle.complex_dropped.proofs.Members.{among-mem}
use Rattle.complex_dropped.proofs.Kept.{rises, cell-used, left-stays, left-stands, new-many, cell-back, corner-old, dense}
use Rattle.complex_incidence_laws.specs.After.{without_gone, IndexAfterDrop}
use Rattle.complex_incidence_laws.proofs.Through.{tab-map, through}

module _ (d : ℕ) (ws gone : List ℕ) (p : Passed d ws) where
  abbrev rename : ℕ → ℕ
  rename = new_number (corners d ws gone)

  abbrev Used : ℕ → Type 0
  Used v = among v (corners d ws gone) ≡ true

  abbrev left : List ℕ
  left = cells_left (cells_of d ws) gone

  -- the cells at a vertex that is left
  at-vertex : (v : ℕ) → Used v → cells_at (cells_of d (kept_words d ws gone)) (rename v) ≡ without_gone gone (cells_at (cells_of d ws) v)
  at-vertex v u =
      ap (numbers (λ c. among (rename v) (cell_at (cells_of d (kept_words d ws gone)) c))) (new-many d ws gone p)
      ∙ numbers-same (λ c. among (rename v) (cell_at (cells_of d (kept_words d ws gone)) c)) (λ c. among v (cell_at (cells_of d ws) (get_or left c 0))) (length left)
      (λ c h.
      ap (λ (w : List ℕ). among (rename v) w) (cell-back d ws gone p c h)
      ∙ among-map Used rename (rises d ws gone p) v (cell_at (cells_of d ws) (get_or left c 0)) u (cell-used d ws gone p (get_or left c 0) (left-stands d ws gone p c h).low (left-stays d ws gone p c h)))
      ∙ through gone (λ c. among v (cell_at (cells_of d ws) c)) (length (cells_of d ws))

  old-low : (v : ℕ) → Used v → v < largest_of ws + 1
  old-low v u =
      let r = Mem-at v ws (corner-old d ws gone p v (among-mem v (corners d ws gone) u)) in
      omega (arith, below-largest ws r.0, r.2)

  pub index-after-drop : (length (staying d ws gone) ≡ 0 → ⊥) → IndexAfterDrop d ws gone
  index-after-drop some =
      ap (λ (n : ℕ). tab n (cells_at (cells_of d (kept_words d ws gone)))) (add-one (largest_of (kept_words d ws gone)) ∙ dense d ws gone p some)
      ∙ tab-map (cells_at (cells_of d (kept_words d ws gone))) (λ v. without_gone gone (get_or (word_index d ws) v [])) (old_numbers d ws gone)
      (λ i h.
      let s = numbers-stands (λ v. among v (corners d ws gone)) (suc (largest_of (corners d ws gone))) i h in
      ap (cells_at (cells_of d (kept_words d ws gone))) (sym s.rank)
      ∙ at-vertex (get_or (old_numbers d ws gone) i 0) s.passes
      ∙ ap (without_gone gone) (sym (get_or-tab (largest_of ws + 1) (cells_at (cells_of d ws)) (get_or (old_numbers d ws gone) i 0) [] (old-low (get_or (old_numbers d ws gone) i 0) s.passes))))
