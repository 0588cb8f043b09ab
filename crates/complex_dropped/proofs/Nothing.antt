-- Removing nothing changes nothing. Assumes nothing.
use mathlib.Core.Bool.{true, not}
use mathlib.Core.List.{List, [], map}
use mathlib.Core.Path.{◌≡◌, refl, sym, ap, ◌∙◌, subst}
use mathlib.Core.Logic.{⊎_elim}
use Prim.Native.Nat.{ℕ, suc, ◌+◌, ◌<◌, ◌≤◌}
use native.Mathlib.Nat.{eq-or-lt_of_le}
use native.Mathlib.Omega.{arith}
use lib.ListN.{get_or}
use Rattle.lists.specs.Tables.{upto}
use Rattle.lists.specs.Words.{among, largest_of}
use Rattle.lists.specs.Rows.{flat, rows}
use Rattle.lists.proofs.Words.{below-largest}
use Rattle.lists.proofs.Members.{Mem}
use Rattle.complex.specs.Check.{Passed}
use Rattle.complex.specs.Cells.{cells_of}
use Rattle.complex_dropped.specs.Kept.{cell_number, staying, in_use, new_number, corners, kept_words, old_numbers}
use Rattle.complex_dropped.proofs.Counting.{count-all, numbers-all}
use Rattle.complex_dropped.proofs.Members.{mem-among, keep_all, largest-mem, map_same}
use Rattle.complex_dropped.proofs.Kept.{words-again}

module _ (d : ℕ) (ws : List ℕ) (p : Passed d ws) where
  pub stay_all : staying d ws [] ≡ rows (d + 1) ws
  unfolding among
  stay_all = keep_all (λ w. not (among (cell_number (cells_of d ws) w) [])) (rows (d + 1) ws) (λ w. refl)

  corners-all : corners d ws [] ≡ ws
  corners-all = ap flat stay_all ∙ words-again d ws [] p

  all-used : (v : ℕ) → v ≤ largest_of ws → among v ws ≡ true
  all-used v h = ⊎_elim (λ (e : v ≡ largest_of ws). mem-among v ws (subst (λ (z : ℕ). Mem z ws) (sym e) (largest-mem ws p.some_words))) (λ (l : v < largest_of ws). p.used v l) (eq-or-lt_of_le h)

  same_number : (v : ℕ) → v ≤ largest_of ws → new_number ws v ≡ v
  same_number v h = count-all (λ u. among u ws) v (λ u l. all-used u (omega arith))

  pub drop-nothing : kept_words d ws [] ≡ ws
  drop-nothing =
      ap (λ (l : List ℕ). map (new_number l) l) corners-all ∙ map_same (new_number ws) ws (λ i h. same_number (get_or ws i 0) (below-largest ws i))

  pub drop-nothing-old : old_numbers d ws [] ≡ upto (suc (largest_of ws))
  drop-nothing-old = ap in_use corners-all ∙ numbers-all (λ v. among v ws) (suc (largest_of ws)) (λ v h. all-used v (omega arith))
