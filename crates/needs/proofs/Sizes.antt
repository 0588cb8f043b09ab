-- How long words are one after the other, and each cell of a checked word list; it has no more vertices than corners. Assumes nothing.
use mathlib.Core.List.{List, [], ◌∷◌}
use mathlib.Core.Path.{◌≡◌, ap}
use Prim.Native.Nat.{ℕ, suc, ◌+◌, ◌*◌, ◌≤◌}
use native.Mathlib.Omega.{arith}
use lib.ListN.{length, length-append}
use Rattle.lists.specs.Rows.{flat}
use Rattle.lists.specs.Words.{largest_of}
use Rattle.multiindex.proofs.SortLaws.{sort-length}
use Rattle.complex.specs.Check.{Passed}
use Rattle.complex.specs.Cells.{cells_of}
use Rattle.complex_cells.proofs.Words.{Word, Each, each_of}
use Rattle.complex_cells.proofs.Pigeon.{largest-low}
use Rattle.skeleton.proofs.Laws.{cells-from}
use Rattle.skeleton.proofs.Sizes.{word_long}

pub flat-most : (k : ℕ) (ws : List Word) → Each (λ v. length v ≤ k) ws → length (flat ws) ≤ length ws * k
flat-most k [] a = omega arith
flat-most k (w ∷ ws) a = omega (arith, length-append w (flat ws), flat-most k ws a.1, a.0)

module _ (d : ℕ) (ws : List ℕ) (p : Passed d ws) where
  pub each_long : Each (λ v. length v ≡ suc d) (cells_of d ws)
  each_long = each_of (λ v. length v ≡ suc d) (cells_of d ws) (λ v m. let r = cells-from d ws v m in omega (arith, ap length r.2, sort-length r.0, word_long d ws p r.0 r.1))

  pub vertices-most : largest_of ws + 1 ≤ length ws
  vertices-most = omega (arith, largest-low ws p.some_words p.used)
