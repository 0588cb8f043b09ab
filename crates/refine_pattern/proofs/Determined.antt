-- The promise of `corners` and of `corners_stepping` determines what is said and the list: the path by the table and the path by stepping give equal results on all
-- inputs. Assumes nothing.
use Rattle.refusal.specs.Says.{Counted}
use mathlib.Core.List.{List}
use mathlib.Core.Path.{◌≡◌, sym, ◌∙◌}
use Prim.Native.Nat.{ℕ}
use Rattle.refine_pattern.specs.Promise.{Corners}

-- THE TWO PATHS: two exits, of one call or of one of each, on equal inputs
pub corners-one : (d R : ℕ) (r r' : Counted) (to out out' : List ℕ) → Corners d R r to out → Corners d R r' to out' → (r ≡ r') × (out ≡ out')
corners-one d R r r' to out out' a b = (a.says ∙ sym b.says, a.list ∙ sym b.list)
