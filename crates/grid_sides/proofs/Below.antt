-- The sides that a maker hands out are those of the caller below d, so they fit where the caller's do. Assumes nothing.
use Rattle.std.proofs.Common.{◌≡◌, ℕ, ◌<◌, ◌≤◌, Bool, true, false, not, T, pos, sym, refl, ◌∙◌, le_of_eq, arith, lt-ltb}
use lib.Ieee.{fin}
use Rattle.refusal.specs.Limits.{most_dimension}
use Rattle.lists.specs.Tables.{tab}
use Rattle.lists.proofs.Tables.{get_or-tab}
use Rattle.lists.proofs.Words.{first-none}
use Rattle.grid_sides.specs.declared.Sides.{Sides}
use Rattle.grid_sides.specs.Counts.{side_fits, all_sides, side_of, unfit, first_bad, kept_side, sides_below}
use Rattle.grid_sides.proofs.Longest.{side-ok}

-- what a maker hands out, in its order
kept_all : (s : Sides) (d : ℕ) → all_sides (sides_below s d) ≡ tab most_dimension (kept_side s d)
kept_all s d = refl

pub side-below : (s : Sides) (d i : ℕ) → d ≤ most_dimension → i < d → side_of (sides_below s d) i ≡ side_of s i
unfolding side_of kept_side
side-below s d i u h = get_or-tab most_dimension (kept_side s d) i (fin false 0 (pos 0)) (omega arith) ∙ rw (lt-ltb i d h)

fits-not-unfit : (b : Bool) → T b → not b ≡ false
fits-not-unfit true t = refl
fits-not-unfit false t = absurd t

pub below-fit : (s : Sides) (d : ℕ) → d ≤ most_dimension → d ≤ first_bad s d → d ≤ first_bad (sides_below s d) d
below-fit s d u ok =
    le_of_eq (sym (first-none (unfit (sides_below s d)) d λ i l. rw (side-below s d i u l) (fits-not-unfit (side_fits (side_of s i)) (side-ok s d ok i l))))
