-- The line part by part. Assumes nothing.
use Rattle.refusal.specs.declared.Refusal.TheVariants.{BadDimension, Unreadable}
use Rattle.std.specs.Prelude.{Err}
use mathlib.Core.Path.{◌≡◌, refl, ◌∙◌}
use mathlib.Core.Bool.{true, false}
use mathlib.Core.List.{List, [], ◌∷◌}
use Prim.Native.Nat.{ℕ, ◌-◌, ◌≤◌, ◌<◌}
use native.Mathlib.Omega.{arith}
use lib.IntN.{ℤ}
use lib.ListN.{length, get_or, drop}
use borrow.Author.Tests.{le-leb, lt-leb}
use Rattle.quotient.specs.declared.Grid.{Grid}
use Rattle.bandsum_line.specs.Grammar.{nothing, front, is_digit, grid_from, line_ends}
use Rattle.bandsum_line.proofs.Numerals.{digit-from, digit-to}
use Rattle.bandmap_line.specs.Grammar.{taken, spaced_from, with_north, with_south, with_grid, read_map}

pub read-gone : (bs : List ℕ) → length bs ≡ 0 → read_map bs ≡ Err Unreadable
unfolding read_map
read-gone [] h = refl
read-gone (b ∷ r) h = absurd (omega arith)

pub read-odd : (bs : List ℕ) → (length bs ≡ 0 → ⊥) → is_digit (get_or bs 0 0) ≡ false → read_map bs ≡ Err Unreadable
unfolding read_map
read-odd [] n e = absurd (n refl)
read-odd (b ∷ r) n e = rw e

pub read-zero : (bs : List ℕ) → (length bs ≡ 0 → ⊥) → is_digit (get_or bs 0 0) ≡ true → get_or bs 0 0 - 48 < 1 → read_map bs ≡ Err BadDimension
unfolding read_map
read-zero [] n e h = absurd (n refl)
read-zero (b ∷ r) n e h = rw (e, lt-leb 1 (b - 48) h)

pub read-many : (bs : List ℕ) → (length bs ≡ 0 → ⊥) → is_digit (get_or bs 0 0) ≡ true → 1 ≤ get_or bs 0 0 - 48 → 3 < get_or bs 0 0 - 48 → read_map bs ≡ Err BadDimension
unfolding read_map
read-many [] n e l h = absurd (n refl)
read-many (b ∷ r) n e l h = rw (e, le-leb 1 (b - 48) l, lt-leb (b - 48) 3 h)

rest_of : (bs : List ℕ) → (length bs ≡ 0 → ⊥) → is_digit (get_or bs 0 0) ≡ true → 1 ≤ get_or bs 0 0 - 48 → get_or bs 0 0 - 48 ≤ 3 →
    read_map bs ≡ with_grid (grid_from (get_or bs 0 0 - 48) (drop 1 bs))
unfolding read_map
rest_of [] n e l h = absurd (n refl)
rest_of (b ∷ r) n e l h = rw (e, le-leb 1 (b - 48) l, le-leb (b - 48) 3 h)

module _ (bs : List ℕ) (n : length bs ≡ 0 → ⊥) (e : is_digit (get_or bs 0 0) ≡ true) (l : 1 ≤ get_or bs 0 0 - 48) (h : get_or bs 0 0 - 48 ≤ 3) where
  pub no-grid : nothing ≡ grid_from (get_or bs 0 0 - 48) (drop 1 bs) → read_map bs ≡ Err Unreadable
  unfolding with_grid
  no-grid f = rest_of bs n e l h ∙ (rw (← f))

  module _ (g : Grid) (r : List ℕ) (f : front g r ≡ grid_from (get_or bs 0 0 - 48) (drop 1 bs)) where
    pub no-south : nothing ≡ spaced_from r → read_map bs ≡ Err Unreadable
    unfolding with_grid with_south
    no-south q = rest_of bs n e l h ∙ (rw (← f, ← q))

    module _ (south : ℤ) (s : List ℕ) (q : front south s ≡ spaced_from r) where
      pub no-north : nothing ≡ spaced_from s → read_map bs ≡ Err Unreadable
      unfolding with_grid with_south with_north
      no-north p = rest_of bs n e l h ∙ (rw (← f, ← q, ← p))

      module _ (north : ℤ) (t : List ℕ) (p : front north t ≡ spaced_from s) where
        pub not-ended : line_ends t ≡ false → read_map bs ≡ Err Unreadable
        unfolding with_grid with_south with_north
        not-ended z = rest_of bs n e l h ∙ (rw (← f, ← q, ← p, z))

        pub whole : line_ends t ≡ true → read_map bs ≡ taken g south north
        unfolding with_grid with_south with_north
        whole z = rest_of bs n e l h ∙ (rw (← f, ← q, ← p, z))

-- ---- what `read` cites
pub ruleset read_rules = (digit-from, digit-to, read-gone, read-odd, read-zero, read-many, no-grid, no-south, no-north, not-ended)
