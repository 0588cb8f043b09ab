-- The pattern written row by row. Assumes nothing.
use mathlib.Core.Path.{◌≡◌, sym, ap, ◌∙◌, subst}
use mathlib.Core.List.{List, [], ◌++◌}
use Prim.Native.Nat.{ℕ, suc, ◌+◌, ◌≤◌, ◌<◌}
use native.Mathlib.Numerals.{add-one}
use native.Mathlib.Omega.{arith}
use lib.ListN.{length, get_or, take, drop, length-append, drop_of_length-le}
use lib.Seq.{drop-cons}
use Rattle.refusal.specs.Lent.{onto}
use Rattle.lists.specs.Rows.{flat}
use Rattle.refine_lattice.specs.Pattern.{pattern_of}
use Rattle.refine_lattice.proofs.Pattern.{row-long, flat-count}
use Rattle.refine_pattern.specs.WorkChains.{Ready}
use Rattle.refine_pattern.proofs.Chains.{mem-get_or}
use Rattle.refine_pattern.proofs.Written.{Written, written_none, written-length, written-room, written-part, written-end}

-- The first i corners are written.
pub record Rowed (d R : ℕ) (before : List ℕ) (i at : ℕ) (to : List ℕ) : Type 0 where
  pub turn : i ≤ length (pattern_of d R)
  pub written : Written (flat (pattern_of d R)) before (flat (drop i (pattern_of d R))) at to

module _ (d R : ℕ) (before : List ℕ) (pre : Ready d R (length before)) where
  fits : length (flat (pattern_of d R)) ≤ length before
  fits = subst (λ (n : ℕ). n ≤ length before) (sym (flat-count d R)) pre.room

  pub rowed-none : Rowed d R before 0 0 before
  rowed-none = record { turn = omega arith; written = written_none (flat (pattern_of d R)) before }

  module _ (i at : ℕ) (to : List ℕ) (w : Rowed d R before i at to) where
    pub rowed-long : length to ≡ length before
    rowed-long = written-length _ _ _ _ _ fits w.written

    module _ (l : i < length (pattern_of d R)) where
      row-size : length (get_or (pattern_of d R) i []) ≡ suc d
      row-size = row-long d R (get_or (pattern_of d R) i []) (mem-get_or (pattern_of d R) i [] l)

      next : flat (drop i (pattern_of d R)) ≡ get_or (pattern_of d R) i [] ++ flat (drop (i + 1) (pattern_of d R))
      next =
          ap flat (drop-cons (pattern_of d R) i [] l)
          ∙ ap (λ (n : ℕ). get_or (pattern_of d R) i [] ++ flat (drop n (pattern_of d R))) (sym (add-one i))

      pub rowed-room : at + (d + 1) ≤ length to
      rowed-room =
          omega (
            arith,
            written-room _ _ _ _ _ fits w.written,
            ap length next,
            length-append (get_or (pattern_of d R) i []) (flat (drop (i + 1) (pattern_of d R))),
            row-size,
          )

      pub rowed-next : (n : ℕ) (ys : List ℕ) → n ≡ d + 1 → ys ≡ get_or (pattern_of d R) i []
          → Rowed d R before (i + 1) (at + (d + 1)) (take at to ++ (ys ++ drop n (drop at to)))
      rowed-next n ys m e = record {
        turn = omega arith;
        written =
            subst
            (λ (x : ℕ). Written (flat (pattern_of d R)) before (flat (drop (i + 1) (pattern_of d R))) (at + x) (take at to ++ (ys ++ drop n (drop at to))))
            m
            (written-part _ _ _ _ _ fits w.written (get_or (pattern_of d R) i []) _ next n ys e (omega (arith, row-size)));
      }

    pub rowed-end : length (pattern_of d R) ≤ i → to ≡ onto (flat (pattern_of d R)) before
    rowed-end l = written-end _ _ _ _ _ fits w.written (ap flat (drop_of_length-le (pattern_of d R) {i = i} l))
