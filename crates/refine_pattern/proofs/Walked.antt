-- A kept chain walked and written: after i steps the points before the one reached are written. Assumes nothing.
use mathlib.Core.Path.{◌≡◌, sym, ap, ◌∙◌, subst}
use mathlib.Core.Bool.{true}
use mathlib.Core.List.{List, [], ◌∷◌, ◌++◌}
use Prim.Native.Nat.{ℕ, suc, ◌+◌, ◌*◌, ◌-◌, ◌≤◌, ◌<◌}
use native.Mathlib.Nat.{le_of_eq}
use native.Mathlib.Omega.{arith}
use lib.ListN.{length, get_or, take, drop, set, length-append, length-set}
use lib.Seq.{length-take-le}
use Rattle.multiindex.specs.Permutation.{order_of}
use Rattle.refine_lattice.specs.Lattice.{weights, bump, chain}
use Rattle.refine_lattice.specs.Children.{qualifies}
use Rattle.refine_pattern.specs.WorkChains.{keeps, weighed, Kept}
use Rattle.refine_pattern.specs.declared.Cursor.{Cursor}
use Rattle.refine_lattice.proofs.Weights.{length-weights}
use Rattle.refine_pattern.proofs.Chains.{order_long, order_below, keeps-first, keeps-step, weighed-step, weighed-end, weighed-length, coordinate}
use Rattle.refine_pattern.proofs.Written.{Written, written_none, written-length, written-room, written-part, written-whole}

pub record Walked (d R k : ℕ) (base before : List ℕ) (i : ℕ) (s : List ℕ) (at : ℕ) (to : List ℕ) : Type 0 where
  pub turn : i ≤ d
  pub wide : d ≤ length s
  pub holds : keeps R (chain (take d s) (drop i (order_of d k))) ≡ true
  pub written : Written (weighed R (chain (take d base) (order_of d k))) before (weighed R (chain (take d s) (drop i (order_of d k)))) at to

-- the first point of a chain is a part of it
head-room : (R : ℕ) (t p : List ℕ) → suc (length t) ≤ length (weighed R (chain t p))
head-room R t [] = omega (arith, length-weights R t, length-append (weights R t) [])
head-room R t (j ∷ p) = omega (arith, length-weights R t, length-append (weights R t) (weighed R (chain (bump t j) p)))

module _ (d R : ℕ) (c : Cursor) (before : List ℕ) (pre : Kept d R c (length before)) where
  exact : length before ≡ length (weighed R (chain (take d c.base) (order_of d c.order)))
  exact =
      pre.room
      ∙ sym
      (weighed-length R (take d c.base) (order_of d c.order)
      ∙ ap (λ (n : ℕ). suc n * suc (length (take d c.base))) (order_long d c.order pre.stands.order)
      ∙ ap (λ (n : ℕ). suc d * suc n) (length-take-le d c.base pre.stands.wide))

  pub walked_none : Walked d R c.order c.base before 0 c.base 0 before
  walked_none = record { turn = omega arith; wide = pre.stands.wide; holds = pre.kept; written = written_none _ before }

  module _ (i : ℕ) (s : List ℕ) (at : ℕ) (to : List ℕ) (w : Walked d R c.order c.base before i s at to) where
    fits : length (weighed R (chain (take d c.base) (order_of d c.order))) ≤ length before
    fits = le_of_eq (sym exact)

    pub walked-long : length to ≡ length before
    walked-long = written-length _ _ _ _ _ fits w.written

    pub walked-qualifies : qualifies R (take d s) ≡ true
    walked-qualifies = keeps-first R (take d s) (drop i (order_of d c.order)) w.holds

    pub walked-point : length (take d s) ≡ d
    walked-point = length-take-le d s w.wide

    pub walked-room : at + (d + 1) ≤ length to
    walked-room = omega (arith, written-room _ _ _ _ _ fits w.written, head-room R (take d s) (drop i (order_of d c.order)), walked-point)

    module _ (l : i < d) (j : ℕ) (is : j ≡ get_or (order_of d c.order) i 0) where
      pub walked-axis : j < d
      walked-axis = omega (arith, order_below d c.order pre.stands.order i l)

      pub walked_low : get_or s j 0 ≤ R
      walked_low = coordinate d R s j w.wide walked-axis walked-qualifies

      pub walked_next : (n : ℕ) (ys : List ℕ) → n ≡ d + 1 → ys ≡ weights R (take d s)
          → Walked d R c.order c.base before (i + 1) (set s j (get_or s j 0 + 1)) (at + (d + 1)) (take at to ++ (ys ++ drop n (drop at to)))
      walked_next n ys m e = record {
        turn = omega arith;
        wide = simp length-set w.wide;
        holds = sym (keeps-step d R s (order_of d c.order) i j inside is walked-axis walked-qualifies) ∙ w.holds;
        written =
            subst
            (λ (x : ℕ).
            Written (weighed R (chain (take d c.base) (order_of d c.order))) before
            (weighed R (chain (take d (set s j (get_or s j 0 + 1))) (drop (i + 1) (order_of d c.order)))) (at + x)
            (take at to ++ (ys ++ drop n (drop at to))))
            m
            (written-part _ _ _ _ _ fits w.written (weights R (take d s)) _ (weighed-step d R s (order_of d c.order) i j inside is walked-axis) n ys e
            (omega (arith, length-weights R (take d s), walked-point)));
      }
        where
          inside : i < length (order_of d c.order)
          inside = omega (arith, order_long d c.order pre.stands.order)

    module _ (l : d ≤ i) where
      rest-long : length (weighed R (chain (take d s) (drop i (order_of d c.order)))) ≡ suc d
      rest-long =
          ap length (weighed-end R (take d s) (order_of d c.order) i (omega (arith, order_long d c.order pre.stands.order)))
          ∙ length-append (weights R (take d s)) []
          ∙ omega (arith, length-weights R (take d s), walked-point)

      pub walked-left : length to - at ≡ d + 1
      walked-left =
          omega (
            arith,
            walked-long,
            exact,
            rest-long,
            ap length w.written.split,
            length-append w.written.done (weighed R (chain (take d s) (drop i (order_of d c.order)))),
            w.written.counted,
          )

      pub walked-last : (n : ℕ) (ys : List ℕ) → n ≡ d + 1 → ys ≡ weights R (take d s)
          → take at to ++ (ys ++ drop n (drop at to)) ≡ weighed R (chain (take d c.base) (order_of d c.order))
      walked-last n ys m e =
          written-whole _ before (at + n) _ exact
          (written-part _ _ _ _ _ fits w.written (weights R (take d s)) []
          (weighed-end R (take d s) (order_of d c.order) i (omega (arith, order_long d c.order pre.stands.order))) n ys e
          (omega (arith, length-weights R (take d s), walked-point)))
