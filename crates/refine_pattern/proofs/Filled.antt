-- The pattern written chain by chain. Assumes nothing.
use mathlib.Core.Path.{◌≡◌, refl, sym, ap, ◌∙◌, subst}
use mathlib.Core.Bool.{Bool, true, false}
use mathlib.Core.List.{List, [], ◌∷◌, ◌++◌, map}
use Prim.Native.Nat.{ℕ, zero, suc, ◌+◌, ◌*◌, ◌-◌, ◌≤◌, ◌<◌}
use native.Mathlib.Numerals.{add-one}
use native.Mathlib.Nat.{le_of_eq, suc-mul, zero-mul, mul-le-mul_right}
use native.Mathlib.Decide.{dec_lt}
use native.Mathlib.Omega.{arith}
use lib.Dec.{ltb}
use lib.ListN.{length, get_or, take, drop, replicate, length-append, length-drop, length-map, drop_of_length-le}
use lib.Seq.{take_at, length-take-le, drop-cons}
use borrow.Author.Tests.{ltb-true, ltb-false}
use Rattle.refusal.specs.Lent.{onto}
use Rattle.lists.specs.Rows.{flat}
use Rattle.lists.proofs.Laws.{map_at}
use Rattle.lists.proofs.Flat.{flat_append}
use Rattle.multiindex.specs.Permutation.{gather, orders, order_of}
use Rattle.refine_lattice.specs.Lattice.{weights, chain}
use Rattle.refine_lattice.specs.Children.{bases, qualifies, every, pick, select, chains}
use Rattle.refine_lattice.specs.Pattern.{pattern_of}
use Rattle.refine_lattice.proofs.Count.{length-gather}
use Rattle.refine_lattice.proofs.Pattern.{gather-at, flat-count}
use Rattle.refine_pattern.specs.WorkChains.{chain_at, keeps, weighed, given, falling, falling_chains, risen, step_of, Ready, Stands}
use Rattle.refine_pattern.specs.declared.Cursor.{Cursor}
use Rattle.refine_pattern.proofs.Chains.{keeps-not}
use Rattle.refine_pattern.proofs.Cursors.{given-no}
use Rattle.refine_pattern.proofs.Falling.{gather-gather, gather_none, by-falling, falling-first, falling-next, risen-length}
use Rattle.refine_pattern.proofs.Climb.{climb, ways, falling-count}
use Rattle.refine_pattern.proofs.Written.{Written, written_none, written-length, written-room, written-tail, written-end}

-- the whole is what the chains give, one after the other
picked : (R : ℕ) (t : Bool) (c : List (List ℕ)) (l : List (List (List ℕ)))
    → flat (gather (map (weights R)) (pick t (c ∷ l) l)) ≡ pick t (weighed R c) [] ++ flat (gather (map (weights R)) l)
picked R true c l = flat_append (map (weights R) c) (gather (map (weights R)) l)
picked R false c l = refl

by-chains : (R : ℕ) (l : List (List (List ℕ))) → flat (gather (map (weights R)) (select (every (qualifies R)) l)) ≡ gather (given R) l
by-chains R [] = refl
by-chains R (c ∷ l) =
    picked R (keeps R c) c (select (every (qualifies R)) l) ∙ ap (λ (x : List ℕ). given R c ++ x) (by-chains R l)

-- and only the falling bases give some
base-none : (d R : ℕ) (s : List ℕ) → qualifies R s ≡ false → gather (given R) (map (chain s) (orders d)) ≡ []
base-none d R s q = gather_none (given R) (chain s) (orders d) (λ p. given-no R (chain s p) (keeps-not R s p q))

pub pattern-chains : (d R : ℕ) → flat (pattern_of d R) ≡ gather (given R) (falling_chains d R)
pattern-chains d R =
    by-chains R (chains d R)
    ∙ gather-gather (given R) (λ s. map (chain s) (orders d)) (bases d R)
    ∙ by-falling d R (λ s. gather (given R) (map (chain s) (orders d))) (base-none d R)
    ∙ sym (gather-gather (given R) (λ s. map (chain s) (orders d)) (falling d R))

-- what is left of a gathered list, one entry at a time
gather-step : {A B : Type 0} (f : A → List B) (l : List A) (k : ℕ) (z : A) → k < length l → gather f (drop k l) ≡ f (get_or l k z) ++ gather f (drop (k + 1) l)
gather-step f l k z h = ap (gather f) (drop-cons l k z h) ∙ ap (λ (n : ℕ). f (get_or l k z) ++ gather f (drop n l)) (sym (add-one k))

gather-end : {A B : Type 0} (f : A → List B) (l : List A) (k : ℕ) → length l ≤ k → gather f (drop k l) ≡ []
gather-end f l k h = ap (gather f) (drop_of_length-le l {i = k} h)

-- the chains, by base and order
chains-length : (d R : ℕ) → length (falling_chains d R) ≡ length (falling d R) * length (orders d)
chains-length d R =
    length-gather (λ s. map (chain s) (orders d)) (length (orders d)) (falling d R) (λ s. length-map (orders d) (chain s))

-- (R + 1) (R + 2) .. (R + d)
orders-ways : (d : ℕ) → d ≤ 3 → length (orders d) ≡ ways d
orders-ways zero h = refl
orders-ways (suc zero) h = refl
orders-ways (suc (suc zero)) h = refl
orders-ways (suc (suc (suc zero))) h = refl
orders-ways (suc (suc (suc (suc d)))) h = absurd (omega arith)

pub chains-count : (d R : ℕ) → d ≤ 3 → length (falling_chains d R) ≡ climb R d
chains-count d R h = chains-length d R ∙ ap (λ (n : ℕ). length (falling d R) * n) (orders-ways d h) ∙ falling-count d R

chains-at : (d R b k : ℕ) → b < length (falling d R) → k < length (orders d)
    → get_or (falling_chains d R) (b * length (orders d) + k) [] ≡ chain (get_or (falling d R) b []) (order_of d k)
chains-at d R b k h l =
    gather-at (λ s. map (chain s) (orders d)) (length (orders d)) [] [] (falling d R) (λ s m. length-map (orders d) (chain s)) b k h l
    ∙ map_at (chain (get_or (falling d R) b [])) (orders d) k [] [] l

-- The cursor stands at chain number m: at base number b and at its axis order.
pub record Reached (d R m : ℕ) (c : Cursor) : Type 0 where
  pub b : ℕ
  pub number : m ≡ b * length (orders d) + c.order
  pub order : c.order < length (orders d)
  pub wide : d ≤ length c.base
  pub here : b < length (falling d R) → take d c.base ≡ get_or (falling d R) b []

module _ (d R m : ℕ) (c : Cursor) (w : Reached d R m c) where
  module _ (l : m < length (falling_chains d R)) where
    base_there : w.b < length (falling d R)
    base_there =
        elim (dec_lt w.b (length (falling d R))) [
          | yes h ↦ h
          | no h ↦
              absurd
              (omega (
                arith,
                l,
                w.number,
                length-gather (λ s. map (chain s) (orders d)) (length (orders d)) (falling d R) (λ s. length-map (orders d) (chain s)),
                mul-le-mul_right {m = length (falling d R)} {n = w.b} (length (orders d)) (omega arith),
              ))
        ]

    pub chain-there : get_or (falling_chains d R) m [] ≡ chain_at d c
    chain-there =
        ap (λ (n : ℕ). get_or (falling_chains d R) n []) w.number
        ∙ chains-at d R w.b c.order base_there w.order
        ∙ ap (λ (s : List ℕ). chain s (order_of d c.order)) (sym (w.here base_there))

    pub reached-step : Reached d R (m + 1) (step_of d R c)
    reached-step = go (ltb (suc c.order) (length (orders d))) refl
      where
        n : length (risen R (take d c.base)) ≡ d
        n = risen-length R (take d c.base) ∙ length-take-le d c.base w.wide

        broad : d ≤ length (risen R (take d c.base) ++ drop d c.base)
        broad = omega (arith, n, length-append (risen R (take d c.base)) (drop d c.base))

        go : (t : Bool) → ltb (suc c.order) (length (orders d)) ≡ t
            → Reached d R (m + 1)
            (pick t (record { base = c.base; order = suc c.order }) (record { base = risen R (take d c.base) ++ drop d c.base; order = 0 }))
        go true e = record {
          b = w.b;
          number = omega (arith, w.number);
          order = ltb-true (suc c.order) (length (orders d)) e;
          wide = w.wide;
          here = w.here;
        }
        go false e = record {
          b = suc w.b;
          number = omega (arith, w.number, w.order, ltb-false (suc c.order) (length (orders d)) e, suc-mul w.b (length (orders d)));
          order = omega (arith, w.order);
          wide = broad;
          here = λ h.
              take_at (risen R (take d c.base)) (drop d c.base) d n
              ∙ ap (risen R) (w.here base_there)
              ∙ sym (falling-next d R w.b h);
        }

-- The first m chains have given what they give, and the cursor stands at the next.
pub record Filled (d R : ℕ) (before : List ℕ) (m : ℕ) (c : Cursor) (at : ℕ) (to : List ℕ) : Type 0 where
  pub turn : m ≤ length (falling_chains d R)
  pub reached : Reached d R m c
  pub written : Written (flat (pattern_of d R)) before (gather (given R) (drop m (falling_chains d R))) at to

module _ (d R : ℕ) (before : List ℕ) (pre : Ready d R (length before)) where
  fits : length (flat (pattern_of d R)) ≤ length before
  fits = subst (λ (n : ℕ). n ≤ length before) (sym (flat-count d R)) pre.room

  pub filled_none : (c : Cursor) → d ≤ length c.base → take d c.base ≡ replicate d 0 → c.order ≡ 0 → 0 < length (orders d) → Filled d R before 0 c 0 before
  filled_none c w e o h = record {
    turn = omega arith;
    reached = record {
      b = 0;
      number = omega (arith, zero-mul (length (orders d)));
      order = omega arith;
      wide = w;
      here = λ _. e ∙ sym (falling-first d R);
    };
    written =
        subst (λ (x : List ℕ). Written (flat (pattern_of d R)) before x 0 before) (pattern-chains d R) (written_none (flat (pattern_of d R)) before);
  }

  module _ (m : ℕ) (c : Cursor) (at : ℕ) (to : List ℕ) (w : Filled d R before m c at to) where
    pub filled-long : length to ≡ length before
    filled-long = written-length _ _ _ _ _ fits w.written

    pub filled_at : at ≤ length to
    filled_at = omega (arith, written-room _ _ _ _ _ fits w.written)

    pub filled-stands : Stands d R c
    filled-stands = record { axes = pre.axes; most = pre.most; wide = w.reached.wide; order = w.reached.order }

    module _ (l : m < length (falling_chains d R)) where
      next : gather (given R) (drop m (falling_chains d R)) ≡ given R (chain_at d c) ++ gather (given R) (drop (m + 1) (falling_chains d R))
      next =
          gather-step (given R) (falling_chains d R) m [] l
          ∙ ap (λ (x : List (List ℕ)). given R x ++ gather (given R) (drop (m + 1) (falling_chains d R))) (chain-there d R m c w.reached l)

      pub filled-room : at + length (given R (chain_at d c)) ≤ length to
      filled-room =
          omega (
            arith,
            written-room _ _ _ _ _ fits w.written,
            ap length next,
            length-append (given R (chain_at d c)) (gather (given R) (drop (m + 1) (falling_chains d R))),
          )

      -- the part from there on has room for what this chain gives
      pub filled-part : length (given R (chain_at d c)) ≤ length (take (length to - at) (drop at to))
      filled-part =
          omega (arith, filled-room, filled_at, length-take-le (length to - at) (drop at to) (le_of_eq (sym (length-drop at to))))

      pub filled_next : (k used : ℕ) (ys : List ℕ) → length to ≤ at + k → used ≡ length (given R (chain_at d c)) → ys ≡ onto (given R (chain_at d c)) (take k (drop at to))
          → Filled d R before (m + 1) (step_of d R c) (at + used) (take at to ++ (ys ++ drop k (drop at to)))
      filled_next k used ys h u e = record {
        turn = omega arith;
        reached = reached-step d R m c w.reached l;
        written =
            subst
            (λ (x : ℕ).
            Written (flat (pattern_of d R)) before (gather (given R) (drop (m + 1) (falling_chains d R))) (at + x) (take at to ++ (ys ++ drop k (drop at to))))
            (sym u)
            (written-tail _ _ _ _ _ fits w.written (given R (chain_at d c)) (gather (given R) (drop (m + 1) (falling_chains d R))) next k ys h e);
      }

    pub filled-end : length (falling_chains d R) ≤ m → to ≡ onto (flat (pattern_of d R)) before
    filled-end l = written-end _ _ _ _ _ fits w.written (gather-end (given R) (falling_chains d R) m l)
