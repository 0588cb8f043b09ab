-- Where a cursor stands: its chain, what the chain gives, and its next place. Assumes nothing.
use mathlib.Core.Path.{◌≡◌, sym, ap, ◌∙◌}
use mathlib.Core.Bool.{Bool, true, false}
use mathlib.Core.List.{List, [], ◌++◌}
use Prim.Native.Nat.{ℕ, suc, ◌+◌, ◌*◌, ◌≤◌, ◌<◌}
use native.Mathlib.Numerals.{add-one}
use native.Mathlib.Omega.{arith}
use lib.ListN.{length, take, drop}
use lib.Seq.{length-take-le}
use borrow.Author.Tests.{lt-ltb, le-ltb}
use Rattle.refusal.specs.Lent.{onto}
use Rattle.multiindex.specs.Permutation.{orders, order_of}
use Rattle.refine_lattice.specs.Children.{pick}
use Rattle.refine_pattern.specs.WorkChains.{chain_at, keeps, weighed, given, risen, step_of, Stands}
use Rattle.refine_pattern.specs.declared.Cursor.{Cursor}
use Rattle.refine_pattern.proofs.Chains.{order_long, weighed-length}

-- a chain that is not kept gives nothing, and one that is kept its weights
pub given-no : (R : ℕ) (w : List (List ℕ)) → keeps R w ≡ false → given R w ≡ []
given-no R w e = ap (λ (b : Bool). pick b (weighed R w) []) e

pub given_yes : (R : ℕ) (w : List (List ℕ)) → keeps R w ≡ true → given R w ≡ weighed R w
given_yes R w e = ap (λ (b : Bool). pick b (weighed R w) []) e

module _ (d R : ℕ) (c : Cursor) (s : Stands d R c) where
  pub chain-size : length (weighed R (chain_at d c)) ≡ suc d * suc d
  chain-size =
      weighed-length R (take d c.base) (order_of d c.order)
      ∙ ap (λ (n : ℕ). suc n * suc (length (take d c.base))) (order_long d c.order s.order)
      ∙ ap (λ (n : ℕ). suc d * suc n) (length-take-le d c.base s.wide)

  -- the list with the front replaced by the weights of a kept chain
  pub gives-onto : (to ys : List ℕ) (n : ℕ) → keeps R (chain_at d c) ≡ true → n ≡ suc d * suc d → ys ≡ weighed R (chain_at d c)
      → (n ≡ length (given R (chain_at d c))) × (ys ++ drop n to ≡ onto (given R (chain_at d c)) to)
  gives-onto to ys n q m e =
      let g = given_yes R (chain_at d c) q in
      let l : n ≡ length (given R (chain_at d c)) = m ∙ sym (ap length g ∙ chain-size) in (
        l,
        ap (λ (x : List ℕ). x ++ drop n to) (e ∙ sym g) ∙ ap (λ (x : ℕ). given R (chain_at d c) ++ drop x to) l,
      )

  pub gives_none : (to : List ℕ) → keeps R (chain_at d c) ≡ false → (0 ≡ length (given R (chain_at d c))) × (to ≡ onto (given R (chain_at d c)) to)
  gives_none to q =
      let g = given-no R (chain_at d c) q in
      (ap length (sym g), ap (λ (x : List ℕ). onto x to) (sym g))

module _ (d R : ℕ) (c : Cursor) where
  abbrev onward : ℕ → Cursor
  onward k = record { base = c.base; order = k }

  abbrev anew : List ℕ → Cursor
  anew new = record { base = new ++ drop d c.base; order = 0 }

  pub step-on : c.order + 1 < length (orders d) → onward (c.order + 1) ≡ step_of d R c
  step-on h =
      ap onward (add-one c.order)
      ∙ sym
      (ap (λ (b : Bool). pick b (onward (suc c.order)) (anew (risen R (take d c.base)))) (lt-ltb (suc c.order) (length (orders d)) (omega arith)))

  pub step-over : (new : List ℕ) → length (orders d) ≤ c.order + 1 → new ≡ risen R (take d c.base) → anew new ≡ step_of d R c
  step-over new h e =
      ap anew e
      ∙ sym
      (ap (λ (b : Bool). pick b (onward (suc c.order)) (anew (risen R (take d c.base)))) (le-ltb (suc c.order) (length (orders d)) (omega arith)))
