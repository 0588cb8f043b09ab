-- The walk to the first coordinate below R: those before it become its equal. Assumes nothing.
use mathlib.Core.Path.{◌≡◌, refl, sym, ap, ◌∙◌}
use mathlib.Core.Bool.{Bool, true, false}
use mathlib.Core.List.{List, ◌∷◌, ◌++◌, append-nil}
use Prim.Native.Nat.{ℕ, suc, ◌+◌, ◌≤◌, ◌<◌}
use native.Mathlib.Numerals.{add-one}
use native.Mathlib.Omega.{arith}
use lib.Dec.{ltb}
use lib.ListN.{length, get_or, drop, replicate, replicate-append-replicate, drop_of_length-le}
use lib.Seq.{drop-cons, append_snoc}
use borrow.Author.Tests.{lt-ltb, le-ltb}
use Rattle.refine_lattice.specs.Children.{pick}
use Rattle.refine_pattern.specs.WorkChains.{top, risen}

pub record Over (R : ℕ) (s : List ℕ) (j : ℕ) : Type 0 where
  pub within : j ≤ length s
  pub left : risen R s ≡ replicate j (top (risen R (drop j s))) ++ risen R (drop j s)

pub over_none : (R : ℕ) (s : List ℕ) → Over R s 0
over_none R s = record { within = omega arith; left = refl }

module _ (R : ℕ) (s : List ℕ) (j : ℕ) (w : Over R s j) (h : j < length s) where
  abbrev one_more : Bool → List ℕ
  one_more b = pick b (suc (get_or s j 0) ∷ drop (suc j) s) (top (risen R (drop (suc j) s)) ∷ risen R (drop (suc j) s))

  here : (b : Bool) → ltb (get_or s j 0) R ≡ b → risen R s ≡ replicate j (top (one_more b)) ++ one_more b
  here b e =
      w.left
      ∙ ap (λ (l : List ℕ). replicate j (top (risen R l)) ++ risen R l) (drop-cons s j 0 h)
      ∙ ap (λ (b : Bool). replicate j (top (one_more b)) ++ one_more b) e

  together : (x : ℕ) (l : List ℕ) → replicate j x ++ (x ∷ l) ≡ replicate (j + 1) x ++ l
  together x l =
      sym (append_snoc (replicate j x) x l) ∙ ap (λ (k : List ℕ). k ++ l) (replicate-append-replicate {A = ℕ} j 1 x)

  pub over-next : R ≤ get_or s j 0 → Over R s (j + 1)
  over-next l = record {
    within = omega arith;
    left =
        here false (le-ltb (get_or s j 0) R l)
        ∙ together (top (risen R (drop (suc j) s))) (risen R (drop (suc j) s))
        ∙ ap (λ (n : ℕ). replicate (j + 1) (top (risen R (drop n s))) ++ risen R (drop n s)) (sym (add-one j));
  }

  pub over-found : get_or s j 0 < R → (n : ℕ) → n ≡ j + 1 → replicate n (get_or s j 0 + 1) ++ drop (j + 1) s ≡ risen R s
  over-found l n e =
      ap (λ (n : ℕ). replicate n (get_or s j 0 + 1) ++ drop (j + 1) s) e
      ∙ ap (λ (x : ℕ). replicate (j + 1) x ++ drop (j + 1) s) (add-one (get_or s j 0))
      ∙ ap (λ (n : ℕ). replicate (j + 1) (suc (get_or s j 0)) ++ drop n s) (add-one j)
      ∙ sym (together (suc (get_or s j 0)) (drop (suc j) s))
      ∙ sym (here true (lt-ltb (get_or s j 0) R l))

pub over-end : (R : ℕ) (s : List ℕ) (j : ℕ) → Over R s j → length s ≤ j → replicate (length s) 0 ≡ risen R s
over-end R s j w h =
    let e : j ≡ length s = omega (arith, w.within) in
    sym (w.left
    ∙ ap (λ (l : List ℕ). replicate j (top (risen R l)) ++ risen R l) (drop_of_length-le s {i = j} h)
    ∙ append-nil (replicate j 0)
    ∙ ap (λ (n : ℕ). replicate n 0) e)
