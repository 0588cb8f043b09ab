-- The list of all digits is a run: each entry is the one before it, raised. Assumes nothing.
use mathlib.Core.Path.{◌≡◌, refl, sym, ap, ◌∙◌, subst}
use mathlib.Core.List.{List, [], ◌∷◌, ◌++◌, map}
use Prim.Native.Nat.{ℕ, zero, suc, ◌+◌, ◌<◌}
use native.Mathlib.Nat.{not-suc-le-zero, le_of_suc-le-suc}
use native.Mathlib.Omega.{arith}
use lib.ListN.{length, get_or, replicate}
use borrow.Author.Tests.{lt-ltb, le-ltb}
use Rattle.lists.specs.Tables.{tab, upto}
use Rattle.multiindex.specs.Permutation.{gather}
use Rattle.multiindex.specs.Cartesian.{carry, digits, raised}

-- the list goes on from x, each entry made of the one before it
abbrev Runs : {A : Type 0} → (A → A) → A → List A → Type 0
Runs f x [] = Unit {0}
Runs f x (y ∷ l) = (y ≡ f x) × Runs f y l

abbrev last : {A : Type 0} → A → List A → A
last x [] = x
last x (y ∷ l) = last y l

run-append : {A : Type 0} (f : A → A) (x : A) (l : List A) (z : A) (m : List A) → Runs f x l → last x l ≡ z → Runs f z m → Runs f x (l ++ m)
run-append f x [] z m r e q = subst (λ y. Runs f y m) (sym e) q
run-append f x (y ∷ l) z m r e q = (r.0, run-append f y l z m r.1 e q)

run_at : {A : Type 0} (f : A → A) (x : A) (l : List A) → Runs f x l → (b : ℕ) (z : A) → b < length l → get_or (x ∷ l) (suc b) z ≡ f (get_or (x ∷ l) b z)
run_at f x [] r b z h = absurd (not-suc-le-zero h)
run_at f x (y ∷ l) r zero z h = r.0
run_at f x (y ∷ l) r (suc b) z h = run_at f y l r.1 b z (le_of_suc-le-suc h)

module _ (n : ℕ) where
  -- the first digit goes up to the last one
  ups : (s : List ℕ) (x m : ℕ) (g : ℕ → ℕ) → ((i : ℕ) → g i ≡ suc (x + i)) → x + m < n
      → Runs (raised n) (x ∷ s) (map (λ y. y ∷ s) (tab m g)) × (last (x ∷ s) (map (λ y. y ∷ s) (tab m g)) ≡ (x + m) ∷ s)
  ups s x zero g h l = (tt, ap (λ (y : ℕ). y ∷ s) {x = x} {y = x + 0} (omega arith))
  ups s x (suc m) g h l =
      let e : g zero ≡ suc x = h zero ∙ omega arith in
      let r = ups s (g zero) m (λ i. g (suc i)) (λ i. h (suc i) ∙ omega (arith, e)) (omega (arith, e)) in (
        (ap (λ (y : ℕ). y ∷ s) e ∙ sym (ap (λ b. carry b x s (raised n s)) (lt-ltb (suc x) n (omega arith))), r.0),
        r.1 ∙ ap (λ (y : ℕ). y ∷ s) {x = g zero + m} {y = x + suc m} (omega (arith, e)),
      )

-- block after block
blocks : (m : ℕ) (s : List ℕ) (l : List (List ℕ)) → Runs (raised (suc m)) s l
    → Runs (raised (suc m)) (0 ∷ s) (map (λ x. x ∷ s) (tab m suc) ++ gather (λ t. map (λ x. x ∷ t) (upto (suc m))) l)
blocks m s [] r =
    let u = ups (suc m) s 0 m suc (λ i. omega arith) (omega arith) in
    run-append (raised (suc m)) (0 ∷ s) (map (λ x. x ∷ s) (tab m suc)) ((0 + m) ∷ s) [] u.0 u.1 tt
blocks m s (t ∷ l) r =
    let u = ups (suc m) s 0 m suc (λ i. omega arith) (omega arith) in
    run-append (raised (suc m)) (0 ∷ s) (map (λ x. x ∷ s) (tab m suc)) ((0 + m) ∷ s) _ u.0 u.1 (
      ap (λ (v : List ℕ). 0 ∷ v) r.0
          ∙ sym (ap (λ b. carry b (0 + m) s (raised (suc m) s)) (le-ltb (suc (0 + m)) (suc m) (omega arith))),
      blocks m t l r.1,
    )

-- all digits: from zeros on, each raised
record Listed (d m : ℕ) : Type 0 where
  others : List (List ℕ)
  is : digits d (suc m) ≡ replicate d 0 ∷ others
  runs : Runs (raised (suc m)) (replicate d 0) others

listed : (d m : ℕ) → Listed d m
listed zero m = record { others = []; is = refl; runs = tt }
listed (suc d) m =
    let r = listed d m in
    record {
      others = map (λ x. x ∷ replicate d 0) (tab m suc) ++ gather (λ t. map (λ x. x ∷ t) (upto (suc m))) r.others;
      is = ap (gather (λ t. map (λ x. x ∷ t) (upto (suc m)))) r.is;
      runs = blocks m (replicate d 0) r.others r.runs;
    }

module _ (d m : ℕ) where
  pub digits-first : get_or (digits d (suc m)) 0 [] ≡ replicate d 0
  digits-first = ap (λ (l : List (List ℕ)). get_or l 0 []) (listed d m).is

  pub digits-next : (b : ℕ) → suc b < length (digits d (suc m)) → get_or (digits d (suc m)) (suc b) [] ≡ raised (suc m) (get_or (digits d (suc m)) b [])
  digits-next b h =
      let r = listed d m in
      ap (λ (l : List (List ℕ)). get_or l (suc b) []) r.is
      ∙ run_at (raised (suc m)) (replicate d 0) r.others r.runs b [] (omega (arith, ap length r.is))
      ∙ ap (λ (l : List (List ℕ)). raised (suc m) (get_or l b [])) (sym r.is)
