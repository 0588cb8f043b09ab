-- The births of a refinement stand between two or more vertices, with R shares in all. Assumes nothing.
use mathlib.Core.Path.{◌≡◌, refl, sym, ap, subst, ◌∙◌}
use mathlib.Core.Bool.{Bool, true, false, ◌||◌}
use mathlib.Core.Logic.{⊎_elim}
use mathlib.Core.List.Memᴰ
use mathlib.Core.List.{List, [], ◌∷◌, ◌++◌, map, Memᴰ}
use Prim.Native.Nat.{ℕ, zero, suc, ◌+◌, ◌*◌, ◌≤◌, ◌<◌}
use native.Mathlib.Omega.{arith}
use lib.ListN.{length}
use lib.Dec.{eqb, ltb}
use borrow.Author.Tests.{eqb-false}
use Rattle.lists.specs.Tables.{tab, sum}
use Rattle.lists.proofs.Tables.{length-tab}
use Rattle.lists.proofs.Sums.{sum-ext}
use Rattle.refine_lattice.specs.Lattice.{dot}
use Rattle.refine_lattice.specs.Complex.{weigh, occurrences}
use Rattle.refine_lattice.specs.Children.{pick}
use Rattle.refine_lattice.specs.Pattern.{pattern_of}
use Rattle.refine_lattice.specs.Refine.{visits, positives, place, births_from, births, vertices, In}
use Rattle.refine_lattice.proofs.Shares.{pull}
use Rattle.refine_lattice.proofs.Enumerate.{of-gather}
use Rattle.refine_lattice.proofs.Pattern.{added, row-long, row-sum, visits-pattern}
use Rattle.refine_births.specs.Support.{total}
use Rattle.file_mesh.specs.Rules.{no_birth, births_fit}
use Rattle.file_mesh_laws.specs.Births.{numbered, pairs, Between}
use Rattle.file_mesh_laws.proofs.Born.{AllBetween, births-keep}

-- ---- what holds of all visits that are no vertex holds of all births

or-false : (a b : Bool) → (a || b) ≡ false → a ≡ false
or-false true b e = e
or-false false b e = refl

keep : (P : List ℕ → Type 0) (b : Bool) (seen : List (List ℕ)) (x : List ℕ) → ((l : List ℕ) → Memᴰ l seen → P l) → (b ≡ false → P x) → (l : List ℕ) → Memᴰ l (pick b seen (seen ++ (x ∷ []))) → P l
keep P true seen x f p l m = f l m
keep P false seen x f p l m =
    ⊎_elim (f l) (λ q. ⊎_elim (λ e. subst P (sym e) (p refl)) (λ r. absurd (Memᴰ.not-nil r)) (Memᴰ.cases_cons q)) (Memᴰ.append_cases seen m)

pub births-all : (P : List ℕ → Type 0) (ls seen : List (List ℕ)) → ((l : List ℕ) → Memᴰ l seen → P l) → ((l : List ℕ) → Memᴰ l ls → (positives l ≡ 1 → ⊥) → P l) → (l : List ℕ) → Memᴰ l (births_from seen ls) → P l
births-all P [] seen f g l m = f l m
births-all P (x ∷ ls) seen f g l m =
    let b : Bool = eqb (positives x) 1 || ltb (place seen x) (length seen) in
    births-all P ls (pick b seen (seen ++ (x ∷ [])))
    (keep P b seen x f (λ e. g x (Memᴰ.head refl) (eqb-false (positives x) 1 (or-false (eqb (positives x) 1) (ltb (place seen x) (length seen)) e))))
    (λ y q. g y (Memᴰ.tail q)) l m

-- ---- the shares of a visit

sum_head : (n : ℕ) (f : ℕ → ℕ) → sum (suc n) f ≡ f 0 + sum n (λ i. f (suc i))
sum_head zero f = omega arith
sum_head (suc n) f = omega (arith, sum_head n f)

total-tab : (n : ℕ) (f : ℕ → ℕ) → total (tab n f) ≡ sum n f
total-tab zero f = refl
total-tab (suc n) f = ap (λ (x : ℕ). f 0 + x) (total-tab n (λ i. f (suc i))) ∙ sym (sum_head n f)

dot-ones : (us k : List ℕ) → length us ≡ length k → dot us (map (λ v. 1) k) ≡ added us
dot-ones [] k e = refl
dot-ones (u ∷ us) [] e = absurd (omega arith)
dot-ones (u ∷ us) (x ∷ k) e = omega (arith, dot-ones us k (omega arith))

none-positive : (l : List ℕ) → positives l ≡ 0 → total l ≡ 0
none-positive [] e = refl
none-positive (zero ∷ l) e = omega (arith, none-positive l e)
none-positive (suc w ∷ l) e = absurd (omega arith)

-- ---- the births

all_of : (R n : ℕ) (ls : List (List ℕ)) → ((l : List ℕ) → Memᴰ l ls → Between R n l) → AllBetween R n ls
all_of R n [] f = tt
all_of R n (l ∷ ls) f = (f l (Memᴰ.head refl), all_of R n ls (λ x m. f x (Memᴰ.tail m)))

module _ (d R n : ℕ) (ks : List (List ℕ)) (two : 2 ≤ R) (long : (k : List ℕ) → In ks k → length k ≡ suc d) (below : (k : List ℕ) → In ks k → (v : ℕ) → 0 < occurrences k v → v < n) where
  visit-total : (k us : List ℕ) → In ks k → Memᴰ us (pattern_of d R) → total (tab n (weigh k us)) ≡ R
  visit-total k us a m =
      total-tab n (weigh k us)
      ∙ sum-ext n (weigh k us) (λ v. weigh k us v * 1) (λ v l. omega arith)
      ∙ pull n (λ v. 1) us k (below k a)
      ∙ dot-ones us k (row-long d R us m ∙ sym (long k a))
      ∙ row-sum d R us m

  visit-between : (l : List ℕ) → Memᴰ l (visits d R n ks) → (positives l ≡ 1 → ⊥) → Between R n l
  visit-between l m e =
      let q = subst (λ (x : List (List ℕ)). Memᴰ l x) (visits-pattern d R n ks) m in
      let (k, a, b) = of-gather (λ k. map (λ us. tab n (weigh k us)) (pattern_of d R)) ks q in
      let (us, p, is) = Memᴰ.of_map (λ us. tab n (weigh k us)) (pattern_of d R) b in
      let t = visit-total k us a p in
      let z = ap total is in
      let some : positives l ≡ 0 → ⊥ = λ c. let w = none-positive l c in omega (arith, w, z, t) in
      record {
        low = omega (arith, ap length is, length-tab n (weigh k us));
        many = few (positives l) some e;
        sum = sym z ∙ t;
      }
    where
      few : (c : ℕ) → (c ≡ 0 → ⊥) → (c ≡ 1 → ⊥) → 2 ≤ c
      few zero f g = absurd (f refl)
      few (suc zero) f g = absurd (g refl)
      few (suc (suc c)) f g = omega arith

  pub births-between : AllBetween R n (births d R n ks)
  births-between = all_of R n (births d R n ks) (births-all (Between R n) (visits d R n ks) [] (λ l m. absurd (Memᴰ.not-nil m)) visit-between)

  -- THE LAW: the births of a refinement by R ≥ 2 keep the rules of a mesh file over its vertices
  pub refined-births : R ≤ 64 → births_fit (vertices d R n ks) no_birth (numbered R n (births d R n ks)) (pairs (births d R n ks)) ≡ true
  refined-births h = births-keep R n (births d R n ks) two h births-between
