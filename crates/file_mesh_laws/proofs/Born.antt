-- The births of a refinement keep the rules of a mesh file. Assumes nothing.
use mathlib.Core.Path.{◌≡◌, refl, sym, ap, subst, ◌∙◌}
use mathlib.Core.Bool.{Bool, true, false, ◌||◌}
use mathlib.Core.List.{List, [], ◌∷◌, ◌++◌}
use Prim.Native.Nat.{ℕ, zero, suc, ◌+◌, ◌≤◌, ◌<◌}
use native.Mathlib.Omega.{arith}
use lib.ListN.{length, take, drop, length-append}
use lib.Seq.{take_at, drop_at}
use lib.Dec.{eqb}
use borrow.Author.Tests.{lt-ltb, le-leb, eq-eqb}
use Rattle.refine_lattice.specs.Refine.{positives}
use Rattle.refine_births.specs.Support.{supporters, shares, total}
use Rattle.file_mesh.specs.declared.Run.{Run}
use Rattle.file_mesh.specs.Rules.{no_birth, more, begun, pairs_fit, weights_of, birth_fits, births_fit}
use Rattle.file_mesh.proofs.Parts.{and_both}
use Rattle.file_mesh_laws.specs.Births.{numbered, beside, pairs, Between}

-- ---- the pairs of one birth

beside-fits : (first low v : ℕ) (l : List ℕ) → low ≤ v → v + length l ≤ first → pairs_fit first low (beside (supporters v l) (shares l)) ≡ true
unfolding pairs_fit beside
beside-fits first low v [] h k = refl
beside-fits first low v (zero ∷ l) h k = beside-fits first low (suc v) l (omega arith) (omega arith)
beside-fits first low v (suc w ∷ l) h k =
    and_both (and_both (le-leb low v h) (lt-ltb v first (omega arith))) (and_both (le-leb 1 (suc w) (omega arith)) (beside-fits first (suc v) (suc v) l (omega arith) (omega arith)))

beside-sum : (v : ℕ) (l : List ℕ) → weights_of (beside (supporters v l) (shares l)) ≡ total l
unfolding weights_of beside
beside-sum v [] = refl
beside-sum v (zero ∷ l) = beside-sum (suc v) l ∙ omega arith
beside-sum v (suc w ∷ l) = ap (λ (x : ℕ). suc w + x) (beside-sum (suc v) l)

beside_long : (v : ℕ) (l : List ℕ) → length (beside (supporters v l) (shares l)) ≡ positives l + positives l
unfolding beside
beside_long v [] = refl
beside_long v (zero ∷ l) = beside_long (suc v) l
beside_long v (suc w ∷ l) = omega (arith, beside_long (suc v) l)

-- ---- one birth after the others

or_right : (a b : Bool) → b ≡ true → (a || b) ≡ true
or_right true b e = refl
or_right false b e = e

-- the births so far, where the next has the number x: none, or some by R whose first is `first`
pub record Ready (first R x : ℕ) (run : Run) : Type 0 where
  pub number : (eqb run.r 0 || eqb x run.next) ≡ true
  pub refinement : (eqb run.r 0 || eqb R run.r) ≡ true
  pub ends : (eqb run.r 0 || eqb run.next x) ≡ true
  pub on : more run x R ≡ record { first = first; r = R; next = suc x }

ready-none : (R x : ℕ) → Ready x R x no_birth
unfolding begun
ready-none R x = record { number = refl; refinement = refl; ends = refl; on = refl }

ready-some : (first R x : ℕ) → 2 ≤ R → Ready first R x (record { first = first; r = R; next = x })
unfolding begun
ready-some first zero x h = absurd (omega arith)
ready-some first (suc R) x h =
    record {
      number = or_right (eqb (suc R) 0) (eqb x x) (eq-eqb x x refl);
      refinement = or_right (eqb (suc R) 0) (eqb (suc R) (suc R)) (eq-eqb (suc R) (suc R) refl);
      ends = or_right (eqb (suc R) 0) (eqb x x) (eq-eqb x x refl);
      on = refl;
    }

birth-fits : (first R x vertices : ℕ) (run : Run) (l ps : List ℕ) → 2 ≤ R → R ≤ 64 → x < vertices → Ready first R x run → Between R first l →
    birth_fits vertices run x R (positives l) (beside (supporters 0 l) (shares l) ++ ps) ≡ true
unfolding birth_fits
birth-fits first R x vertices run l ps h k low y b =
    let own = beside (supporters 0 l) (shares l) in
    let c = positives l in
    let t : take (c + c) (own ++ ps) ≡ own = take_at own ps (c + c) (beside_long 0 l) in
    let f : (more run x R).first ≡ first = ap (λ (z : Run). z.first) y.on in
    and_both (and_both (lt-ltb x vertices low) y.number)
    (and_both (and_both (le-leb 2 R h) (and_both (le-leb R 64 k) y.refinement))
    (and_both (le-leb 2 c b.many)
    (and_both (le-leb (c + c) (length (own ++ ps)) (omega (arith, length-append own ps, beside_long 0 l)))
    (and_both (ap (λ (z : ℕ). pairs_fit z 0 (take (c + c) (own ++ ps))) f ∙ ap (pairs_fit first 0) t ∙ beside-fits first 0 0 l (omega arith) (omega (arith, b.low)))
    (eq-eqb (weights_of (take (c + c) (own ++ ps))) R (ap weights_of t ∙ beside-sum 0 l ∙ b.sum))))))

-- all of them: the last has the last vertex's number
abbrev pub AllBetween : ℕ → ℕ → List (List ℕ) → Type 0
AllBetween R n [] = Unit {0}
AllBetween R n (l ∷ ls) = Between R n l × AllBetween R n ls

births-on : (first R x : ℕ) (run : Run) (ls : List (List ℕ)) → 2 ≤ R → R ≤ 64 → Ready first R x run → AllBetween R first ls → births_fit (x + length ls) run (numbered R x ls) (pairs ls) ≡ true
unfolding births_fit numbered pairs
births-on first R x run [] h k y a = subst (λ (z : ℕ). (eqb run.r 0 || eqb run.next z) ≡ true) {x = x} {y = x + 0} (omega arith) y.ends
births-on first R x run (l ∷ ls) h k y a =
    let own = beside (supporters 0 l) (shares l) in
    let c = positives l in
    let d : drop (c + c) (own ++ pairs ls) ≡ pairs ls = drop_at own (pairs ls) (c + c) (beside_long 0 l) in
    let v : suc x + length ls ≡ x + suc (length ls) = omega arith in
    let i = births-on first R (suc x) (record { first = first; r = R; next = suc x }) ls h k (ready-some first R (suc x) h) a.1 in
    and_both (birth-fits first R x (x + suc (length ls)) run l (pairs ls) h k (omega arith) y a.0)
    (ap (λ (z : Run). births_fit (x + suc (length ls)) z (numbered R (suc x) ls) (drop (c + c) (own ++ pairs ls))) y.on
    ∙ ap (births_fit (x + suc (length ls)) (record { first = first; r = R; next = suc x }) (numbered R (suc x) ls)) d
    ∙ ap (λ (z : ℕ). births_fit z (record { first = first; r = R; next = suc x }) (numbered R (suc x) ls) (pairs ls)) (sym v)
    ∙ i)

-- THE LAW of the births: between n vertices, two or more each, R shares in all, numbered from n on, they keep the rules
pub births-keep : (R n : ℕ) (ls : List (List ℕ)) → 2 ≤ R → R ≤ 64 → AllBetween R n ls → births_fit (n + length ls) no_birth (numbered R n ls) (pairs ls) ≡ true
births-keep R n ls h k a = births-on n R n no_birth ls h k (ready-none R n) a
