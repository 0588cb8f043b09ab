-- The answer fine says that every check was passed, and a list that passes them all gets fine. Assumes nothing.
use Rattle.refusal.specs.Says.{fine}
use mathlib.Core.Path.{◌≡◌, ap}
use mathlib.Core.Bool.{not}
use mathlib.Core.List.{List}
use Prim.Native.Nat.{ℕ, ◌+◌, ◌/◌}
use native.Mathlib.Nat.{le_refl}
use lib.ListN.{length}
use borrow.Author.Tests.{le-ltb, lt-leb, eq-eqb, ne_eqb, ltb-false, leb-false, eqb-true, eqb-false, not-false}
use Rattle.lists.specs.Rows.{row}
use Rattle.lists.specs.Words.{among, has_repeat, largest_of}
use Rattle.refusal.proofs.Chain.{refuse-fine}
use Rattle.complex.specs.Check.{answer_of, Passed}
use Rattle.lists.proofs.Words.{first-none}
pub use Rattle.lists.proofs.Words.{first-full, first_found, first-before}

pub fine-passed : (d : ℕ) (ws : List ℕ) → answer_of d ws ≡ fine → Passed d ws
unfolding answer_of
fine-passed d ws e =
    let r1 = refuse-fine _ _ _ e in
    let r2 = refuse-fine _ _ _ r1.1 in
    let r3 = refuse-fine _ _ _ r2.1 in
    let r4 = refuse-fine _ _ _ r3.1 in
    let r5 = refuse-fine _ _ _ r4.1 in
    let r6 = refuse-fine _ _ _ r5.1 in
    let r7 = refuse-fine _ _ _ r6.1 in
    record {
      small = ltb-false _ _ r1.0;
      some_words = eqb-false _ _ r2.0;
      whole = eqb-true _ _ (not-false _ r3.0);
      few = ltb-false _ _ r4.0;
      apart = first-full (λ k. has_repeat (row ws (d + 1) k)) _ (ltb-false _ _ r5.0);
      low = leb-false _ _ r6.0;
      used = λ v h. not-false _ (first-full (λ u. not (among u ws)) (largest_of ws) (ltb-false _ _ r7.0) v h);
    }

-- and back: so fine is given exactly where all the checks are passed
pub passed-fine : (d : ℕ) (ws : List ℕ) → Passed d ws → answer_of d ws ≡ fine
unfolding answer_of
passed-fine d ws p =
    simp (
      le-ltb _ _ p.small,
      ne_eqb _ _ p.some_words,
      eq-eqb _ _ p.whole,
      le-ltb _ _ p.few,
      first-none (λ k. has_repeat (row ws (d + 1) k)) (length ws / (d + 1)) p.apart,
      le-ltb _ _ (le_refl (length ws / (d + 1))),
      lt-leb _ _ p.low,
      first-none (λ v. not (among v ws)) (largest_of ws) (λ v h. ap not (p.used v h)),
      le-ltb _ _ (le_refl (largest_of ws)),
    )
