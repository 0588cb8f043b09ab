-- `table::has` meets its contract: it says yes past all four tests, and each test that stops it shuts the six patterns out. Assumes nothing.
use mathlib.Core.Path.{◌≡◌}
use mathlib.Core.Bool.{true, false}
use Prim.Native.Nat.{ℕ}
use native.Mathlib.Omega.{arith}
use borrow.Author.Tests.{leb-true, leb-false}
use Rattle.refine_pattern.specs.Table.{InTable, Tested}
use Rattle.refine_pattern.proofs.table.has.Goals as goal

never : false ≡ true → ⊥
never e = let z : ◌≡◌ {A = ℕ} 0 1 = cc in omega arith

says-no : (d R : ℕ) → (InTable d R → ⊥) → Tested d R false
says-no d R h = record { yes = λ e. absurd (never e); no = λ e. h }

pub returns-then-d-lt2 : goal.returns-then-d-lt2
returns-then-d-lt2 c = says-no _ _ (λ t. omega (arith, c.if-d-lt2.true, t.axes_from))

pub returns-then-d-gt3 : goal.returns-then-d-gt3
returns-then-d-gt3 c = says-no _ _ (λ t. omega (arith, c.if-d-gt3.true, t.axes_to))

pub returns-then-r-lt2 : goal.returns-then-r-lt2
returns-then-r-lt2 c = says-no _ _ (λ t. omega (arith, c.if-r-lt2.true, t.least))

pub returns : goal.returns
returns c = record {
  yes = λ e. record {
    axes_from = omega arith;
    axes_to = omega arith;
    least = omega arith;
    most = leb-true c.args.r 4 e;
  };
  no = λ e t. omega (arith, leb-false c.args.r 4 e, t.most);
}
