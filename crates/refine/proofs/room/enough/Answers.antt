-- Each test that fails shows a list that is too short, and past the ten tests none is. Assumes nothing.
use mathlib.Core.Path.{◌≡◌}
use mathlib.Core.Bool.{Bool, true, false}
use Prim.Native.Nat.{ℕ}
use native.Mathlib.Omega.{arith}
use Rattle.refine.proofs.room.enough.Goals as goal

never : ◌≡◌ {A = Bool} true false → ⊥
never e = let z : ◌≡◌ {A = ℕ} 0 1 = cc in omega arith

never' : ◌≡◌ {A = Bool} false true → ⊥
never' e = let z : ◌≡◌ {A = ℕ} 0 1 = cc in omega arith

pub returns-then-have-need : goal.returns-then-have-need
returns-then-have-need c = record { yes = λ e. absurd (never' e); no = λ e r. omega (arith, r.in_cells) }

pub returns-then-have-need-2 : goal.returns-then-have-need-2
returns-then-have-need-2 c = record { yes = λ e. absurd (never' e); no = λ e r. omega (arith, r.in_along) }

pub returns-then-have-need-3 : goal.returns-then-have-need-3
returns-then-have-need-3 c = record { yes = λ e. absurd (never' e); no = λ e r. omega (arith, r.in_pattern) }

pub returns-then-have-need-4 : goal.returns-then-have-need-4
returns-then-have-need-4 c = record { yes = λ e. absurd (never' e); no = λ e r. omega (arith, r.in_keys) }

pub returns-then-have-need-5 : goal.returns-then-have-need-5
returns-then-have-need-5 c = record { yes = λ e. absurd (never' e); no = λ e r. omega (arith, r.in_rows) }

pub returns-then-have-need-6 : goal.returns-then-have-need-6
returns-then-have-need-6 c = record { yes = λ e. absurd (never' e); no = λ e r. omega (arith, r.in_spare) }

pub returns-then-have-need-7 : goal.returns-then-have-need-7
returns-then-have-need-7 c = record { yes = λ e. absurd (never' e); no = λ e r. omega (arith, r.in_counts) }

pub returns-then-have-need-8 : goal.returns-then-have-need-8
returns-then-have-need-8 c = record { yes = λ e. absurd (never' e); no = λ e r. omega (arith, r.in_sorted) }

pub returns-then-have-need-9 : goal.returns-then-have-need-9
returns-then-have-need-9 c = record { yes = λ e. absurd (never' e); no = λ e r. omega (arith, r.in_firsts) }

pub returns-then-have-need-10 : goal.returns-then-have-need-10
returns-then-have-need-10 c = record { yes = λ e. absurd (never' e); no = λ e r. omega (arith, r.in_buckets) }

pub returns : goal.returns
returns c =
    record {
      yes = λ e. record {
        in_cells = omega (arith, c.if-have-need.false);
        in_along = omega (arith, c.if-have-need-2.false);
        in_pattern = omega (arith, c.if-have-need-3.false);
        in_keys = omega (arith, c.if-have-need-4.false);
        in_rows = omega (arith, c.if-have-need-5.false);
        in_spare = omega (arith, c.if-have-need-6.false);
        in_counts = omega (arith, c.if-have-need-7.false);
        in_sorted = omega (arith, c.if-have-need-8.false);
        in_firsts = omega (arith, c.if-have-need-9.false);
        in_buckets = omega (arith, c.if-have-need-10.false);
      };
      no = λ e r. never e;
    }
