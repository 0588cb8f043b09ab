-- `refine_results::inside` meets its contract: past the first test R is at least 1. Assumes nothing.
use native.Mathlib.Omega.{arith}
use borrow.Author.Tests.{leb-true, leb-false}
use Rattle.refine_results.proofs.Tests.{never}
use Rattle.refine_results.proofs.inside.Goals as goal

pub returns-then-r-eq0 : goal.returns-then-r-eq0
returns-then-r-eq0 c = record { yes = λ e. absurd (never e); no = λ e w. omega (arith, w.least) }

pub returns : goal.returns
returns c =
    record {
      yes = λ e. record { least = omega arith; most = omega (arith, leb-true c.args.r 64 e) };
      no = λ e w. omega (arith, w.most, leb-false c.args.r 64 e);
    }
