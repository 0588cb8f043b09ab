-- `refine_results::fits` meets its contract: each test that fails shows a list that is too short, and past the tests none is. Assumes nothing.
use mathlib.Core.Path.{ap}
use Prim.Native.Nat.{ℕ, suc, ◌+◌, ◌*◌}
use native.Mathlib.Omega.{arith}
use native.Mathlib.Numerals.{add-one}
use borrow.Author.Tests.{leb-true, leb-false}
use Rattle.refusal.specs.Limits.{most_cells, most_vertices, row_most}
use Rattle.refine_results.proofs.Tests.{never}
use native.Mathlib.Nat.{mul-le-mul_left, mul-le-mul_right}
use Rattle.refine_results.proofs.fits.Goals as goal

pub overflow_mul-corners : goal.overflow_mul-corners
overflow_mul-corners c = record { fits = omega (arith, ap (λ (x : ℕ). c.args.m * x) (add-one c.args.d), mul-le-mul_right (suc c.args.d) c.requires.1, mul-le-mul_left {m = suc c.args.d} {n = row_most} most_cells (omega (arith, c.requires.0))) }

pub overflow_mul-ends : goal.overflow_mul-ends
overflow_mul-ends c = record { fits = omega (arith, ap (λ (x : ℕ). c.args.b * x) (add-one c.args.d), mul-le-mul_right (suc c.args.d) c.requires.2, mul-le-mul_left {m = suc c.args.d} {n = row_most} most_vertices (omega (arith, c.requires.0))) }

pub returns-then-cells-corners : goal.returns-then-cells-corners
returns-then-cells-corners c = record { yes = λ e. absurd (never e); no = λ e h z k. omega (arith, k.of_cells, z.cells_size, c.if-cells-corners.true, ap (λ (x : ℕ). c.args.m * x) (add-one c.args.d), ap (λ (x : ℕ). c.args.b * x) (add-one c.args.d)) }

pub returns-then-words-corners : goal.returns-then-words-corners
returns-then-words-corners c = record { yes = λ e. absurd (never e); no = λ e h z k. omega (arith, k.of_words, z.words_size, c.if-words-corners.true, ap (λ (x : ℕ). c.args.m * x) (add-one c.args.d), ap (λ (x : ℕ). c.args.b * x) (add-one c.args.d)) }

pub returns-then-parents-m : goal.returns-then-parents-m
returns-then-parents-m c = record { yes = λ e. absurd (never e); no = λ e h z k. omega (arith, k.of_parents, z.parents_size, c.if-parents-m.true, ap (λ (x : ℕ). c.args.m * x) (add-one c.args.d), ap (λ (x : ℕ). c.args.b * x) (add-one c.args.d)) }

pub returns-then-jacobians-m : goal.returns-then-jacobians-m
returns-then-jacobians-m c = record { yes = λ e. absurd (never e); no = λ e h z k. omega (arith, k.of_jacobians, z.jacobians_size, c.if-jacobians-m.true, ap (λ (x : ℕ). c.args.m * x) (add-one c.args.d), ap (λ (x : ℕ). c.args.b * x) (add-one c.args.d)) }

pub returns-then-wholes-m : goal.returns-then-wholes-m
returns-then-wholes-m c = record { yes = λ e. absurd (never e); no = λ e h z k. omega (arith, k.of_wholes, z.wholes_size, c.if-wholes-m.true, ap (λ (x : ℕ). c.args.m * x) (add-one c.args.d), ap (λ (x : ℕ). c.args.b * x) (add-one c.args.d)) }

pub returns-then-vertices-ends : goal.returns-then-vertices-ends
returns-then-vertices-ends c = record { yes = λ e. absurd (never e); no = λ e h z k. omega (arith, k.of_vertices, z.vertices_size, c.if-vertices-ends.true, ap (λ (x : ℕ). c.args.m * x) (add-one c.args.d), ap (λ (x : ℕ). c.args.b * x) (add-one c.args.d)) }

pub returns-then-weights-ends : goal.returns-then-weights-ends
returns-then-weights-ends c = record { yes = λ e. absurd (never e); no = λ e h z k. omega (arith, k.of_weights, z.weights_size, c.if-weights-ends.true, ap (λ (x : ℕ). c.args.m * x) (add-one c.args.d), ap (λ (x : ℕ). c.args.b * x) (add-one c.args.d)) }

pub returns : goal.returns
returns c =
    record {
      yes =
          λ e h z.
          record {
            of_cells = omega (arith, z.cells_size, c.if-cells-corners.false, ap (λ (x : ℕ). c.args.m * x) (add-one c.args.d), ap (λ (x : ℕ). c.args.b * x) (add-one c.args.d));
            of_words = omega (arith, z.words_size, c.if-words-corners.false, ap (λ (x : ℕ). c.args.m * x) (add-one c.args.d), ap (λ (x : ℕ). c.args.b * x) (add-one c.args.d));
            of_parents = omega (arith, z.parents_size, c.if-parents-m.false, ap (λ (x : ℕ). c.args.m * x) (add-one c.args.d), ap (λ (x : ℕ). c.args.b * x) (add-one c.args.d));
            of_jacobians = omega (arith, z.jacobians_size, c.if-jacobians-m.false, ap (λ (x : ℕ). c.args.m * x) (add-one c.args.d), ap (λ (x : ℕ). c.args.b * x) (add-one c.args.d));
            of_wholes = omega (arith, z.wholes_size, c.if-wholes-m.false, ap (λ (x : ℕ). c.args.m * x) (add-one c.args.d), ap (λ (x : ℕ). c.args.b * x) (add-one c.args.d));
            of_vertices = omega (arith, z.vertices_size, c.if-vertices-ends.false, ap (λ (x : ℕ). c.args.m * x) (add-one c.args.d), ap (λ (x : ℕ). c.args.b * x) (add-one c.args.d));
            of_weights = omega (arith, z.weights_size, c.if-weights-ends.false, ap (λ (x : ℕ). c.args.m * x) (add-one c.args.d), ap (λ (x : ℕ). c.args.b * x) (add-one c.args.d));
            of_shares = omega (arith, z.shares_size, leb-true (c.args.b * (c.args.d + 1)) c.args.shares e, ap (λ (x : ℕ). c.args.m * x) (add-one c.args.d), ap (λ (x : ℕ). c.args.b * x) (add-one c.args.d));
          };
      no = λ e h z k. omega (arith, k.of_shares, z.shares_size, leb-false (c.args.b * (c.args.d + 1)) c.args.shares e, ap (λ (x : ℕ). c.args.m * x) (add-one c.args.d), ap (λ (x : ℕ). c.args.b * x) (add-one c.args.d));
    }
