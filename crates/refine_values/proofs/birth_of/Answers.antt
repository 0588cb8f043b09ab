-- `birth_of` meets its contract: the two tests, then the entries. Assumes nothing.
use mathlib.Core.Path.{sym, ◌∙◌}
use native.Mathlib.Omega.{arith}
use Rattle.refine_values.proofs.Laws.{word_end, birth-dimension, birth-none, vertices-in, weights-in, shares-in, birth-there}
use Rattle.refine_values.proofs.birth_of.Goals as goal

pub returns-then-d-gt-MOST_DIMENSION : goal.returns-then-d-gt-MOST_DIMENSION
returns-then-d-gt-MOST_DIMENSION c = birth-dimension c.args.d c.args.number c.args.vertices.now c.args.weights.now c.args.shares.now c.if-d-gt-MOST_DIMENSION.true

pub returns-then-not-has_birth : goal.returns-then-not-has_birth
returns-then-not-has_birth c = birth-none c.args.d c.args.number c.args.vertices.now c.args.weights.now c.args.shares.now c.if-d-gt-MOST_DIMENSION.false (sym c.has_birth.ensures ∙ c.if-not-has_birth.true)

pub overflow_mul-at : goal.overflow_mul-at
overflow_mul-at c = record { fits = omega (arith, word_end c.args.d c.args.number c.args.vertices.now c.if-d-gt-MOST_DIMENSION.false (omega (arith, c.ranges.number.fits))) }

pub overflow_add-end : goal.overflow_add-end
overflow_add-end c = record { fits = omega (arith, word_end c.args.d c.args.number c.args.vertices.now c.if-d-gt-MOST_DIMENSION.false (omega (arith, c.ranges.number.fits))) }

pub offset_bounds-vertices-at : goal.offset_bounds-vertices-at
offset_bounds-vertices-at c = record { fits = omega (arith, word_end c.args.d c.args.number c.args.vertices.now c.if-d-gt-MOST_DIMENSION.false (omega (arith, c.ranges.number.fits))) }

pub slice_bounds-row-end : goal.slice_bounds-row-end
slice_bounds-row-end c = vertices-in c.args.d c.args.number c.args.vertices.now c.args.weights.now c.args.shares.now c.if-d-gt-MOST_DIMENSION.false (sym c.has_birth.ensures ∙ c.if-not-has_birth.false)

pub offset_bounds-weights-at : goal.offset_bounds-weights-at
offset_bounds-weights-at c = record { fits = omega (arith, word_end c.args.d c.args.number c.args.vertices.now c.if-d-gt-MOST_DIMENSION.false (omega (arith, c.ranges.number.fits))) }

pub slice_bounds-four_numbers-end : goal.slice_bounds-four_numbers-end
slice_bounds-four_numbers-end c = weights-in c.args.d c.args.number c.args.vertices.now c.args.weights.now c.args.shares.now c.if-d-gt-MOST_DIMENSION.false (sym c.has_birth.ensures ∙ c.if-not-has_birth.false)

pub offset_bounds-shares-at : goal.offset_bounds-shares-at
offset_bounds-shares-at c = record { fits = omega (arith, word_end c.args.d c.args.number c.args.vertices.now c.if-d-gt-MOST_DIMENSION.false (omega (arith, c.ranges.number.fits))) }

pub slice_bounds-four_floats-end : goal.slice_bounds-four_floats-end
slice_bounds-four_floats-end c = shares-in c.args.d c.args.number c.args.vertices.now c.args.weights.now c.args.shares.now c.if-d-gt-MOST_DIMENSION.false (sym c.has_birth.ensures ∙ c.if-not-has_birth.false)

pub returns : goal.returns
returns c = birth-there c.args.d c.args.number c.args.vertices.now c.args.weights.now c.args.shares.now c.if-d-gt-MOST_DIMENSION.false (sym c.has_birth.ensures ∙ c.if-not-has_birth.false) _ _ _ _ c.vertices_in-count.ensures c.four_numbers-named.ensures c.four_numbers-weighed.ensures c.four_floats-shared.ensures
