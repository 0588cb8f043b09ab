-- `word_in` meets its contract: the two tests, then the part. Assumes nothing.
use native.Mathlib.Omega.{arith}
use Rattle.refine_values.proofs.Laws.{word-dimension, word-short, word-there, word_end}
use Rattle.refine_values.proofs.word_in.Goals as goal

pub returns-then-d-gt-MOST_DIMENSION : goal.returns-then-d-gt-MOST_DIMENSION
returns-then-d-gt-MOST_DIMENSION c = word-dimension c.args.d c.args.number c.args.words.now c.if-d-gt-MOST_DIMENSION.true

pub overflow_mul-at : goal.overflow_mul-at
overflow_mul-at c = record { fits = omega (arith, word_end c.args.d c.args.number c.args.words.now c.if-d-gt-MOST_DIMENSION.false (omega (arith, c.ranges.number.fits))) }

pub overflow_add-end : goal.overflow_add-end
overflow_add-end c = record { fits = omega (arith, word_end c.args.d c.args.number c.args.words.now c.if-d-gt-MOST_DIMENSION.false (omega (arith, c.ranges.number.fits))) }

pub returns-then-words-end : goal.returns-then-words-end
returns-then-words-end c = word-short c.args.d c.args.number c.args.words.now c.if-d-gt-MOST_DIMENSION.false c.if-words-end.true

pub returns : goal.returns
returns c = word-there c.args.d c.args.number c.args.words.now c.if-d-gt-MOST_DIMENSION.false c.if-words-end.false
