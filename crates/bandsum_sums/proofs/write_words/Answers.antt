-- `bandsum_sums::write_words` meets its contract: the lists are long enough for every grid. Assumes nothing.
use mathlib.Core.Path.{ap}
use native.Mathlib.Omega.{arith}
use Prim.Native.Nat.{ℕ, ◌+◌, ◌*◌}
use Rattle.bandsum_sums.proofs.Ends.{zeros, written, words_small, written-glued}
use Rattle.bandsum_sums.specs.Work.{band_corners, band_listed}
use Rattle.bandsum_sums.proofs.write_words.Goals as goal

pub overflow_mul-result : goal.overflow_mul-result
overflow_mul-result c = omega (arith, words_small c.args.grid c.cell_words-said.result c.args.words.now c.cell_words-said.new.words c.number.result c.requires.sound (written c.args.grid c.requires.sound c.args.words.now _ _ _ _ c.requires.long (zeros band_listed) (zeros band_corners) (zeros band_corners) (zeros band_corners) c.cell_words-said.result c.cell_words-said.new.words _ _ _ _ c.cell_words-said.ensures) c.number.ensures)

pub returns : goal.returns
returns c = written-glued c.args.grid c.cell_words-said.result c.args.words.now c.cell_words-said.new.words _ c.requires.sound c.requires.long (written c.args.grid c.requires.sound c.args.words.now _ _ _ _ c.requires.long (zeros band_listed) (zeros band_corners) (zeros band_corners) (zeros band_corners) c.cell_words-said.result c.cell_words-said.new.words _ _ _ _ c.cell_words-said.ensures) (ap (λ (n : ℕ). n * (c.args.grid.d + 1)) c.number.ensures)
