-- `grid_chained_mesh::work` meets its contract: each call asks what the calls before it gave (proofs/Steps). Assumes nothing.
use Rattle.refusal.proofs.Chain.{passed_on}
use Rattle.grid_chained_mesh.proofs.Steps.{keys-room, worked-said, standing, said-fine, crowd-of, free_of, worked-crowded, worked-short, worked-written, count-is}
use Rattle.grid_chained.proofs.Taken.{few_cells}
use lib.Seq.{length-take-le}
use native.Mathlib.Omega.{arith}
use mathlib.Core.Path.{sym, ◌∙◌}
use Rattle.grid_chained_mesh.proofs.work.Goals as goal

pub slice_bounds-checked_words-end : goal.slice_bounds-checked_words-end
slice_bounds-checked_words-end c = omega (arith, keys-room c.args.grid _ _ _ _ c.requires, c.need-len.ensures)

pub slice_bounds-checked_words-end-2 : goal.slice_bounds-checked_words-end-2
slice_bounds-checked_words-end-2 c = sym (length-take-le _ _ (omega (arith, keys-room c.args.grid _ _ _ _ c.requires, c.need-len.ensures)))

pub checked_words-requires : goal.checked_words-requires
checked_words-requires c = record { taken = c.requires.taken; long = length-take-le _ _ (omega (arith, keys-room c.args.grid _ _ _ _ c.requires, c.need-len.ensures)) ∙ c.need-len.ensures; points = c.requires.rows_long }

pub returns-in_err-checked_words : goal.returns-in_err-checked_words
returns-in_err-checked_words c = rw (passed_on c.from_residual.ensures.1) (worked-said c.args.grid _ _ _ _ c.checked_words.ensures c.in_err-checked_words.was)

pub uncrowded-requires : goal.uncrowded-requires
uncrowded-requires c = standing c.args.grid _ _ _ _ c.requires _ c.need-len.ensures c.checked_words.new.words c.checked_words.new.room c.checked_words.auto.words c.checked_words.auto.room _ c.checked_words.ensures c.in_ok-checked_words.was

pub returns-then-not-uncrowded : goal.returns-then-not-uncrowded
returns-then-not-uncrowded c = worked-crowded c.args.grid _ c.requires.taken _ (said-fine c.args.grid _ _ c.checked_words.ensures c.in_ok-checked_words.was) (crowd-of c.args.grid _ _ _ _ c.requires _ c.need-len.ensures c.checked_words.new.words c.checked_words.new.room c.checked_words.auto.words c.checked_words.auto.room (c.uncrowded.ensures.no (c.if-not-uncrowded.true)))

pub returns-then-words-len : goal.returns-then-words-len
returns-then-words-len c = worked-short c.args.grid _ c.requires.taken _ (said-fine c.args.grid _ _ c.checked_words.ensures c.in_ok-checked_words.was) (free_of c.args.grid _ _ _ _ c.requires _ c.need-len.ensures c.checked_words.new.words c.checked_words.new.room c.checked_words.auto.words c.checked_words.auto.room (c.uncrowded.ensures.yes (c.if-not-uncrowded.false))) _ c.need-len.ensures c.if-words-len.true

pub slice_bounds-hand_words-end-2 : goal.slice_bounds-hand_words-end-2
slice_bounds-hand_words-end-2 c = sym (length-take-le _ _ c.if-words-len.false)

pub hand_words-requires : goal.hand_words-requires
hand_words-requires c = record { taken = c.requires.taken; long = length-take-le _ _ c.if-words-len.false ∙ c.need-len.ensures; points = c.uncrowded.auto.rows ∙ c.checked_words.auto.room ∙ c.requires.rows_long }

pub overflow_cast-result-2 : goal.overflow_cast-result-2
overflow_cast-result-2 c = let a = said-fine c.args.grid _ _ c.checked_words.ensures c.in_ok-checked_words.was in omega (arith, count-is c.args.grid c.requires.taken _ a.of _ c.need-len.ensures, few_cells c.args.grid c.requires.taken)

pub returns : goal.returns
returns c = worked-written c.args.grid _ c.requires.taken _ (said-fine c.args.grid _ _ c.checked_words.ensures c.in_ok-checked_words.was) (free_of c.args.grid _ _ _ _ c.requires _ c.need-len.ensures c.checked_words.new.words c.checked_words.new.room c.checked_words.auto.words c.checked_words.auto.room (c.uncrowded.ensures.yes (c.if-not-uncrowded.false))) _ c.need-len.ensures _ c.if-words-len.false c.hand_words.ensures
