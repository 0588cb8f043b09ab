-- `orientation_walk::walk` meets its contract. Assumes nothing.
use Rattle.orientation_walk.proofs.Theory.{walking, stop-fits, stop-fits-2, stop-fits-3, whole-fits, answer-no, answer-yes}
use Rattle.orientation_walk.proofs.walk.Goals as goal

pub spread-requires : goal.spread-requires
spread-requires c = walking c.args.signs.now c.requires.0 c.requires.1 c.requires.2 c.wipe.ensures

pub overflow_mul-result-in-Err : goal.overflow_mul-result-in-Err
overflow_mul-result-in-Err c = stop-fits c.args.signs.now (walking c.args.signs.now c.requires.0 c.requires.1 c.requires.2 c.wipe.ensures) c.wipe.ensures c.spread.ensures c.in-Err.is c.well_formed.1.1.0.0

pub overflow_add-result : goal.overflow_add-result
overflow_add-result c = stop-fits-2 c.args.signs.now (walking c.args.signs.now c.requires.0 c.requires.1 c.requires.2 c.wipe.ensures) c.wipe.ensures c.spread.ensures c.in-Err.is c.well_formed.1.1.0.0

pub overflow_add-result-in-Err : goal.overflow_add-result-in-Err
overflow_add-result-in-Err c = stop-fits-3 c.args.signs.now (walking c.args.signs.now c.requires.0 c.requires.1 c.requires.2 c.wipe.ensures) c.wipe.ensures c.spread.ensures c.in-Err.is c.well_formed.1.1.0.0

pub returns-in-Err : goal.returns-in-Err
returns-in-Err c = answer-no c.args.signs.now (walking c.args.signs.now c.requires.0 c.requires.1 c.requires.2 c.wipe.ensures) c.wipe.ensures c.spread.ensures c.in-Err.is

pub overflow_mul-result : goal.overflow_mul-result
overflow_mul-result c = whole-fits c.args.signs.now (walking c.args.signs.now c.requires.0 c.requires.1 c.requires.2 c.wipe.ensures) c.wipe.ensures c.spread.ensures c.in-Ok.is c.well_formed.1.1.0.0

pub returns-in-Ok : goal.returns-in-Ok
returns-in-Ok c = answer-yes c.args.signs.now (walking c.args.signs.now c.requires.0 c.requires.1 c.requires.2 c.wipe.ensures) c.wipe.ensures c.spread.ensures c.in-Ok.is
