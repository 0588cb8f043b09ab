-- `refine_results::refined` meets its contract: a refusal of the search is handed on, and what is found is what the rest asks (proofs/Found, proofs/Handing). Assumes nothing.
use mathlib.Core.Path.{refl, sym, ◌∙◌}
use lib.Seq.{length-take-le}
use Rattle.refusal.proofs.Chain.{passed_on}
use Rattle.refine_results.proofs.Found.{len-fits, names_long, sorted_long, finishing}
use Rattle.refine_results.proofs.Handing.{handed-refused}
use Rattle.refine_results.proofs.refined.Goals as goal

pub seek-requires : goal.seek-requires
seek-requires c = record { cells = c.args.coarse.now; sorted = c.args.sorted.now; firsts = c.args.firsts.now; buckets = c.args.buckets.now; ready = c.requires }

pub returns-in_err-found : goal.returns-in_err-found
returns-in_err-found c =
    rw (passed_on c.from_residual.ensures.1)
    (handed-refused c.args.d c.args.r c.args.n c.args.m c.args.coarse.now c.args.along.now c.seek.new.pattern c.seek.new.keys c.seek.new.spare c.seek.new.counts c.args.out_cells.now c.args.out_words.now c.args.parents.now c.args.jacobians.now c.args.wholes.now c.args.birth_vertices.now c.args.birth_weights.now c.args.birth_shares.now _ c.in_err-found.ensures)

pub overflow_mul-len : goal.overflow_mul-len
overflow_mul-len c =
    record { fits = len-fits c.args.d c.args.r c.args.n c.args.m c.args.coarse.now c.args.along.now c.args.pattern.now c.args.keys.now c.args.rows.now c.args.spare.now c.args.counts.now c.args.sorted.now c.args.firsts.now c.args.buckets.now c.requires c.seek.new.pattern c.seek.new.keys c.seek.new.rows c.seek.new.spare c.seek.new.counts c.in_ok-found.found c.in_ok-found.ensures c.seek.auto.keys c.seek.auto.rows c.seek.auto.spare c.seek.auto.counts _ refl }

pub slice_bounds-finish-end : goal.slice_bounds-finish-end
slice_bounds-finish-end c =
    names_long c.args.d c.args.r c.args.n c.args.m c.args.coarse.now c.args.along.now c.args.pattern.now c.args.keys.now c.args.rows.now c.args.spare.now c.args.counts.now c.args.sorted.now c.args.firsts.now c.args.buckets.now c.requires c.seek.new.pattern c.seek.new.keys c.seek.new.rows c.seek.new.spare c.seek.new.counts c.in_ok-found.found c.in_ok-found.ensures c.seek.auto.keys c.seek.auto.rows c.seek.auto.spare c.seek.auto.counts _ refl

pub slice_bounds-finish-end-2 : goal.slice_bounds-finish-end-2
slice_bounds-finish-end-2 c =
    sym (length-take-le _ _ (names_long c.args.d c.args.r c.args.n c.args.m c.args.coarse.now c.args.along.now c.args.pattern.now c.args.keys.now c.args.rows.now c.args.spare.now c.args.counts.now c.args.sorted.now c.args.firsts.now c.args.buckets.now c.requires c.seek.new.pattern c.seek.new.keys c.seek.new.rows c.seek.new.spare c.seek.new.counts c.in_ok-found.found c.in_ok-found.ensures c.seek.auto.keys c.seek.auto.rows c.seek.auto.spare c.seek.auto.counts _ refl))

pub slice_bounds-finish-end-3 : goal.slice_bounds-finish-end-3
slice_bounds-finish-end-3 c =
    sorted_long c.args.d c.args.r c.args.n c.args.m c.args.coarse.now c.args.along.now c.args.pattern.now c.args.keys.now c.args.rows.now c.args.spare.now c.args.counts.now c.args.sorted.now c.args.firsts.now c.args.buckets.now c.requires c.seek.new.pattern c.seek.new.keys c.seek.new.rows c.seek.new.spare c.seek.new.counts c.in_ok-found.found c.in_ok-found.ensures c.seek.auto.keys c.seek.auto.rows c.seek.auto.spare c.seek.auto.counts _ refl

pub slice_bounds-finish-end-4 : goal.slice_bounds-finish-end-4
slice_bounds-finish-end-4 c =
    sym (length-take-le _ _ (sorted_long c.args.d c.args.r c.args.n c.args.m c.args.coarse.now c.args.along.now c.args.pattern.now c.args.keys.now c.args.rows.now c.args.spare.now c.args.counts.now c.args.sorted.now c.args.firsts.now c.args.buckets.now c.requires c.seek.new.pattern c.seek.new.keys c.seek.new.rows c.seek.new.spare c.seek.new.counts c.in_ok-found.found c.in_ok-found.ensures c.seek.auto.keys c.seek.auto.rows c.seek.auto.spare c.seek.auto.counts _ refl))

pub finish-requires : goal.finish-requires
finish-requires c =
    finishing c.args.d c.args.r c.args.n c.args.m c.args.coarse.now c.args.along.now c.args.pattern.now c.args.keys.now c.args.rows.now c.args.spare.now c.args.counts.now c.args.sorted.now c.args.firsts.now c.args.buckets.now c.requires c.seek.new.pattern c.seek.new.keys c.seek.new.rows c.seek.new.spare c.seek.new.counts c.in_ok-found.found c.in_ok-found.ensures c.seek.auto.keys c.seek.auto.rows c.seek.auto.spare c.seek.auto.counts _ refl

pub shape_of-out_cells : goal.shape_of-out_cells
shape_of-out_cells c = c.finish.auto.out_cells

pub shape_of-out_words : goal.shape_of-out_words
shape_of-out_words c = c.finish.auto.out_words

pub shape_of-parents : goal.shape_of-parents
shape_of-parents c = c.finish.auto.parents

pub shape_of-jacobians : goal.shape_of-jacobians
shape_of-jacobians c = c.finish.auto.jacobians

pub shape_of-wholes : goal.shape_of-wholes
shape_of-wholes c = c.finish.auto.wholes

pub shape_of-birth_vertices : goal.shape_of-birth_vertices
shape_of-birth_vertices c = c.finish.auto.birth_vertices

pub shape_of-birth_weights : goal.shape_of-birth_weights
shape_of-birth_weights c = c.finish.auto.birth_weights

pub shape_of-birth_shares : goal.shape_of-birth_shares
shape_of-birth_shares c = c.finish.auto.birth_shares

pub shape_of-pattern : goal.shape_of-pattern
shape_of-pattern c = c.seek.auto.pattern

pub shape_of-keys : goal.shape_of-keys
shape_of-keys c = c.seek.auto.keys

pub shape_of-rows : goal.shape_of-rows
shape_of-rows c = c.finish.auto.rows ∙ c.seek.auto.rows

pub shape_of-spare : goal.shape_of-spare
shape_of-spare c = c.seek.auto.spare

pub shape_of-counts : goal.shape_of-counts
shape_of-counts c = c.seek.auto.counts

pub shape_of-firsts : goal.shape_of-firsts
shape_of-firsts c = c.finish.auto.firsts

pub shape_of-buckets : goal.shape_of-buckets
shape_of-buckets c = c.finish.auto.buckets

pub returns : goal.returns
returns c = c.finish.ensures
