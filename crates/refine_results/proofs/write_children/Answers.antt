-- `refine_results::write_children` meets its contract: each list comes back in the first places of its result (proofs/Writing). Assumes nothing.
use mathlib.Core.Path.{sym}
use Prim.Native.Nat.{◌+◌, ◌*◌}
use native.Mathlib.Omega.{arith}
use native.Mathlib.Numerals.{add-one}
use lib.Seq.{length-take-le}
use Rattle.refusal.specs.Limits.{square_most}
use Rattle.refine_results.proofs.Writing.{in_sorted, in-names, rows-room, wrote}
use Rattle.refine_results.proofs.write_children.Goals as goal

pub gather-requires : goal.gather-requires
gather-requires c =
    let f = c.requires.families in record { by_index = in_sorted c.args.d c.args.size c.args.m c.args.firsts.now c.args.pattern.now c.args.names.now c.args.sorted.now c.args.along.now c.args.coarse.now f.long f (c.args.d + 1) (add-one c.args.d); m_in_bounds = (f.long, rows-room c.args.d c.args.r c.args.size c.args.m c.args.firsts.now c.args.pattern.now c.args.names.now c.args.sorted.now c.args.along.now c.args.coarse.now c.args.cells.now c.args.words.now c.args.parents.now c.args.jacobians.now c.args.wholes.now c.requires (c.args.d + 1) (add-one c.args.d) c.args.cells.now c.requires.in_cells) }

pub gather-requires-2 : goal.gather-requires-2
gather-requires-2 c =
    let f = c.requires.families in record { by_index = in-names c.args.d c.args.size c.args.m c.args.firsts.now c.args.pattern.now c.args.names.now c.args.sorted.now c.args.along.now c.args.coarse.now f.long f (c.args.d + 1) (add-one c.args.d); m_in_bounds = (f.long, rows-room c.args.d c.args.r c.args.size c.args.m c.args.firsts.now c.args.pattern.now c.args.names.now c.args.sorted.now c.args.along.now c.args.coarse.now c.args.cells.now c.args.words.now c.args.parents.now c.args.jacobians.now c.args.wholes.now c.requires (c.args.d + 1) (add-one c.args.d) c.args.words.now c.requires.in_words) }

pub slice_bounds-parents-end-2 : goal.slice_bounds-parents-end-2
slice_bounds-parents-end-2 c = sym (length-take-le c.args.m c.args.parents.now c.requires.in_parents)

pub parents-requires : goal.parents-requires
parents-requires c =
    let f = c.requires.families in
    (c.requires.some, omega (arith, length-take-le c.args.m c.args.parents.now c.requires.in_parents, f.long))

pub slice_bounds-jacobians-end-2 : goal.slice_bounds-jacobians-end-2
slice_bounds-jacobians-end-2 c = sym (length-take-le (c.args.m * square_most) c.args.wholes.now c.requires.in_wholes)

pub slice_bounds-jacobians-end-4 : goal.slice_bounds-jacobians-end-4
slice_bounds-jacobians-end-4 c = sym (length-take-le (c.args.m * square_most) c.args.jacobians.now c.requires.in_jacobians)

pub jacobians-requires : goal.jacobians-requires
jacobians-requires c =
    let f = c.requires.families in
    (length-take-le (c.args.m * square_most) c.args.wholes.now c.requires.in_wholes, length-take-le (c.args.m * square_most) c.args.jacobians.now c.requires.in_jacobians, f)

pub returns : goal.returns
returns c =
    let f = c.requires.families in
    wrote c.args.d c.args.r c.args.size c.args.m c.args.firsts.now c.args.pattern.now c.args.names.now c.args.sorted.now c.args.along.now c.args.coarse.now c.args.cells.now c.args.words.now c.args.parents.now c.args.jacobians.now c.args.wholes.now c.requires (c.args.d + 1) (add-one c.args.d) c.gather.new.to c.gather-2.new.to c.parents.new.to c.jacobians.new.floats c.jacobians.new.wholes c.gather.ensures c.gather-2.ensures c.parents.ensures c.jacobians.ensures.floats c.jacobians.ensures.wholes
