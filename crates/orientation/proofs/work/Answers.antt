-- `orientation::work` meets its contract: each call asks what the calls before it gave (proofs/Steps). Assumes nothing.
use borrow.Author.Tests.{not-true, not-false}
use lib.Seq.{length-take-le}
use Rattle.orientation.proofs.Steps.{cells_fit, making, keeping, worked-crowded, searching, worked-one-sided, worked-short, marks_long, worked-signed}
use mathlib.Core.Path.{sym, ◌∙◌}
use native.Mathlib.Omega.{arith}
use Rattle.orientation.proofs.work.Goals as goal

pub cells-m-requires : goal.cells-m-requires
cells-m-requires c =
    making c.args.d c.args.words.now c.args.keys.now c.args.rows.now c.args.spare.now c.args.counts.now c.requires

pub links-requires : goal.links-requires
links-requires c =
    let q = c.cells-m in
    keeping c.args.d c.args.words.now c.args.keys.now c.args.rows.now c.args.spare.now c.args.counts.now c.requires
    c.cells-m.result c.cells-m.new.keys c.cells-m.new.rows c.cells-m.new.spare c.cells-m.new.counts c.cells-m.auto.keys c.cells-m.auto.rows c.cells-m.auto.spare c.cells-m.auto.counts c.cells-m.ensures

pub returns-then-not-links : goal.returns-then-not-links
returns-then-not-links c =
    let q = c.cells-m in
    let t = c.links in
    worked-crowded c.args.d c.args.words.now c.args.keys.now c.args.rows.now c.args.spare.now c.args.counts.now c.requires
    c.cells-m.result c.cells-m.new.keys c.cells-m.new.rows c.cells-m.new.spare c.cells-m.new.counts c.cells-m.auto.keys c.cells-m.auto.rows c.cells-m.auto.spare c.cells-m.auto.counts c.cells-m.ensures
    c.args.signs.now (c.links.ensures.crowd (c.if-not-links.true))

pub coherent-searched-requires : goal.coherent-searched-requires
coherent-searched-requires c =
    let q = c.cells-m in
    let t = c.links in
    let p = c.links.ensures.all (c.if-not-links.false) in
    searching c.args.d c.args.words.now c.args.keys.now c.args.rows.now c.args.spare.now c.args.counts.now c.requires
    c.cells-m.result c.cells-m.new.keys c.cells-m.new.rows c.cells-m.new.spare c.cells-m.new.counts c.cells-m.auto.keys c.cells-m.auto.rows c.cells-m.auto.spare c.cells-m.auto.counts c.cells-m.ensures
    c.links.new.keys c.links.new.rows c.links.new.spare c.links.new.counts c.links.auto.keys c.links.auto.rows c.links.auto.spare c.links.auto.counts p

pub returns-then-not-searched : goal.returns-then-not-searched
returns-then-not-searched c =
    let q = c.cells-m in
    let t = c.links in
    let p = c.links.ensures.all (c.if-not-links.false) in
    let f = c.coherent-searched in
    worked-one-sided c.args.d c.args.words.now c.args.keys.now c.args.rows.now c.args.spare.now c.args.counts.now c.requires
    c.cells-m.result c.cells-m.new.keys c.cells-m.new.rows c.cells-m.new.spare c.cells-m.new.counts c.cells-m.auto.keys c.cells-m.auto.rows c.cells-m.auto.spare c.cells-m.auto.counts c.cells-m.ensures
    c.links.new.keys c.links.new.rows c.links.new.spare c.links.new.counts c.links.auto.keys c.links.auto.rows c.links.auto.spare c.links.auto.counts p
    c.coherent-searched.result.found c.coherent-searched.result.looks c.coherent-searched.new.marks c.coherent-searched.auto.marks c.coherent-searched.ensures c.args.signs.now (not-true _ c.if-not-searched.true)

pub returns-then-signs-m : goal.returns-then-signs-m
returns-then-signs-m c =
    let q = c.cells-m in
    let t = c.links in
    let p = c.links.ensures.all (c.if-not-links.false) in
    let f = c.coherent-searched in
    worked-short c.args.d c.args.words.now c.args.keys.now c.args.rows.now c.args.spare.now c.args.counts.now c.requires
    c.cells-m.result c.cells-m.new.keys c.cells-m.new.rows c.cells-m.new.spare c.cells-m.new.counts c.cells-m.auto.keys c.cells-m.auto.rows c.cells-m.auto.spare c.cells-m.auto.counts c.cells-m.ensures
    c.links.new.keys c.links.new.rows c.links.new.spare c.links.new.counts c.links.auto.keys c.links.auto.rows c.links.auto.spare c.links.auto.counts p
    c.coherent-searched.result.found c.coherent-searched.result.looks c.coherent-searched.new.marks c.coherent-searched.auto.marks c.coherent-searched.ensures c.args.signs.now (not-false _ c.if-not-searched.false) c.if-signs-m.true

pub slice_bounds-hand_out-end-2 : goal.slice_bounds-hand_out-end-2
slice_bounds-hand_out-end-2 c = sym (length-take-le _ _ c.if-signs-m.false)

pub hand_out-requires : goal.hand_out-requires
hand_out-requires c =
    let q = c.cells-m in
    let t = c.links in
    let p = c.links.ensures.all (c.if-not-links.false) in
    let f = c.coherent-searched in
    omega (
      arith,
      length-take-le c.cells-m.result c.args.signs.now c.if-signs-m.false,
      marks_long c.args.d c.args.words.now c.args.keys.now c.args.rows.now c.args.spare.now c.args.counts.now c.requires
          c.cells-m.result c.cells-m.new.keys c.cells-m.new.rows c.cells-m.new.spare c.cells-m.new.counts c.cells-m.auto.keys c.cells-m.auto.rows c.cells-m.auto.spare c.cells-m.auto.counts c.cells-m.ensures
          c.links.new.keys c.links.new.rows c.links.new.spare c.links.new.counts c.links.auto.keys c.links.auto.rows c.links.auto.spare c.links.auto.counts p
          c.coherent-searched.result.found c.coherent-searched.result.looks c.coherent-searched.new.marks c.coherent-searched.auto.marks c.coherent-searched.ensures,
    )

-- there are no more cells than corners
pub overflow_cast-count : goal.overflow_cast-count
overflow_cast-count c =
    let q = c.cells-m in
    omega (arith, cells_fit c.args.d _ c.cells-m.result _ c.cells-m.ensures)

pub shape_of-keys : goal.shape_of-keys
shape_of-keys c = c.coherent-searched.auto.stack ∙ c.links.auto.keys ∙ c.cells-m.auto.keys

pub shape_of-rows : goal.shape_of-rows
shape_of-rows c = c.links.auto.rows ∙ c.cells-m.auto.rows

pub shape_of-spare : goal.shape_of-spare
shape_of-spare c = c.links.auto.spare ∙ c.cells-m.auto.spare

pub returns : goal.returns
returns c =
    let q = c.cells-m in
    let t = c.links in
    let p = c.links.ensures.all (c.if-not-links.false) in
    let f = c.coherent-searched in
    worked-signed c.args.d c.args.words.now c.args.keys.now c.args.rows.now c.args.spare.now c.args.counts.now c.requires
    c.cells-m.result c.cells-m.new.keys c.cells-m.new.rows c.cells-m.new.spare c.cells-m.new.counts c.cells-m.auto.keys c.cells-m.auto.rows c.cells-m.auto.spare c.cells-m.auto.counts c.cells-m.ensures
    c.links.new.keys c.links.new.rows c.links.new.spare c.links.new.counts c.links.auto.keys c.links.auto.rows c.links.auto.spare c.links.auto.counts p
    c.coherent-searched.result.found c.coherent-searched.result.looks c.coherent-searched.new.marks c.coherent-searched.auto.marks c.coherent-searched.ensures c.args.signs.now _ (not-false _ c.if-not-searched.false) c.if-signs-m.false c.hand_out.ensures
