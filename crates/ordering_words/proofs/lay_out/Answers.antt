-- `ordering_words::lay_out` meets its contract: two parts of the keys are written, and the words of the first are sorted (proofs/Lists). Assumes nothing.
use mathlib.Core.Path.{sym, ap, ◌∙◌}
use mathlib.Core.List.{◌++◌}
use native.Mathlib.Omega.{arith}
use lib.ListN.{length, drop}
use lib.ListN.{length-append, length-drop}
use lib.Seq.{length-take-le}
use Rattle.multiindex.specs.Sort.{sort_words}
use Rattle.lists.proofs.Rows.{part-size}
use Rattle.ordering_words.proofs.Lists.{laid}
use Rattle.ordering_words.proofs.lay_out.Goals as goal

pub slice_bounds-copy-end-2 : goal.slice_bounds-copy-end-2
slice_bounds-copy-end-2 c = sym (length-take-le _ _ (omega (arith, c.requires.2)))

pub copy-requires : goal.copy-requires
copy-requires c = length-take-le _ _ (omega (arith, c.requires.2))

pub slice_bounds-copy-end-3 : goal.slice_bounds-copy-end-3
slice_bounds-copy-end-3 c = sym (length-take-le _ _ c.requires.1)

pub copy-requires-2 : goal.copy-requires-2
copy-requires-2 c = part-size (c.copy.new.dst ++ drop (length c.args.order.now) c.args.keys.now) (length c.args.order.now) (length c.args.order.now) (omega (arith, length-append c.copy.new.dst (drop (length c.args.order.now) c.args.keys.now), length-drop (length c.args.order.now) c.args.keys.now, ap length c.copy.ensures, c.requires.2)) ∙ sym (length-take-le _ _ c.requires.1)

pub returns : goal.returns
returns c = c.sort_words.ensures ∙ ap (sort_words c.args.n c.args.m) (laid c.args.order.now c.args.cells.now c.args.keys.now c.copy.new.dst c.copy-2.new.dst c.copy.ensures c.copy-2.ensures)
