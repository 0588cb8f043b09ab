-- `file_mesh::sorted` meets its contract: the word was copied, and sorted where it stood. Assumes nothing.
use mathlib.Core.Path.{sym}
use mathlib.Core.List.{[], ◌∷◌}
use lib.ListN.{length}
use lib.Seq.{length-take-le}
use Rattle.file_mesh.proofs.Tests.{copied-fits, copied-long, sorted_front}
use Rattle.file_mesh.proofs.sorted.Goals as goal

pub slice_bounds-copy-end : goal.slice_bounds-copy-end
slice_bounds-copy-end c = sym (length-take-le (length c.args.w.now) (0 ∷ (0 ∷ (0 ∷ (0 ∷ [])))) c.requires)

pub copy-requires : goal.copy-requires
copy-requires c = length-take-le (length c.args.w.now) (0 ∷ (0 ∷ (0 ∷ (0 ∷ [])))) c.requires

pub slice_bounds-a-end-2 : goal.slice_bounds-a-end-2
slice_bounds-a-end-2 c = copied-fits c.args.w.now _ _ c.copy.ensures

pub slice_bounds-sort-end : goal.slice_bounds-sort-end
slice_bounds-sort-end c = copied-long c.args.w.now _ _ c.copy.ensures

pub returns : goal.returns
returns c = sorted_front c.args.w.now _ _ c.copy.ensures _ _ c.sort.ensures.list
