-- `file_mesh_read::in_order` meets its contract: both words are read to the front of an array, and compared there. Assumes nothing.
use Rattle.file_mesh_read.proofs.Parts.{front_long, tail-fits, front_fits, front-is, front-size}
use mathlib.Core.List.{◌++◌}
use lib.ListN.{drop, take}
use Rattle.file_bytes.specs.Bytes.{fours_of}
use Rattle.complex.specs.Cells.{comes_before}
use Rattle.multiindex.specs.Sort.{sort_word}
use Prim.Native.Nat.{ℕ}
use native.Mathlib.Omega.{arith}
use mathlib.Core.List.{List, [], ◌∷◌}
use mathlib.Core.Path.{sym, ap, ◌∙◌}
use Rattle.file_mesh_read.proofs.in_order.Goals as goal

abbrev zeros : List ℕ
zeros = 0 ∷ (0 ∷ (0 ∷ (0 ∷ [])))

pub slice_bounds-read_fours-end-2 : goal.slice_bounds-read_fours-end-2
slice_bounds-read_fours-end-2 c = front_long c.args.bytes.now zeros [] c.args.v c.args.n c.requires.0

pub read_fours-requires : goal.read_fours-requires
read_fours-requires c = tail-fits c.args.bytes.now zeros [] c.args.v c.args.n c.requires.0 c.requires.1

pub slice_bounds-read_fours-end-4 : goal.slice_bounds-read_fours-end-4
slice_bounds-read_fours-end-4 c = front_long c.args.bytes.now zeros [] c.args.w c.args.n c.requires.0

pub read_fours-requires-2 : goal.read_fours-requires-2
read_fours-requires-2 c = tail-fits c.args.bytes.now zeros [] c.args.w c.args.n c.requires.0 c.requires.2

pub slice_bounds-a-end-2 : goal.slice_bounds-a-end-2
slice_bounds-a-end-2 c = front_fits c.args.bytes.now zeros c.read_fours.new.to c.args.v c.args.n c.requires.0 c.read_fours.ensures

pub slice_bounds-cell_before-end : goal.slice_bounds-cell_before-end
slice_bounds-cell_before-end c = front-size c.args.bytes.now zeros c.read_fours.new.to c.args.v c.args.n c.requires.0 c.read_fours.ensures

pub slice_bounds-b-end-2 : goal.slice_bounds-b-end-2
slice_bounds-b-end-2 c = front_fits c.args.bytes.now zeros c.read_fours-2.new.to c.args.w c.args.n c.requires.0 c.read_fours-2.ensures

pub slice_bounds-cell_before-end-2 : goal.slice_bounds-cell_before-end-2
slice_bounds-cell_before-end-2 c = front-size c.args.bytes.now zeros c.read_fours-2.new.to c.args.w c.args.n c.requires.0 c.read_fours-2.ensures

pub cell_before-requires : goal.cell_before-requires
cell_before-requires c =
    let a = front-size c.args.bytes.now zeros c.read_fours.new.to c.args.v c.args.n c.requires.0 c.read_fours.ensures in
    let b = front-size c.args.bytes.now zeros c.read_fours-2.new.to c.args.w c.args.n c.requires.0 c.read_fours-2.ensures in
    (sym a ∙ b, omega (arith, b, c.requires.0))

pub returns : goal.returns
returns c =
    let x = c.read_fours.new.to in
    let y = c.read_fours-2.new.to in
    let a = front-is c.args.bytes.now zeros x c.args.v c.args.n c.requires.0 c.read_fours.ensures in
    let b = front-is c.args.bytes.now zeros y c.args.w c.args.n c.requires.0 c.read_fours-2.ensures in
    let l = front-size c.args.bytes.now zeros x c.args.v c.args.n c.requires.0 c.read_fours.ensures in
    let p = take c.args.n (x ++ drop c.args.n zeros) in
    let q = take c.args.n (y ++ drop c.args.n zeros) in
    c.cell_before.ensures ∙ ap (λ (k : ℕ). comes_before k (sort_word p) (sort_word q)) (sym l) ∙ ap (λ (k : List ℕ). comes_before c.args.n (sort_word k) (sort_word q)) a ∙ ap (λ (k : List ℕ). comes_before c.args.n (sort_word (fours_of c.args.n (drop c.args.v c.args.bytes.now))) (sort_word k)) b
