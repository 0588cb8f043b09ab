-- `file_mesh::cell_before` meets its contract. Assumes nothing.
use mathlib.Core.Path.{◌≡◌, sym, ap, ◌∙◌}
use mathlib.Core.List.{List}
use Prim.Native.Nat.{ℕ}
use lib.ListN.{length, take}
use Rattle.multiindex.specs.Sort.{sort_word}
use Rattle.multiindex.proofs.SortLaws.{sort-length}
use Rattle.complex.specs.Cells.{comes_before}
use native.Mathlib.Omega.{arith}
use Rattle.file_mesh.proofs.cell_before.Goals as goal

pub slice_bounds-comes_before-end : goal.slice_bounds-comes_before-end
slice_bounds-comes_before-end c = sym (ap length c.sorted-a.ensures ∙ sort-length c.args.v.now)

pub slice_bounds-comes_before-end-2 : goal.slice_bounds-comes_before-end-2
slice_bounds-comes_before-end-2 c =
    let front2 : take (length c.args.v.now) c.sorted-b.result ≡ sort_word c.args.w.now = ap (λ (n : ℕ). take n c.sorted-b.result) c.requires.0 ∙ c.sorted-b.ensures in
    let long2 : length (take (length c.args.v.now) c.sorted-b.result) ≡ length c.args.v.now = ap length front2 ∙ sort-length c.args.w.now ∙ sym c.requires.0 in
    sym (long2)

pub comes_before-requires : goal.comes_before-requires
comes_before-requires c =
    let long1 : length (take (length c.args.v.now) c.sorted-a.result) ≡ length c.args.v.now = ap length c.sorted-a.ensures ∙ sort-length c.args.v.now in
    let front2 : take (length c.args.v.now) c.sorted-b.result ≡ sort_word c.args.w.now = ap (λ (n : ℕ). take n c.sorted-b.result) c.requires.0 ∙ c.sorted-b.ensures in
    let long2 : length (take (length c.args.v.now) c.sorted-b.result) ≡ length c.args.v.now = ap length front2 ∙ sort-length c.args.w.now ∙ sym c.requires.0 in
    omega (arith, long1, long2)

pub returns : goal.returns
returns c =
    let long1 : length (take (length c.args.v.now) c.sorted-a.result) ≡ length c.args.v.now = ap length c.sorted-a.ensures ∙ sort-length c.args.v.now in
    let front2 : take (length c.args.v.now) c.sorted-b.result ≡ sort_word c.args.w.now = ap (λ (n : ℕ). take n c.sorted-b.result) c.requires.0 ∙ c.sorted-b.ensures in
    c.comes_before.ensures
    ∙ ap (λ (n : ℕ). comes_before n (take (length c.args.v.now) c.sorted-a.result) (take (length c.args.v.now) c.sorted-b.result)) (long1)
    ∙ ap (λ (x : List ℕ). comes_before (length c.args.v.now) x (take (length c.args.v.now) c.sorted-b.result)) c.sorted-a.ensures
    ∙ ap (λ (x : List ℕ). comes_before (length c.args.v.now) (sort_word c.args.v.now) x) (front2)
