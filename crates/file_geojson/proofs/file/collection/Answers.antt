-- `file_geojson::file::collection` meets its contract. The invariant: the features from 1 on below x are written, each with its comma. Assumes nothing.
use Rattle.file_geojson.proofs.Listing.{some-features, first-near, listing-more, listing-near, listing-done}
use Prim.Native.Nat.{ℕ, ◌≤◌}
use mathlib.Core.Path.{◌≡◌}
use Rattle.quotient.specs.declared.Grid.{Grid}
use Rattle.file_geojson.specs.Kind.{Mapped}
use Rattle.quotient.specs.Shape.{cell_count}
use native.Mathlib.Omega.{arith}
use Rattle.file_geojson.proofs.file.collection.Goals as goal

-- a grid has a cell
some : (g : Grid) (low high n : ℕ) → Mapped g low high → n ≡ cell_count g → 1 ≤ n
some g low high n m e = omega (arith, some-features g low high m)

pub feature-at-requires : goal.feature-at-requires
feature-at-requires c = (c.requires, some-features c.args.grid c.args.low c.args.high c.requires, omega (arith, c.word-first.ensures.next))

pub byte-at-requires : goal.byte-at-requires
byte-at-requires c = omega (arith, listing-near c.args.grid c.args.low c.args.high c.requires c.loop-x.x (omega (arith, c.loop-x.auto.x-end (some c.args.grid c.args.low c.args.high _ c.requires c.cells-count.ensures), c.cells-count.ensures)) (first-near c.args.grid c.args.low c.args.high c.requires c.word-first.ensures c.feature-at.ensures) c.loop-x.invariant)

pub feature-at-requires-in-loop-x : goal.feature-at-requires-in-loop-x
feature-at-requires-in-loop-x c = (c.requires, omega (arith, c.loop-x-test.true, c.cells-count.ensures), omega (arith, c.byte-at.ensures.next, listing-near c.args.grid c.args.low c.args.high c.requires c.loop-x.x (omega (arith, c.loop-x.auto.x-end (some c.args.grid c.args.low c.args.high _ c.requires c.cells-count.ensures), c.cells-count.ensures)) (first-near c.args.grid c.args.low c.args.high c.requires c.word-first.ensures c.feature-at.ensures) c.loop-x.invariant))

pub loop-x-preserved : goal.loop-x-preserved
loop-x-preserved c = listing-more c.args.grid c.args.low c.args.high c.requires c.loop-x.x (omega (arith, c.loop-x-test.true, c.cells-count.ensures)) c.loop-x.invariant c.byte-at.ensures c.feature-at-in-loop-x.ensures

pub word-requires : goal.word-requires
word-requires c = omega (arith, listing-near c.args.grid c.args.low c.args.high c.requires c.loop-x.x (omega (arith, c.loop-x.auto.x-end (some c.args.grid c.args.low c.args.high _ c.requires c.cells-count.ensures), c.cells-count.ensures)) (first-near c.args.grid c.args.low c.args.high c.requires c.word-first.ensures c.feature-at.ensures) c.loop-x.invariant)

pub returns : goal.returns
returns c = listing-done c.args.grid c.args.low c.args.high c.requires c.loop-x.x (omega (arith, c.loop-x-test.false, c.cells-count.ensures)) c.word-first.ensures c.feature-at.ensures c.loop-x.invariant c.word.ensures
