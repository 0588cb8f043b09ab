-- Every feature of the file at once: its ring lies in one box, closes, turns counterclockwise, exactly and as read, and begins at its lowest grid vertex. Assumes nothing.
use mathlib.Core.Path.{sym, subst}
use mathlib.Core.List.{List}
use Prim.Native.Nat.{ℕ, ◌<◌}
use lib.ListN.{get_or}
use Rattle.quotient.specs.declared.Grid.{Grid}
use Rattle.quotient.specs.Shape.{cell_count}
use Rattle.grid_words.specs.WorkNumbered.{cell_no}
use Rattle.file_geojson.specs.File.{ring_corners}
use Rattle.file_geojson.specs.Kind.{Mapped}
use Rattle.file_geojson.proofs.Vertices.{band-two}
use Rattle.file_geojson.proofs.Boxes.{column-in, row_in}
use Rattle.file_geojson_laws.specs.Map.{Ring, ring_no, Drawable}
use Rattle.file_geojson_laws.proofs.Boxes.{column_of, row_of, ring-is, ring-in-box, from_lowest}
use Rattle.file_geojson_laws.proofs.Turning.{ring-closes, counterclockwise, counterclockwise-printed, in-column}
use Rattle.file_geojson_laws.proofs.ReadBack.{longitude-read, latitude-read}

pub every-ring : (g : Grid) (low high : ℕ) → Mapped g low high → (x : ℕ) → x < cell_count g → Drawable g low high (ring_no g x)
every-ring g low high m x h =
    let t : Ring g (column_of g low high m x) (row_of g low high m x) (ring_corners (cell_no g x)) = ring-in-box g low high m x in
    subst (λ (w : List ℕ). Drawable g low high w) (sym (ring-is g low high m x h))
    (record {
      box_column = column_of g low high m x;
      box_row = row_of g low high m x;
      column_within = column-in g m.taken (band-two g m.band) x;
      row_within = row_in g m.taken (band-two g m.band) x;
      ring = t;
      closes = (ring-closes t).1;
      turns = counterclockwise g low high m (column_of g low high m x) (row_of g low high m x) (ring_corners (cell_no g x)) t;
      reads = λ k l. (longitude-read g low high m (get_or (ring_corners (cell_no g x)) k 0), latitude-read g low high m (get_or (ring_corners (cell_no g x)) k 0));
      turns_printed = counterclockwise-printed g low high m (column_of g low high m x) (row_of g low high m x) (ring_corners (cell_no g x)) t;
      lowest_first = λ k l. from_lowest g low high m x k l;
      never_crosses = λ k l. in-column g low high m (column_of g low high m x) (row_of g low high m x) (ring_corners (cell_no g x)) k t l;
    })
