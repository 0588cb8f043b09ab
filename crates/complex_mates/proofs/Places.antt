-- Places in a table of rows: row x of k rows a cell is of cell x / k, at slot x % k, and each cell and slot has its row. Assumes nothing.
use mathlib.Core.List.{List}
use mathlib.Core.Path.{◌≡◌, refl}
use Prim.Native.Nat.{ℕ, zero, suc, ◌+◌, ◌-◌, ◌*◌, ◌/◌, ◌%◌, ◌<◌}
use native.Mathlib.Omega.{arith}
use lib.ListN.{length}
use Rattle.lists.proofs.Rows.{row_in, row-div, row-mod}
use Rattle.complex.specs.Facets.{FacetOf, slots}

pub slots-pos : (d : ℕ) → 0 < d → slots d ≡ suc d
slots-pos zero h = absurd (omega arith)
slots-pos (suc d) h = refl

-- the row of a facet
pub facet-row : (d : ℕ) (cs : List (List ℕ)) (c i : ℕ) → FacetOf d cs c i → (c * slots d + (d - i) < length cs * slots d) × ((c * slots d + (d - i)) / slots d ≡ c) × (d - (c * slots d + (d - i)) % slots d ≡ i)
facet-row d cs c i u =
    let z : slots d ≡ suc d = slots-pos d u.some in
    let l : d - i < slots d = omega arith in
    let g : (c * slots d + (d - i)) % slots d ≡ d - i = row-mod c (d - i) (slots d) l in
    let p = u.place in
    (row_in c (d - i) (length cs) (slots d) u.cell l, row-div c (d - i) (slots d) l, omega arith)
