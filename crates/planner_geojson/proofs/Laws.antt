-- The answer of the call on the grid that is given. Assumes nothing.
use Rattle.refusal.specs.Says.{Counted}
use mathlib.Core.Path.{◌≡◌, subst}
use mathlib.Core.List.{List}
use Prim.Native.Nat.{ℕ}
use lib.IntN.{ℤ}
use mir.Val.{SFits, to_z, of_z}
use mir.Facts.{to_z-of_z}
use mir.Syntax.{w32}
use Rattle.quotient.specs.declared.Grid.{Grid}
use Rattle.file_geojson.specs.Promise.{GeoJson}
use Rattle.planner_passing.specs.Said.{Said, counted_code}

-- a map file, where the grid is the one given, and a latitude what the machine reads back from its bits
pub map-said : {g given : Grid} {south north : ℤ} {r : ℕ} {a : Counted} {bytes bytes' keys keys' rows rows' spare spare' counts counts' : List ℕ} → SFits w32 south → SFits w32 north →
    r ≡ counted_code a → GeoJson g (to_z w32 (of_z w32 south)) (to_z w32 (of_z w32 north)) a bytes bytes' keys keys' rows rows' spare spare' counts counts' → g ≡ given →
    Said counted_code (λ (x : Counted). GeoJson given south north x bytes bytes' keys keys' rows rows' spare spare' counts counts') r
map-said {g} {given} {south} {north} {r} {a} {bytes} {bytes'} {keys} {keys'} {rows} {rows'} {spare} {spare'} {counts} {counts'} fs fn e h k =
    let p = subst (λ (x : Grid). GeoJson x (to_z w32 (of_z w32 south)) (to_z w32 (of_z w32 north)) a bytes bytes' keys keys' rows rows' spare spare' counts counts') k h in
    let q = subst (λ (z : ℤ). GeoJson given z (to_z w32 (of_z w32 north)) a bytes bytes' keys keys' rows rows' spare spare' counts counts') (to_z-of_z fs) p in
    record { answer = a; coded = e; meets = subst (λ (z : ℤ). GeoJson given south z a bytes bytes' keys keys' rows rows' spare spare' counts counts') (to_z-of_z fn) q }
