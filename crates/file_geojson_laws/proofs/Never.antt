-- What the call hands out is the file, and a grid of this kind never meets 7: with room, latitudes that fit and bytes enough the file always comes. Assumes nothing.
use Rattle.refusal.specs.declared.Refusal.{Refusal}
use Rattle.refusal.specs.declared.Refusal.TheVariants.{TooShort}
use Rattle.refusal.specs.Says.{Counted, fine}
use Rattle.std.specs.Prelude.{Err, Ok}
use mathlib.Core.Path.{◌≡◌, refl, sym, ap, ◌∙◌}
use mathlib.Core.Bool.{true, false}
use mathlib.Core.List.{List, []}
use Prim.Native.Nat.{ℕ, zero, suc, ◌≤◌, ◌<◌}
use native.Mathlib.Omega.{arith}
use lib.IntN.{ℤ, pos, ◌+ℤ◌}
use lib.ListN.{length, take, drop}
use lib.Seq.{take-append_seam}
use Rattle.refusal.specs.declared.Room.{Room}
use Rattle.refusal.specs.Lent.{onto, lengths, Roomy}
use Rattle.refusal.specs.Told.{count_of}
use Rattle.refusal.proofs.Chain.{fine-refused}
use Rattle.refusal.specs.Call.{Comes, refused, cramped, ended}
use Rattle.complex.specs.Facets.{Crowded}
use Rattle.quotient.specs.declared.Grid.{Grid}
use Rattle.quotient.specs.declared.Glue.{Glue}
use Rattle.quotient.specs.declared.Glue.TheVariants.{Open, Periodic, Twisted}
use Rattle.quotient.specs.Shape.{axis_of, closed_of, mask_of, mask_at, check_of}
use Rattle.grid_mesh.specs.Words.{glued_cells, grid_need}
use Rattle.grid_mesh.proofs.Seven.{plain-never-seven}
use Rattle.file_geojson.specs.Kind.{band_grid, from_pole, latitudes_fit}
use Rattle.file_geojson.specs.Promise.{band_file, Drawn, other, beyond, short, drawn, GeoEnd, crowded, plain, GeoJson}
use Rattle.file_geojson.proofs.Poles.{poles-apart, fitting-of, between, north-above, south-below}
use Rattle.file_geojson.proofs.Vertices.{band-two, band-straight, band-open}
use Rattle.file_geojson.proofs.Determined.{both}
use Rattle.file_geojson_laws.specs.Map.{HandedOut}

open-mask : (u : Glue) → closed_of u ≡ false → mask_of u ≡ 0
open-mask Open e = refl
open-mask Periodic e = refl
open-mask (Twisted k) e = both true e refl

masks : (g : Grid) → band_grid g ≡ true → (a : ℕ) → a < g.d → mask_at g a ≡ 0
masks g e zero h = band-straight g e
masks g e (suc zero) h = open-mask (axis_of g 1).glue (band-open g e)
masks g e (suc (suc a)) h = absurd (omega (arith, band-two g e))

pub band-never-seven : (g : Grid) → check_of g ≡ fine → band_grid g ≡ true → Crowded g.d (glued_cells g) → ⊥
band-never-seven g passed e = plain-never-seven g passed (masks g e)

-- ---- the file comes
module _ (g : Grid) (south north : ℤ) (given : ℕ) (e : band_grid g ≡ true) (f : latitudes_fit south north ≡ true) (l : length (band_file g south north) ≤ given) where
  drawn-is : (r : Counted) (h : List ℕ) → Drawn g south north given r h → (r ≡ Ok (length (band_file g south north))) × (h ≡ band_file g south north)
  drawn-is r h (other x) = both _ x e
  drawn-is r h (beyond x y) = both _ y f
  drawn-is r h (short x y z) = absurd (omega arith)
  drawn-is r h (drawn x y z) = (refl, refl)

  comes-is : (passed : check_of g ≡ fine) (have : Room) → Roomy (grid_need g) have → (r : Counted) (h : List ℕ) (u : Room) →
      Comes Err [] (check_of g) (grid_need g) have (GeoEnd g south north given) r h u → (r ≡ Ok (length (band_file g south north))) × (h ≡ band_file g south north)
  comes-is passed have room r h u (refused {why = a} x) = absurd (fine-refused a (sym x ∙ passed))
  comes-is passed have room r h u (cramped x y) = absurd (y room)
  comes-is passed have room r h u (ended x y (crowded c)) = absurd (band-never-seven g passed e c)
  comes-is passed have room r h u (ended x y (plain c d)) = drawn-is r h d

pub always-drawn : (g : Grid) (south north : ℤ) (r : Counted) (bytes b keys k rows o spare p counts c : List ℕ) → GeoJson g south north r bytes b keys k rows o spare p counts c →
    check_of g ≡ fine → band_grid g ≡ true → latitudes_fit south north ≡ true → Roomy (grid_need g) (lengths keys rows spare counts) → length (band_file g south north) ≤ length bytes →
    (r ≡ Ok (length (band_file g south north))) × (b ≡ onto (band_file g south north) bytes)
always-drawn g south north r bytes b keys k rows o spare p counts c w passed e f room l =
    let t = comes-is g south north (length bytes) e f l passed (lengths keys rows spare counts) room r w.handed w.used w.comes in
    (t.0, w.result ∙ ap (λ (h : List ℕ). onto h bytes) t.1)

-- ---- and the way back: where a count is said, the grid is a band that is taken, the latitudes fit, and the bytes handed out are the file; all laws hold of it

-- the latitudes in degrees from the South Pole: 90 more
pub from-pole-is : (south north : ℤ) → latitudes_fit south north ≡ true → (south +ℤ pos 90 ≡ pos (from_pole south)) × (north +ℤ pos 90 ≡ pos (from_pole north))
from-pole-is south north f =
    let t = fitting-of south north f in
    ((between south t.from-south (south-below south north t)).0, (between north (north-above south north t) t.to-north).0)

module _ (g : Grid) (south north : ℤ) (n : ℕ) where
  -- what a count among the answers tells
  record Told (r : Counted) (h : List ℕ) : Type 0 where
    band : band_grid g ≡ true
    fit : latitudes_fit south north ≡ true
    said : r ≡ Ok (length (band_file g south north))
    whole : h ≡ band_file g south north

  abbrev IsCount : Counted → Type 0
  IsCount (Ok k) = Unit {0}
  IsCount (Err why) = ⊥

  drawn-told : (given : ℕ) (r : Counted) (h : List ℕ) → IsCount r → Drawn g south north given r h → Told r h
  drawn-told given r h i (other x) = absurd i
  drawn-told given r h i (beyond x y) = absurd i
  drawn-told given r h i (short x y z) = absurd i
  drawn-told given r h i (drawn x y z) = record { band = x; fit = y; said = refl; whole = refl }

  comes-told : (have : Room) (given : ℕ) (r : Counted) (h : List ℕ) (u : Room) → IsCount r →
      Comes Err [] (check_of g) (grid_need g) have (GeoEnd g south north given) r h u → (check_of g ≡ fine) × Told r h
  comes-told have given r h u i (refused x) = absurd i
  comes-told have given r h u i (cramped x y) = absurd i
  comes-told have given r h u i (ended x y (crowded c)) = absurd i
  comes-told have given r h u i (ended x y (plain c d)) = (x, drawn-told given r h i d)

  pub handed_out_lem : (bytes b keys k rows o spare p counts c : List ℕ) → GeoJson g south north (Ok n) bytes b keys k rows o spare p counts c → HandedOut g south north n b
  handed_out_lem bytes b keys k rows o spare p counts c w =
      let t = comes-told (lengths keys rows spare counts) (length bytes) (Ok n) w.handed w.used tt w.comes in
      let a = poles-apart south north t.1.fit in
      let q : n ≡ length (band_file g south north) = ap count_of t.1.said in
      record {
        fits = t.1.fit;
        mapped = record { taken = t.0; band = t.1.band; between = a.0; most = a.1 };
        count = q;
        file =
            ap (λ (x : ℕ). take x b) q
            ∙ ap (λ (l : List ℕ). take (length (band_file g south north)) l) (w.result ∙ ap (λ (h : List ℕ). onto h bytes) t.1.whole)
            ∙ take-append_seam (band_file g south north) (drop (length (band_file g south north)) bytes);
      }

-- ---- where 12 is said for the bytes, nothing else is amiss
module _ (g : Grid) (south north : ℤ) where
  drawn-twelve : (given : ℕ) (r : Counted) (h : List ℕ) → r ≡ Err TooShort → Drawn g south north given r h → (band_grid g ≡ true) × (latitudes_fit south north ≡ true)
  drawn-twelve given r h i (other x) = cc
  drawn-twelve given r h i (beyond x y) = cc
  drawn-twelve given r h i (short x y z) = (x, y)
  drawn-twelve given r h i (drawn x y z) = (x, y)

  comes-twelve : (have : Room) (given : ℕ) (r : Counted) (h : List ℕ) (u : Room) → r ≡ Err TooShort → check_of g ≡ fine → Roomy (grid_need g) have →
      Comes Err [] (check_of g) (grid_need g) have (GeoEnd g south north given) r h u → (band_grid g ≡ true) × (latitudes_fit south north ≡ true)
  comes-twelve have given r h u i passed room (refused {why = a} x) = absurd (fine-refused a (sym x ∙ passed))
  comes-twelve have given r h u i passed room (cramped x y) = absurd (y room)
  comes-twelve have given r h u i passed room (ended x y (crowded c)) = cc
  comes-twelve have given r h u i passed room (ended x y (plain c d)) = drawn-twelve given r h i d

  pub twelve-drawn : (r : Counted) (why : Refusal) (bytes b keys k rows o spare q counts c : List ℕ) → GeoJson g south north r bytes b keys k rows o spare q counts c → r ≡ Err why → why ≡ TooShort →
      check_of g ≡ fine → Roomy (grid_need g) (lengths keys rows spare counts) → (band_grid g ≡ true) × (latitudes_fit south north ≡ true)
  twelve-drawn r why bytes b keys k rows o spare q counts c w e f passed room =
      comes-twelve (lengths keys rows spare counts) (length bytes) r w.handed w.used (e ∙ ap Err f) passed room w.comes
