-- The promise of `file_geojson` determines what it says and every list: two calls on equal inputs end alike. Assumes nothing.
use Rattle.refusal.specs.Says.{Counted}
use Rattle.std.specs.Prelude.{Err}
use mathlib.Core.List.{List, []}
use mathlib.Core.Path.{◌≡◌, refl, sym, ap, ◌∙◌}
use mathlib.Core.Bool.{Bool, true, false, cond}
use Prim.Native.Nat.{ℕ}
use native.Mathlib.Omega.{arith}
use lib.IntN.{ℤ}
use lib.ListN.{length}
use Rattle.refusal.specs.Lent.{onto, lengths}
use Rattle.refusal.proofs.Determined.{comes-one, cleared-one}
use Rattle.quotient.specs.declared.Grid.{Grid}
use Rattle.quotient.specs.Shape.{check_of}
use Rattle.grid_mesh.specs.Words.{grid_need}
use Rattle.file_geojson.specs.Promise.{Drawn, other, beyond, short, drawn, GeoEnd, crowded, plain, GeoJson}

pub both : {X : Type 0} (b : Bool) → b ≡ false → b ≡ true → X
both b e f = let z : ◌≡◌ {A = ℕ} 0 1 = ap (λ (t : Bool). cond t 1 0) (sym e ∙ f) in absurd (omega arith)

drawn-one : (g : Grid) (south north : ℤ) (n : ℕ) (r r' : Counted) (l l' : List ℕ) → Drawn g south north n r l → Drawn g south north n r' l' → (r ≡ r') × (l ≡ l')
drawn-one g south north n r r' l l' (other e) (other f) = (refl, refl)
drawn-one g south north n r r' l l' (other e) (beyond f h) = both _ e f
drawn-one g south north n r r' l l' (other e) (short f h i) = both _ e f
drawn-one g south north n r r' l l' (other e) (drawn f h i) = both _ e f
drawn-one g south north n r r' l l' (beyond e h) (other f) = both _ f e
drawn-one g south north n r r' l l' (beyond e h) (beyond f i) = (refl, refl)
drawn-one g south north n r r' l l' (beyond e h) (short f i j) = both _ h i
drawn-one g south north n r r' l l' (beyond e h) (drawn f i j) = both _ h i
drawn-one g south north n r r' l l' (short e h i) (other f) = both _ f e
drawn-one g south north n r r' l l' (short e h i) (beyond f j) = both _ j h
drawn-one g south north n r r' l l' (short e h i) (short f j k) = (refl, refl)
drawn-one g south north n r r' l l' (short e h i) (drawn f j k) = absurd (omega arith)
drawn-one g south north n r r' l l' (drawn e h i) (other f) = both _ f e
drawn-one g south north n r r' l l' (drawn e h i) (beyond f j) = both _ j h
drawn-one g south north n r r' l l' (drawn e h i) (short f j k) = absurd (omega arith)
drawn-one g south north n r r' l l' (drawn e h i) (drawn f j k) = (refl, refl)

pub ends-one : (g : Grid) (south north : ℤ) (n : ℕ) (r r' : Counted) (l l' : List ℕ) → GeoEnd g south north n r l → GeoEnd g south north n r' l' → (r ≡ r') × (l ≡ l')
ends-one g south north n r r' l l' (crowded x) (crowded y) = (refl, refl)
ends-one g south north n r r' l l' (crowded x) (plain f d) = absurd (f x)
ends-one g south north n r r' l l' (plain f d) (crowded x) = absurd (f x)
ends-one g south north n r r' l l' (plain f d) (plain h e) = drawn-one g south north n r r' l l' d e

-- two exits of one call: what is said, the byte lists and the working lists are equal
pub geojson-one : (g : Grid) (south north : ℤ) (r r' : Counted) (bytes b b' keys k k' rows o o' spare p p' counts c c' : List ℕ) → GeoJson g south north r bytes b keys k rows o spare p counts c →
    GeoJson g south north r' bytes b' keys k' rows o' spare p' counts c' → (r ≡ r') × (b ≡ b') × ((k ≡ k') × (o ≡ o') × (p ≡ p') × (c ≡ c'))
geojson-one g south north r r' bytes b b' keys k k' rows o o' spare p p' counts c c' x y =
    let e = comes-one Err [] (check_of g) (grid_need g) (lengths keys rows spare counts) (GeoEnd g south north (length bytes))
    (ends-one g south north (length bytes)) x.comes y.comes in (
      e.0,
      x.result ∙ ap (λ (l : List ℕ). onto l bytes) e.1 ∙ sym y.result,
      cleared-one x.used y.used keys k k' rows o o' spare p p' counts c c' e.2 x.room y.room,
    )
