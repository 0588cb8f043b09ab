-- A feature's id is the number of its cell in the mesh: the cell at that number is the feature's word after gluing, two features never have one id, and every cell has
-- its feature. The closed form says which: a row of n columns has 2n cells, and inside it each stands one place later than in the grid, but for the last three. Assumes nothing.
use mathlib.Core.Path.{◌≡◌, refl, sym, ap, ◌∙◌}
use mathlib.Core.List.{List, [], map}
use Prim.Native.Nat.{ℕ, ◌+◌, ◌-◌, ◌*◌, ◌%◌, ◌<◌}
use native.Mathlib.Omega.{arith}
use lib.ListN.{get_or}
use Rattle.multiindex.specs.Sort.{sort_word}
use Rattle.lists.proofs.Tables.{get_or-tab}
use Rattle.complex.specs.Facets.{cell_at}
use Rattle.quotient.specs.declared.Grid.{Grid}
use Rattle.quotient.specs.Shape.{cells_on, cell_count}
use Rattle.quotient.specs.Reduce.{vertex_of}
use Rattle.grid_words.specs.Cells.{grid_cells}
use Rattle.grid_words.specs.WorkNumbered.{cell_no}
use Rattle.grid_words.proofs.Listed.{listed}
use Rattle.grid_mesh.specs.Words.{glued_cells}
use Rattle.file_geojson.specs.File.{mesh_number}
use Rattle.file_geojson.specs.Kind.{Mapped}
use Rattle.file_geojson_laws.specs.Map.{id_no}
use Rattle.file_geojson.proofs.Numbers.{number-cell, number-one, number-onto, told-on, told-third, told-second, told-first}

module _ (g : Grid) (low high : ℕ) (m : Mapped g low high) where
  cell_is : (x : ℕ) → x < cell_count g → get_or (grid_cells g) x [] ≡ cell_no g x
  cell_is x h = ap (λ (l : List (List ℕ)). get_or l x []) (listed g m.taken) ∙ get_or-tab (cell_count g) (cell_no g) x [] h

  id-is : (x : ℕ) → x < cell_count g → id_no g x ≡ mesh_number g (cell_no g x)
  id-is x h = ap (mesh_number g) (cell_is x h)

  -- the cell of the mesh with a feature's id is the feature's cell after gluing
  pub id-cell : (x : ℕ) → x < cell_count g → cell_at (glued_cells g) (id_no g x) ≡ sort_word (map (vertex_of g) (get_or (grid_cells g) x []))
  id-cell x h =
      ap (λ (c : ℕ). cell_at (glued_cells g) c) (id-is x h)
      ∙ number-cell g m.taken m.band x h
      ∙ ap (λ (w : List ℕ). sort_word (map (vertex_of g) w)) (sym (cell_is x h))

  pub id-one : (x y : ℕ) → x < cell_count g → y < cell_count g → id_no g x ≡ id_no g y → x ≡ y
  id-one x y h l e = number-one g m.taken m.band x y h l (sym (id-is x h) ∙ e ∙ id-is y l)

  pub id-onto : (c : ℕ) → c < cell_count g → (x : ℕ) × (x < cell_count g) × (id_no g x ≡ c)
  id-onto c h = let r = number-onto g m.taken m.band c h in (r.0, r.1, id-is r.0 r.1 ∙ r.2)

  -- ---- the closed form
  module _ (x : ℕ) (h : x < cell_count g) where
    pub id-on : x % (2 * cells_on g 0) + 3 < 2 * cells_on g 0 → id_no g x ≡ x + 1
    id-on c = id-is x h ∙ sym (told-on g m.taken m.band x h (cells_on g 0) refl c)

    pub id-third : x % (2 * cells_on g 0) + 3 ≡ 2 * cells_on g 0 → id_no g x ≡ x + 2
    id-third c = id-is x h ∙ sym (told-third g m.taken m.band x h (cells_on g 0) refl c)

    pub id-second : x % (2 * cells_on g 0) + 2 ≡ 2 * cells_on g 0 → id_no g x ≡ x - x % (2 * cells_on g 0)
    id-second c = id-is x h ∙ sym (told-second g m.taken m.band x h (cells_on g 0) refl c)

    pub id-first : x % (2 * cells_on g 0) + 1 ≡ 2 * cells_on g 0 → id_no g x ≡ x - 1
    id-first c =
        id-is x h ∙ sym (told-first g m.taken m.band x h (cells_on g 0) refl (omega arith) (λ e. omega arith) (λ e. omega arith))
