-- What a table of mates says of the cells: each pair of mates stands in it, and no facet lies in three cells. Assumes nothing.
use mathlib.Core.List.{List}
use mathlib.Core.Path.{◌≡◌, sym, ap, ◌∙◌, subst}
use Prim.Native.Nat.{ℕ, suc, ◌+◌, ◌-◌, ◌*◌, ◌/◌, ◌%◌, ◌<◌}
use native.Mathlib.Nat.{mul-le-mul_left}
use native.Mathlib.Omega.{arith}
use lib.ListN.{length, get_or}
use Rattle.lists.specs.Words.{none}
use Rattle.lists.proofs.Rows.{row_in, row-div, row-mod}
use Rattle.complex.specs.Facets.{FacetOf, Mates, Crowded, slots}
use Rattle.complex_mates.specs.Table.{MateTable}
use Rattle.complex_mates.proofs.Meeting.{slots-most}
use Rattle.complex_mates.proofs.Places.{slots-pos}

-- mates, said of equal numbers
pub moved : (d : ℕ) (cs : List (List ℕ)) {c i c' i' : ℕ} (c₁ i₁ c₂ i₂ : ℕ) → c ≡ c₁ → i ≡ i₁ → c' ≡ c₂ → i' ≡ i₂ → Mates d cs c i c' i' → Mates d cs c₁ i₁ c₂ i₂
moved d cs {c} {i} {c'} {i'} c₁ i₁ c₂ i₂ e f g h u =
    subst (λ (z : ℕ). Mates d cs z i₁ c₂ i₂) e
    (subst (λ (z : ℕ). Mates d cs c z c₂ i₂) f
    (subst (λ (z : ℕ). Mates d cs c i z i₂) g
    (subst (λ (z : ℕ). Mates d cs c i c' z) h u)))

module _ (d m : ℕ) (cs : List (List ℕ)) (many : length cs ≡ m) (mates : List ℕ) (t : MateTable d cs mates) (few : m * suc d < none) where
  in-cs : (x : ℕ) → x < m * slots d → x < length cs * slots d
  in-cs x h = rw many h

  pub rows_few : m * slots d < none
  rows_few = omega (arith, mul-le-mul_left m (slots-most d))

  pub mate-below : (x : ℕ) → x < m * slots d → (get_or mates x 0 ≡ none → ⊥) → get_or mates x 0 < m * slots d
  mate-below x h s = subst (λ (z : ℕ). get_or mates x 0 < z * slots d) many (t.below x (in-cs x h) s)

  -- the row of a facet
  pub facet-row : {c i : ℕ} → FacetOf d cs c i → (c * slots d + (d - i) < m * slots d) × ((c * slots d + (d - i)) / slots d ≡ c) × ((c * slots d + (d - i)) % slots d ≡ d - i) × (d - (c * slots d + (d - i)) % slots d ≡ i)
  facet-row {c} {i} u =
      let z : slots d ≡ suc d = slots-pos d u.some in
      let l : d - i < slots d = omega arith in
      let g : (c * slots d + (d - i)) % slots d ≡ d - i = row-mod c (d - i) (slots d) l in
      let p = u.place in
      (row_in c (d - i) m (slots d) (omega (arith, u.cell)) l, row-div c (d - i) (slots d) l, g, omega arith)

  -- mates are in the table
  pub mates-row : {c i c' i' : ℕ} → Mates d cs c i c' i' → get_or mates (c * slots d + (d - i)) 0 ≡ c' * slots d + (d - i')
  mates-row {c} {i} {c'} {i'} u =
      let x = facet-row u.this in
      let y = facet-row u.that in
      t.all (c * slots d + (d - i)) (c' * slots d + (d - i')) (in-cs (c * slots d + (d - i)) x.0) (in-cs (c' * slots d + (d - i')) y.0) (moved d cs _ _ _ _ (sym x.1) (sym x.3) (sym y.1) (sym y.3) u)

  -- a table of mates leaves no room for three
  pub not-crowded : Crowded d cs → ⊥
  not-crowded w =
      let x = facet-row w.one.that in
      let y = facet-row w.other.that in
      w.apart (sym x.1 ∙ ap (λ (z : ℕ). z / slots d) (sym (mates-row w.one) ∙ mates-row w.other) ∙ y.1)
