-- Every ring of the file is the ring of the lower or the upper cell of one box of the grid before gluing, and every box has its two rings. Assumes nothing.
use mathlib.Core.Path.{◌≡◌, refl, sym, ap, subst, ◌∙◌}
use mathlib.Core.Bool.{Bool, true, false, cond}
use mathlib.Core.Logic.{⊎_elim}
use mathlib.Core.List.{List, [], ◌∷◌}
use Prim.Native.Nat.{ℕ, zero, suc, ◌+◌, ◌*◌, ◌/◌, ◌%◌, ◌≤◌, ◌<◌}
use native.Mathlib.Nat.{mod-lt, one-mul, mul_left_comm, mul-le-mul_right, suc-mul}
use native.Mathlib.Omega.{arith}
use lib.Arith.{digits_div, digits_mod}
use lib.Dec.{eqb}
use lib.ListN.{get_or}
use Rattle.lists.proofs.Tables.{get_or-tab}
use Rattle.quotient.specs.declared.Grid.{Grid}
use Rattle.quotient.specs.Fold.{product}
use Rattle.quotient.specs.Shape.{cells_on, points_on, cell_count}
use Rattle.quotient.proofs.Laws.{lt-or-ge}
use Rattle.grid_words.specs.WorkNumbered.{cell_no, corner_of}
use Rattle.grid_words.proofs.Corners.{corner-rises}
use Rattle.grid_words.proofs.Listed.{listed}
use Rattle.file_geojson.specs.File.{ring_corners}
use Rattle.file_geojson.specs.Kind.{Mapped}
use Rattle.file_geojson.proofs.Angles.{columns-some}
use Rattle.file_geojson.proofs.Vertices.{band-two}
use Rattle.file_geojson.proofs.Boxes.{column, row, east-at, east-step, north-at, north-step}
use Rattle.file_geojson.proofs.Numbers.{column-is, row_is, cells_are}
use Rattle.file_geojson.proofs.Rings.{round-east, round-north}
use Rattle.file_geojson_laws.specs.Map.{Ring, lower, upper, Lower, Upper, ring_no}

pub lower-ring : {g : Grid} {c r : ℕ} {vs : List ℕ} → Lower g c r vs → Ring g c r vs
lower-ring {g} {c} {r} l = subst (λ (w : List ℕ). Ring g c r w) (sym l.closed) (lower l.south_west l.south_east l.north_east)

pub upper-ring : {g : Grid} {c r : ℕ} {vs : List ℕ} → Upper g c r vs → Ring g c r vs
upper-ring {g} {c} {r} u = subst (λ (w : List ℕ). Ring g c r w) (sym u.closed) (upper u.south_west u.north_east u.north_west)

module _ (g : Grid) (low high : ℕ) (m : Mapped g low high) where
  flat : g.d ≡ 2
  flat = band-two g m.band

  abbrev pub column_of : ℕ → ℕ
  column_of x = column g m.taken (band-two g m.band) x

  abbrev pub row_of : ℕ → ℕ
  row_of x = row g m.taken (band-two g m.band) x

  pub ring-is : (x : ℕ) → x < cell_count g → ring_no g x ≡ ring_corners (cell_no g x)
  ring-is x h = ap ring_corners (ap (λ (l : List (List ℕ)). get_or l x []) (listed g m.taken) ∙ get_or-tab (cell_count g) (cell_no g) x [] h)

  module _ (x : ℕ) where
    east-next : x % 2 ≡ 0 → corner_of g x 1 ≡ corner_of g x 0 + 1
    unfolding product
    east-next e = east-step g m.taken flat x e

    -- an even cell is the lower one of its box
    pub even-lower : x % 2 ≡ 0 → Lower g (column_of x) (row_of x) (ring_corners (cell_no g x))
    even-lower e =
        let at = east-at g m.taken flat x e in
        subst (λ (vs : List ℕ). Lower g (column_of x) (row_of x) vs) (round-east g x _ _ _ refl refl refl (east-next e))
        (record {
          closed = refl;
          south_west = (omega (arith, at 0 0 (omega arith) (omega arith)), omega (arith, at 0 1 (omega arith) (omega arith)));
          south_east = (at 1 0 (omega arith) (omega arith), omega (arith, at 1 1 (omega arith) (omega arith)));
          north_east = (at 2 0 (omega arith) (omega arith), at 2 1 (omega arith) (omega arith));
        })

    north-far : x % 2 ≡ 1 → corner_of g x 1 ≡ corner_of g x 0 + 1 → ⊥
    unfolding product
    north-far e h = omega (arith, north-step g m.taken flat x e, one-mul (points_on g 0), columns-some g low high m)

    -- an odd one is the upper one
    pub odd-upper : x % 2 ≡ 1 → Upper g (column_of x) (row_of x) (ring_corners (cell_no g x))
    odd-upper e =
        let at = north-at g m.taken flat x e in
        subst (λ (vs : List ℕ). Upper g (column_of x) (row_of x) vs) (round-north g x _ _ _ refl refl refl (north-far e))
        (record {
          closed = refl;
          south_west = (omega (arith, at 0 0 (omega arith) (omega arith)), omega (arith, at 0 1 (omega arith) (omega arith)));
          north_east = (at 2 0 (omega arith) (omega arith), at 2 1 (omega arith) (omega arith));
          north_west = (omega (arith, at 1 0 (omega arith) (omega arith)), at 1 1 (omega arith) (omega arith));
        })

    -- the ring that is written for cell x
    pub ring-in-box : Ring g (column_of x) (row_of x) (ring_corners (cell_no g x))
    ring-in-box =
        ⊎_elim
        (λ (h : x % 2 < 1). lower-ring (even-lower (omega arith)))
        (λ (h : 1 ≤ x % 2). upper-ring (odd-upper (omega (arith, mod-lt x {m = 2} (omega arith)))))
        (lt-or-ge (x % 2) 1)

  -- ---- each box has its two rings
  module _ (c r : ℕ) (hc : c < cells_on g 0) (hr : r < cells_on g 1) where
    abbrev box : ℕ
    box = r * cells_on g 0 + c

    cell_in : (p : ℕ) → p < 2 → box * 2 + p < cell_count g
    cell_in p h =
        let s : suc r * cells_on g 0 ≤ cells_on g 1 * cells_on g 0 = mul-le-mul_right (cells_on g 0) hr in
        let e : cell_count g ≡ 2 * (cells_on g 1 * cells_on g 0) = cells_are g m.taken m.band ∙ mul_left_comm (cells_on g 1) 2 (cells_on g 0) in
        omega (arith, suc-mul r (cells_on g 0))

    column-back : (p : ℕ) → p < 2 → column_of (box * 2 + p) ≡ c
    column-back p h =
        column-is g m.taken m.band (box * 2 + p) (cell_in p h)
        ∙ ap (λ (b : ℕ). b % cells_on g 0) (digits_div box h)
        ∙ digits_mod r hc

    row_back : (p : ℕ) → p < 2 → row_of (box * 2 + p) ≡ r
    row_back p h =
        row_is g m.taken m.band (box * 2 + p) (cell_in p h)
        ∙ ap (λ (b : ℕ). b / cells_on g 0) (digits_div box h)
        ∙ digits_div r hc

    -- the two cells of box number b are the features 2 * b and 2 * b + 1
    pub each-box : Lower g c r (ring_no g (box * 2 + 0)) × Upper g c r (ring_no g (box * 2 + 1))
    each-box = (
      subst (λ (vs : List ℕ). Lower g c r vs) (sym (ring-is (box * 2 + 0) (cell_in 0 (omega arith))))
          (subst (λ (k : ℕ). Lower g c k (ring_corners (cell_no g (box * 2 + 0)))) (row_back 0 (omega arith))
          (subst (λ (k : ℕ). Lower g k (row_of (box * 2 + 0)) (ring_corners (cell_no g (box * 2 + 0)))) (column-back 0 (omega arith)) (even-lower (box * 2 + 0) (digits_mod box {m = 2} {r = 0} (omega arith))))),
      subst (λ (vs : List ℕ). Upper g c r vs) (sym (ring-is (box * 2 + 1) (cell_in 1 (omega arith))))
          (subst (λ (k : ℕ). Upper g c k (ring_corners (cell_no g (box * 2 + 1)))) (row_back 1 (omega arith))
          (subst (λ (k : ℕ). Upper g k (row_of (box * 2 + 1)) (ring_corners (cell_no g (box * 2 + 1)))) (column-back 1 (omega arith)) (odd-upper (box * 2 + 1) (digits_mod box {m = 2} {r = 1} (omega arith))))),
    )

-- the lowest grid vertex comes first
first-lowest : (t : Bool) (a b c : ℕ) (k : ℕ) → a < b → a < c → k < 4 → a ≤ get_or (cond t (a ∷ b ∷ c ∷ a ∷ []) (a ∷ c ∷ b ∷ a ∷ [])) k 0
first-lowest true a b c zero h l q = omega arith
first-lowest true a b c (suc zero) h l q = omega arith
first-lowest true a b c (suc (suc zero)) h l q = omega arith
first-lowest true a b c (suc (suc (suc zero))) h l q = omega arith
first-lowest true a b c (suc (suc (suc (suc k)))) h l q = absurd (omega arith)
first-lowest false a b c zero h l q = omega arith
first-lowest false a b c (suc zero) h l q = omega arith
first-lowest false a b c (suc (suc zero)) h l q = omega arith
first-lowest false a b c (suc (suc (suc zero))) h l q = omega arith
first-lowest false a b c (suc (suc (suc (suc k)))) h l q = absurd (omega arith)

round-first : (t : Bool) (a b c : ℕ) → get_or (cond t (a ∷ b ∷ c ∷ a ∷ []) (a ∷ c ∷ b ∷ a ∷ [])) 0 0 ≡ a
round-first true a b c = refl
round-first false a b c = refl

pub from_lowest : (g : Grid) (low high : ℕ) → Mapped g low high → (x k : ℕ) → k < 4 → get_or (ring_corners (cell_no g x)) 0 0 ≤ get_or (ring_corners (cell_no g x)) k 0
from_lowest g low high m x k q =
    let two : g.d ≡ 2 = band-two g m.band in
    let e : get_or (ring_corners (cell_no g x)) 0 0 ≡ corner_of g x 0 = round-first (eqb (corner_of g x 1) (corner_of g x 0 + 1)) (corner_of g x 0) (corner_of g x 1) (corner_of g x 2) in
    let f : corner_of g x 0 ≤ get_or (ring_corners (cell_no g x)) k 0 =
    first-lowest (eqb (corner_of g x 1) (corner_of g x 0 + 1)) (corner_of g x 0) (corner_of g x 1) (corner_of g x 2) k (corner-rises g m.taken x 0 1 (omega arith) (omega (arith, two)))
    (corner-rises g m.taken x 0 2 (omega arith) (omega (arith, two))) q in
    omega arith
