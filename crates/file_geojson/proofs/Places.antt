-- A row of the band by plain numbers: where each of its cells stands in the grid and in the mesh, and that the mesh's places rise with the cells. Assumes nothing.
use mathlib.Core.Path.{◌≡◌, refl, ap, ◌∙◌}
use mathlib.Core.Logic.{◌⊎◌, inl, inr}
use mathlib.Core.List.{List, [], ◌∷◌}
use Prim.Native.Nat.{ℕ, ◌+◌, ◌-◌, ◌*◌, ◌%◌, ◌≤◌, ◌<◌}
use native.Mathlib.Nat.{mod-eq_of_lt, mod_self}
use native.Mathlib.Decide.{dec_lt}
use native.Mathlib.Omega.{arith}
use borrow.Author.Tests.{lt-ltb, le-ltb}
use Rattle.multiindex.specs.Sort.{insert_by, insert, sort_word}

-- the cell at place j of a row of n columns, whose lower vertices begin at a and whose upper ones at a + n, as its three vertices rising: below the seam's diagonal,
-- below and above the diagonal of column c, above the seam's diagonal, and above the diagonal of the column before the seam
pub data RowCell (n a j low mid top : ℕ) : Type 0 where
  seam-lower : j ≡ 0 → low ≡ a → mid + 1 ≡ a + n → top ≡ a + n → RowCell n a j low mid top
  lower : (c : ℕ) → c + 2 ≤ n → j ≡ 1 + 2 * c → low ≡ a + c → mid ≡ a + c + 1 → top ≡ a + n + c + 1 → RowCell n a j low mid top
  upper : (c : ℕ) → c + 3 ≤ n → j ≡ 2 + 2 * c → low ≡ a + c → mid ≡ a + n + c → top ≡ a + n + c + 1 → RowCell n a j low mid top
  seam-upper : j + 2 ≡ 2 * n → low + 1 ≡ a + n → mid ≡ a + n → top + 1 ≡ a + n + n → RowCell n a j low mid top
  last-upper : j + 1 ≡ 2 * n → low + 2 ≡ a + n → mid + 2 ≡ a + n + n → top + 1 ≡ a + n + n → RowCell n a j low mid top

-- the last vertices decide, and where they are equal the ones before
abbrev pub Before : ℕ → ℕ → ℕ → ℕ → Type 0
Before mid top mid' top' = (top < top') ⊎ ((top ≡ top') × (mid < mid'))

module _ (n a : ℕ) (three : 3 ≤ n) where
  -- the last vertex is an upper one
  pub top_within : (j low mid top : ℕ) → RowCell n a j low mid top → (a + n ≤ top) × (top < a + n + n)
  top_within j low mid top (seam-lower e l m t) = (omega arith, omega arith)
  top_within j low mid top (lower c h e l m t) = (omega arith, omega arith)
  top_within j low mid top (upper c h e l m t) = (omega arith, omega arith)
  top_within j low mid top (seam-upper e l m t) = (omega arith, omega arith)
  top_within j low mid top (last-upper e l m t) = (omega arith, omega arith)

  pub row_before : (j low mid top k low' mid' top' : ℕ) → RowCell n a j low mid top → RowCell n a k low' mid' top' → j < k → Before mid top mid' top'
  row_before j low mid top k low' mid' top' (seam-lower e l m t) (seam-lower e' l' m' t') q = elim (dec_lt top top') [ yes s ↦ inl s | no s ↦ inr (omega arith, omega arith) ]
  row_before j low mid top k low' mid' top' (seam-lower e l m t) (lower c' h' e' l' m' t') q = elim (dec_lt top top') [ yes s ↦ inl s | no s ↦ inr (omega arith, omega arith) ]
  row_before j low mid top k low' mid' top' (seam-lower e l m t) (upper c' h' e' l' m' t') q = elim (dec_lt top top') [ yes s ↦ inl s | no s ↦ inr (omega arith, omega arith) ]
  row_before j low mid top k low' mid' top' (seam-lower e l m t) (seam-upper e' l' m' t') q = elim (dec_lt top top') [ yes s ↦ inl s | no s ↦ inr (omega arith, omega arith) ]
  row_before j low mid top k low' mid' top' (seam-lower e l m t) (last-upper e' l' m' t') q = elim (dec_lt top top') [ yes s ↦ inl s | no s ↦ inr (omega arith, omega arith) ]
  row_before j low mid top k low' mid' top' (lower c h e l m t) (seam-lower e' l' m' t') q = elim (dec_lt top top') [ yes s ↦ inl s | no s ↦ inr (omega arith, omega arith) ]
  row_before j low mid top k low' mid' top' (lower c h e l m t) (lower c' h' e' l' m' t') q = elim (dec_lt top top') [ yes s ↦ inl s | no s ↦ inr (omega arith, omega arith) ]
  row_before j low mid top k low' mid' top' (lower c h e l m t) (upper c' h' e' l' m' t') q = elim (dec_lt top top') [ yes s ↦ inl s | no s ↦ inr (omega arith, omega arith) ]
  row_before j low mid top k low' mid' top' (lower c h e l m t) (seam-upper e' l' m' t') q = elim (dec_lt top top') [ yes s ↦ inl s | no s ↦ inr (omega arith, omega arith) ]
  row_before j low mid top k low' mid' top' (lower c h e l m t) (last-upper e' l' m' t') q = elim (dec_lt top top') [ yes s ↦ inl s | no s ↦ inr (omega arith, omega arith) ]
  row_before j low mid top k low' mid' top' (upper c h e l m t) (seam-lower e' l' m' t') q = elim (dec_lt top top') [ yes s ↦ inl s | no s ↦ inr (omega arith, omega arith) ]
  row_before j low mid top k low' mid' top' (upper c h e l m t) (lower c' h' e' l' m' t') q = elim (dec_lt top top') [ yes s ↦ inl s | no s ↦ inr (omega arith, omega arith) ]
  row_before j low mid top k low' mid' top' (upper c h e l m t) (upper c' h' e' l' m' t') q = elim (dec_lt top top') [ yes s ↦ inl s | no s ↦ inr (omega arith, omega arith) ]
  row_before j low mid top k low' mid' top' (upper c h e l m t) (seam-upper e' l' m' t') q = elim (dec_lt top top') [ yes s ↦ inl s | no s ↦ inr (omega arith, omega arith) ]
  row_before j low mid top k low' mid' top' (upper c h e l m t) (last-upper e' l' m' t') q = elim (dec_lt top top') [ yes s ↦ inl s | no s ↦ inr (omega arith, omega arith) ]
  row_before j low mid top k low' mid' top' (seam-upper e l m t) (seam-lower e' l' m' t') q = elim (dec_lt top top') [ yes s ↦ inl s | no s ↦ inr (omega arith, omega arith) ]
  row_before j low mid top k low' mid' top' (seam-upper e l m t) (lower c' h' e' l' m' t') q = elim (dec_lt top top') [ yes s ↦ inl s | no s ↦ inr (omega arith, omega arith) ]
  row_before j low mid top k low' mid' top' (seam-upper e l m t) (upper c' h' e' l' m' t') q = elim (dec_lt top top') [ yes s ↦ inl s | no s ↦ inr (omega arith, omega arith) ]
  row_before j low mid top k low' mid' top' (seam-upper e l m t) (seam-upper e' l' m' t') q = elim (dec_lt top top') [ yes s ↦ inl s | no s ↦ inr (omega arith, omega arith) ]
  row_before j low mid top k low' mid' top' (seam-upper e l m t) (last-upper e' l' m' t') q = elim (dec_lt top top') [ yes s ↦ inl s | no s ↦ inr (omega arith, omega arith) ]
  row_before j low mid top k low' mid' top' (last-upper e l m t) (seam-lower e' l' m' t') q = elim (dec_lt top top') [ yes s ↦ inl s | no s ↦ inr (omega arith, omega arith) ]
  row_before j low mid top k low' mid' top' (last-upper e l m t) (lower c' h' e' l' m' t') q = elim (dec_lt top top') [ yes s ↦ inl s | no s ↦ inr (omega arith, omega arith) ]
  row_before j low mid top k low' mid' top' (last-upper e l m t) (upper c' h' e' l' m' t') q = elim (dec_lt top top') [ yes s ↦ inl s | no s ↦ inr (omega arith, omega arith) ]
  row_before j low mid top k low' mid' top' (last-upper e l m t) (seam-upper e' l' m' t') q = elim (dec_lt top top') [ yes s ↦ inl s | no s ↦ inr (omega arith, omega arith) ]
  row_before j low mid top k low' mid' top' (last-upper e l m t) (last-upper e' l' m' t') q = elim (dec_lt top top') [ yes s ↦ inl s | no s ↦ inr (omega arith, omega arith) ]

-- place i of a row of the grid is place j of the row in the mesh; a row has r cells
pub data Turn (r i j : ℕ) : Type 0 where
  on : i + 3 < r → j ≡ i + 1 → Turn r i j
  third : i + 3 ≡ r → j ≡ i + 2 → Turn r i j
  second : i + 2 ≡ r → j ≡ 0 → Turn r i j
  first : i + 1 ≡ r → j + 1 ≡ i → Turn r i j

pub turn-within : (r i j : ℕ) → 6 ≤ r → Turn r i j → (i < r) × (j < r)
turn-within r i j q (on h e) = (omega arith, omega arith)
turn-within r i j q (third h e) = (omega arith, omega arith)
turn-within r i j q (second h e) = (omega arith, omega arith)
turn-within r i j q (first h e) = (omega arith, omega arith)

-- each place of the mesh's row is one place of the grid's
pub turn_one : (r i k j : ℕ) → 6 ≤ r → Turn r i j → Turn r k j → i ≡ k
turn_one r i k j q (on h e) (on h' e') = omega arith
turn_one r i k j q (on h e) (third h' e') = omega arith
turn_one r i k j q (on h e) (second h' e') = omega arith
turn_one r i k j q (on h e) (first h' e') = omega arith
turn_one r i k j q (third h e) (on h' e') = omega arith
turn_one r i k j q (third h e) (third h' e') = omega arith
turn_one r i k j q (third h e) (second h' e') = omega arith
turn_one r i k j q (third h e) (first h' e') = omega arith
turn_one r i k j q (second h e) (on h' e') = omega arith
turn_one r i k j q (second h e) (third h' e') = omega arith
turn_one r i k j q (second h e) (second h' e') = omega arith
turn_one r i k j q (second h e) (first h' e') = omega arith
turn_one r i k j q (first h e) (on h' e') = omega arith
turn_one r i k j q (first h e) (third h' e') = omega arith
turn_one r i k j q (first h e) (second h' e') = omega arith
turn_one r i k j q (first h e) (first h' e') = omega arith

pub turn-to : (r i : ℕ) → 6 ≤ r → i < r → (j : ℕ) × Turn r i j
turn-to r i q h =
    elim (dec_lt (i + 3) r) [
      | yes a ↦ (i + 1, on a refl)
      | no a ↦ elim (dec_lt (i + 2) r) [
        | yes b ↦ (i + 2, third (omega arith) refl)
        | no b ↦ elim (dec_lt (i + 1) r) [ yes c ↦ (0, second (omega arith) refl) | no c ↦ (i - 1, first (omega arith) (omega arith)) ]
      ]
    ]

pub turn-back : (r j : ℕ) → 6 ≤ r → j < r → (i : ℕ) × Turn r i j
turn-back r j q h =
    elim (dec_lt 0 j) [
      | no a ↦ (r - 2, second (omega arith) (omega arith))
      | yes a ↦ elim (dec_lt (j + 2) r) [
        | yes b ↦ (j - 1, on (omega arith) (omega arith))
        | no b ↦ elim (dec_lt (j + 1) r) [ yes c ↦ (j + 1, first (omega arith) (omega arith)) | no c ↦ (j - 2, third (omega arith) (omega arith)) ]
      ]
    ]

-- ---- the places of a row's cells by their kind: below a diagonal at an even place of the grid, above it at an odd one
module _ (n c j : ℕ) where
  place-lower : c + 2 ≤ n → Turn (2 * n) (2 * c) j → j ≡ 1 + 2 * c
  place-lower h (on q e) = omega arith
  place-lower h (third q e) = omega arith
  place-lower h (second q e) = omega arith
  place-lower h (first q e) = omega arith

  place-seam-lower : c + 1 ≡ n → Turn (2 * n) (2 * c) j → j ≡ 0
  place-seam-lower h (on q e) = omega arith
  place-seam-lower h (third q e) = omega arith
  place-seam-lower h (second q e) = omega arith
  place-seam-lower h (first q e) = omega arith

  place-upper : c + 3 ≤ n → Turn (2 * n) (2 * c + 1) j → j ≡ 2 + 2 * c
  place-upper h (on q e) = omega arith
  place-upper h (third q e) = omega arith
  place-upper h (second q e) = omega arith
  place-upper h (first q e) = omega arith

  place-last : c + 2 ≡ n → Turn (2 * n) (2 * c + 1) j → j + 1 ≡ 2 * n
  place-last h (on q e) = omega arith
  place-last h (third q e) = omega arith
  place-last h (second q e) = omega arith
  place-last h (first q e) = omega arith

  place-seam-upper : c + 1 ≡ n → Turn (2 * n) (2 * c + 1) j → j + 2 ≡ 2 * n
  place-seam-upper h (on q e) = omega arith
  place-seam-upper h (third q e) = omega arith
  place-seam-upper h (second q e) = omega arith
  place-seam-upper h (first q e) = omega arith

-- ---- three vertices sorted
sort-up : (x y z : ℕ) → x < y → y < z → sort_word (x ∷ y ∷ z ∷ []) ≡ x ∷ y ∷ z ∷ []
unfolding sort_word insert insert_by
sort-up x y z h l = rw (le-ltb z y (omega arith), le-ltb y x (omega arith))

sort-first : (x y z : ℕ) → y < x → x < z → sort_word (x ∷ y ∷ z ∷ []) ≡ y ∷ x ∷ z ∷ []
unfolding sort_word insert insert_by
sort-first x y z h l = rw (le-ltb z y (omega arith), lt-ltb y x h, le-ltb z x (omega arith))

sort-last : (x y z : ℕ) → x < z → z < y → sort_word (x ∷ y ∷ z ∷ []) ≡ x ∷ z ∷ y ∷ []
unfolding sort_word insert insert_by
sort-last x y z h l = rw (lt-ltb z y l, le-ltb z x (omega arith))

-- a word whose cell stands at place j of its row
pub record InRow (n a j : ℕ) (w : List ℕ) : Type 0 where
  pub low : ℕ
  pub mid : ℕ
  pub top : ℕ
  pub cell : RowCell n a j low mid top
  pub word : sort_word w ≡ low ∷ mid ∷ top ∷ []

-- the column after c, the first one after the last
module _ (n c : ℕ) (h : c < n) where
  pub next-on : c + 1 < n → (c + 1) % n ≡ c + 1
  next-on l = mod-eq_of_lt l

  pub next-seam : c + 1 ≡ n → (c + 1) % n ≡ 0
  next-seam e = ap (λ (k : ℕ). k % n) e ∙ mod_self n

module _ (n a c j x y z : ℕ) (three : 3 ≤ n) (h : c < n) (ex : x ≡ a + c) (ez : z ≡ (c + 1) % n + (a + n)) where
  -- a cell that steps east first
  pub in-row-lower : y ≡ (c + 1) % n + a → Turn (2 * n) (2 * c) j → InRow n a j (x ∷ y ∷ z ∷ [])
  in-row-lower ey t =
      elim (dec_lt (c + 1) n) [
        | yes l ↦
            let q : (c + 1) % n ≡ c + 1 = next-on n c h l in
            record { low = x; mid = y; top = z; cell = lower c (omega arith) (place-lower n c j (omega arith) t) ex (omega arith) (omega arith); word = sort-up x y z (omega arith) (omega arith) }
        | no l ↦
            let q : (c + 1) % n ≡ 0 = next-seam n c h (omega arith) in
            record { low = y; mid = x; top = z; cell = seam-lower (place-seam-lower n c j (omega arith) t) (omega arith) (omega arith) (omega arith); word = sort-first x y z (omega arith) (omega arith) }
      ]

  -- a cell that steps north first
  pub in-row-upper : y ≡ a + n + c → Turn (2 * n) (2 * c + 1) j → InRow n a j (x ∷ y ∷ z ∷ [])
  in-row-upper ey t =
      elim (dec_lt (c + 1) n) [
        | yes l ↦
            let q : (c + 1) % n ≡ c + 1 = next-on n c h l in
            elim (dec_lt (c + 2) n) [
              | yes m ↦ record { low = x; mid = y; top = z; cell = upper c (omega arith) (place-upper n c j (omega arith) t) ex ey (omega arith); word = sort-up x y z (omega arith) (omega arith) }
              | no m ↦
                  record { low = x; mid = y; top = z; cell = last-upper (place-last n c j (omega arith) t) (omega arith) (omega arith) (omega arith); word = sort-up x y z (omega arith) (omega arith) }
            ]
        | no l ↦
            let q : (c + 1) % n ≡ 0 = next-seam n c h (omega arith) in
            record { low = x; mid = z; top = y; cell = seam-upper (place-seam-upper n c j (omega arith) t) (omega arith) (omega arith) (omega arith); word = sort-last x y z (omega arith) (omega arith) }
      ]
