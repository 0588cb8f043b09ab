-- The room that is needed is enough for the faces of every dimension. Assumes nothing.
use mathlib.Core.List.{List, [], ◌∷◌}
use mathlib.Core.Path.{◌≡◌, refl, sym, ap, ◌∙◌}
use mathlib.Core.Logic.{⊎_elim}
use Prim.Native.Nat.{ℕ, zero, suc, ◌+◌, ◌*◌, ◌/◌, ◌<◌, ◌≤◌, suc-le-suc}
use native.Mathlib.Nat.{eq-or-lt_of_le, mul_comm, mul_assoc, mul-le-mul_right, le_trans, div-le_self}
use native.Mathlib.Numerals.{add-one}
use native.Mathlib.Omega.{arith}
use lib.ListN.{get_or}
use mathlib.Core.Bool.{Bool, true, ◌&&◌}
use lib.Dec.{eqb, leb}
use borrow.Author.Tests.{eqb-true, leb-true}
use Rattle.refusal.specs.Limits.{most_dimension, many_corners}
use Rattle.refusal.specs.declared.Room.{Room}
use Rattle.multiindex.proofs.Tables.{at-below, first_of, second-of}
use Rattle.complex.specs.Room.{key_room}
use Rattle.complex_faces.specs.Faces.{each_then, places_of}
use Rattle.complex_boundary.specs.Need.{most_up_to, face_rows, face_keys, face_need}

pub largest-above : (f : ℕ → ℕ) (n e : ℕ) → e ≤ n → f e ≤ most_up_to f n
unfolding most_up_to
largest-above f zero e h = let z : e ≡ 0 = omega arith in omega (arith, ap f z)
largest-above f (suc n) e h =
    ⊎_elim (λ (z : e ≡ suc n). omega (arith, ap f z)) (λ (l : e < suc n). omega (arith, largest-above f n e (omega arith))) (eq-or-lt_of_le h)

-- ---- the numbers in each dimension, computed
rows_table : List ℕ
rows_table = 1 ∷ 2 ∷ 6 ∷ 12 ∷ []

keys_table : List ℕ
keys_table = 1 ∷ 2 ∷ 6 ∷ 24 ∷ []

-- the largest of each
abbrev pub most_rows : ℕ
most_rows = 12

abbrev pub most_keys : ℕ
most_keys = 24

rows_test : ℕ → Bool
rows_test d = eqb (get_or rows_table d 0) (face_rows d) && (leb (d + 1) (get_or rows_table d 0) && leb (get_or rows_table d 0) most_rows)

keys_test : ℕ → Bool
keys_test d = eqb (get_or keys_table d 0) (face_keys d) && (leb (key_room d (d + 1)) (get_or keys_table d 0) && leb (get_or keys_table d 0) most_keys)

rows-test : (d : ℕ) → d ≤ most_dimension → rows_test d ≡ true
unfolding rows_test rows_table most_up_to places_of each_then
rows-test d h = at-below (suc most_dimension) rows_test refl d (suc-le-suc h)

keys-test : (d : ℕ) → d ≤ most_dimension → keys_test d ≡ true
unfolding keys_test keys_table most_up_to places_of each_then
keys-test d h = at-below (suc most_dimension) keys_test refl d (suc-le-suc h)

pub rows_at : (d : ℕ) → d ≤ most_dimension → get_or (1 ∷ 2 ∷ 6 ∷ 12 ∷ []) d 0 ≡ face_rows d
unfolding rows_test rows_table
rows_at d h = eqb-true _ _ (first_of _ _ (rows-test d h))

pub keys-at : (d : ℕ) → d ≤ most_dimension → get_or (1 ∷ 2 ∷ 6 ∷ 24 ∷ []) d 0 ≡ face_keys d
unfolding keys_test keys_table
keys-at d h = eqb-true _ _ (first_of _ _ (keys-test d h))

rows-between : (d : ℕ) → d ≤ most_dimension → (leb (d + 1) (get_or rows_table d 0) && leb (get_or rows_table d 0) most_rows) ≡ true
unfolding rows_test
rows-between d h = second-of (eqb (get_or rows_table d 0) (face_rows d)) (leb (d + 1) (get_or rows_table d 0) && leb (get_or rows_table d 0) most_rows) (rows-test d h)

pub rows-most : (d : ℕ) → d ≤ most_dimension → (d + 1 ≤ face_rows d) × (face_rows d ≤ most_rows)
unfolding rows_table
rows-most d h =
    let n : ℕ = get_or (1 ∷ 2 ∷ 6 ∷ 12 ∷ []) d 0 in
    let low : d + 1 ≤ n = leb-true (d + 1) n (first_of (leb (d + 1) n) (leb n most_rows) (rows-between d h)) in
    let high : n ≤ most_rows = leb-true n most_rows (second-of (leb (d + 1) n) (leb n most_rows) (rows-between d h)) in
    let e : n ≡ face_rows d = rows_at d h in
    (omega arith, omega arith)

-- the keys of the facet rows of n cells are n times those of one
keys-times : (d n : ℕ) → key_room d (n * (d + 1)) ≡ key_room d (d + 1) * n
keys-times zero n = omega arith
keys-times (suc d) n = ap (λ (z : ℕ). suc d * z) (mul_comm n (suc d + 1)) ∙ sym (mul_assoc (suc d) (suc d + 1) n)

keys_between : (d : ℕ) → d ≤ most_dimension → (leb (key_room d (d + 1)) (get_or keys_table d 0) && leb (get_or keys_table d 0) most_keys) ≡ true
unfolding keys_test
keys_between d h = second-of (eqb (get_or keys_table d 0) (face_keys d)) (leb (key_room d (d + 1)) (get_or keys_table d 0) && leb (get_or keys_table d 0) most_keys) (keys-test d h)

pub keys-most : (d : ℕ) → d ≤ most_dimension → ((n : ℕ) → key_room d (n * (d + 1)) ≤ face_keys d * n) × (face_keys d ≤ most_keys)
unfolding keys_table
keys-most d h =
    let n : ℕ = get_or (1 ∷ 2 ∷ 6 ∷ 24 ∷ []) d 0 in
    let low : key_room d (d + 1) ≤ n = leb-true (key_room d (d + 1)) n (first_of (leb (key_room d (d + 1)) n) (leb n most_keys) (keys_between d h)) in
    let high : n ≤ most_keys = leb-true n most_keys (second-of (leb (key_room d (d + 1)) n) (leb n most_keys) (keys_between d h)) in
    let e : n ≡ face_keys d = keys-at d h in
    let l : key_room d (d + 1) ≤ face_keys d = omega arith in
    ((λ m. omega (arith, keys-times d m, mul-le-mul_right m l)), omega arith)

room_of : ℕ → ℕ → ℕ → Room
room_of a b n = record { keys = a * n; rows = b * n; spare = b * n; counts = b * n }

pub need-is : (d len a b : ℕ) → a ≡ face_keys d → b ≡ face_rows d → ◌≡◌ {A = Room} (record { keys = a * (len / (d + 1)); rows = b * (len / (d + 1)); spare = b * (len / (d + 1)); counts = b * (len / (d + 1)) }) (face_need d len)
unfolding room_of
need-is d len a b e f =
    ap (λ (z : ℕ). room_of z b (len / (d + 1))) e ∙ ap (λ (z : ℕ). room_of (face_keys d) z (len / (d + 1))) f ∙ ap (λ (z : ℕ). room_of (face_keys d) (face_rows d) (len / z)) (add-one d)

-- the products fit
pub product-most : (x y n d : ℕ) → x ≤ y → y ≤ most_keys → n < many_corners → x * (n / (d + 1)) < 4294967296
product-most x y n d h l k = omega (arith, mul-le-mul_right (n / (d + 1)) (le_trans h l), div-le_self n (d + 1))
