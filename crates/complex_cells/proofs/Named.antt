-- The distinct rows of a sorted list, gathered, are the rows' words in colex order without duplicates. Assumes nothing.
use mathlib.Core.List.{List, [], ◌∷◌, ◌++◌}
use mathlib.Core.Path.{◌≡◌, refl, sym, ap, ◌∙◌, subst}
use mathlib.Core.Logic.{inl, inr, ⊎_elim}
use Prim.Native.Nat.{ℕ, zero, suc, ◌+◌, ◌*◌, ◌<◌, ◌≤◌}
use native.Mathlib.Nat.{suc-mul, mul-le-mul_right, le_refl}
use native.Mathlib.Omega.{arith}
use lib.ListN.{length, get_or, take}
use lib.Seq.{length-take-le, get_or-take}
use Rattle.lists.specs.Rows.{flat, row}
use Rattle.sorting.specs.Bucket.{cell}
use Rattle.sorting.specs.Gather.{rows_of}
use Rattle.sorting.specs.Distinct.{Distinct}
use Rattle.sorting.proofs.Colex.{row-length, same_row}
use Rattle.complex.specs.Cells.{place}
use Rattle.complex.specs.Skeleton.{in_colex}
use Rattle.complex_cells.specs.WorkNamed.{row_list, Named}
use Rattle.complex_cells.proofs.Words.{Word, Each, Rising, In, each_of, each_in, in-at, at_in, rising-by, one_list}
use Rattle.complex_cells.proofs.Order.{Colex, colex-irr, colex-trans, place-from, place-old, place-new, place-rising}
use Rattle.complex_cells.proofs.Making.{colex-row}

-- ---- words in colex order
module _ (n : ℕ) where
  pub in_colex-rising : (ws : List Word) → Rising (Colex n) (in_colex n ws)
  unfolding in_colex
  in_colex-rising [] = tt
  in_colex-rising (w ∷ ws) = place-rising n w (in_colex n ws) (in_colex-rising ws)

  pub in_colex-from : (ws : List Word) (v : Word) → In v (in_colex n ws) → In v ws
  unfolding in_colex
  in_colex-from [] v m = absurd m
  in_colex-from (w ∷ ws) v m = ⊎_elim (λ e. inl e) (λ k. inr (in_colex-from ws v k)) (place-from n w (in_colex n ws) v m)

  in_colex-long : (ws : List Word) → Each (λ v. length v ≡ n) ws → Each (λ v. length v ≡ n) (in_colex n ws)
  in_colex-long ws a = each_of (λ v. length v ≡ n) (in_colex n ws) (λ v m. each_in (λ v. length v ≡ n) v ws a (in_colex-from ws v m))

  pub in_colex-has : (ws : List Word) (w : Word) → Each (λ v. length v ≡ n) ws → In w ws → In w (in_colex n ws)
  unfolding in_colex
  in_colex-has [] w a m = absurd m
  in_colex-has (x ∷ xs) w a (inl e) = subst (λ (z : Word). In z (place n x (in_colex n xs))) e (place-new n x (in_colex n xs) a.0 (in_colex-long xs a.1))
  in_colex-has (x ∷ xs) w a (inr m) = place-old n x (in_colex n xs) w (in_colex-has xs w a.1 m)

-- ---- rows as words
pub row_list-flat : (keys : List ℕ) (s : ℕ) (xs : List ℕ) → flat (row_list keys s xs) ≡ rows_of keys s xs
unfolding rows_of
row_list-flat keys s [] = refl
row_list-flat keys s (x ∷ xs) = ap (λ (l : List ℕ). row keys s x ++ l) (row_list-flat keys s xs)

pub row_list-length : (keys : List ℕ) (s : ℕ) (xs : List ℕ) → length (row_list keys s xs) ≡ length xs
row_list-length keys s [] = refl
row_list-length keys s (x ∷ xs) = ap suc (row_list-length keys s xs)

pub row_list-at : (keys : List ℕ) (s : ℕ) (xs : List ℕ) (i : ℕ) → i < length xs → get_or (row_list keys s xs) i [] ≡ row keys s (get_or xs i 0)
row_list-at keys s [] i h = absurd (omega arith)
row_list-at keys s (x ∷ xs) zero h = refl
row_list-at keys s (x ∷ xs) (suc i) h = row_list-at keys s xs i (omega arith)

pub row_list-append : (keys : List ℕ) (s : ℕ) (xs ys : List ℕ) → row_list keys s (xs ++ ys) ≡ row_list keys s xs ++ row_list keys s ys
row_list-append keys s [] ys = refl
row_list-append keys s (x ∷ xs) ys = ap (λ (l : List Word). row keys s x ∷ l) (row_list-append keys s xs ys)

-- named words one after the other, and how many there are
pub named_flat : (words : List Word) (s m : ℕ) (keys list : List ℕ) → Named words s m keys list → flat words ≡ rows_of keys s (take m list)
named_flat words s m keys list n = ap flat n.same ∙ row_list-flat keys s (take m list)

pub named-many : (words : List Word) (s m : ℕ) (keys list : List ℕ) → Named words s m keys list → length words ≡ m
named-many words s m keys list n = ap length n.same ∙ row_list-length keys s (take m list) ∙ length-take-le m list n.rows.long

-- ---- total rows of s numbers, and the distinct ones; `words` are the rows, in whatever order, some of them more than once
module _ (s total m : ℕ) (keys reps ids : List ℕ) (q : Distinct (cell keys s) s total m reps ids) (long : m ≤ length reps) (room : total * s ≤ length keys) where
  pub row_room : (x : ℕ) → x < total → x * s + s ≤ length keys
  row_room x h = omega (arith, suc-mul x s, mul-le-mul_right s h)

  taken : length (take m reps) ≡ m
  taken = length-take-le m reps long

  list_at : (c : ℕ) → c < m → get_or (row_list keys s (take m reps)) c [] ≡ row keys s (get_or reps c 0)
  list_at c h = row_list-at keys s (take m reps) c (omega (arith, taken)) ∙ ap (row keys s) (get_or-take m reps c 0 h)

  list_length : length (row_list keys s (take m reps)) ≡ m
  list_length = row_list-length keys s (take m reps) ∙ taken

  list-rising : Rising (Colex s) (row_list keys s (take m reps))
  list-rising =
      rising-by (Colex s) (row_list keys s (take m reps))
      (λ i j h l.
      let lj : j < m = omega (arith, list_length) in
      rw (list_at i (omega arith), list_at j lj) (colex-row keys s s (get_or reps i 0) (get_or reps j 0) (le_refl s) (q.rising i j h lj)))

  module _ (words : List Word) (each : (x : ℕ) → x < total → In (row keys s x) words) (all : (w : Word) → In w words → (x : ℕ) × (x < total) × (row keys s x ≡ w)) where
    words_long : Each (λ v. length v ≡ s) words
    words_long = each_of (λ v. length v ≡ s) words (λ v k. let w = all v k in ap length (sym w.2) ∙ row-length keys s w.0 (row_room w.0 w.1))

    list-from : (v : Word) → In v (row_list keys s (take m reps)) → In v (in_colex s words)
    list-from v k =
        let w = at_in v (row_list keys s (take m reps)) k in
        let h : w.0 < m = omega (arith, w.1, list_length) in
        in_colex-has s words v words_long (subst (λ (z : Word). In z words) (sym (list_at w.0 h) ∙ w.2) (each (get_or reps w.0 0) (q.below w.0 h)))

    list_all : (v : Word) → In v (in_colex s words) → In v (row_list keys s (take m reps))
    list_all v k =
        let w = all v (in_colex-from s words v k) in
        let c = get_or ids w.0 0 in
        let hc : c < m = q.id_below w.0 w.1 in
        let e : row keys s (get_or reps c 0) ≡ row keys s w.0 = same_row keys s (get_or reps c 0) w.0 (row_room (get_or reps c 0) (q.below c hc)) (row_room w.0 w.1) (q.id_same w.0 w.1) in
        subst (λ (z : Word). In z (row_list keys s (take m reps))) (list_at c hc ∙ e ∙ w.2) (in-at (row_list keys s (take m reps)) c (omega (arith, list_length)))

    pub gathered : row_list keys s (take m reps) ≡ in_colex s words
    gathered = one_list (Colex s) (colex-irr s) (colex-trans s) (row_list keys s (take m reps)) (in_colex s words) list-rising (in_colex-rising s words) list-from list_all

    pub named : total < 4294967296 → total * s < 4294967296 → Named (in_colex s words) s m keys reps
    named few fits =
        record {
          rows =
              record {
                inside = λ i h. row_room (get_or reps i 0) (q.below i h);
                long = long;
                few = omega (arith, q.few);
                fits = omega (arith, mul-le-mul_right s q.few);
              };
          same = sym gathered;
        }
