-- Lists of k numbers written one after the other. Assumes nothing.
use mathlib.Core.List.{List, [], ◌++◌, append_assoc, append-nil}
use mathlib.Core.Path.{◌≡◌, sym, ap, ◌∙◌, subst}
use Prim.Native.Nat.{ℕ, zero, suc, ◌+◌, ◌-◌, ◌*◌, ◌/◌, ◌%◌, ◌^◌, ◌≤◌, ◌<◌}
use native.Mathlib.Nat.{suc-mul, zero-mul, add-sub_cancel_left}
use native.Mathlib.Numerals.{add-one}
use native.Mathlib.Omega.{arith}
use lib.ListN.{length, get_or, take, drop, length-append, length-drop, drop_of_length-le}
use lib.Seq.{take_at, drop_at, drop-drop}
use Rattle.lists.proofs.Rows.{part-row}
use Rattle.lists.specs.Rows.{row}
use Rattle.sorting.specs.Order.{Table}
use Rattle.multiindex.specs.Sort.{sort_words}
use Rattle.complex_cells.proofs.Making.{key-table}
use Rattle.refine_jacobian.specs.WorkWeights.{Seated}
use Rattle.refine_children.specs.WorkFamily.{joined, Family}

module _ {A : Type 0} where
  pub joined_length : (k m : ℕ) (f : ℕ → List A) → ((i : ℕ) → i < m → length (f i) ≡ k) → length (joined m f) ≡ m * k
  joined_length k zero f h = sym (zero-mul k)
  joined_length k (suc m) f h =
      length-append (joined m f) (f m) ∙ omega (arith, suc-mul m k, joined_length k m f (λ i l. h i (omega arith)), h m (omega arith))

  module _ (k : ℕ) (f : ℕ → List A) (long : (i : ℕ) → length (f i) ≡ k) (before : List A) where
    -- one more list has come back in its part
    pub joined-more : (i : ℕ) (to ys : List A) → to ≡ joined i f ++ drop (i * k) before → ys ≡ f i
        → take (i * k) to ++ (ys ++ drop (i * k + k - i * k) (drop (i * k) to)) ≡ joined (i + 1) f ++ drop ((i + 1) * k) before
    joined-more i to ys e q =
        let l : length (joined i f) ≡ i * k = joined_length k i f (λ j h. long j) in
        let n : i * k + k ≡ suc i * k = omega (arith, suc-mul i k) in
        let t : take (i * k) to ≡ joined i f = ap (take (i * k)) e ∙ take_at (joined i f) (drop (i * k) before) (i * k) l in
        let d : drop (i * k) to ≡ drop (i * k) before = ap (drop (i * k)) e ∙ drop_at (joined i f) (drop (i * k) before) (i * k) l in
        let r : drop (i * k + k - i * k) (drop (i * k) to) ≡ drop (suc i * k) before =
        ap (λ (x : ℕ). drop x (drop (i * k) to)) (add-sub_cancel_left (i * k) k) ∙ ap (drop k) d ∙ drop-drop k (i * k) before ∙ ap (λ (x : ℕ). drop x before) n in
        ap (λ (x : List A). x ++ (ys ++ drop (i * k + k - i * k) (drop (i * k) to))) t
        ∙ ap (λ (x : List A). joined i f ++ (x ++ drop (i * k + k - i * k) (drop (i * k) to))) q
        ∙ ap (λ (x : List A). joined i f ++ (f i ++ x)) r
        ∙ sym (append_assoc (joined i f) (f i) (drop (suc i * k) before))
        ∙ ap (λ (x : ℕ). joined x f ++ drop (x * k) before) (sym (add-one i))

    pub joined-kept : (i : ℕ) (to : List A) → to ≡ joined i f ++ drop (i * k) before → i * k ≤ length before → length to ≡ length before
    joined-kept i to e h =
        ap length e ∙ length-append (joined i f) (drop (i * k) before) ∙ omega (arith, length-drop (i * k) before, joined_length k i f (λ j l. long j))

    -- all of them
    pub joined-full : (m i : ℕ) (to : List A) → to ≡ joined i f ++ drop (i * k) before → i ≡ m → length before ≡ m * k → to ≡ joined m f
    joined-full m i to e q h =
        e ∙ ap (λ (x : ℕ). joined x f ++ drop (x * k) before) q ∙ ap (λ (x : List A). joined m f ++ x) (drop_of_length-le before {i = m * k} (omega arith)) ∙ append-nil (joined m f)

-- ---- the parts that a child's lists are
-- row r of k numbers, as it is lent
abbrev pub lent : ℕ → ℕ → List ℕ → List ℕ
lent k r l = take (r * k + k - r * k) (drop (r * k) l)

lent_row : (k k' r : ℕ) (l : List ℕ) → k ≡ k' → lent k r l ≡ row l k' r
lent_row k k' r l e = part-row l k r ∙ ap (λ (n : ℕ). row l n r) e

module _ {ℓ} {A : Type ℓ} (d size x : ℕ) (pattern words sorted along cells : List ℕ) (F : List ℕ → List ℕ → List ℕ → List ℕ → List ℕ → A) where
  pub at-parts : F (lent ((d + 1) * (d + 1)) (x % size) pattern) (lent (d + 1) x words) (lent (d + 1) (x / size) along) (lent (d + 1) (x / size) cells) (lent (d + 1) x sorted)
      ≡ F (row pattern (suc d * suc d) (x % size)) (row words (suc d) x) (row along (suc d) (x / size)) (row cells (suc d) (x / size)) (row sorted (suc d) x)
  at-parts =
      let e : d + 1 ≡ suc d = add-one d in
      let q : (d + 1) * (d + 1) ≡ suc d * suc d = ap (λ (n : ℕ). n * n) e in
      let a = lent_row ((d + 1) * (d + 1)) (suc d * suc d) (x % size) pattern q in
      let b = lent_row (d + 1) (suc d) x words e in
      let c = lent_row (d + 1) (suc d) (x / size) along e in
      let h = lent_row (d + 1) (suc d) (x / size) cells e in
      let s = lent_row (d + 1) (suc d) x sorted e in
      ap (λ (l : List ℕ). F l (lent (d + 1) x words) (lent (d + 1) (x / size) along) (lent (d + 1) (x / size) cells) (lent (d + 1) x sorted)) a
      ∙ ap (λ (l : List ℕ). F (row pattern (suc d * suc d) (x % size)) l (lent (d + 1) (x / size) along) (lent (d + 1) (x / size) cells) (lent (d + 1) x sorted)) b
      ∙ ap (λ (l : List ℕ). F (row pattern (suc d * suc d) (x % size)) (row words (suc d) x) l (lent (d + 1) (x / size) cells) (lent (d + 1) x sorted)) c
      ∙ ap (λ (l : List ℕ). F (row pattern (suc d * suc d) (x % size)) (row words (suc d) x) (row along (suc d) (x / size)) l (lent (d + 1) x sorted)) h
      ∙ ap (λ (l : List ℕ). F (row pattern (suc d * suc d) (x % size)) (row words (suc d) x) (row along (suc d) (x / size)) (row cells (suc d) (x / size)) l) s

module _ (d size x : ℕ) (pattern words sorted along cells : List ℕ) where
  pub parts-seated : Family d size pattern words sorted along cells x
      → Seated d (lent ((d + 1) * (d + 1)) (x % size) pattern) (lent (d + 1) x words) (lent (d + 1) (x / size) along) (lent (d + 1) (x / size) cells) (lent (d + 1) x sorted)
  parts-seated f = subst (λ (T : Type 0). T) (sym (at-parts d size x pattern words sorted along cells (λ p w k c s. Seated d p w k c s))) f.seated

-- ---- the words sorted are a table of rows below b
pub sorted-table : (n count b : ℕ) (words : List ℕ) → 0 < n → count * n ≡ length words → ((i : ℕ) → i < length words → get_or words i 0 < b) → count < 2 ^ 32 → Table (sort_words n count words) n count b
sorted-table n count b words some whole low few =
    subst (λ (l : List ℕ). Table (sort_words n count l) n count b) (append-nil words) (key-table n count words [] whole some b low few)
