-- The numbers that pass a test, counted among those that stay. Assumes nothing.
use mathlib.Core.Bool.{Bool, true, false, cond, not}
use mathlib.Core.List.{List, [], ◌∷◌, ◌++◌, map, append-nil}
use mathlib.Core.Path.{◌≡◌, refl, sym, ap, ◌∙◌}
use Prim.Native.Nat.{ℕ, zero, suc, ◌+◌, ◌<◌}
use native.Mathlib.Omega.{arith}
use lib.ListN.{length, get_or, length-append, get_or-append}
use Rattle.lists.specs.Tables.{tab}
use Rattle.lists.specs.Words.{among}
use Rattle.complex.specs.Skeleton.{numbers, only_if}
use Rattle.complex_dropped.proofs.Counting.{numbers-yes, numbers-no, numbers-same}
use Rattle.complex_incidence_laws.specs.After.{new_cell, without_gone}

-- ---- lists of lists
pub tab-map : (f g : ℕ → List ℕ) (xs : List ℕ) → ((i : ℕ) → i < length xs → f i ≡ g (get_or xs i 0)) → tab (length xs) f ≡ map g xs
tab-map f g [] h = refl
tab-map f g (x ∷ xs) h =
    ap (λ (l : List (List ℕ)). f 0 ∷ l) (tab-map (λ i. f (suc i)) g xs (λ i l. h (suc i) (omega arith)))
    ∙ ap (λ (w : List ℕ). w ∷ map g xs) (h 0 (omega arith))

-- ---- one number more
last-at : (l : List ℕ) (n : ℕ) → get_or (l ++ (n ∷ [])) (length l) 0 ≡ n
last-at [] n = refl
last-at (x ∷ l) n = last-at l n

module _ (p : ℕ → Bool) (l : List ℕ) (n : ℕ) where
  abbrev longer : ℕ → Bool
  longer c = p (get_or (l ++ (n ∷ [])) c 0)

  front : numbers longer (length l) ≡ numbers (λ c. p (get_or l c 0)) (length l)
  front = numbers-same longer (λ c. p (get_or l c 0)) (length l) (λ c h. ap p (get_or-append l (n ∷ []) 0 c h))

  one_more : length (l ++ (n ∷ [])) ≡ suc (length l)
  one_more = length-append l (n ∷ []) ∙ omega arith

  snoc : (t : Bool) → p n ≡ t → numbers (λ c. p (get_or (l ++ (n ∷ [])) c 0)) (length (l ++ (n ∷ []))) ≡ numbers (λ c. p (get_or l c 0)) (length l) ++ only_if t (length l)
  snoc true e = ap (numbers longer) one_more ∙ numbers-yes longer (length l) (ap p (last-at l n) ∙ e) ∙ ap (λ (m : List ℕ). m ++ (length l ∷ [])) front
  snoc false e = ap (numbers longer) one_more ∙ numbers-no longer (length l) (ap p (last-at l n) ∙ e) ∙ front ∙ sym (append-nil (numbers (λ c. p (get_or l c 0)) (length l)))

-- ---- among those that stay
module _ (gone : List ℕ) where
  abbrev stays : ℕ → Bool
  stays c = not (among c gone)

  without-append : (xs ys : List ℕ) → without_gone gone (xs ++ ys) ≡ without_gone gone xs ++ without_gone gone ys
  unfolding without_gone
  without-append [] ys = refl
  without-append (x ∷ xs) ys = go (among x gone) (without-append xs ys)
    where
      go : (b : Bool) → without_gone gone (xs ++ ys) ≡ without_gone gone xs ++ without_gone gone ys → cond b (without_gone gone (xs ++ ys)) (new_cell gone x ∷ without_gone gone (xs ++ ys)) ≡ cond b (without_gone gone xs) (new_cell gone x ∷ without_gone gone xs) ++ without_gone gone ys
      go true e = e
      go false e = ap (λ (l : List ℕ). new_cell gone x ∷ l) e

  without_more : (p : ℕ → Bool) (n : ℕ) (t : Bool) → p n ≡ t → without_gone gone (numbers p (suc n)) ≡ without_gone gone (numbers p n) ++ without_gone gone (only_if t n)
  unfolding without_gone
  without_more p n true e = ap (without_gone gone) (numbers-yes p n e) ∙ without-append (numbers p n) (n ∷ [])
  without_more p n false e = ap (without_gone gone) (numbers-no p n e) ∙ sym (append-nil (without_gone gone (numbers p n)))

  gone-tail : (n : ℕ) (t : Bool) → among n gone ≡ true → without_gone gone (only_if t n) ≡ []
  unfolding without_gone
  gone-tail n true e = ap (λ (b : Bool). cond b [] (new_cell gone n ∷ [])) e
  gone-tail n false e = refl

  stay-tail : (n : ℕ) (t : Bool) → among n gone ≡ false → without_gone gone (only_if t n) ≡ only_if t (length (numbers stays n))
  unfolding without_gone
  stay-tail n true e = ap (λ (b : Bool). cond b [] (new_cell gone n ∷ [])) e
  stay-tail n false e = refl

  abbrev passing : (ℕ → Bool) → List ℕ → List ℕ
  passing p l = numbers (λ c. p (get_or l c 0)) (length l)

  step : (p : ℕ → Bool) (n : ℕ) (a : Bool) → among n gone ≡ a → passing p (numbers stays n) ≡ without_gone gone (numbers p n) → passing p (numbers stays (suc n)) ≡ without_gone gone (numbers p (suc n))
  step p n true e r =
      ap (passing p) (numbers-no stays n (ap not e))
      ∙ r
      ∙ sym (append-nil (without_gone gone (numbers p n)))
      ∙ ap (λ (l : List ℕ). without_gone gone (numbers p n) ++ l) (sym (gone-tail n (p n) e))
      ∙ sym (without_more p n (p n) refl)
  step p n false e r =
      ap (passing p) (numbers-yes stays n (ap not e))
      ∙ snoc p (numbers stays n) n (p n) refl
      ∙ ap (λ (l : List ℕ). l ++ only_if (p n) (length (numbers stays n))) r
      ∙ ap (λ (l : List ℕ). without_gone gone (numbers p n) ++ l) (sym (stay-tail n (p n) e))
      ∙ sym (without_more p n (p n) refl)

  pub through : (p : ℕ → Bool) (n : ℕ) → numbers (λ c. p (get_or (numbers (λ b. not (among b gone)) n) c 0)) (length (numbers (λ b. not (among b gone)) n)) ≡ without_gone gone (numbers p n)
  unfolding numbers without_gone
  through p zero = refl
  through p (suc n) = step p n (among n gone) refl (through p n)
