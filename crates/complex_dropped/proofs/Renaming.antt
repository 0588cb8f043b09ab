-- A renaming that rises on the numbers in use: it keeps the order of words, their sort and their facets. Assumes nothing.
use mathlib.Core.Bool.{Bool, true, false}
use mathlib.Core.List.{List, [], ◌∷◌, ◌++◌, map, map-append}
use mathlib.Core.Path.{◌≡◌, refl, sym, ap, ◌∙◌}
use mathlib.Core.Logic.{inl, inr, ⊎_elim}
use Prim.Native.Nat.{ℕ, zero, suc, ◌<◌, ◌≤◌}
use native.Mathlib.Nat.{eq-or-lt_of_le, le_refl}
use native.Mathlib.Decide.{ℕ_discrete, dec_lt}
use native.Mathlib.Omega.{arith}
use lib.Dec.{ltb, eqb}
use lib.ListN.{length, get_or, take, drop}
use borrow.Author.Tests.{lt-ltb, le-ltb, eq-eqb, ne_eqb}
use Rattle.lists.specs.Words.{among, has_repeat}
use Rattle.lists.specs.Rows.{flat}
use Rattle.lists.proofs.Laws.{map_at}
use Rattle.lists.proofs.Members.{All, All-at}
use Rattle.multiindex.specs.Sort.{insert_by, insert, sort_word}
use Rattle.complex.specs.Facets.{facet_at}
use Rattle.complex_cells.proofs.Words.{Word}
use Rattle.complex_cells.proofs.Order.{Colex}
use Rattle.complex_cells.proofs.Strict.{sort-all}

-- ---- any renaming
module _ (f : ℕ → ℕ) where
  map-take : (i : ℕ) (w : List ℕ) → take i (map f w) ≡ map f (take i w)
  map-take zero w = refl
  map-take (suc i) [] = refl
  map-take (suc i) (x ∷ w) = ap (λ (l : List ℕ). f x ∷ l) (map-take i w)

  map-drop : (i : ℕ) (w : List ℕ) → drop i (map f w) ≡ map f (drop i w)
  map-drop zero w = refl
  map-drop (suc i) [] = refl
  map-drop (suc i) (x ∷ w) = map-drop i w

  pub facet-map : (w : List ℕ) (i : ℕ) → facet_at (map f w) i ≡ map f (facet_at w i)
  facet-map w i = let a = map-take i w in let b = map-drop (suc i) w in rw (a, b) (sym (map-append f (take i w) (drop (suc i) w)))

  pub flat_map : (ws : List (List ℕ)) → flat (map (map f) ws) ≡ map f (flat ws)
  flat_map [] = refl
  flat_map (w ∷ ws) = ap (λ (l : List ℕ). map f w ++ l) (flat_map ws) ∙ sym (map-append f w (flat ws))

-- ---- a renaming that rises where it is used
module _ (used : ℕ → Type 0) (f : ℕ → ℕ) (up : (u v : ℕ) → used u → u < v → f u < f v) where
  up_le : (u v : ℕ) → used u → u ≤ v → f u ≤ f v
  up_le u v h l = ⊎_elim (λ (e : u ≡ v). rw e (le_refl (f v))) (λ (q : u < v). omega (arith, up u v h q)) (eq-or-lt_of_le l)

  pub one_number : (u v : ℕ) → used u → used v → f u ≡ f v → u ≡ v
  one_number u v hu hv e =
      elim (dec_lt u v) [
        | yes l ↦ absurd (omega (arith, up u v hu l))
        | no l ↦ elim (dec_lt v u) [ yes k ↦ absurd (omega (arith, up v u hv k)) | no k ↦ omega arith ]
      ]

  pub one_word : (v w : List ℕ) → All used v → All used w → map f v ≡ map f w → v ≡ w
  one_word [] [] a b e = refl
  one_word [] (y ∷ w) a b e = let z : ◌≡◌ {A = ℕ} 0 1 = absurd (omega (arith, ap length e)) in absurd (omega arith)
  one_word (x ∷ v) [] a b e = let z : ◌≡◌ {A = ℕ} 0 1 = absurd (omega (arith, ap length e)) in absurd (omega arith)
  one_word (x ∷ v) (y ∷ w) a b e =
      let h : f x ≡ f y = cc in
      let t : map f v ≡ map f w = cc in
      let p : x ≡ y = one_number x y a.0 b.0 h in
      let q : v ≡ w = one_word v w a.1 b.1 t in
      cc

  ltb-map : (y x : ℕ) → used y → used x → ltb (f y) (f x) ≡ ltb y x
  ltb-map y x hy hx =
      elim (dec_lt y x) [
        | yes l ↦ lt-ltb (f y) (f x) (up y x hy l) ∙ sym (lt-ltb y x l)
        | no l ↦ le-ltb (f y) (f x) (up_le x y hx (omega arith)) ∙ sym (le-ltb y x (omega arith))
      ]

  insert-map : (x : ℕ) (ys : List ℕ) → used x → All used ys → insert (f x) (map f ys) ≡ map f (insert x ys)
  unfolding insert insert_by
  insert-map x [] h a = refl
  insert-map x (y ∷ ys) h a = rw (ltb-map y x a.0 h) (go (ltb y x) (insert-map x ys h a.1))
    where
      go : (t : Bool) → insert (f x) (map f ys) ≡ map f (insert x ys) → insert_by t (f x) (f y) (map f ys) (insert (f x) (map f ys)) ≡ map f (insert_by t x y ys (insert x ys))
      go true r = ap (λ (l : List ℕ). f y ∷ l) r
      go false r = refl

  pub sort-map : (w : List ℕ) → All used w → sort_word (map f w) ≡ map f (sort_word w)
  unfolding sort_word
  sort-map [] a = refl
  sort-map (x ∷ w) a = ap (insert (f x)) (sort-map w a.1) ∙ insert-map x (sort_word w) a.0 (sort-all used w a.1)

  pub colex-map : (n : ℕ) (v w : Word) → n ≤ length v → n ≤ length w → All used v → Colex n v w → Colex n (map f v) (map f w)
  colex-map zero v w hv hw a p = p
  colex-map (suc n) v w hv hw a (inl l) =
      inl (rw (map_at f v n 0 0 hv, map_at f w n 0 0 hw) (up (get_or v n 0) (get_or w n 0) (All-at used v n a hv) l))
  colex-map (suc n) v w hv hw a (inr e) =
      inr (map_at f v n 0 0 hv ∙ ap f e.0 ∙ sym (map_at f w n 0 0 hw), colex-map n v w (omega arith) (omega arith) a e.1)

  -- a word with no number twice has none twice after the renaming
  pub among-map : (x : ℕ) (w : List ℕ) → used x → All used w → among (f x) (map f w) ≡ among x w
  unfolding among
  among-map x [] h a = refl
  among-map x (y ∷ w) h a = let r = among-map x w h a.1 in let q = same in rw (q, r)
    where
      same : eqb (f y) (f x) ≡ eqb y x
      same = elim (ℕ_discrete y x) [
        | yes e ↦ eq-eqb (f y) (f x) (ap f e) ∙ sym (eq-eqb y x e)
        | no n ↦ ne_eqb (f y) (f x) (λ e. n (one_number y x a.0 h e)) ∙ sym (ne_eqb y x n)
      ]

  pub repeat-map : (w : List ℕ) → All used w → has_repeat (map f w) ≡ has_repeat w
  unfolding has_repeat
  repeat-map [] a = refl
  repeat-map (x ∷ w) a = let r = repeat-map w a.1 in let q = among-map x w a.0 a.1 in rw (q, r)
