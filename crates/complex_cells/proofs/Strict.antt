-- A word with no number twice, sorted, rises; its numbers are the word's. Assumes nothing.
use mathlib.Core.Bool.{Bool, true, false}
use mathlib.Core.List.{List, [], ◌∷◌}
use mathlib.Core.Path.{◌≡◌, refl}
use Prim.Native.Nat.{ℕ, ◌<◌}
use native.Mathlib.Omega.{arith}
use lib.Dec.{ltb, eqb}
use borrow.Author.Tests.{ltb-true, ltb-false, eqb-false}
use Rattle.lists.proofs.Members.{All, Pairs, All-map}
use Rattle.lists.specs.Words.{among, has_repeat}
use Rattle.lists.proofs.Words.{or-false}
use Rattle.multiindex.specs.Sort.{insert_by, insert, sort_word}

false-true : ◌≡◌ false true → ⊥
false-true e = let z : ◌≡◌ {A = ℕ} 0 1 = cc in omega arith

-- ---- what insertion and sorting keep
module _ (P : ℕ → Type 0) where
  insert_all : (x : ℕ) (ys : List ℕ) → P x → All P ys → All P (insert x ys)
  unfolding insert insert_by
  insert_all x [] p a = (p, tt)
  insert_all x (y ∷ ys) p a = go (ltb y x) (insert_all x ys p a.1)
    where
      go : (t : Bool) → All P (insert x ys) → All P (insert_by t x y ys (insert x ys))
      go true r = (a.0, r)
      go false r = (p, a)

  pub sort-all : (w : List ℕ) → All P w → All P (sort_word w)
  unfolding sort_word
  sort-all [] a = tt
  sort-all (x ∷ w) a = insert_all x (sort_word w) a.0 (sort-all w a.1)

-- v is not in the list
abbrev Absent : ℕ → List ℕ → Type 0
Absent v ws = All (λ x. x ≡ v → ⊥) ws

absent : (v : ℕ) (ws : List ℕ) → among v ws ≡ false → Absent v ws
unfolding among
absent v [] e = tt
absent v (x ∷ xs) e =
    let r = or-false (eqb x v) (among v xs) e in
    (eqb-false x v r.0, absent v xs r.1)

insert-strict : (x : ℕ) (ys : List ℕ) → Absent x ys → Pairs (λ a b. a < b) ys → Pairs (λ a b. a < b) (insert x ys)
unfolding insert insert_by
insert-strict x [] a s = (tt, tt)
insert-strict x (y ∷ ys) a s = go (ltb y x) refl (insert-strict x ys a.1 s.1)
  where
    go : (t : Bool) → ltb y x ≡ t → Pairs (λ a b. a < b) (insert x ys) → Pairs (λ a b. a < b) (insert_by t x y ys (insert x ys))
    go true e r = (insert_all (λ b. y < b) x ys (ltb-true y x e) s.0, r)
    go false e r =
        let n : y ≡ x → ⊥ = a.0 in
        let l : x < y = omega (arith, ltb-false y x e) in
        ((l, All-map (λ b. y < b) (λ b. x < b) (λ b h. omega arith) ys s.0), s)

pub sort-strict : (w : List ℕ) → has_repeat w ≡ false → Pairs (λ a b. a < b) (sort_word w)
unfolding has_repeat sort_word
sort-strict [] e = tt
sort-strict (x ∷ w) e =
    let r = or-false (among x w) (has_repeat w) e in
    insert-strict x (sort_word w) (sort-all (λ y. y ≡ x → ⊥) w (absent x w r.0)) (sort-strict w r.1)
