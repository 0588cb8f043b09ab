-- Up to dimension 3 it is enough that the words agree on facets; rising words agree on all faces, in any dimension. Assumes nothing.
use mathlib.Core.Path.{◌≡◌, refl, ap}
use mathlib.Core.Logic.{inl, inr}
use mathlib.Core.List.{List, [], ◌∷◌}
use Prim.Native.Nat.{ℕ, ◌*◌, ◌≤◌, ◌<◌}
use native.Mathlib.Decide.{dec_lt, ℕ_discrete}
use native.Mathlib.Omega.{arith}
use lib.ListN.{length}
use Rattle.lists.specs.Words.{same}
use Rattle.refine_lattice.specs.Complex.{Words, occurrences, common, through, Complex, Refined, Alike, Agree, AgreeOnFaces, WordsAgreeOnFacets, Rises}
use Rattle.lists.proofs.Words.{same_self, same-yes, same-no}
use Rattle.refine_lattice.proofs.After.{keep-yes, keep-no, times-common}
use Rattle.refine_lattice.proofs.Tower.{alike}

pub facets-do : (d : ℕ) (K : Words) → d ≤ 3 → WordsAgreeOnFacets d K → (k l : List ℕ) → K k → K l → Agree k l
unfolding WordsAgreeOnFacets Agree
facets-do d K h f k l p q =
    elim (dec_lt 2 (length (common k l))) [ yes m ↦ inl (f k l p q (omega arith)) | no m ↦ inr (omega arith) ]

pub faces-do : (K : Words) → AgreeOnFaces K → (k l : List ℕ) → K k → K l → Agree k l
unfolding AgreeOnFaces Agree
faces-do K f k l p q = inl (f k l p q)

-- the composition law
module _ (d a b n n' : ℕ) (K M W C : Words) (outer inner share : ℕ → ℕ → ℕ)
    (complex : Complex d n K) (below : (m : List ℕ) → M m → (v : ℕ) → 0 < occurrences m v → v < n')
    (first : Refined d a K M outer) (second : Refined d b M W inner) (single : Refined d (a * b) K C share) where
  -- up to dimension 3, where the words agree on facets
  pub by-facets : d ≤ 3 → WordsAgreeOnFacets d K → Alike d W C (through n' outer inner) share
  by-facets h f = alike d a b n n' K M W C outer inner share complex (facets-do d K h f) below first second single

  -- in any dimension, where they agree on all faces
  pub by-faces : AgreeOnFaces K → Alike d W C (through n' outer inner) share
  by-faces f = alike d a b n n' K M W C outer inner share complex (faces-do K f) below first second single

pub times-common-le : (k l : List ℕ) (v : ℕ) → occurrences (common k l) v ≤ occurrences k v
times-common-le [] l v = omega arith
times-common-le (x ∷ k) l v =
    elim (dec_lt 0 (occurrences l x)) [
      | yes m ↦ omega (arith, ap (λ (r : List ℕ). occurrences r v) (keep-yes (occurrences l x) x (common k l) m), times-common-le k l v)
      | no m ↦ omega (arith, ap (λ (r : List ℕ). occurrences r v) (keep-no (occurrences l x) x (common k l) (omega arith)), times-common-le k l v)
    ]

pub times-common-no : (k l : List ℕ) (v : ℕ) → occurrences l v ≡ 0 → occurrences (common k l) v ≡ 0
times-common-no [] l v h = refl
times-common-no (x ∷ k) l v h =
    elim (dec_lt 0 (occurrences l x)) [
      | yes m ↦
          omega (
            arith,
            ap (λ (r : List ℕ). occurrences r v) (keep-yes (occurrences l x) x (common k l) m),
            same-no v x (λ e. omega (arith, ap (occurrences l) e)),
            times-common-no k l v h,
          )
      | no m ↦ omega (arith, ap (λ (r : List ℕ). occurrences r v) (keep-no (occurrences l x) x (common k l) (omega arith)), times-common-no k l v h)
    ]

rises-common : (k l : List ℕ) → Rises k → Rises (common k l)
rises-common [] l h = tt
rises-common (x ∷ k) l h =
    elim (dec_lt 0 (occurrences l x)) [
      | yes m ↦ rw (keep-yes (occurrences l x) x (common k l) m) ((λ v p. h.0 v (omega (arith, times-common-le k l v))), rises-common k l h.1)
      | no m ↦ rw (keep-no (occurrences l x) x (common k l) (omega arith)) (rises-common k l h.1)
    ]

rises-plain : (k : List ℕ) → Rises k → (v : ℕ) → occurrences k v ≤ 1
rises-plain [] h v = omega arith
rises-plain (x ∷ k) h v =
    elim (ℕ_discrete v x) [
      | yes e ↦
          elim (dec_lt 0 (occurrences k v)) [ yes m ↦ omega (arith, h.0 v m) | no m ↦ omega (arith, same-yes v x e) ]
      | no e ↦ omega (arith, same-no v x e, rises-plain k h.1 v)
    ]

rises-under : (x y : ℕ) (k : List ℕ) → Rises (y ∷ k) → x < y → occurrences (y ∷ k) x ≡ 0
rises-under x y k h l =
    elim (dec_lt 0 (occurrences k x)) [ yes m ↦ omega (arith, h.0 x m) | no m ↦ omega (arith, same-no x y (omega arith)) ]

rises-ext : (k l : List ℕ) → Rises k → Rises l → ((v : ℕ) → occurrences k v ≡ occurrences l v) → k ≡ l
rises-ext [] [] h i e = refl
rises-ext [] (y ∷ l) h i e = absurd (omega (arith, e y, same_self y))
rises-ext (x ∷ k) [] h i e = absurd (omega (arith, e x, same_self x))
rises-ext (x ∷ k) (y ∷ l) h i e =
    let q : x ≡ y =
    elim (dec_lt x y) [
      | yes m ↦ omega (arith, e x, rises-under x y l i m, same_self x)
      | no m ↦ elim (dec_lt y x) [ yes p ↦ omega (arith, e y, rises-under y x k h p, same_self y) | no p ↦ omega arith ]
    ] in
    cc (q, rises-ext k l h.1 i.1 (λ v. omega (arith, e v, ap (same v) q)))

pub length-common : (k l : List ℕ) → length (common k l) ≤ length k
length-common [] l = omega arith
length-common (x ∷ k) l =
    elim (dec_lt 0 (occurrences l x)) [
      | yes m ↦ omega (arith, ap length (keep-yes (occurrences l x) x (common k l) m), length-common k l)
      | no m ↦ omega (arith, ap length (keep-no (occurrences l x) x (common k l) (omega arith)), length-common k l)
    ]

-- words of at most two vertices agree by themselves
pub edges-do : (d n : ℕ) (K : Words) → d ≤ 1 → Complex d n K → (k l : List ℕ) → K k → K l → Agree k l
unfolding Agree
edges-do d n K h c k l p q = inr (omega (arith, length-common k l, c.long k p))

-- rising words list what they share in one sequence
pub rising : (k l : List ℕ) → Rises k → Rises l → common k l ≡ common l k
rising k l h i =
    rises-ext (common k l) (common l k) (rises-common k l h) (rises-common l k i)
    (λ v.
    elim (dec_lt 0 (occurrences l v)) [
      | yes m ↦
          elim (dec_lt 0 (occurrences k v)) [
            | yes p ↦ omega (arith, times-common k l v m, times-common l k v p, rises-plain k h v, rises-plain l i v)
            | no p ↦ omega (arith, times-common-le k l v, times-common-no l k v (omega arith))
          ]
      | no m ↦ omega (arith, times-common-no k l v (omega arith), times-common-le l k v)
    ])
