-- A face without one of its positions is a face: it is the sub-word at the places without one. Assumes nothing.
use mathlib.Core.List.{List, [], ◌∷◌, ◌++◌}
use mathlib.Core.Path.{◌≡◌, refl, sym, ap, ◌∙◌, subst}
use mathlib.Core.Logic.{◌⊎◌, inl, inr, ⊎_elim}
use mathlib.Core.Bool.{Bool, true, false}
use Prim.Native.Nat.{ℕ, zero, suc, ◌+◌, ◌<◌}
use native.Mathlib.Nat.{eq-or-lt_of_le}
use native.Mathlib.Omega.{arith}
use lib.ListN.{length, get_or, length-append}
use Rattle.lists.proofs.Words.{same_word_lem, word-true}
use Rattle.lists.specs.Words.{found_at, first_where, same_word}
use Rattle.complex.specs.Facets.{facet_at}
use Rattle.complex_cells.proofs.Words.{Word, Each, In, each_of, each_in, at_in}
use Rattle.complex_cells.proofs.Named.{in_colex-from, in_colex-has}
use Rattle.complex_faces.specs.Faces.{each_then, places_of, sub_word, sub_words, chosen, all_chosen, faces_of}
use Rattle.complex_faces.specs.Entries.{number_of}

-- ---- members of two lists
pub in_left : (r : Word) (xs ys : List Word) → In r xs → In r (xs ++ ys)
in_left r [] ys m = absurd m
in_left r (x ∷ xs) ys (inl e) = inl e
in_left r (x ∷ xs) ys (inr m) = inr (in_left r xs ys m)

pub in_right : (r : Word) (xs ys : List Word) → In r ys → In r (xs ++ ys)
in_right r [] ys m = m
in_right r (x ∷ xs) ys m = inr (in_right r xs ys m)

pub in_either : (r : Word) (xs ys : List Word) → In r (xs ++ ys) → In r xs ⊎ In r ys
in_either r [] ys m = inr m
in_either r (x ∷ xs) ys (inl e) = inl (inl e)
in_either r (x ∷ xs) ys (inr m) = ⊎_elim (λ k. inl (inr k)) (λ k. inr k) (in_either r xs ys m)

-- ---- places
pub then-in : (v : ℕ) (p : Word) (ps : List Word) → In p ps → In (p ++ (v ∷ [])) (each_then v ps)
unfolding each_then
then-in v p [] m = absurd m
then-in v p (q ∷ ps) (inl e) = inl (ap (λ (z : Word). z ++ (v ∷ [])) e)
then-in v p (q ∷ ps) (inr m) = inr (then-in v p ps m)

pub in_then : (v : ℕ) (q : Word) (ps : List Word) → In q (each_then v ps) → (p : Word) × In p ps × (q ≡ p ++ (v ∷ []))
unfolding each_then
in_then v q [] m = absurd m
in_then v q (p ∷ ps) (inl e) = (p, inl refl, sym e)
in_then v q (p ∷ ps) (inr m) = let r = in_then v q ps m in (r.0, inr r.1, r.2)

-- places have their number, and are positions
pub places-long : (n s : ℕ) (p : Word) → In p (places_of n s) → length p ≡ s
unfolding places_of
places-long zero zero p (inl e) = ap length (sym e)
places-long zero zero p (inr m) = absurd m
places-long zero (suc s) p m = absurd m
places-long (suc n) zero p (inl e) = ap length (sym e)
places-long (suc n) zero p (inr m) = absurd m
places-long (suc n) (suc s) p m =
    ⊎_elim (λ (k : In p (places_of n (suc s))). places-long n (suc s) p k)
    (λ (k : In p (each_then n (places_of n s))).
    let r = in_then n p (places_of n s) k in ap length r.2 ∙ length-append r.0 (n ∷ []) ∙ omega (arith, places-long n s r.0 r.1)) (in_either p (places_of n (suc s)) (each_then n (places_of n s)) m)

-- places among the first n are places among one more
pub places-more : (n s : ℕ) (p : Word) → In p (places_of n s) → In p (places_of (suc n) s)
unfolding places_of
places-more zero zero p m = m
places-more (suc n) zero p m = m
places-more n (suc s) p m = in_left p (places_of n (suc s)) (each_then n (places_of n s)) m

pub facet-last : (p : Word) (v : ℕ) → facet_at (p ++ (v ∷ [])) (length p) ≡ p
facet-last [] v = refl
facet-last (x ∷ p) v = ap (λ (z : Word). x ∷ z) (facet-last p v)

pub facet-then : (p : Word) (v i : ℕ) → i < length p → facet_at (p ++ (v ∷ [])) i ≡ facet_at p i ++ (v ∷ [])
facet-then [] v i h = absurd (omega arith)
facet-then (x ∷ p) v zero h = refl
facet-then (x ∷ p) v (suc i) h = ap (λ (z : Word). x ∷ z) (facet-then p v i (omega arith))

-- the last place dropped
last-dropped : (n s : ℕ) (q : Word) (i : ℕ) → In q (places_of n s) → i ≡ length q → In (facet_at (q ++ (n ∷ [])) i) (places_of (suc n) s)
last-dropped n s q i m e = subst (λ (z : Word). In z (places_of (suc n) s)) (sym (ap (facet_at (q ++ (n ∷ []))) e ∙ facet-last q n)) (places-more n s q m)

-- an earlier place dropped
early-dropped : (n s : ℕ) (q : Word) (i : ℕ) → i < length q → In (facet_at q i) (places_of n s) → In (facet_at (q ++ (n ∷ [])) i) (places_of (suc n) (suc s))
unfolding places_of
early-dropped n s q i h m =
    subst (λ (z : Word). In z (places_of n (suc s) ++ each_then n (places_of n s))) (sym (facet-then q n i h))
    (in_right (facet_at q i ++ (n ∷ [])) (places_of n (suc s)) (each_then n (places_of n s)) (then-in n (facet_at q i) (places_of n s) m))

-- places without one of them are places
pub places-facet : (n s : ℕ) (p : Word) (i : ℕ) → In p (places_of n (suc s)) → i < suc s → In (facet_at p i) (places_of n s)
unfolding places_of
places-facet zero s p i m h = absurd m
places-facet (suc n) zero p i m h =
    ⊎_elim (λ (k : In p (places_of n 1)). places-more n zero (facet_at p i) (places-facet n zero p i k h))
    (λ (k : In p (each_then n (places_of n 0))).
    let r = in_then n p (places_of n 0) k in
    let l = places-long n 0 r.0 r.1 in
    subst (λ (z : Word). In (facet_at z i) (places_of (suc n) zero)) (sym r.2) (last-dropped n 0 r.0 i r.1 (omega arith)))
    (in_either p (places_of n 1) (each_then n (places_of n 0)) m)
places-facet (suc n) (suc s) p i m h =
    ⊎_elim (λ (k : In p (places_of n (suc (suc s)))). places-more n (suc s) (facet_at p i) (places-facet n (suc s) p i k h))
    (λ (k : In p (each_then n (places_of n (suc s)))).
    let r = in_then n p (places_of n (suc s)) k in
    let l = places-long n (suc s) r.0 r.1 in
    subst (λ (z : Word). In (facet_at z i) (places_of (suc n) (suc s))) (sym r.2)
    (⊎_elim (λ (e : i ≡ suc s). last-dropped n (suc s) r.0 i r.1 (omega arith))
    (λ (j : i < suc s). early-dropped n s r.0 i (omega arith) (places-facet n s r.0 i r.1 j)) (eq-or-lt_of_le (omega arith))))
    (in_either p (places_of n (suc (suc s))) (each_then n (places_of n (suc s))) m)

-- ---- sub-words
pub sub-length : (w p : Word) → length (sub_word w p) ≡ length p
unfolding sub_word
sub-length w [] = refl
sub-length w (x ∷ p) = ap suc (sub-length w p)

pub sub-facet : (w p : Word) (i : ℕ) → i < length p → sub_word w (facet_at p i) ≡ facet_at (sub_word w p) i
unfolding sub_word
sub-facet w [] i h = absurd (omega arith)
sub-facet w (x ∷ p) zero h = refl
sub-facet w (x ∷ p) (suc i) h = ap (λ (z : Word). get_or w x 0 ∷ z) (sub-facet w p i (omega arith))

pub subs-in : (w p : Word) (ps : List Word) → In p ps → In (sub_word w p) (sub_words w ps)
unfolding sub_words
subs-in w p [] m = absurd m
subs-in w p (q ∷ ps) (inl e) = inl (ap (sub_word w) e)
subs-in w p (q ∷ ps) (inr m) = inr (subs-in w p ps m)

pub in-subs : (w u : Word) (ps : List Word) → In u (sub_words w ps) → (p : Word) × In p ps × (u ≡ sub_word w p)
unfolding sub_words
in-subs w u [] m = absurd m
in-subs w u (q ∷ ps) (inl e) = (q, inl refl, sym e)
in-subs w u (q ∷ ps) (inr m) = let r = in-subs w u ps m in (r.0, inr r.1, r.2)

pub chosen-long : (s : ℕ) (w u : Word) → In u (chosen s w) → length u ≡ s
chosen-long s w u m =
    let r = in-subs w u (places_of (length w) s) m in ap length r.2 ∙ sub-length w r.0 ∙ places-long (length w) s r.0 r.1

chosen-facet : (s : ℕ) (w u : Word) (i : ℕ) → In u (chosen (suc s) w) → i < suc s → In (facet_at u i) (chosen s w)
chosen-facet s w u i m h =
    let r = in-subs w u (places_of (length w) (suc s)) m in
    let l : i < length r.0 = omega (arith, places-long (length w) (suc s) r.0 r.1) in
    subst (λ (z : Word). In z (chosen s w)) (sub-facet w r.0 i l ∙ ap (λ (z : Word). facet_at z i) (sym r.2))
    (subs-in w (facet_at r.0 i) (places_of (length w) s) (places-facet (length w) s r.0 i r.1 h))

pub all_in : (s : ℕ) (cs : List Word) (w u : Word) → In w cs → In u (chosen s w) → In u (all_chosen s cs)
unfolding all_chosen
all_in s [] w u m k = absurd m
all_in s (c ∷ cs) w u (inl e) k = in_left u (chosen s c) (all_chosen s cs) (subst (λ (z : Word). In u (chosen s z)) (sym e) k)
all_in s (c ∷ cs) w u (inr m) k = in_right u (chosen s c) (all_chosen s cs) (all_in s cs w u m k)

pub in_all : (s : ℕ) (cs : List Word) (u : Word) → In u (all_chosen s cs) → (w : Word) × In w cs × In u (chosen s w)
unfolding all_chosen
in_all s [] u m = absurd m
in_all s (c ∷ cs) u m =
    ⊎_elim (λ (k : In u (chosen s c)). (c, inl refl, k)) (λ (k : In u (all_chosen s cs)). let r = in_all s cs u k in (r.0, inr r.1, r.2)) (in_either u (chosen s c) (all_chosen s cs) m)

pub all-long : (s : ℕ) (cs : List Word) → Each (λ v. length v ≡ s) (all_chosen s cs)
all-long s cs = each_of (λ v. length v ≡ s) (all_chosen s cs) (λ u m. let r = in_all s cs u m in chosen-long s r.0 u r.2)

-- ---- faces
pub face-long : (cs : List Word) (k : ℕ) (u : Word) → In u (faces_of cs k) → length u ≡ suc k
face-long cs k u m = each_in (λ v. length v ≡ suc k) u (all_chosen (suc k) cs) (all-long (suc k) cs) (in_colex-from (suc k) (all_chosen (suc k) cs) u m)

pub face-facet : (cs : List Word) (k : ℕ) (u : Word) (i : ℕ) → In u (faces_of cs (suc k)) → i < length u → In (facet_at u i) (faces_of cs k)
face-facet cs k u i m h =
    let l : i < suc (suc k) = omega (arith, face-long cs (suc k) u m) in
    let r = in_all (suc (suc k)) cs u (in_colex-from (suc (suc k)) (all_chosen (suc (suc k)) cs) u m) in
    in_colex-has (suc k) (all_chosen (suc k) cs) (facet_at u i) (all-long (suc k) cs) (all_in (suc k) cs r.0 (facet_at u i) r.1 (chosen-facet (suc k) r.0 u i r.2 l))

-- ---- the number of a word that is there
first_found : (p : ℕ → Bool) (m k : ℕ) → k < m → p k ≡ true → (first_where p m < m) × (p (first_where p m) ≡ true)
unfolding first_where found_at
first_found p zero k h e = absurd (omega arith)
first_found p (suc m) zero h e = found (p zero) e
  where
    found : (t : Bool) → t ≡ true → (found_at t (first_where (λ j. p (suc j)) m) < suc m) × (p (found_at t (first_where (λ j. p (suc j)) m)) ≡ true)
    found true z = (omega arith, e)
    found false z = let y : ◌≡◌ {A = ℕ} 0 1 = cc in absurd (omega arith)
first_found p (suc m) (suc k) h e = found (p zero) refl (first_found (λ j. p (suc j)) m k (omega arith) e)
  where
    found : (t : Bool) → p zero ≡ t → (first_where (λ j. p (suc j)) m < m) × (p (suc (first_where (λ j. p (suc j)) m)) ≡ true) → (found_at t (first_where (λ j. p (suc j)) m) < suc m) × (p (found_at t (first_where (λ j. p (suc j)) m)) ≡ true)
    found true z r = (omega arith, z)
    found false z r = (omega (arith, r.0), r.1)

pub number-found : (ws : List Word) (u : Word) → In u ws → (number_of ws u < length ws) × (get_or ws (number_of ws u) [] ≡ u)
number-found ws u m =
    let r = at_in u ws m in
    let f = first_found (λ j. same_word (get_or ws j []) u) (length ws) r.0 r.1 (word-true (get_or ws r.0 []) u r.2) in
    (f.0, same_word_lem (get_or ws (number_of ws u) []) u f.1)
