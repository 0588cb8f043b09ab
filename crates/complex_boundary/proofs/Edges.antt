-- The faces of dimension 1 are the edges. Assumes nothing.
use mathlib.Core.List.{List, [], ◌∷◌, ◌++◌}
use mathlib.Core.Path.{◌≡◌, refl, sym, ap, ◌∙◌, subst}
use mathlib.Core.Logic.{inl, ⊎_elim}
use Prim.Native.Nat.{ℕ, zero, suc, ◌<◌}
use native.Mathlib.Nat.{eq-or-lt_of_le}
use native.Mathlib.Omega.{arith}
use lib.ListN.{length, get_or}
use Rattle.complex.specs.Skeleton.{pairs_of, all_pairs, edges_of}
use Rattle.complex_cells.proofs.Words.{Word, In, each_of, each_in, in-at, at_in}
use Rattle.complex_edges.proofs.Members.{pair-in, in_pair}
use Rattle.complex_edges.proofs.Members as edges
use Rattle.complex_faces.specs.Faces.{each_then, places_of, sub_word, chosen, all_chosen, faces_of}
use Rattle.complex_faces.proofs.Members.{in_left, in_right, then-in, places-long, subs-in, in-subs, sub-length, all_in, in_all, all-long}
use Rattle.complex_faces.proofs.Shape.{places-below, places-rise, sub_at}
use Rattle.complex_faces.proofs.Laws.{colex-one}

no-places : (n : ℕ) → In [] (places_of n 0)
unfolding places_of
no-places zero = inl refl
no-places (suc n) = inl refl

one_place : (n i : ℕ) → i < n → In (i ∷ []) (places_of n 1)
unfolding places_of
one_place zero i h = absurd (omega arith)
one_place (suc n) i h =
    ⊎_elim (λ (e : i ≡ n). subst (λ (z : ℕ). In (z ∷ []) (places_of n 1 ++ each_then n (places_of n 0))) (sym e) (in_right (n ∷ []) (places_of n 1) (each_then n (places_of n 0)) (then-in n [] (places_of n 0) (no-places n))))
    (λ (l : i < n). in_left (i ∷ []) (places_of n 1) (each_then n (places_of n 0)) (one_place n i l)) (eq-or-lt_of_le (omega arith))

two-places : (n i j : ℕ) → i < j → j < n → In (i ∷ j ∷ []) (places_of n 2)
unfolding places_of
two-places zero i j h l = absurd (omega arith)
two-places (suc n) i j h l =
    ⊎_elim (λ (e : j ≡ n). subst (λ (z : ℕ). In (i ∷ z ∷ []) (places_of n 2 ++ each_then n (places_of n 1))) (sym e) (in_right (i ∷ n ∷ []) (places_of n 2) (each_then n (places_of n 1)) (then-in n (i ∷ []) (places_of n 1) (one_place n i (omega arith)))))
    (λ (t : j < n). in_left (i ∷ j ∷ []) (places_of n 2) (each_then n (places_of n 1)) (two-places n i j h t)) (eq-or-lt_of_le (omega arith))

two : (l : Word) → length l ≡ 2 → l ≡ get_or l 0 0 ∷ get_or l 1 0 ∷ []
two [] e = absurd (omega arith)
two (a ∷ []) e = absurd (omega arith)
two (a ∷ b ∷ []) e = refl
two (a ∷ b ∷ c ∷ l) e = absurd (omega arith)

chosen-pair : (w u : Word) → In u (chosen 2 w) → In u (pairs_of w)
chosen-pair w u m =
    let r = in-subs w u (places_of (length w) 2) m in
    let p = r.0 in
    let l = places-long (length w) 2 r.0 r.1 in
    let e : u ≡ get_or w (get_or r.0 0 0) 0 ∷ get_or w (get_or r.0 1 0) 0 ∷ [] =
    r.2 ∙ two (sub_word w r.0) (sub-length w r.0 ∙ l) ∙ ap (λ (z : ℕ). z ∷ get_or (sub_word w r.0) 1 0 ∷ []) (sub_at w r.0 0 (omega arith)) ∙ ap (λ (z : ℕ). get_or w (get_or r.0 0 0) 0 ∷ z ∷ []) (sub_at w r.0 1 (omega arith)) in
    subst (λ (z : Word). In z (pairs_of w)) (sym e) (pair-in w (get_or r.0 0 0) (get_or r.0 1 0) (places-rise (length w) 2 r.0 0 1 r.1 (omega arith) (omega arith)) (places-below (length w) 2 r.0 1 r.1 (omega arith)))

pair-chosen : (w u : Word) → In u (pairs_of w) → In u (chosen 2 w)
unfolding sub_word
pair-chosen w u m =
    let r = in_pair w u m in
    subst (λ (z : Word). In z (chosen 2 w)) (sym r.4) (subs-in w (r.0 ∷ r.1 ∷ []) (places_of (length w) 2) (two-places (length w) r.0 r.1 r.2 r.3))

chosen-all : (cs : List Word) (u : Word) → In u (all_chosen 2 cs) → In u (all_pairs cs)
chosen-all cs u m =
    let r = in_all 2 cs u m in
    let t = at_in r.0 cs r.1 in
    edges.all_in cs t.0 u t.1 (subst (λ (z : Word). In u (pairs_of z)) (sym t.2) (chosen-pair r.0 u r.2))

pairs-chosen : (cs : List Word) (u : Word) → In u (all_pairs cs) → In u (all_chosen 2 cs)
pairs-chosen cs u m =
    let r = edges.in_all cs u m in
    all_in 2 cs (get_or cs r.0 []) u (in-at cs r.0 r.1) (pair-chosen (get_or cs r.0 []) u r.2)

pub faces-edges : (cs : List Word) → faces_of cs 1 ≡ edges_of cs
faces-edges cs =
    colex-one 2 (all_chosen 2 cs) (all_pairs cs) (all-long 2 cs) (each_of (λ v. length v ≡ 2) (all_pairs cs) (λ u m. each_in (λ v. length v ≡ 2) u (all_chosen 2 cs) (all-long 2 cs) (pairs-chosen cs u m))) (chosen-all cs) (pairs-chosen cs)
