-- What faces are: in dimension d the cells; one dimension down, the facets of the faces. Assumes nothing.
use mathlib.Core.List.{List, [], ◌∷◌, ◌++◌}
use mathlib.Core.Path.{◌≡◌, refl, sym, ap, ◌∙◌, subst}
use mathlib.Core.Logic.{◌⊎◌, inl, ⊎_elim}
use Prim.Native.Nat.{ℕ, zero, suc, ◌+◌, ◌-◌, ◌*◌, ◌/◌, ◌%◌, ◌<◌, ◌≤◌}
use native.Mathlib.Omega.{arith}
use lib.ListN.{length, get_or}
use Rattle.lists.proofs.Rows.{row-cell-below, row_in, row-div, row-mod}
use Rattle.lists.specs.Tables.{tab}
use Rattle.complex.specs.Facets.{facet_at, cell_at, slots}
use Rattle.complex.specs.Skeleton.{in_colex, facet_row_of, facets_of}
use Rattle.complex_cells.proofs.Words.{Word, Each, In, each_of, each_in, in-at, at_in, one_list}
use Rattle.complex_cells.proofs.Order.{Colex, colex-irr, colex-trans}
use Rattle.complex_cells.proofs.Named.{in_colex-from, in_colex-has, in_colex-rising}
use Rattle.complex_facets.proofs.Numbers.{tab-in, in-tab}
use Rattle.complex_faces.specs.Faces.{each_then, places_of, sub_word, chosen, all_chosen, faces_of}
use Rattle.complex_faces.proofs.Members.{in_right, in_either, then-in, in_then, places-long, facet-last, facet-then, subs-in, in-subs, sub-facet, all_in, in_all, all-long, face-long, face-facet}

-- ---- words of one length with the same members are one list in colex order
pub colex-one : (n : ℕ) (vs ws : List Word) → Each (λ v. length v ≡ n) vs → Each (λ v. length v ≡ n) ws → ((r : Word) → In r vs → In r ws) → ((r : Word) → In r ws → In r vs) → in_colex n vs ≡ in_colex n ws
colex-one n vs ws a b f g =
    one_list (Colex n) (colex-irr n) (colex-trans n) (in_colex n vs) (in_colex n ws) (in_colex-rising n vs) (in_colex-rising n ws)
    (λ r m. in_colex-has n ws r b (f r (in_colex-from n vs r m))) (λ r m. in_colex-has n vs r a (g r (in_colex-from n ws r m)))

-- ---- places are places without one of some
empty-places : (n : ℕ) (p : Word) → length p ≡ 0 → In p (places_of n 0)
unfolding places_of
empty-places zero [] e = inl refl
empty-places (suc n) [] e = inl refl
empty-places n (x ∷ p) e = absurd (omega arith)

-- p is q without position i
pub record Grown (n s : ℕ) (p : Word) : Type 0 where
  pub wider : Word
  pub at : ℕ
  pub there : In wider (places_of n (suc s))
  pub below : at < suc s
  pub same : facet_at wider at ≡ p

pub places-grow : (n s : ℕ) (p : Word) → In p (places_of n s) → s < n → Grown n s p
unfolding places_of
places-grow zero s p m h = absurd (omega arith)
places-grow (suc n) zero p m h =
    let l = places-long (suc n) zero p m in
    record {
      wider = p ++ (n ∷ []);
      at = length p;
      there = in_right (p ++ (n ∷ [])) (places_of n 1) (each_then n (places_of n 0)) (then-in n p (places_of n 0) (empty-places n p l));
      below = omega (arith, l);
      same = facet-last p n;
    }
places-grow (suc n) (suc s) p m h =
    ⊎_elim
    (λ (k : In p (places_of n (suc s))).
    record {
      wider = p ++ (n ∷ []);
      at = length p;
      there = in_right (p ++ (n ∷ [])) (places_of n (suc (suc s))) (each_then n (places_of n (suc s))) (then-in n p (places_of n (suc s)) k);
      below = omega (arith, places-long n (suc s) p k);
      same = facet-last p n;
    })
    (λ (k : In p (each_then n (places_of n s))).
    let r = in_then n p (places_of n s) k in
    let g = places-grow n s r.0 r.1 (omega arith) in
    record {
      wider = g.wider ++ (n ∷ []);
      at = g.at;
      there = in_right (g.wider ++ (n ∷ [])) (places_of n (suc (suc s))) (each_then n (places_of n (suc s))) (then-in n g.wider (places_of n (suc s)) g.there);
      below = omega (arith, g.below);
      same = facet-then g.wider n g.at (omega (arith, g.below, places-long n (suc s) g.wider g.there)) ∙ ap (λ (z : Word). z ++ (n ∷ [])) g.same ∙ sym r.2;
    })
    (in_either p (places_of n (suc s)) (each_then n (places_of n s)) m)

-- a sub-word is a facet of a longer one
chosen-grow : (s : ℕ) (w u : Word) → In u (chosen s w) → s < length w → (v : Word) × (i : ℕ) × In v (chosen (suc s) w) × (i < suc s) × (facet_at v i ≡ u)
chosen-grow s w u m h =
    let r = in-subs w u (places_of (length w) s) m in
    let g = places-grow (length w) s r.0 r.1 h in
    (sub_word w g.wider, g.at, subs-in w g.wider (places_of (length w) (suc s)) g.there, g.below, sym (sub-facet w g.wider g.at (omega (arith, g.below, places-long (length w) (suc s) g.wider g.there))) ∙ ap (sub_word w) g.same ∙ sym r.2)

-- ---- the faces one dimension down are the facets of the faces
module _ (d k : ℕ) (cs : List Word) (long : Each (λ w. length w ≡ suc d) cs) (high : suc k ≤ d) where
  facet-face : (r : Word) → In r (tab (length (faces_of cs (suc k)) * slots (suc k)) (facet_row_of (suc k) (faces_of cs (suc k)))) → In r (all_chosen (suc k) cs)
  facet-face r m =
      let x = in-tab (length (faces_of cs (suc k)) * slots (suc k)) (facet_row_of (suc k) (faces_of cs (suc k))) r m in
      let hc = row-cell-below x.0 (length (faces_of cs (suc k))) (slots (suc k)) x.1 in
      let there = in-at (faces_of cs (suc k)) (x.0 / slots (suc k)) hc in
      subst (λ (z : Word). In z (all_chosen (suc k) cs)) x.2
      (in_colex-from (suc k) (all_chosen (suc k) cs) (facet_row_of (suc k) (faces_of cs (suc k)) x.0)
      (face-facet cs k (cell_at (faces_of cs (suc k)) (x.0 / slots (suc k))) (suc k - x.0 % slots (suc k)) there (omega (arith, face-long cs (suc k) (cell_at (faces_of cs (suc k)) (x.0 / slots (suc k))) there))))

  face-in-facets : (r : Word) → In r (all_chosen (suc k) cs) → In r (tab (length (faces_of cs (suc k)) * slots (suc k)) (facet_row_of (suc k) (faces_of cs (suc k))))
  face-in-facets r m =
      let q = in_all (suc k) cs r m in
      let g = chosen-grow (suc k) q.0 r q.2 (omega (arith, each_in (λ w. length w ≡ suc d) q.0 cs long q.1)) in
      let t = at_in g.0 (faces_of cs (suc k)) (in_colex-has (suc (suc k)) (all_chosen (suc (suc k)) cs) g.0 (all-long (suc (suc k)) cs) (all_in (suc (suc k)) cs q.0 g.0 q.1 g.2)) in
      placed r g.0 g.1 t.0 t.1 t.2 g.3 g.4
    where
      placed : (r v : Word) (i c : ℕ) → c < length (faces_of cs (suc k)) → get_or (faces_of cs (suc k)) c [] ≡ v → i < suc (suc k) → facet_at v i ≡ r → In r (tab (length (faces_of cs (suc k)) * slots (suc k)) (facet_row_of (suc k) (faces_of cs (suc k))))
      placed r v i c h e l f =
          let x = c * suc (suc k) + (suc k - i) in
          let hx : c * suc (suc k) + (suc k - i) < length (faces_of cs (suc k)) * suc (suc k) = row_in c (suc k - i) (length (faces_of cs (suc k))) (suc (suc k)) h (omega arith) in
          let ec : (c * suc (suc k) + (suc k - i)) / suc (suc k) ≡ c = row-div c (suc k - i) (suc (suc k)) (omega arith) in
          let ei : suc k - (c * suc (suc k) + (suc k - i)) % suc (suc k) ≡ i = omega (arith, row-mod c (suc k - i) (suc (suc k)) (omega arith)) in
          subst (λ (z : Word). In z (tab (length (faces_of cs (suc k)) * slots (suc k)) (facet_row_of (suc k) (faces_of cs (suc k)))))
          (ap (λ (z : ℕ). facet_at (get_or (faces_of cs (suc k)) ((c * suc (suc k) + (suc k - i)) / suc (suc k)) []) z) ei ∙ ap (λ (z : ℕ). facet_at (get_or (faces_of cs (suc k)) z []) i) ec ∙ ap (λ (z : Word). facet_at z i) e ∙ f)
          (tab-in (length (faces_of cs (suc k)) * slots (suc k)) (facet_row_of (suc k) (faces_of cs (suc k))) (c * suc (suc k) + (suc k - i)) hx)

  facets-long : Each (λ v. length v ≡ suc k) (tab (length (faces_of cs (suc k)) * slots (suc k)) (facet_row_of (suc k) (faces_of cs (suc k))))
  facets-long =
      each_of (λ v. length v ≡ suc k) (tab (length (faces_of cs (suc k)) * slots (suc k)) (facet_row_of (suc k) (faces_of cs (suc k))))
      (λ v m. each_in (λ v. length v ≡ suc k) v (all_chosen (suc k) cs) (all-long (suc k) cs) (facet-face v m))

  pub facets-of-faces : facets_of (suc k) (faces_of cs (suc k)) ≡ faces_of cs k
  facets-of-faces =
      colex-one (suc k) (tab (length (faces_of cs (suc k)) * slots (suc k)) (facet_row_of (suc k) (faces_of cs (suc k)))) (all_chosen (suc k) cs) facets-long (all-long (suc k) cs) facet-face face-in-facets
